use Rattle.std.proofs.Common.{◌≡◌, ℕ, List, true, false, subst, sym, ◌∙◌}
use Rattle.std.proofs.lemmas.Result.{err_from_is_err_and}
use Rattle.snap_io.specs.Files.{file_of}
use Rattle.snap_report.specs.Reading.{spelled_where}
use Rattle.snap_report.specs.Runner.{Closes, Ends, FirstBlocks, is_complete}
use Rattle.snap_report.specs.Spelled.{Spelled}
use Rattle.snap_report.proofs.Running.{closes-failed, closes-short, closes-written, writes-nothing}
use Rattle.snap_report.proofs.StepLemmas.{where_told, whatever_told}
use Rattle.snap_report.proofs.runner.run_over.Goals as goal

pub returns-in_err-reader-clause-report : goal.returns-in_err-reader-clause-report
returns-in_err-reader-clause-report g c =
    let out = err_from_is_err_and c.from_residual.result c.from_residual.ensures.1 in
    whatever_told (g.S.Shelf.files c.args.shelf.now) _ (λ files first stood same.
    let m = g.M.Machine in
    rw out.1 (rw out.2 (writes-nothing (m.stands first) (spelled_where (m.fields first) (m.accepts first) (file_of files c.args.packets.now)) c.args.machine.now stood (g.K.Sink.taken c.args.sink.now))))

pub returns-then-not-is_complete-clause-report : goal.returns-then-not-is_complete-clause-report
returns-then-not-is_complete-clause-report g c =
    where_told (g.S.Shelf.files c.args.shelf.now) _ _ (λ files closes first stood same.
    let m = g.M.Machine in
    let all : List ℕ → Spelled = λ name. spelled_where (m.fields first) (m.accepts first) (file_of files name) in
    let start = g.K.Sink.taken c.args.sink.now in
    let ended = c.run_lines-ended.result in
    let now = g.K.Sink.taken c.run_lines-ended.new.sink in
    let waiting = c.run_lines-ended.new.out.text.items in
    let told : is_complete ended ≡ false = sym c.is_complete.ensures ∙ c.if-not-is_complete.true in
    let spelled = all c.args.packets.now in
    let closed = subst (λ n. Closes (m.stands first) (m.reports first) (m.refuses first) (all n) ended start now waiting) c.in_ok-reader.ensures.name (closes first stood same) in
    closes-short (FirstBlocks (m.stands first) spelled) (Ends (m.stands first) (m.reports first) (m.refuses first) spelled) start now waiting ended told closed)
    c.run_lines-ended.ensures.closes

pub returns-in-Ok-clause-report : goal.returns-in-Ok-clause-report
returns-in-Ok-clause-report g c =
    where_told (g.S.Shelf.files c.args.shelf.now) _ _ (λ files closes first stood same.
    let m = g.M.Machine in
    let all : List ℕ → Spelled = λ name. spelled_where (m.fields first) (m.accepts first) (file_of files name) in
    let start = g.K.Sink.taken c.args.sink.now in
    let ended = c.run_lines-ended.result in
    let now = g.K.Sink.taken c.run_lines-ended.new.sink in
    let waiting = c.run_lines-ended.new.out.text.items in
    let told : is_complete ended ≡ true = sym c.is_complete.ensures ∙ c.if-not-is_complete.false in
    let spelled = all c.args.packets.now in
    let closed = subst (λ n. Closes (m.stands first) (m.reports first) (m.refuses first) (all n) ended start now waiting) c.in_ok-reader.ensures.name (closes first stood same) in
    closes-written (FirstBlocks (m.stands first) spelled) (Ends (m.stands first) (m.reports first) (m.refuses first) spelled) start now waiting (g.K.Sink.taken c.flush.new.sink) c.flush.new.self.text.items c.in-Ok.ensures.puts c.in-Ok.ensures.none ended told closed)
    c.run_lines-ended.ensures.closes

pub returns-clause-report : goal.returns-clause-report
returns-clause-report g c =
    where_told (g.S.Shelf.files c.args.shelf.now) _ _ (λ files closes first stood same.
    let m = g.M.Machine in
    let all : List ℕ → Spelled = λ name. spelled_where (m.fields first) (m.accepts first) (file_of files name) in
    let start = g.K.Sink.taken c.args.sink.now in
    let ended = c.run_lines-ended.result in
    let now = g.K.Sink.taken c.run_lines-ended.new.sink in
    let waiting = c.run_lines-ended.new.out.text.items in
    let told : is_complete ended ≡ true = sym c.is_complete.ensures ∙ c.if-not-is_complete.false in
    let spelled = all c.args.packets.now in
    let closed = subst (λ n. Closes (m.stands first) (m.reports first) (m.refuses first) (all n) ended start now waiting) c.in_ok-reader.ensures.name (closes first stood same) in
    closes-failed (FirstBlocks (m.stands first) spelled) (Ends (m.stands first) (m.reports first) (m.refuses first) spelled) start now waiting (g.K.Sink.taken c.flush.new.sink) c.in-Err.ensures.puts ended told closed)
    c.run_lines-ended.ensures.closes
