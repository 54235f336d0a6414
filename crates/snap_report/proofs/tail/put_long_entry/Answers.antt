use Rattle.std.proofs.Common.{Err, List, ℕ, ◌++◌, codes, decimal, subst}
use Rattle.std.specs.Prelude.{[], slice_get, unwrap_or}
use Rattle.std.proofs.lemmas.Result.{err_from_is_err_and}
use Rattle.snap_core.specs.declared.place.Listed.{Listed}
use Rattle.snap_io.specs.Sinks.{AppendsPart}
use Rattle.snap_report.specs.Reports.{index_text}
use Rattle.snap_io.specs.Outputs.{Waits}
use Rattle.snap_io.proofs.OutputLemmas.{puts-short, puts-then}
use Rattle.snap_report.proofs.tail.put_long_entry.Goals as goal

-- the parts of the line behind its first word
abbrev name_of : List (List ℕ) → Listed → List ℕ
name_of names e = unwrap_or (slice_get names e.var) []

abbrev value_of : Listed → List ℕ
value_of e = codes " = " ++ decimal e.value

abbrev from_value : Listed → List ℕ
from_value e = value_of e ++ codes "\n"

abbrev from_index : Listed → List ℕ
from_index e = index_text e.index.now ++ from_value e

abbrev from_name : List (List ℕ) → Listed → List ℕ
from_name names e = name_of names e ++ from_index e

pub returns-in_err-put-clause-puts : goal.returns-in_err-put-clause-puts
returns-in_err-put-clause-puts g c =
    let start = g.K.Sink.taken c.args.sink.now in
    let first = g.K.Sink.taken c.put.new.sink in
    let e = c.args.entry.now in
    let names = c.args.names.now in
    let out = err_from_is_err_and c.from_residual.result c.from_residual.ensures.1 in
    rw out.1
    (puts-short (start) (g.K.Sink.taken c.put.new.sink) (c.args.out.now.text.items) (codes "array ") (from_name names e) c.in_err-put.ensures.puts)

pub returns-in_err-put-2-clause-puts : goal.returns-in_err-put-2-clause-puts
returns-in_err-put-2-clause-puts g c =
    let start = g.K.Sink.taken c.args.sink.now in
    let first = g.K.Sink.taken c.put.new.sink in
    let e = c.args.entry.now in
    let names = c.args.names.now in
    let out = err_from_is_err_and c.from_residual-in_err-put-2.result c.from_residual-in_err-put-2.ensures.1 in
    rw out.1
    (puts-then (start) (g.K.Sink.taken c.put.new.sink) (g.K.Sink.taken c.put-2.new.sink) (c.args.out.now.text.items) (codes "array ") (from_name names e) (c.put.new.self.text.items) (c.put-2.new.self.text.items) (Err out.0) c.in_ok-put.ensures.puts
    (puts-short (g.K.Sink.taken c.put.new.sink) (g.K.Sink.taken c.put-2.new.sink) (c.put.new.self.text.items) (name_of names e) (from_index e) (subst (λ l. AppendsPart first (g.K.Sink.taken c.put-2.new.sink) (c.put.new.self.text.items ++ l)) c.name_at.ensures c.in_err-put-2.ensures.puts)))

pub returns-in_err-put_index-clause-puts : goal.returns-in_err-put_index-clause-puts
returns-in_err-put_index-clause-puts g c =
    let start = g.K.Sink.taken c.args.sink.now in
    let first = g.K.Sink.taken c.put.new.sink in
    let e = c.args.entry.now in
    let names = c.args.names.now in
    let out = err_from_is_err_and c.from_residual-in_err-put_index.result c.from_residual-in_err-put_index.ensures.1 in
    let named = subst (λ l. Waits first (g.K.Sink.taken c.put-2.new.sink) (c.put.new.self.text.items ++ l) c.put-2.new.self.text.items) c.name_at.ensures c.in_ok-put-2.ensures.puts in
    rw out.1
    (puts-then (start) (g.K.Sink.taken c.put.new.sink) (g.K.Sink.taken c.put_index.new.sink) (c.args.out.now.text.items) (codes "array ") (from_name names e) (c.put.new.self.text.items) (c.put_index.new.out.text.items) (Err out.0) c.in_ok-put.ensures.puts
    (puts-then (g.K.Sink.taken c.put.new.sink) (g.K.Sink.taken c.put-2.new.sink) (g.K.Sink.taken c.put_index.new.sink) (c.put.new.self.text.items) (name_of names e) (from_index e) (c.put-2.new.self.text.items) (c.put_index.new.out.text.items) (Err out.0) named
    (puts-short (g.K.Sink.taken c.put-2.new.sink) (g.K.Sink.taken c.put_index.new.sink) (c.put-2.new.self.text.items) (index_text e.index.now) (from_value e) c.in_err-put_index.ensures.puts)))

pub returns-in_err-put_number-clause-puts : goal.returns-in_err-put_number-clause-puts
returns-in_err-put_number-clause-puts g c =
    let start = g.K.Sink.taken c.args.sink.now in
    let first = g.K.Sink.taken c.put.new.sink in
    let e = c.args.entry.now in
    let names = c.args.names.now in
    let out = err_from_is_err_and c.from_residual-in_err-put_number.result c.from_residual-in_err-put_number.ensures.1 in
    let named = subst (λ l. Waits first (g.K.Sink.taken c.put-2.new.sink) (c.put.new.self.text.items ++ l) c.put-2.new.self.text.items) c.name_at.ensures c.in_ok-put-2.ensures.puts in
    rw out.1
    (puts-then (start) (g.K.Sink.taken c.put.new.sink) (g.K.Sink.taken c.put_number.new.sink) (c.args.out.now.text.items) (codes "array ") (from_name names e) (c.put.new.self.text.items) (c.put_number.new.out.text.items) (Err out.0) c.in_ok-put.ensures.puts
    (puts-then (g.K.Sink.taken c.put.new.sink) (g.K.Sink.taken c.put-2.new.sink) (g.K.Sink.taken c.put_number.new.sink) (c.put.new.self.text.items) (name_of names e) (from_index e) (c.put-2.new.self.text.items) (c.put_number.new.out.text.items) (Err out.0) named
    (puts-then (g.K.Sink.taken c.put-2.new.sink) (g.K.Sink.taken c.put_index.new.sink) (g.K.Sink.taken c.put_number.new.sink) (c.put-2.new.self.text.items) (index_text e.index.now) (from_value e) (c.put_index.new.out.text.items) (c.put_number.new.out.text.items) (Err out.0) c.in_ok-put_index.ensures.puts
    (puts-short (g.K.Sink.taken c.put_index.new.sink) (g.K.Sink.taken c.put_number.new.sink) (c.put_index.new.out.text.items) (value_of e) (codes "\n") c.in_err-put_number.ensures.puts))))

pub returns-clause-puts : goal.returns-clause-puts
returns-clause-puts g c =
    let start = g.K.Sink.taken c.args.sink.now in
    let first = g.K.Sink.taken c.put.new.sink in
    let e = c.args.entry.now in
    let names = c.args.names.now in
    let named = subst (λ l. Waits first (g.K.Sink.taken c.put-2.new.sink) (c.put.new.self.text.items ++ l) c.put-2.new.self.text.items) c.name_at.ensures c.in_ok-put-2.ensures.puts in
    puts-then (start) (g.K.Sink.taken c.put.new.sink) (g.K.Sink.taken c.put-3.new.sink) (c.args.out.now.text.items) (codes "array ") (from_name names e) (c.put.new.self.text.items) (c.put-3.new.self.text.items) (c.put-3.result) c.in_ok-put.ensures.puts
    (puts-then (g.K.Sink.taken c.put.new.sink) (g.K.Sink.taken c.put-2.new.sink) (g.K.Sink.taken c.put-3.new.sink) (c.put.new.self.text.items) (name_of names e) (from_index e) (c.put-2.new.self.text.items) (c.put-3.new.self.text.items) (c.put-3.result) named
    (puts-then (g.K.Sink.taken c.put-2.new.sink) (g.K.Sink.taken c.put_index.new.sink) (g.K.Sink.taken c.put-3.new.sink) (c.put-2.new.self.text.items) (index_text e.index.now) (from_value e) (c.put_index.new.out.text.items) (c.put-3.new.self.text.items) (c.put-3.result) c.in_ok-put_index.ensures.puts
    (puts-then (g.K.Sink.taken c.put_index.new.sink) (g.K.Sink.taken c.put_number.new.sink) (g.K.Sink.taken c.put-3.new.sink) (c.put_index.new.out.text.items) (value_of e) (codes "\n") (c.put_number.new.out.text.items) (c.put-3.new.self.text.items) (c.put-3.result) c.in_ok-put_number.ensures.puts
    (c.put-3.ensures.puts))))
