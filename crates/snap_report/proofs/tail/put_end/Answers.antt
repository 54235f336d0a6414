use Rattle.std.proofs.Common.{◌++◌, codes, subst, sym}
use Rattle.std.specs.List.{flat_map}
use Rattle.std.proofs.lemmas.List.Folds.{flat_map-map}
use Rattle.std.proofs.lemmas.Result.{err_from_is_err_and}
use Rattle.snap_core.specs.Listing.{entry_of}
use Rattle.snap_io.specs.Sinks.{AppendsPart}
use Rattle.snap_report.specs.Reports.{array_line, listed_line}
use Rattle.snap_io.specs.Outputs.{Puts}
use Rattle.snap_io.proofs.OutputLemmas.{puts-short, puts-then}
use Rattle.snap_report.proofs.tail.put_end.Goals as goal

pub returns-in_err-put_entries-clause-puts : goal.returns-in_err-put_entries-clause-puts
returns-in_err-put_entries-clause-puts g c =
    let out = err_from_is_err_and c.from_residual.result c.from_residual.ensures.1 in
    let now = g.K.Sink.taken c.put_entries.new.sink in
    rw out.1
    (subst (λ l. AppendsPart (g.K.Sink.taken c.args.sink.now) now (c.args.out.now.text.items ++ (l ++ codes "end\n"))) (sym (flat_map-map (array_line c.args.names.now) entry_of c.args.entries.now))
    (puts-short (g.K.Sink.taken c.args.sink.now) now c.args.out.now.text.items (flat_map (listed_line c.args.names.now) c.args.entries.now) (codes "end\n") c.in_err-put_entries.ensures.puts))

pub returns-clause-puts : goal.returns-clause-puts
returns-clause-puts g c =
    let start = g.K.Sink.taken c.args.sink.now in let now = g.K.Sink.taken c.put.new.sink in
    subst (λ l. Puts start now c.args.out.now.text.items (l ++ codes "end\n") c.put.result c.put.new.self.text.items) (sym (flat_map-map (array_line c.args.names.now) entry_of c.args.entries.now))
    (puts-then start (g.K.Sink.taken c.put_entries.new.sink) now c.args.out.now.text.items (flat_map (listed_line c.args.names.now) c.args.entries.now) (codes "end\n")
    c.put_entries.new.out.text.items c.put.new.self.text.items c.put.result c.in_ok-put_entries.ensures.puts c.put.ensures.puts)
