use Rattle.std.proofs.Common.{ℕ, [], Err, Ok, ◌++◌, append-nil, subst, arith}
use Rattle.std.proofs.lemmas.Result.{err_from_is_err_and}
use Rattle.snap_io.specs.Sinks.{AppendsPart}
use Rattle.snap_report.specs.Reports.{listed_line}
use Rattle.snap_io.specs.Outputs.{Waits}
use Rattle.snap_io.proofs.OutputLemmas.{puts-more, puts-part, puts-then}
use Rattle.snap_report.proofs.tail.put_entries.Goals as goal

pub returns-in_err-put_entry-clause-puts : goal.returns-in_err-put_entry-clause-puts
returns-in_err-put_entry-clause-puts g c =
    let out = err_from_is_err_and c.from_residual.result c.from_residual.ensures.1 in
    rw out.1 (puts-part (listed_line c.args.names.now) _ _ _ c.args.out.now.text.items c.loop-entry.out.text.items c.args.entries.now c.loop-entry.entry-index c.entry-item.result c.loop-entry-test.true c.entry-item.is c.loop-entry.invariant.put c.in_err-put_entry.ensures.puts)

pub returns-in_err-write_some-clause-puts : goal.returns-in_err-write_some-clause-puts
returns-in_err-write_some-clause-puts g c =
    let out = err_from_is_err_and c.from_residual-in_err-write_some.result c.from_residual-in_err-write_some.ensures.1 in
    let before = g.K.Sink.taken c.loop-entry.sink in
    let mid = g.K.Sink.taken c.put_entry.new.sink in
    let now = g.K.Sink.taken c.write_some.new.sink in
    let line = listed_line c.args.names.now c.entry-item.result in
    let both = puts-then before mid now c.loop-entry.out.text.items line [] c.put_entry.new.out.text.items c.write_some.new.self.text.items (Err c.in_err-write_some.field-0.0) c.in_ok-put_entry.ensures.puts c.in_err-write_some.ensures.puts in
    let one = subst (λ l. AppendsPart before now (c.loop-entry.out.text.items ++ l)) (append-nil line) both in
    rw out.1 (puts-part (listed_line c.args.names.now) _ _ _ c.args.out.now.text.items c.loop-entry.out.text.items c.args.entries.now c.loop-entry.entry-index c.entry-item.result c.loop-entry-test.true c.entry-item.is c.loop-entry.invariant.put one)

pub loop-entry-preserved : goal.loop-entry-preserved
loop-entry-preserved g c =
    let before = g.K.Sink.taken c.loop-entry.sink in
    let mid = g.K.Sink.taken c.put_entry.new.sink in
    let now = g.K.Sink.taken c.write_some.new.sink in
    let line = listed_line c.args.names.now c.entry-item.result in
    let both = puts-then {E = ℕ} before mid now c.loop-entry.out.text.items line [] c.put_entry.new.out.text.items c.write_some.new.self.text.items (Ok c.in_ok-write_some.field-0) c.in_ok-put_entry.ensures.puts c.in_ok-write_some.ensures.puts in
    let one = subst (λ l. Waits before now (c.loop-entry.out.text.items ++ l) c.write_some.new.self.text.items) (append-nil line) both in
    record {
      put = puts-more (listed_line c.args.names.now) _ _ _ c.args.out.now.text.items c.loop-entry.out.text.items c.args.entries.now c.loop-entry.entry-index c.entry-item.result c.loop-entry-test.true c.entry-item.is c.loop-entry.invariant.put c.write_some.new.self.text.items one;
      later = omega (arith, c.in_ok-put_entry.ensures.cause.later, c.in_ok-write_some.ensures.cause.later);
    }
