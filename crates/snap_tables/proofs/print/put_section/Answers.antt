use Rattle.std.proofs.Common.{arith}
use Rattle.std.proofs.lemmas.Result.{err_from_is_err_and}
use Rattle.snap_io.proofs.OutputLemmas.{puts-more, puts-part}
use Rattle.snap_tables.proofs.print.put_section.Goals as goal

pub returns-in_err-put_entry-clause-puts : goal.returns-in_err-put_entry-clause-puts
returns-in_err-put_entry-clause-puts g c =
    let out = err_from_is_err_and c.from_residual.result c.from_residual.ensures.1 in
    rw out.1 (puts-part (g.T.Entry.entry_line c.args.version) _ _ _ c.args.out.now.text.items c.loop-entry.out.text.items c.args.entries.now c.loop-entry.entry-index c.entry-item.result c.loop-entry-test.true c.entry-item.is c.loop-entry.invariant.put c.in_err-put_entry.ensures.puts)

pub loop-entry-preserved : goal.loop-entry-preserved
loop-entry-preserved g c =
    record {
      put = puts-more (g.T.Entry.entry_line c.args.version) _ _ _ c.args.out.now.text.items c.loop-entry.out.text.items c.args.entries.now c.loop-entry.entry-index c.entry-item.result c.loop-entry-test.true c.entry-item.is c.loop-entry.invariant.put c.put_entry.new.out.text.items c.in_ok-put_entry.ensures.puts;
      later = omega (arith, c.in_ok-put_entry.ensures.blames.later, c.loop-entry.invariant.later);
    }
