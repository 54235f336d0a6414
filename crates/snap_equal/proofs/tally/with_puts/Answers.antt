-- One update more.
use Rattle.std.proofs.Common.{ℕ, ◌^◌, bit_or, subst}
use Rattle.std.proofs.lemmas.List.{take_all}
use Rattle.snap_equal.specs.Tally.{AddOutside}
use Rattle.snap_equal.proofs.Adding.{outside_more, put_in, kept_outside}
use Rattle.snap_equal.proofs.tally.with_puts.Goals as goal
use Rattle.snap_equal.proofs.tally.with_puts.Goals.{in-Put, in-Add}

pub loop-update-preserved : goal.loop-update-preserved
loop-update-preserved c =
    let arrays : ℕ = c.loop-update.arrays in
    let v : ℕ = c.update-item.result.var in
    elim c.match-update.branch [
      | in-Put w ↦ rw (w.arrays-is, w.only-arrays.ensures) (record {
        more = λ x e. c.loop-update.invariant.more x (kept_outside arrays v x e);
        puts = outside_more arrays (bit_or arrays (2 ^ v)) c.args.updates.now c.loop-update.update-index c.update-item.result c.loop-update-test.true c.update-item.is
            (kept_outside arrays v) (put_in arrays c.update-item.result) c.loop-update.invariant.puts;
      })
      | in-Add w ↦ rw w.arrays-is (record {
        more = c.loop-update.invariant.more;
        puts = outside_more arrays arrays c.args.updates.now c.loop-update.update-index c.update-item.result c.loop-update-test.true c.update-item.is
            (λ x e. e) (λ e. rw w.in-Add.is tt) c.loop-update.invariant.puts;
      })
    ]

pub returns-clause-puts : goal.returns-clause-puts
returns-clause-puts c = subst (AddOutside c.loop-update.arrays) (take_all c.loop-update.update-index c.args.updates.now c.loop-update-test.false) c.loop-update.invariant.puts
