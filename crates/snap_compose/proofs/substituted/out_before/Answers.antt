-- One component more, and in the end all.
use Rattle.snap_compose.proofs.Composing.{composing_more, composed_out}
use Rattle.snap_compose.proofs.substituted.out_before.Goals as goal

pub loop-comp-preserved : goal.loop-comp-preserved
loop-comp-preserved c =
    rw (c.in_ok-put_part.ensures, c.atom_before.ensures, c.atom_after.ensures) (composing_more c.args.comps c.args.out.now c.args.later.now c.loop-comp.parts.items c.loop-comp.comp c.loop-comp-test.true c.requires.out c.requires.later c.loop-comp.invariant)

pub returns-clause-both : goal.returns-clause-both
returns-clause-both c = rw c.new.ensures (composed_out c.args.comps c.args.out.now c.args.later.now c.loop-comp.parts.items c.loop-comp.comp c.loop-comp-test.false c.requires.out c.requires.later c.loop-comp.invariant)
