use Rattle.std.proofs.Common.{subst}
use Rattle.std.specs.List.{All}
use Rattle.std.proofs.lemmas.List.{take_all}
use Rattle.std.proofs.lemmas.List.Elements.{All-more}
use Rattle.snap_core.specs.declared.policy.Atom.TheVariants.{Num as Number}
use Rattle.snap_core.specs.Ranges.{AtomInRange}
use Rattle.snap_core.proofs.bits.know_index.Goals as goal

pub loop-atom-preserved : goal.loop-atom-preserved
loop-atom-preserved c = All-more AtomInRange c.args.atoms.now c.loop-atom.atom-index (Number 0) c.loop-atom-test.true c.loop-atom.invariant c.know_atom.ensures

pub returns : goal.returns
returns c = subst (All AtomInRange) (take_all c.loop-atom.atom-index c.args.atoms.now c.loop-atom-test.false) c.loop-atom.invariant
