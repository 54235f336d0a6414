-- One atom more.
use Rattle.std.proofs.Common.{subst, ◌∙◌}
use Rattle.std.specs.List.{All}
use Rattle.std.proofs.lemmas.List.{take_all}
use Rattle.snap_context.specs.Known.{AtomOver}
use Rattle.snap_context.proofs.Testing.{atom_more}
use Rattle.snap_context.proofs.tested.index_tested.Goals as goal

pub loop-atom-preserved : goal.loop-atom-preserved
loop-atom-preserved c = atom_more c.loop-atom.set c.atom_tested-set.result c.items-atom-items.result.now c.loop-atom.atom-index _ c.loop-atom-test.true c.loop-atom.invariant c.atom_tested-set.ensures

pub returns : goal.returns
returns c = subst (All (AtomOver c.loop-atom.set)) (take_all c.loop-atom.atom-index c.items-atom-items.result.now c.loop-atom-test.false ∙ c.items-atom-items.ensures) c.loop-atom.invariant
