use Rattle.std.proofs.Common.{ℕ, subst}
use Rattle.std.proofs.lemmas.List.{take_all}
use Rattle.std.proofs.lemmas.List.Elements.{All-more}
use Rattle.snap_core.specs.declared.policy.Atom.{Atom}
use Rattle.snap_core.specs.declared.policy.Atom.TheVariants.{Num as Number}
use Rattle.snap_core.specs.Ranges.{AtomInRange, OutInRange}
use Rattle.snap_core.proofs.bits.know_parts.Goals as goal

pub loop-part-preserved : goal.loop-part-preserved
loop-part-preserved c = All-more (λ (p : ℕ × Atom). AtomInRange p.1) c.args.parts.now c.loop-part.part-index (0, Number 0) c.loop-part-test.true c.loop-part.invariant c.know_part.ensures

pub returns : goal.returns
returns c = subst OutInRange (take_all c.loop-part.part-index c.args.parts.now c.loop-part-test.false) c.loop-part.invariant
