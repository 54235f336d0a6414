-- The numbers so far are atoms.
use Rattle.std.proofs.Common.{◌≡◌, take, map}
use Rattle.snap_core.specs.declared.policy.Atom.TheVariants.{Num}
use Rattle.snap_context.proofs.ask.atoms.Given as goal

abbrev pub invariant-loop-number : goal.invariant-loop-number
invariant-loop-number l = l.atoms.items ≡ map Num (take l.number-index l.numbers)
