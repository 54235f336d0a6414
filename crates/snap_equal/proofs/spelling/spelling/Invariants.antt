-- The terms so far make the first components.
use Rattle.std.proofs.Common.{◌≡◌, ◌++◌, ℕ, List, take}
use Rattle.snap_core.specs.Tests.{after_out}
use Rattle.snap_equal.specs.Made.{packet_of}
use Rattle.snap_equal.specs.Told.{On}
use Rattle.snap_equal.proofs.spelling.spelling.Given as goal

abbrev pub invariant-loop-comp : goal.invariant-loop-comp
invariant-loop-comp l = (r : List ℕ) → On l.ctx (λ m k. packet_of (l.code.items ++ r) k ≡ take l.comp (after_out l.out k) ++ packet_of r k)
