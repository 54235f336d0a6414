-- The packet so far is that of every model.
use Rattle.std.proofs.Common.{◌≡◌, length}
use Rattle.snap_context.specs.Models.{IsRun, current}
use Rattle.snap_context.proofs.example.choose_packet.Given as goal

abbrev pub invariant-loop-comp : goal.invariant-loop-comp
invariant-loop-comp l = IsRun l.ctx l.comps.items (current l.ctx l.grown) × (length l.comps.items ≡ l.comp)
