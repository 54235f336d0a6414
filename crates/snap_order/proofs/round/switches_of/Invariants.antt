use Rattle.std.proofs.Common.{◌≡◌, map, take}
use Rattle.snap_net.specs.declared.flying.Flying.{Flying}
use Rattle.snap_order.proofs.round.switches_of.Given as goal

abbrev pub invariant-loop-k : goal.invariant-loop-k
invariant-loop-k l = l.switches.items ≡ map (λ (c : Flying). c.at) (take l.k l.net.net.flying)
