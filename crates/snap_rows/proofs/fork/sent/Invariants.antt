use Rattle.std.proofs.Common.{◌≡◌, ◌++◌, drop, map, List, ℕ}
use Rattle.std.specs.List.{filter}
use Rattle.snap_core.specs.declared.ports.PortAt.{PortAt}
use Rattle.snap_core.specs.Switch.{goes_out}
use Rattle.snap_rows.specs.declared.head.Sent.{Sent}
use Rattle.snap_rows.specs.Handles.{sent}
use Rattle.snap_rows.proofs.fork.sent.Given as goal

-- these packets that go to a port
abbrev pub going : List PortAt → List (List ℕ) → List Sent
going ports ks = map sent (filter (goes_out (map (λ (p : PortAt). p.port) ports)) ks)

abbrev pub invariant-loop-packet : goal.invariant-loop-packet
invariant-loop-packet l = l.copies.items ++ going l.ports (drop l.packet-index l.packets) ≡ going l.ports l.packets
