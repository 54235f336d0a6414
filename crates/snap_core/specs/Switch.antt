-- One big switch: what a policy makes of packets one after another, and where these go.
use Rattle.std.specs.Prelude.{ℕ, Bool, not, ◌==◌, Option, Some, List, [], ◌∷◌, slice_index, option_and_then, option_map, length}
use Rattle.std.specs.List.{filter, list_any}
use Rattle.snap_core.specs.declared.policy.Pol.{Pol}
use Rattle.snap_core.specs.Arrays.{Arrays}
use Rattle.snap_core.specs.Packets.{PacketSet, listed}
use Rattle.snap_core.specs.Meaning.{eval}

-- the packets that each packet became, and the arrays at the end
pub record Switched : Type 0 where
  pub packets : List PacketSet
  pub arrays : Arrays

-- each packet on the arrays that the one before left. None where one evaluation is none
abbrev pub one_big_switch : Pol → Arrays → List (List ℕ) → Option Switched
one_big_switch p m [] = Some (record { packets = []; arrays = m })
one_big_switch p m (k ∷ ks) =
    option_and_then (λ o.
    option_map (λ r. record { packets = o.packets ∷ r.packets; arrays = r.arrays })
    (one_big_switch p o.arrays ks))
    (eval p m k)

-- whether a packet's `outport` is a port
abbrev pub goes_out : List ℕ → List ℕ → Bool
goes_out ports k = list_any (λ port. port == slice_index k 1) ports

-- the packets that go to a port, in rising order
abbrev pub delivered : List ℕ → PacketSet → List (List ℕ)
delivered ports s = filter (goes_out ports) (listed s)

-- the number of the others
abbrev pub lost : List ℕ → PacketSet → ℕ
lost ports s = length (filter (λ k. not (goes_out ports k)) (listed s))
