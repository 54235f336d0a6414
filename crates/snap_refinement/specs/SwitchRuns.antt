-- One big switch is a system of transitions like the network: its states are arrays alone.
use Rattle.std.specs.Prelude.{◌≡◌, ◌↔◌, ℕ, List, [], ◌∷◌, Some}
use Rattle.snap_core.specs.declared.policy.Pol.{Pol}
use Rattle.snap_core.specs.Arrays.{Arrays}
use Rattle.snap_core.specs.Meaning.{Meaning, eval}
use Rattle.snap_core.specs.Packets.{PacketSet}
use Rattle.snap_core.specs.Switch.{one_big_switch}
use Rattle.snap_rows.specs.Network.{RunsBy}

-- a packet leads from arrays to arrays, and the packets that it becomes are told
pub data SwitchLeads (p : Pol) : Arrays → List ℕ → Arrays → List PacketSet → Type 0 where
  evaluates : {m : Arrays} {k : List ℕ} {o : Meaning} → eval p m k ≡ Some o → SwitchLeads p m k o.arrays (o.packets ∷ [])

-- what it makes of packets is where its run leads, and what that tells
abbrev pub OneSwitchRuns : Type 0
OneSwitchRuns = (p : Pol) (m end : Arrays) (ks : List (List ℕ)) (sets : List PacketSet)
    → (one_big_switch p m ks ≡ Some (record { packets = sets; arrays = end })) ↔ RunsBy (SwitchLeads p) m ks end sets
