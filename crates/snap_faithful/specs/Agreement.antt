-- What happened to the packets of a run, and when a run agrees with one big switch.
use Rattle.std.specs.Prelude.{◌≡◌, ℕ, Some, List, [], ◌∷◌, map, length, slice_get, slice_index_or}
use Rattle.std.specs.List.{range_with_len}
use Rattle.std.specs.List.Sorted.{IsPermutation}
use Rattle.snap_core.specs.declared.place.Place.{Place}
use Rattle.snap_core.specs.declared.program.Program.{Program}
use Rattle.snap_core.specs.Arrays.{Arrays}
use Rattle.snap_core.specs.Packets.{PacketSet}
use Rattle.snap_core.specs.Switch.{Switched, one_big_switch, delivered, lost}
use Rattle.snap_rows.specs.declared.tables.Tables.{Tables}
use Rattle.snap_rows.specs.declared.head.Sent.{Sent}
use Rattle.snap_rows.specs.Entries.{port_numbers}
use Rattle.snap_rows.specs.Handles.{sent}
use Rattle.snap_rows.specs.Happenings.{deliveries_of, losses_of}
use Rattle.snap_rows.specs.Network.{Net, Happening, global_store}

-- the packets of a set that name a port, in rising order, each on its way there
abbrev pub sent_of : Tables → PacketSet → List Sent
sent_of t set = map sent (delivered (port_numbers t) set)

-- the number of the others
abbrev pub lost_of : Tables → PacketSet → ℕ
lost_of t set = lost (port_numbers t) set

-- packet i came out as this set: each packet of it that names a port was delivered there, once, and the number of the others was told, once
pub record CameOut (t : Tables) (i : ℕ) (set : PacketSet) (hs : List Happening) : Type 0 where
  pub ports : IsPermutation (deliveries_of i hs) (sent_of t set)
  pub loss : losses_of i hs ≡ lost_of t set ∷ []

-- the numbers of packets, from 0 on
abbrev pub numbered : List (List ℕ) → List ℕ
numbered ks = range_with_len 0 (length ks)

-- the packets that have these numbers, in their order
abbrev pub in_order : List (List ℕ) → List ℕ → List (List ℕ)
in_order ks order = map (λ i. slice_index_or ks i []) order

-- one big switch, from the arrays m over all packets in this order, is defined; each packet came out as its set, and the
-- switches hold its arrays
pub record Agrees (p : Program) (t : Tables) (m : Arrays) (ks : List (List ℕ))
    (order : List ℕ) (s : Net) (hs : List Happening) : Type 0 where
  pub each_once : IsPermutation order (numbered ks)
  pub end : Switched
  pub switched : one_big_switch p.body m (in_order ks order) ≡ Some end
  pub packets : (j i : ℕ) (set : PacketSet) → slice_get order j ≡ Some i → slice_get end.packets j ≡ Some set → CameOut t i set hs
  pub arrays : (q : Place) → global_store t s q ≡ end.arrays q
