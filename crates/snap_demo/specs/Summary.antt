-- The summary: what one big switch does with the stated packets.
use Rattle.std.specs.Prelude.{◌≡◌, ℕ, ◌==◌, Some, List, [], ◌∷◌, length, sum_by, codes, decimal, if◌then◌else◌}
use Rattle.std.specs.List.{concat}
use Rattle.snap_core.specs.declared.place.Entry.{Entry}
use Rattle.snap_core.specs.declared.program.Program.{Program}
use Rattle.snap_core.specs.Arrays.{zero_arrays}
use Rattle.snap_core.specs.Listing.{IsListing}
use Rattle.snap_core.specs.Packets.{PacketSet}
use Rattle.snap_core.specs.Switch.{Switched, one_big_switch, delivered, lost}
use Rattle.snap_refinement.specs.OneSwitch.{ports_of}
use Rattle.snap_demo.specs.Packets.{stated_packets}
use Rattle.snap_demo.specs.Row.{stated_topology}
use Rattle.snap_demo.specs.Stated.{IsStated}

-- how many packets of these sets go to a port, and how many don't
abbrev pub all_delivered : (ports : List ℕ) → List PacketSet → ℕ
all_delivered ports sets = sum_by (λ set. length (delivered ports set)) sets

abbrev pub all_lost : (ports : List ℕ) → List PacketSet → ℕ
all_lost ports sets = sum_by (λ set. lost ports set) sets

-- the sum of an array's numbers
abbrev pub part_in : (var : ℕ) → Entry → ℕ
part_in var e = if e.place.var == var then e.value else 0

abbrev pub total_in : (var : ℕ) → List Entry → ℕ
total_in var entries = sum_by (part_in var) entries

-- `NAME N`
abbrev pub line : (name : List ℕ) → ℕ → List ℕ
line name n = concat (name ∷ codes " " ∷ decimal n ∷ codes "\n" ∷ [])

abbrev pub text_of : (switches packets delivered lost seen count : ℕ) → List ℕ
text_of switches packets delivered lost seen count = concat (
    line (codes "demo") switches
    ∷ line (codes "switches") switches
    ∷ line (codes "packets") packets
    ∷ line (codes "delivered") delivered
    ∷ line (codes "lost") lost
    ∷ line (codes "sum seen") seen
    ∷ line (codes "sum count") count
    ∷ codes "end\n"
    ∷ [])

-- **The counts are those of one big switch over the stated program and packets, from empty arrays: how many packets go to
-- a port of the stated topology, how many don't, and the sums of the arrays.**
pub record IsSummary (n : ℕ) (text : List ℕ) : Type 0 where
  pub program : Program
  pub stated : IsStated n program
  pub made : Switched
  pub defined : one_big_switch program.body zero_arrays (stated_packets n) ≡ Some made
  pub entries : List Entry
  pub listed : IsListing made.arrays entries
  pub is : text ≡ text_of n (length (stated_packets n))
      (all_delivered (ports_of (stated_topology n)) made.packets) (all_lost (ports_of (stated_topology n)) made.packets)
      (total_in 0 entries) (total_in 1 entries)
