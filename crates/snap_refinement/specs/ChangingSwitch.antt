-- The report of one big switch, at ports that change, and of one whose program changes too.
use Rattle.std.specs.Prelude.{◌≡◌, ℕ, ◌+◌, Option, Some, List, [], ◌∷◌, ◌++◌, option_and_then, option_map, length}
use Rattle.snap_core.specs.declared.program.Program.{Program}
use Rattle.snap_core.specs.declared.place.Entry.{Entry}
use Rattle.snap_core.specs.Arrays.{Arrays, zero_arrays}
use Rattle.snap_core.specs.Listing.{IsListing}
use Rattle.snap_core.specs.Meaning.{eval}
use Rattle.snap_core.specs.Packets.{PacketSet}
use Rattle.snap_core.specs.Switch.{Switched, one_big_switch}
use Rattle.snap_report.specs.Reports.{block, end_text}
use Rattle.snap_refinement.specs.OneSwitch.{port_lines}

-- the blocks of sets, of which the first has this number, counted from 0, each as its packet's number shows it
abbrev pub blocks_under : (shown : ℕ → PacketSet → List ℕ) → (i : ℕ) → List PacketSet → List ℕ
blocks_under shown i [] = []
blocks_under shown i (set ∷ sets) = block (shown i) (i + 1) set ++ blocks_under shown (i + 1) sets

-- The report of one big switch over packets, from empty arrays: the set that each packet became, at the ports that are in
-- force for it, and then the places of the arrays that aren't 0.
pub record IsSwitchReportUnder (p : Program) (ports : ℕ → List ℕ) (ks : List (List ℕ)) (text : List ℕ) : Type 0 where
  pub made : Switched
  pub defined : one_big_switch p.body zero_arrays ks ≡ Some made
  pub entries : List Entry
  pub listed : IsListing made.arrays entries
  pub is : text ≡ blocks_under (λ i. port_lines p.fields (ports i)) 0 made.packets ++ end_text p.arrays entries

-- ---- a program that changes
-- Each packet by the program that is in force for its number, on the arrays that the one before left. The first has number i,
-- counted from 0. None where one evaluation is none
abbrev pub changing_switch : (programs : ℕ → Program) → (i : ℕ) → Arrays → List (List ℕ) → Option Switched
changing_switch programs i m [] = Some (record { packets = []; arrays = m })
changing_switch programs i m (k ∷ ks) =
    option_and_then (λ o.
    option_map (λ r. record { packets = o.packets ∷ r.packets; arrays = r.arrays })
    (changing_switch programs (i + 1) o.arrays ks))
    (eval (programs i).body m k)

-- The report of one big switch whose program changes, from empty arrays: the set that each packet became, shown by the program
-- and at the ports that are in force for it, and then the places of the arrays that aren't 0.
pub record IsChangingReport (programs : ℕ → Program) (ports : ℕ → List ℕ) (ks : List (List ℕ)) (text : List ℕ) : Type 0 where
  pub made : Switched
  pub defined : changing_switch programs 0 zero_arrays ks ≡ Some made
  pub entries : List Entry
  pub listed : IsListing made.arrays entries
  pub is : text ≡ blocks_under (λ i. port_lines (programs i).fields (ports i)) 0 made.packets
      ++ end_text (programs (length ks)).arrays entries
