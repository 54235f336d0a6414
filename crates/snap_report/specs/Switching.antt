-- How far one big switch has come.
use Rattle.std.specs.Prelude.{◌≡◌, ℕ, ◌+◌, List, [], ◌∷◌, ◌++◌, length, Some, None, option_map}
use Rattle.snap_core.specs.declared.place.Entry.{Entry}
use Rattle.snap_core.specs.Arrays.{zero_arrays}
use Rattle.snap_core.specs.Cells.{arrays_of}
use Rattle.snap_core.specs.Listing.{IsListing}
use Rattle.snap_core.specs.Programs.{IsBounded}
use Rattle.snap_core.specs.Switch.{Switched, one_big_switch}
use Rattle.snap_report.specs.declared.fault.TraceFault.{TraceFault}
use Rattle.snap_report.specs.declared.fault.TraceFault.TheVariants.{Undefined}
use Rattle.snap_report.specs.declared.switch.Switch.{Switch}
use Rattle.snap_report.specs.OneSwitch.{made_text}
use Rattle.snap_report.specs.Reports.{end_text}

-- what was made of some packets, before what was made of those behind them
abbrev pub after : Switched → Switched → Switched
after made rest = record { packets = made.packets ++ rest.packets; arrays = rest.arrays }

-- its program is in bounds, and is what is laid out
abbrev pub IsReady : Switch → Type 0
IsReady switch = IsBounded switch.program.now × (switch.laid ≡ switch.program.now.body)

-- The program of the first switch was run over these packets, with these blocks, and the other switch stands behind them.
pub record Stands (first : Switch) (packets : List (List ℕ)) (text : List ℕ) (now : Switch) : Type 0 where
  pub program : now.program.now ≡ first.program.now
  pub made : Switched
  pub goes_on : (more : List (List ℕ)) → one_big_switch first.program.now.body zero_arrays (packets ++ more)
      ≡ option_map (after made) (one_big_switch first.program.now.body made.arrays more)
  pub arrays : arrays_of now.store ≡ made.arrays
  pub as_many : length made.packets ≡ length packets
  pub number : now.number ≡ length packets + 1
  pub blocks : text ≡ made_text first.program.now.fields made

-- the whole report of these packets
abbrev pub Reports : (first : Switch) → (packets : List (List ℕ)) → (text : List ℕ) → Type 0
Reports first packets text =
    (made : Switched) × (one_big_switch first.program.now.body zero_arrays packets ≡ Some made)
    × ((entries : List Entry) × IsListing made.arrays entries
    × (text ≡ made_text first.program.now.fields made ++ end_text first.program.now.arrays entries))

-- the program is undefined on the packet behind these
abbrev pub Refuses : (first : Switch) → (packets : List (List ℕ)) → (packet : List ℕ) → TraceFault → Type 0
Refuses first packets packet fault = (fault ≡ Undefined (length packets + 1))
    × (one_big_switch first.program.now.body zero_arrays (packets ++ packet ∷ []) ≡ None)
