-- The report of one big switch over the packets that a file spells.
use Rattle.std.specs.Prelude.{◌≡◌, ◌⊎◌, ℕ, ◌+◌, List, ◌++◌, take, Result, Ok, Err, Some, None}
use Rattle.std.specs.declared.option.Option.{Option}
use Rattle.std.specs.Io.KnownBytes.{Appends}
use Rattle.snap_core.specs.declared.program.Field.{Field}
use Rattle.snap_core.specs.declared.program.Program.{Program}
use Rattle.snap_core.specs.declared.place.Entry.{Entry}
use Rattle.snap_core.specs.Arrays.{zero_arrays}
use Rattle.snap_core.specs.Listing.{IsListing}
use Rattle.snap_core.specs.Switch.{Switched, one_big_switch}
use Rattle.snap_io.specs.Sinks.{AppendsSome}
use Rattle.snap_report.specs.declared.fault.TraceFault.{TraceFault}
use Rattle.snap_report.specs.declared.fault.TraceFault.TheVariants.{Read, Write, Undefined, NoMemory}
use Rattle.snap_report.specs.Reports.{all_lines, blocks, end_text}
use Rattle.snap_report.specs.Spelled.{Stop, ended, refused, spelled}

-- how a run ends
abbrev pub RunEnding : Type 0
RunEnding = Result (Unit {0}) TraceFault

-- the blocks of the sets of packets that one big switch made
abbrev pub made_text : List Field → Switched → List ℕ
made_text fields made = blocks (all_lines fields) 1 made.packets

-- One big switch made this of all packets that were read. The run ends as reading did; where that came to the file's end,
-- the last arrays stand behind the blocks.
abbrev pub EndsAsRead : List Field → List (List ℕ) → Stop → Switched → RunEnding → List ℕ → Type 0
EndsAsRead fields names ended made ending text =
    (ending ≡ Ok tt) × ((entries : List Entry) × IsListing made.arrays entries × (text ≡ made_text fields made ++ end_text names entries))
EndsAsRead fields names (refused fault) made ending text = (ending ≡ Err fault) × (text ≡ made_text fields made)

-- One big switch made this of so many first packets, and on one more it is undefined.
pub record IsUndefinedAfter (program : Program) (packets : List (List ℕ)) (before : ℕ) (made : Switched) : Type 0 where
  pub some : one_big_switch program.body zero_arrays (take before packets) ≡ Some made
  pub none : one_big_switch program.body zero_arrays (take (before + 1) packets) ≡ None

-- How a run over a file ends, and its report. One big switch is defined on the packets that the file spells, or it is
-- undefined first at one of them, and the blocks of those before are the report.
abbrev pub IsReport : Program → (file : List ℕ) → RunEnding → List ℕ → Type 0
IsReport program file ending text =
    let read = spelled program.fields file in
    ((made : Switched) × (one_big_switch program.body zero_arrays read.packets ≡ Some made)
    × EndsAsRead program.fields program.arrays read.stop made ending text)
    ⊎ ((before : ℕ) × (made : Switched) × IsUndefinedAfter program read.packets before made
    × (ending ≡ Err (Undefined (before + 1))) × (text ≡ made_text program.fields made))

-- the blocks of some first packets that the file spells, on which one big switch is defined
abbrev pub AreBlocks : Program → (file : List ℕ) → List ℕ → Type 0
AreBlocks program file text =
    (count : ℕ) × (made : Switched)
    × (one_big_switch program.body zero_arrays (take count (spelled program.fields file).packets) ≡ Some made)
    × (text ≡ made_text program.fields made)

-- the file has this report
abbrev pub HasReport : Program → (file : List ℕ) → List ℕ → Type 0
HasReport program file text = (ending : RunEnding) × IsReport program file ending text

-- The run ended as the file deserves, and its whole report went out. Or a device failed or memory was short, and some
-- first bytes of blocks have gone out; where the sink failed, perhaps of what stands behind them too.
abbrev pub WritesReport : Program → (file : List ℕ) → RunEnding → Option (List ℕ) → Option (List ℕ) → Type 0
WritesReport program file (Err Read) old new = AppendsSome (AreBlocks program file) old new
WritesReport program file (Err NoMemory) old new = AppendsSome (AreBlocks program file) old new
WritesReport program file (Err Write) old new = AppendsSome (AreBlocks program file) old new ⊎ AppendsSome (HasReport program file) old new
WritesReport program file ending old new = (text : List ℕ) × IsReport program file ending text × Appends old new text
