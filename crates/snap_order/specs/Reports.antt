-- The report of a run in order: as without order, but that the frames of hops begin with the packet's number.
use Rattle.std.specs.Prelude.{ℕ, Bool, List}
use Rattle.snap_rows.specs.declared.tables.Tables.{Tables}
use Rattle.snap_rows.specs.Network.{Happening, Net}
use Rattle.snap_runs.specs.declared.frames.Frames.TheVariants.{Numbered}
use Rattle.snap_runs.specs.Reports.{AreBlocksBy, IsBlockBy, IsRunReportBy}

-- the block of packet i, counted from 0
abbrev pub IsBlock : Tables → (hops : Bool) → (i : ℕ) → List Happening → List ℕ → Type 0
IsBlock t hops i hs text = IsBlockBy Numbered t hops i hs text

-- the blocks of so many packets, one after another
abbrev pub AreBlocks : Tables → (hops : Bool) → (count : ℕ) → List Happening → List ℕ → Type 0
AreBlocks t hops count hs text = AreBlocksBy Numbered t hops count hs text

-- the report of a run with these happenings that ends in this state
abbrev pub IsRunReport : Tables → (hops : Bool) → (count : ℕ) → Net → List Happening → List ℕ → Type 0
IsRunReport t hops count s hs text = IsRunReportBy Numbered t hops count s hs text
