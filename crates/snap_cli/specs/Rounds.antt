-- How a run by rounds ends, and what is written: the same for every number of workers.
use Rattle.std.specs.Prelude.{◌≡◌, ◌⊎◌, ℕ, Bool, List, [], Ok, Err}
use Rattle.snap_io.specs.Files.{Files, file_of}
use Rattle.snap_rows.specs.declared.tables.Tables.{Tables}
use Rattle.snap_order.specs.Rounds.{HasRoundReport}
use Rattle.snap_cli.specs.declared.refusal.Refusal.TheVariants.{VersionOne}
use Rattle.snap_cli.specs.Refusals.{Ending}
use Rattle.snap_cli.specs.Schedule.{StopsAtPackets}

-- The report of the run of its packets by rounds goes out, or nothing where the packets file is refused.
abbrev pub RoundsTo : Tables → (hops : Bool) → (file : List ℕ) → Ending → List ℕ → Type 0
RoundsTo t hops file ending text =
    ((ending ≡ Ok tt) × HasRoundReport t hops file text)
    ⊎ ((text ≡ []) × StopsAtPackets t file ending)

-- Rounds are made in tables of version 2. Those of version 1 are refused before a packet is read.
abbrev pub RunsByRoundsTo : Files → Tables → (packets : List ℕ) → (hops : Bool) → Ending → List ℕ → Type 0
RunsByRoundsTo files t packets hops ending text =
    ((t.version ≡ 1) × (ending ≡ Err VersionOne) × (text ≡ []))
    ⊎ ((t.version ≡ 2) × RoundsTo t hops (file_of files packets) ending text)
