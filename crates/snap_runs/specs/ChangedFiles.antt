-- The report of a network whose tables change, over a packets file.
use Rattle.std.specs.Prelude.{◌≡◌, ℕ, Bool, List, take, Ok, Err}
use Rattle.std.specs.declared.option.Option.{Option}
use Rattle.snap_rows.specs.declared.tables.Tables.{Tables}
use Rattle.snap_report.specs.OneSwitch.{RunEnding}
use Rattle.snap_report.specs.PacketLines.{Said, said_by}
use Rattle.snap_report.specs.Spelled.{Spelled, Stop, ended, refused, spelled_behind}
use Rattle.snap_runs.specs.Plain.{Writes, at_ports}
use Rattle.snap_runs.specs.declared.later.Later.{Later}
use Rattle.snap_runs.specs.Changing.{AreChangedBlocks, IsChangedReport, in_force}

-- what a line says behind so many packets, at the ports of the tables that are in force then
abbrev pub said_under : Tables → List Later → ℕ → List ℕ → Said
said_under first later n line = at_ports (in_force first later n) (said_by first.fields line)

-- what a file of packets spells for tables that change
abbrev pub spelled_under : Tables → List Later → (file : List ℕ) → Spelled
spelled_under first later file = spelled_behind (said_under first later) file 1000000 1 0 0

-- The run of the packets that were read ends as reading did; where that came to the file's end, with its whole report.
abbrev pub EndsAsRead : Tables → List Later → (hops : Bool) → List (List ℕ) → Stop → RunEnding → List ℕ → Type 0
EndsAsRead first later hops ks ended ending text = (ending ≡ Ok tt) × IsChangedReport first later hops ks text
EndsAsRead first later hops ks (refused fault) ending text = (ending ≡ Err fault) × AreChangedBlocks first later hops ks text

-- how a run over a file ends, and what is reported
abbrev pub IsChangedTrace : Tables → List Later → (hops : Bool) → (file : List ℕ) → RunEnding → List ℕ → Type 0
IsChangedTrace first later hops file ending text = EndsAsRead first later hops
    (spelled_under first later file).packets (spelled_under first later file).stop ending text

-- the blocks of some first packets that the file spells
abbrev pub AreChangedTraceBlocks : Tables → List Later → (hops : Bool) → (file : List ℕ) → List ℕ → Type 0
AreChangedTraceBlocks first later hops file text = (count : ℕ)
    × AreChangedBlocks first later hops (take count (spelled_under first later file).packets) text

-- the run ended as the file deserves, with its whole report, or some first bytes of it have gone out
abbrev pub WritesChanged : Tables → List Later → (hops : Bool) → (file : List ℕ) → RunEnding → Option (List ℕ) → Option (List ℕ) → Type 0
WritesChanged first later hops file ending old new = Writes
    (AreChangedTraceBlocks first later hops file) (IsChangedTrace first later hops file) ending old new
