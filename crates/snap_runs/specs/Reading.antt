-- What is left of a packets file for its reader, at the ports of tables.
use Rattle.std.specs.Prelude.{◌≡◌, ℕ, ◌+◌, ◌-◌, Bool, List, Result, Ok, Err, Some, None, slice_index, is_some}
use Rattle.std.specs.declared.option.Option.{Option}
use Rattle.snap_io.specs.LineReaders.{lines_given}
use Rattle.snap_rows.specs.declared.tables.Tables.{Tables}
use Rattle.snap_rows.specs.Entries.{port_at}
use Rattle.snap_report.specs.declared.fault.TraceFault.{TraceFault}
use Rattle.snap_report.specs.declared.fault.TraceFault.TheVariants.{Read, Write, Limit, Packets, Undefined, NoMemory}
use Rattle.snap_report.specs.declared.line.Line.{Line}
use Rattle.snap_report.specs.declared.packets.PacketLines.{PacketLines}
use Rattle.snap_report.specs.PacketLines.{Said, said_by}
use Rattle.snap_report.specs.Reading.{packet_in, said_of}
use Rattle.snap_report.specs.Spelled.{Spelled, stops, ended, refused, spelled_from, with_said}
use Rattle.snap_runs.specs.Plain.{at_ports}

-- a packet comes in at a port of tables
abbrev pub has_port : Tables → List ℕ → Bool
has_port t packet = is_some (port_at t (slice_index packet 0))

-- what a line says at the ports of tables
abbrev pub said_at : Tables → List ℕ → Said
said_at t line = at_ports t (said_by t.fields line)

-- what the file spells from the line on that comes behind `read` lines, at this place
abbrev pub left_behind : (said : List ℕ → Said) → (file : List ℕ) → (read at : ℕ) → Spelled
left_behind said file read at = spelled_from said file (1000000 - read) (read + 1) at

-- what is left of the file for a reader
abbrev pub left_of : (said : List ℕ → Said) → (file : List ℕ) → PacketLines → Spelled
left_of said file reader = left_behind said file reader.read (lines_given reader.lines)

-- the next line stands before the others, or none is left, or reading has stopped
abbrev pub GivesLine : Tables → (file : List ℕ) → (old new : PacketLines) → Result (Option Line) TraceFault → Type 0
GivesLine t file old new (Ok (Some line)) = left_of (said_at t) file old
    ≡ with_said new.read (at_ports t (said_of (packet_in new) line)) (left_of (said_at t) file new)
GivesLine t file old new (Ok None) = left_of (said_at t) file old ≡ stops ended
GivesLine t file old new (Err Read) = Unit {0}
GivesLine t file old new (Err NoMemory) = ⊥
GivesLine t file old new (Err (Limit which count)) = left_of (said_at t) file old ≡ stops (refused (Limit which count))
GivesLine t file old new (Err (Packets line)) = left_of (said_at t) file old ≡ stops (refused (Packets line))
GivesLine t file old new (Err Write) = ⊥
GivesLine t file old new (Err (Undefined packet)) = ⊥
