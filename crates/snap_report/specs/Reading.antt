-- What a reader of packets' lines answers, and what is left of its file.
use Rattle.std.specs.Prelude.{◌≡◌, ◌⊎◌, ℕ, ◌+◌, ◌-◌, ◌<◌, ◌≤◌, ◌==◌, Bool, true, false, List, Result, Ok, Err, Some, None, length, slice_index, if◌then◌else◌}
use Rattle.std.specs.declared.option.Option.{Option}
use Rattle.snap_core.specs.declared.program.Field.{Field}
use Rattle.snap_core.specs.declared.program.Which.TheVariants.{Bytes}
use Rattle.snap_io.specs.declared.lines.LinesFault.{LinesFault}
use Rattle.snap_io.specs.Files.{Files, file_of}
use Rattle.snap_io.specs.LineReaders.{lines_given, lines_line, lines_name}
use Rattle.snap_io.specs.Lines.{Next, next_line, no_line, long_line, many_bytes, next_in}
use Rattle.snap_report.specs.declared.fault.TraceFault.{TraceFault}
use Rattle.snap_report.specs.declared.fault.TraceFault.TheVariants.{Read, Write, Limit, Packets, Undefined, NoMemory}
use Rattle.snap_report.specs.declared.line.Line.{Line}
use Rattle.snap_report.specs.declared.line.Line.TheVariants.{Skip, Inject}
use Rattle.snap_report.specs.declared.packets.PacketLines.{PacketLines}
use Rattle.snap_report.specs.PacketLines.{Said, skip, inject, bad, said_by}
use Rattle.snap_report.specs.Refusals.{refusal_of, refusal_past_last}
use Rattle.snap_report.specs.Spelled.{Spelled, stops, ended, refused, spelled_behind, with_said, after_last, counted}

-- what a line that was given says, where a packet that comes in is this one
abbrev pub said_of : (packet : List ℕ) → Line → Said
said_of packet Skip = skip
said_of packet (Inject port) = inject packet

-- the packet of the line that a reader gave last
abbrev pub packet_in : PacketLines → List ℕ
packet_in reader = reader.draft.packet

-- the file that it reads
abbrev pub file_in : Files → PacketLines → List ℕ
file_in files reader = file_of files (lines_name reader.lines)

-- ---- what stands next in the file
-- the line isn't in form, or the file is too long for it
abbrev pub IsUnfit : (line : ℕ) → Next → TraceFault → Type 0
IsUnfit line (next_line text behind) fault = ⊥
IsUnfit line no_line fault = ⊥
IsUnfit line long_line fault = fault ≡ Packets line
IsUnfit line many_bytes fault = fault ≡ Limit Bytes 67108865

-- no line may come behind the last, or the next one can't be given
abbrev pub EndsAt : (read : ℕ) → Next → TraceFault → Type 0
EndsAt read next fault = ((read ≡ 1000000) × (after_last next ≡ stops (refused fault))) ⊎ ((read < 1000000) × IsUnfit (read + 1) next fault)

-- why the line isn't given that stands next behind `read` lines
abbrev pub RefusesNext : (read : ℕ) → Next → TraceFault → Type 0
RefusesNext read next Read = Unit {0}
RefusesNext read next (Limit which count) = EndsAt read next (Limit which count)
RefusesNext read next (Packets line) = EndsAt read next (Packets line)
RefusesNext read next Write = ⊥
RefusesNext read next (Undefined packet) = ⊥
RefusesNext read next NoMemory = ⊥

-- the line that stood next was read, or the file's end, or reading has stopped
abbrev pub ReadsNext : (read : ℕ) → Next → (new : PacketLines) → Result Bool TraceFault → Type 0
ReadsNext read next new (Ok true) = (read < 1000000) × (next ≡ next_line (lines_line new.lines) (lines_given new.lines))
ReadsNext read next new (Ok false) = next ≡ no_line
ReadsNext read next new (Err fault) = RefusesNext read next fault

-- the same of a line that says what is given
abbrev pub SaysNext : List Field → (read : ℕ) → Next → (new : PacketLines) → Said → Type 0
SaysNext fields read next new said = (read < 1000000)
    × ((text : List ℕ) × (next ≡ next_line text (lines_given new.lines)) × (said_by fields text ≡ said))

-- and of a refusal, which a line that isn't in form makes too
abbrev pub StopsNext : List Field → (read : ℕ) → Next → (new : PacketLines) → TraceFault → Type 0
StopsNext fields read next new fault = EndsAt read next fault ⊎ ((fault ≡ Packets (read + 1)) × SaysNext fields read next new bad)

-- what is given of these fields
abbrev pub GivesNext : List Field → (read : ℕ) → Next → (new : PacketLines) → Result (Option Line) TraceFault → Type 0
GivesNext fields read next new (Ok (Some line)) = SaysNext fields read next new (said_of (packet_in new) line)
GivesNext fields read next new (Ok None) = next ≡ no_line
GivesNext fields read next new (Err Read) = Unit {0}
GivesNext fields read next new (Err NoMemory) = ⊥
GivesNext fields read next new (Err (Limit which count)) = StopsNext fields read next new (Limit which count)
GivesNext fields read next new (Err (Packets line)) = StopsNext fields read next new (Packets line)
GivesNext fields read next new (Err Write) = ⊥
GivesNext fields read next new (Err (Undefined packet)) = ⊥

-- what stands next for the reader
abbrev pub next_for : (file : List ℕ) → PacketLines → Next
next_for file reader = next_in 67108864 65536 file (lines_given reader.lines)

-- why the line behind `read` lines isn't given
abbrev pub refused_behind : (read : ℕ) → LinesFault → TraceFault
refused_behind read fault = if read == 1000000 then refusal_past_last fault else refusal_of fault (read + 1)

-- a packet has so many components, of which the first is its port
abbrev pub FitsLine : ℕ → (packet : List ℕ) → Line → Type 0
FitsLine comps packet Skip = Unit {0}
FitsLine comps packet (Inject port) = (length packet ≡ comps) × (slice_index packet 0 ≡ port)

abbrev pub HasLine : ℕ → (packet : List ℕ) → Option Line → Type 0
HasLine comps packet None = Unit {0}
HasLine comps packet (Some line) = FitsLine comps packet line

-- where a line is given it is one more
abbrev pub GoesOn : (old new : ℕ) → Option Line → Type 0
GoesOn old new None = Unit {0}
GoesOn old new (Some line) = (new ≡ old + 1) × (new ≤ 1000000)

-- ---- what is left of the file
-- a packet that isn't accepted isn't in form
abbrev pub where_accepted : (accepts : List ℕ → Bool) → Said → Said
where_accepted accepts skip = skip
where_accepted accepts (inject packet) = if accepts packet then inject packet else bad
where_accepted accepts bad = bad

-- what a line of these fields says behind so many packets
abbrev pub said_where : List Field → (accepts : ℕ → List ℕ → Bool) → ℕ → List ℕ → Said
said_where fields accepts before line = where_accepted (accepts before) (said_by fields line)

-- what a file spells so
abbrev pub spelled_where : List Field → (accepts : ℕ → List ℕ → Bool) → (file : List ℕ) → Spelled
spelled_where fields accepts file = spelled_behind (said_where fields accepts) file 1000000 1 0 0

-- what it spells from the line on that comes behind `read` lines and so many packets, at this place
abbrev pub left_where : List Field → (accepts : ℕ → List ℕ → Bool) → (file : List ℕ) → (before read at : ℕ) → Spelled
left_where fields accepts file before read at = spelled_behind (said_where fields accepts) file (1000000 - read) (read + 1) at before

-- what is left of it for a reader
abbrev pub left_for : List Field → (accepts : ℕ → List ℕ → Bool) → (file : List ℕ) → PacketLines → (before : ℕ) → Spelled
left_for fields accepts file reader before = left_where fields accepts file before reader.read (lines_given reader.lines)

-- a line of this number that says this, before what is left behind it
abbrev pub with_line : (accepts : ℕ → List ℕ → Bool) → (number : ℕ)
    → (packet : List ℕ) → Line → (rest : ℕ → Spelled) → (before : ℕ) → Spelled
with_line accepts number packet line rest before = let said = where_accepted
    (accepts before) (said_of packet line) in with_said number said (rest (counted said before))

-- the next line stands before the others, or none is left, or reading has stopped
abbrev pub LeavesLine : List Field → (accepts : ℕ → List ℕ → Bool) → (before : ℕ)
    → (file : List ℕ) → (old new : PacketLines) → Result (Option Line) TraceFault → Type 0
LeavesLine fields accepts before file old new (Ok (Some line)) = left_for fields accepts file old before
    ≡ with_line accepts new.read (packet_in new) line (left_for fields accepts file new) before
LeavesLine fields accepts before file old new (Ok None) = left_for fields accepts file old before ≡ stops ended
LeavesLine fields accepts before file old new (Err Read) = Unit {0}
LeavesLine fields accepts before file old new (Err NoMemory) = ⊥
LeavesLine fields accepts before file old new (Err (Limit which count)) = left_for fields accepts file old before
    ≡ stops (refused (Limit which count))
LeavesLine fields accepts before file old new (Err (Packets line)) = left_for fields accepts file old before
    ≡ stops (refused (Packets line))
LeavesLine fields accepts before file old new (Err Write) = ⊥
LeavesLine fields accepts before file old new (Err (Undefined packet)) = ⊥
