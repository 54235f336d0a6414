-- The packets that a file spells, and why its reading ends.
use Rattle.std.specs.Prelude.{ℕ, ◌+◌, zero, suc, List, [], ◌∷◌}
use Rattle.snap_core.specs.declared.program.Field.{Field}
use Rattle.snap_core.specs.declared.program.Which.TheVariants.{Bytes, Lines}
use Rattle.snap_io.specs.Lines.{Next, next_line, no_line, long_line, many_bytes, next_in}
use Rattle.snap_report.specs.declared.fault.TraceFault.{TraceFault}
use Rattle.snap_report.specs.declared.fault.TraceFault.TheVariants.{Limit, Packets}
use Rattle.snap_report.specs.PacketLines.{Said, skip, inject, bad, said_by}

-- reading has come to the file's end, or a line is refused
pub data Stop : Type 0 where
  ended : Stop
  refused : TraceFault → Stop

-- the packets of the lines before reading stops
pub record Spelled : Type 0 where
  pub packets : List (List ℕ)
  pub stop : Stop

abbrev pub stops : Stop → Spelled
stops stop = record { packets = []; stop = stop }

-- a line of this number, before the lines behind it
abbrev pub with_said : ℕ → Said → Spelled → Spelled
with_said line skip rest = rest
with_said line (inject packet) rest = record { packets = packet ∷ rest.packets; stop = rest.stop }
with_said line bad rest = stops (refused (Packets line))

-- what stands next, as the line of this number
abbrev pub with_next : (said : List ℕ → Said) → ℕ → Next → (ℕ → Spelled) → Spelled
with_next said line (next_line text behind) rest = with_said line (said text) (rest behind)
with_next said line no_line rest = stops ended
with_next said line long_line rest = stops (refused (Packets line))
with_next said line many_bytes rest = stops (refused (Limit Bytes 67108865))

-- where no further line may come
abbrev pub after_last : Next → Spelled
after_last no_line = stops ended
after_last next = stops (refused (Limit Lines 1000001))

-- From this place on the file's lines are read, of which the first has this number and `left` may come. A file has
-- at most 67,108,864 bytes, and a line 65,536.
unfoldable pub spelled_from : (said : List ℕ → Said) → (file : List ℕ) → (left line at : ℕ) → Spelled
spelled_from said file zero line at = after_last (next_in 67108864 65536 file at)
spelled_from said file (suc left) line at = with_next said line
    (next_in 67108864 65536 file at) (λ behind. spelled_from said file left (line + 1) behind)

-- what a file of at most 1,000,000 lines spells, where lines say this
abbrev pub spelled_by : (said : List ℕ → Said) → List ℕ → Spelled
spelled_by said file = spelled_from said file 1000000 1 0

-- the packets of these fields
abbrev pub spelled : List Field → List ℕ → Spelled
spelled fields file = spelled_by (said_by fields) file

-- ---- where what a line says depends on how many packets come before it
-- the number of packets behind a line
abbrev pub counted : Said → ℕ → ℕ
counted skip n = n
counted (inject packet) n = n + 1
counted bad n = n

abbrev pub text_of : Next → List ℕ
text_of (next_line text behind) = text
text_of no_line = []
text_of long_line = []
text_of many_bytes = []

-- From this place on the file's lines are read, where `said` tells what a line says behind so many packets. The first line
-- has this number and comes behind `before` packets, and `left` lines may come.
unfoldable pub spelled_behind : (said : ℕ → List ℕ → Said) → (file : List ℕ) → (left line at before : ℕ) → Spelled
spelled_behind said file zero line at before = after_last (next_in 67108864 65536 file at)
spelled_behind said file (suc left) line at before =
    with_next (said before) line (next_in 67108864 65536 file at)
    (λ behind. spelled_behind said file left (line + 1) behind (counted (said before (text_of (next_in 67108864 65536 file at))) before))
