-- What a line that was read says.
use Rattle.std.specs.Prelude.{◌≡◌, ℕ, List, Some, None, slice_index}
use Rattle.std.specs.declared.option.Option.{Option}
use Rattle.snap_report.specs.declared.line.Line.{Line}
use Rattle.snap_report.specs.declared.line.Line.TheVariants.{Skip, Inject}
use Rattle.snap_report.specs.PacketLines.{Said, skip, inject, bad}

-- the answer is what the line says, where a packet that comes in is this one
abbrev pub Says : Said → (packet : List ℕ) → Option Line → Type 0
Says said packet (Some Skip) = said ≡ skip
Says said packet (Some (Inject port)) = (said ≡ inject packet) × (slice_index packet 0 ≡ port)
Says said packet None = said ≡ bad
