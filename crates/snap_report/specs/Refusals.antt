-- Why the next line of a packets file isn't given.
use Rattle.std.specs.Prelude.{ℕ}
use Rattle.snap_core.specs.declared.program.Which.TheVariants.{Bytes, Lines}
use Rattle.snap_io.specs.declared.lines.LinesFault.{LinesFault}
use Rattle.snap_io.specs.declared.lines.LinesFault.TheVariants.{Failed, LongLine, ManyBytes}
use Rattle.snap_report.specs.declared.fault.TraceFault.{TraceFault}
use Rattle.snap_report.specs.declared.fault.TraceFault.TheVariants.{Read, Limit, Packets}

-- the line of this number
abbrev pub refusal_of : LinesFault → ℕ → TraceFault
refusal_of Failed line = Read
refusal_of LongLine line = Packets line
refusal_of ManyBytes line = Limit Bytes 67108865

-- a line behind the last that may come
abbrev pub refusal_past_last : LinesFault → TraceFault
refusal_past_last Failed = Read
refusal_past_last LongLine = Limit Lines 1000001
refusal_past_last ManyBytes = Limit Lines 1000001
