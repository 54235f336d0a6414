use Rattle.std.proofs.Common.{◌≡◌, Some, All, drop, length}
use Rattle.snap_core.specs.declared.policy.Pol.{Pol}
use Rattle.snap_core.specs.Cells.{arrays_of}
use Rattle.snap_core.specs.Meaning.{eval}
use Rattle.snap_core.specs.Packets.{AllLong}
use Rattle.snap_core.specs.Runs.{ran_with, set_after}
use Rattle.snap_report.specs.Choices.{AreParts, IsPart}
use Rattle.snap_report.proofs.laid.run_laid_on.Given as goal

-- what the parts so far gave
abbrev pub invariant-loop-part : goal.invariant-loop-part
invariant-loop-part l = record {
  done : Pol;
  are : AreParts done (drop l.part-index l.part-items) l.laid;
  parts : All IsPart l.part-items;
  ok : eval done (arrays_of l.fn.store) l.fn.packet ≡ Some (ran_with (arrays_of l.store) l.packet l.ran);
  long : AllLong (length l.fn.packet) (set_after l.ran.flow l.packet);
  same : length l.packet ≡ length l.fn.packet;
}
