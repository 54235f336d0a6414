use Rattle.std.proofs.Common.{reverse, All}
use Rattle.snap_report.specs.Choices.{AreParts, IsPart}
use Rattle.snap_report.proofs.laid.lay.Given as goal

-- the parts behind what is left
abbrev pub invariant-loop-first : goal.invariant-loop-first
invariant-loop-first l = record {
  parts : All IsPart l.later.items;
  are : AreParts l.first (reverse l.later.items) l.pol;
}
