use Rattle.std.proofs.Common.{◌≡◌, ◌+◌, ◌≤◌, length}
use Rattle.snap_tables.specs.Drafts.{IsKept, tables_of}
use Rattle.snap_tables.specs.Known.{AreKnown}
use Rattle.snap_tables.specs.Lines.{Begins, lines_of}
use Rattle.snap_tables.proofs.read.read_lines.Given as goal

-- the lines so far are those of a beginning
abbrev pub invariant-loop-line : goal.invariant-loop-line
invariant-loop-line l = record {
  begins : Begins l.fn.text (tables_of l.draft) l.rest;
  kept : IsKept l.draft;
  lines : l.number ≡ lines_of (tables_of l.draft);
  few : lines_of (tables_of l.draft) + length l.rest ≤ length l.fn.text;
  known : AreKnown (tables_of l.draft) l.known.rows.items;
}

abbrev pub decreases-loop-line : goal.decreases-loop-line
decreases-loop-line l = length l.rest
