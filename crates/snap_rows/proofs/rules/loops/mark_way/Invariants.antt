use Rattle.std.proofs.Common.{◌≡◌, ◌⊎◌, ◌<◌, ℕ, true, false, length, get_or}
use Rattle.snap_rows.specs.Form.{switch_count}
use Rattle.snap_rows.specs.Reach.{Reaches, Marks, falses}
use Rattle.snap_rows.proofs.rules.loops.mark_way.Given as goal

abbrev pub invariant-loop-marks : goal.invariant-loop-marks
invariant-loop-marks l = record {
  low : l.here < switch_count l.tables;
  long : length l.marks.items ≡ switch_count l.tables;
  marks : Marks l.tables l.target l.marks.items;
  reached : Reaches l.tables l.target l.here;
  kept : (w : ℕ) → get_or l.fn.marks.items w false ≡ true → get_or l.marks.items w false ≡ true;
  first : (l.here ≡ l.from) ⊎ (get_or l.marks.items l.from false ≡ true);
}

abbrev pub decreases-loop-marks : goal.decreases-loop-marks
decreases-loop-marks l = falses l.marks.items
