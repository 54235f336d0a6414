use Rattle.std.proofs.Common.{◌≡◌, ◌≤◌, [], length}
use Rattle.snap_parse.specs.declared.cursor.TheConstants.{MAX_DEPTH}
use Rattle.snap_parse.specs.Tree.{Span}
use Rattle.snap_parse.specs.Machine.{AfterSingle, single_depth, at_value, close_place, run}
use Rattle.snap_parse.proofs.cursor.Parser.places.Given as goal

abbrev pub invariant-places : goal.invariant-places
invariant-places l = record {
  shorter : length l.rest ≤ length l.tokens;
  reads : (name : Span) (k : AfterSingle) → single_depth k ≤ MAX_DEPTH →
      run MAX_DEPTH l.self.end (at_value (close_place name [] k)) l.tokens
      ≡ run MAX_DEPTH l.self.end (at_value (close_place name l.places.items k)) l.rest;
}

abbrev pub decreases-places : goal.decreases-places
decreases-places l = length l.rest
