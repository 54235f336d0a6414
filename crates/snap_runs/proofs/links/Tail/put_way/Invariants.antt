use Rattle.std.proofs.Common.{◌≡◌, ◌<◌, ℕ, List, ◌++◌, codes}
use Rattle.snap_rows.specs.Bound.{distance}
use Rattle.snap_rows.specs.Form.{switch_count}
use Rattle.snap_rows.specs.Ways.{Way}
use Rattle.snap_runs.specs.Crossings.{way_text}
use Rattle.snap_runs.specs.Links.{tail_text}
use Rattle.snap_runs.proofs.links.Tail.put_way.Given as goal

abbrev pub invariant-loop-at : goal.invariant-loop-at
invariant-loop-at l = record {
  below : l.at < switch_count l.tables;
  tail : tail_text l.self ≡ tail_text l.fn.self;
  put : (digits ws : List ℕ) → tail_text l.fn.self ≡ digits ++ codes "\n" → Way l.tables l.to l.from ws
      → (vs : List ℕ) × Way l.tables l.to l.at vs × (l.out.items ++ way_text l.tables.switches digits l.at vs ≡ l.initial.out.items ++ way_text l.tables.switches digits l.from ws);
}

abbrev pub decreases-loop-at : goal.decreases-loop-at
decreases-loop-at l = distance l.tables l.at l.to
