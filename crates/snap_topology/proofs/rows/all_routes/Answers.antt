use Rattle.std.proofs.Common.{◌∙◌, ◌∷◌, [], ap, arith, ℕ, List, Option, length, length-append}
use Rattle.std.proofs.lemmas.Result.{err_from_is_err_and}
use Rattle.snap_topology.specs.Tables.{Row}
use Rattle.snap_topology.proofs.Levels.{length-written_back}
use Rattle.snap_topology.proofs.Walking.{apart-cause, rows-more}
use Rattle.snap_topology.proofs.rows.all_routes.Goals as goal

pub returns-in_err-toward-clause-apart : goal.returns-in_err-toward-clause-apart
returns-in_err-toward-clause-apart c =
    let p = err_from_is_err_and c.from_residual-in_err-toward.result c.from_residual-in_err-toward.ensures.1 in
    rw (p.1, p.2) (apart-cause c.args.graph.now c.loop-target.rows.items c.loop-target.target c.in_err-toward.field-0.0 c.requires c.loop-target-test.true c.loop-target.invariant.rows c.in_err-toward.ensures.away)

pub toward-requires-clause-count : goal.toward-requires-clause-count
toward-requires-clause-count c = ap (λ (ds : List (Option ℕ)). length ds) c.as_mut_slice.ensures.value ∙ c.loop-target.invariant.room

pub loop-target-preserved : goal.loop-target-preserved
loop-target-preserved c = record {
  room = length-written_back c.loop-target.distances.len c.toward.new.distances c.loop-target.distances.items c.loop-target.distances.ok.0 ∙ c.loop-target.distances.ok.0 ∙ c.loop-target.invariant.room;
  count = ap (λ (rs : List Row). length rs) c.in_ok-push.ensures.items ∙ omega (arith, length-append c.loop-target.rows.items (c.in_ok-toward.field-0 ∷ []), c.loop-target.invariant.count);
  rows = rows-more c.args.graph.now c.loop-target.rows.items _ c.loop-target.target c.in_ok-toward.field-0 c.loop-target.invariant.count c.in_ok-push.ensures.items c.loop-target.invariant.rows c.in_ok-toward.ensures.ok;
}
