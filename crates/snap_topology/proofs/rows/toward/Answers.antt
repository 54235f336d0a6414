use Rattle.std.proofs.Common.{sym, subst, List, ℕ}
use Rattle.std.proofs.lemmas.Result.{err_from_is_err_and}
use Rattle.snap_topology.specs.Hops.{AreDistances, IsToward}
use Rattle.snap_topology.specs.Tables.{Row}
use Rattle.snap_topology.proofs.Walking.{away-cause, distances-from}
use Rattle.snap_topology.proofs.rows.toward.Goals as goal

pub returns-in_err-settle-clause-away : goal.returns-in_err-settle-clause-away
returns-in_err-settle-clause-away c =
    let p = err_from_is_err_and c.from_residual-in_err-settle.result c.from_residual-in_err-settle.ensures.1 in
    rw (p.1, p.2) (away-cause c.args.graph.now c.args.target c.distances_to.new.distances c.in_err-settle.field-0.0 c.in_ok-distances_to.ensures c.in_err-settle.ensures.unreached)

pub hops_toward-requires-clause-distances : goal.hops_toward-requires-clause-distances
hops_toward-requires-clause-distances c = subst (λ (ds : List ℕ). AreDistances c.args.graph.now c.args.target ds) (sym c.as_slice.ensures.value)
    (distances-from c.args.graph.now c.args.target c.distances_to.new.distances c.settle.new.known.items c.in_ok-distances_to.ensures c.in_ok-settle.ensures.ok)

pub returns-clause-ok : goal.returns-clause-ok
returns-clause-ok c = subst (λ (r : Row). IsToward c.args.graph.now c.args.target r) (sym c.new.ensures) c.in_ok-hops_toward.ensures
