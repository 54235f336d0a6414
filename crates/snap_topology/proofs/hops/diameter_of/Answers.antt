use Rattle.std.proofs.Common.{◌∙◌, ap, sym, arith}
use Rattle.std.proofs.lemmas.List.{get_or_read}
use Rattle.snap_topology.specs.Tables.{Row, empty_row, row_by}
use Rattle.snap_topology.proofs.Nearest.{ord_max-max, diameter-more}
use Rattle.snap_topology.proofs.hops.diameter_of.Goals as goal

pub loop-row-preserved : goal.loop-row-preserved
loop-row-preserved c =
    let more = diameter-more c.args.rows.now c.loop-row.row-index c.loop-row.most c.greatest.result c.max-most.result (row_by c.hops.result.now).distances c.loop-row-test.true
    (ap (λ (r : Row). r.distances) (sym c.hops.ensures) ∙ ap (λ (r : Row). r.distances) (get_or_read c.args.rows.now c.loop-row.row-index c.row-item.result c.loop-row-test.true c.row-item.is empty_row))
    (c.max-most.ensures ∙ ord_max-max _ _) c.greatest.ensures.reached c.greatest.ensures.bound c.loop-row.invariant.reached c.loop-row.invariant.bound in
    record { reached = more.0; bound = more.1 }

pub returns-clause-bound : goal.returns-clause-bound
returns-clause-bound c = λ d h. c.loop-row.invariant.bound h.target d (omega (arith, h.below)) h.member
