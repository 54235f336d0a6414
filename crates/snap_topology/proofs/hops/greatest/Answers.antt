use Rattle.std.proofs.Common.{◌∙◌, List, ℕ, ap, max, subst, sym, arith}
use Rattle.std.specs.List.{Contains}
use Rattle.std.proofs.lemmas.List.{get_or-map, length-map}
use Rattle.snap_topology.specs.Tables.{row_by}
use Rattle.snap_topology.proofs.Nearest.{ord_max-max, greatest-more, take-all}
use Rattle.snap_topology.proofs.hops.greatest.Goals as goal

pub loop-distance-preserved : goal.loop-distance-preserved
loop-distance-preserved c =
    let hops = c.args.hops.now in
    let i = c.loop-distance.distance-index in
    let at = get_or-map (λ (h : ℕ × ℕ). h.0) hops i (0, 0) 0 c.loop-distance-test.true in
    let more = greatest-more (row_by hops).distances i c.loop-distance.most c.max-most.result (omega (arith, length-map hops (λ (h : ℕ × ℕ). h.0), c.loop-distance-test.true))
    (c.max-most.ensures ∙ ord_max-max _ _ ∙ ap (max c.loop-distance.most) (sym at)) c.loop-distance.invariant.reached c.loop-distance.invariant.bound in
    record { reached = more.0; bound = more.1 }

pub returns-clause-bound : goal.returns-clause-bound
returns-clause-bound c = λ d h. c.loop-distance.invariant.bound d
    (subst (λ (xs : List ℕ). Contains xs d) (sym (take-all (row_by c.args.hops.now).distances c.loop-distance.distance-index (omega (arith, length-map c.args.hops.now (λ (h : ℕ × ℕ). h.0))))) h)
