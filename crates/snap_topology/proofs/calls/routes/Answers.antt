use Rattle.std.proofs.Common.{◌≡◌, ◌∙◌, ◌≤◌, ◌<◌, ◌⊎◌, ap, subst, sym, List, ℕ, length}
use Rattle.std.proofs.lemmas.Result.{err_from_is_err_and}
use Rattle.snap_topology.specs.Faults.{IsCause}
use Rattle.snap_topology.specs.Graphs.{Adjacent, IsGraph}
use Rattle.snap_topology.specs.Walks.{Linked, IsFirstApart}
use Rattle.snap_topology.specs.Hops.{HasDistance, IsToward}
use Rattle.snap_topology.specs.Tables.{AreRoutes, Row, Table, row_in}
use Rattle.snap_topology.proofs.Walking.{are-neighbours, from-link, link-cause, routes-from, square-from, to-link, IsGraph-from}
use Rattle.snap_topology.proofs.calls.routes.Goals as goal

pub all_routes-requires : goal.all_routes-requires
all_routes-requires c =
    let t = c.args.topology.now in
    let are = are-neighbours t c.in_ok-graph.graph.items c.items-count.result.now c.items.result.now c.items-count.ensures c.items.ensures c.in_ok-graph.ensures.count c.in_ok-graph.ensures.linked c.in_ok-graph.ensures.rise in
    subst (λ (g : List (List ℕ)). IsGraph g) (sym c.as_slice.ensures.value) (IsGraph-from t c.in_ok-graph.graph.items c.requires are)

pub returns-in_err-rows-clause-unreachable : goal.returns-in_err-rows-clause-unreachable
returns-in_err-rows-clause-unreachable c =
    let t = c.args.topology.now in
    let graph = c.in_ok-graph.graph.items in
    let are = are-neighbours t graph c.items-count.result.now c.items.result.now c.items-count.ensures c.items.ensures c.in_ok-graph.ensures.count c.in_ok-graph.ensures.linked c.in_ok-graph.ensures.rise in
    let p = err_from_is_err_and c.from_residual-in_err-rows.result c.from_residual-in_err-rows.ensures.1 in
    let apart = subst (λ (g : List (List ℕ)). IsCause (IsFirstApart (Adjacent g) (length g)) c.in_err-rows.field-0.0) c.as_slice.ensures.value c.in_err-rows.ensures.apart in
    rw (p.1, p.2) (link-cause (Adjacent graph) (Linked t.links) (to-link t graph are) (from-link t graph c.requires are) (length graph) (length t.switches) c.in_err-rows.field-0.0 are.count apart)

pub new-requires : goal.new-requires
new-requires c =
    let graph = c.as_slice.result.now in
    square-from graph (record { rows = c.in_ok-rows.rows.items; diameter = c.diameter_of-diameter.result }) c.in_ok-rows.ensures.count c.in_ok-rows.ensures.rows

pub returns-clause-routes : goal.returns-clause-routes
returns-clause-routes c =
    let t = c.args.topology.now in
    let graph = c.in_ok-graph.graph.items in
    let rows = c.in_ok-rows.rows.items in
    let d = c.diameter_of-diameter.result in
    let are = are-neighbours t graph c.items-count.result.now c.items.result.now c.items-count.ensures c.items.ensures c.in_ok-graph.ensures.count c.in_ok-graph.ensures.linked c.in_ok-graph.ensures.rise in
    let count : length rows ≡ length graph = c.in_ok-rows.ensures.count ∙ ap (λ (g : List (List ℕ)). length g) c.as_slice.ensures.value in
    let each = subst (λ (g : List (List ℕ)). (b : ℕ) → b < length g → IsToward g b (row_in rows b)) c.as_slice.ensures.value c.in_ok-rows.ensures.rows in
    let reached = subst (λ (rs : List Row). (d ≡ 0) ⊎ HasDistance rs d) c.as_slice-2.ensures.value c.diameter_of-diameter.ensures.reached in
    let bound = subst (λ (rs : List Row). (e : ℕ) → HasDistance rs e → e ≤ d) c.as_slice-2.ensures.value c.diameter_of-diameter.ensures.bound in
    subst (λ (x : Table). AreRoutes t x) (sym c.new.ensures) (routes-from t graph (record { rows = rows; diameter = d }) c.requires are count each reached bound)
