use Rattle.std.proofs.Common.{◌≡◌, ◌∙◌, ◌+◌, ◌<◌, ◌∷◌, [], ℕ, List, None, Vec, Global, sym, ap, subst, arith, length, replicate, rules}
use Rattle.std.specs.List.{Contains, flat_map}
use Rattle.std.proofs.lemmas.Bool.{eqb-true, eq-eqb, false≢true}
use Rattle.snap_topology.specs.Graphs.{neighbours_of}
use Rattle.snap_topology.specs.Search.{Reaches}
use Rattle.snap_topology.proofs.Levels.{Levels, Levels-first, Levels-next, Settles-from}
use Rattle.snap_topology.proofs.search.distances_to.Goals as goal

filled : (n : ℕ) → (n ≡ 0 → ⊥) → 0 < n
filled n some = omega (arith, some)

pub levels-init : goal.levels-init
levels-init c =
    let graph = c.args.graph.now in
    let old = c.fill.new.self in
    let new = c.reach.new.distances in
    let nowhere : old ≡ replicate (length c.args.distances.now) None = search rules in
    let one = subst (λ (xs : List ℕ). Reaches (c.args.target ∷ []) 0 old new xs c.reach.new.level.items) c.clear.ensures.items c.in_ok-reach.ensures in
    let first = Levels-first graph c.args.target old new c.reach.new.level.items c.requires.target (nowhere ∙ ap (λ n. replicate n None) c.requires.count) one in
    record {
      levels = first;
      left = omega (arith, first.room, c.len.ensures, c.reach.new.level.ok.0);
    }

pub next_level-requires-clause-level : goal.next_level-requires-clause-level
next_level-requires-clause-level c = λ v h. (c.levels.invariant.levels.members v (subst (λ (xs : List ℕ). Contains xs v) c.as_slice.ensures.value h)).0

pub levels-preserved : goal.levels-preserved
levels-preserved c =
    let graph = c.args.graph.now in
    let old = c.levels.distances in
    let new = c.next_level.new.distances in
    let d = c.levels.distance in
    let next = c.next_level.new.next.items in
    let one = subst (λ (xs : List ℕ). Reaches (flat_map (neighbours_of graph) xs) (d + 1) old new [] next) c.as_slice.ensures.value c.in_ok-next_level.ensures in
    let some : 0 < length c.levels.level.items = filled (length c.levels.level.items) (λ none. false≢true (sym c.levels-test.true ∙ c.is_empty.ensures ∙ eq-eqb _ _ (c.levels.level.ok.0 ∙ none))) in
    let more = Levels-next graph c.args.target d old new c.levels.level.items next c.requires.graph some c.levels.invariant.levels one in
    let swapped = ap (λ (v : Vec ℕ Global). v.items) c.swap.ensures.x_after in
    record {
      levels = subst (λ (xs : List ℕ). Levels graph c.args.target (d + 1) new xs) (sym swapped) more;
      left = omega (arith, one.fewer, c.levels.invariant.left, c.len-left.ensures, c.next_level.new.next.ok.0);
    }

pub returns : goal.returns
returns c = Settles-from c.args.graph.now c.args.target c.levels.distance c.levels.distances c.levels.level.items
    (sym c.levels.level.ok.0 ∙ eqb-true _ _ (sym c.is_empty.ensures ∙ c.levels-test.false)) c.levels.invariant.levels
