-- Walks back, and by other steps.
use Rattle.std.proofs.Common.{◌≡◌, ◌∙◌, ◌⊎◌, ◌↔◌, inl, inr, ℕ, zero, suc, ◌+◌, ◌<◌, ◌≤◌, List, [], ◌∷◌, ◌++◌, length, map, Option, Some, None, IsSome, is_some, MatchOption, refl, sym, ap, subst, arith, slice_index}
use Rattle.std.specs.List.{Contains}
use Rattle.std.specs.List.Sorted.{IsNonDecreasing}
use Rattle.std.proofs.lemmas.Bool.{cases_eq, cases_lt}
use Rattle.std.proofs.lemmas.List.{get_or_append_left, get_or_push, get_or_read, length-map}
use Rattle.std.proofs.lemmas.List.Elements.{Contains-get_or, All-from_get_or, All-contains}
use Rattle.snap_topology.specs.declared.topology.Topology.{Topology}
use Rattle.snap_topology.specs.Form.{IsWellFormed, IsLink}
use Rattle.snap_topology.specs.Walks.{Linked, IsWalk, HasWalk, IsDistance, IsNext, IsFirstApart}
use Rattle.snap_topology.specs.Graphs.{Adjacent, IsGraph, neighbours_of}
use Rattle.snap_topology.specs.Search.{distance_in, Settles}
use Rattle.snap_topology.specs.Hops.{IsNearest, AreDistances, IsFirstUnreached, IsFirstAway, IsToward, HasDistance}
use Rattle.snap_topology.specs.Tables.{Row, Table, empty_row, row_in, distance_of, next_of, IsSquare, AreRoutes}
use Rattle.snap_topology.specs.Faults.{IsCause}
use Rattle.snap_topology.specs.declared.table.RouteFault.{RouteFault}
use Rattle.snap_topology.specs.declared.table.RouteFault.TheVariants.{Unreachable, NoMemory}
use Rattle.snap_topology.proofs.Joined.{Contains-nil}

walk-last : (step : ℕ → ℕ → Type 0) (xs : List ℕ) (a b e : ℕ) → IsWalk step a xs b → step b e → IsWalk step a (xs ++ e ∷ []) e
walk-last step [] a b e walk last = (subst (λ (w : ℕ). step w e) (sym walk) last, refl)
walk-last step (x ∷ xs) a b e walk last = (walk.0, walk-last step xs x b e walk.1 last)

pub walk-back : (step : ℕ → ℕ → Type 0) → ((a b : ℕ) → step a b → step b a) → (xs : List ℕ) (a b : ℕ) → IsWalk step a xs b → HasWalk step b a
walk-back step both [] a b walk = ([], sym walk)
walk-back step both (x ∷ xs) a b walk =
    let back = walk-back step both xs x b walk.1 in
    (back.0 ++ a ∷ [], walk-last step back.0 b x a back.1 (both a x walk.0))

pub has-walk-back : (step : ℕ → ℕ → Type 0) → ((a b : ℕ) → step a b → step b a) → (a b : ℕ) → HasWalk step a b → HasWalk step b a
has-walk-back step both a b h = walk-back step both h.0 a b h.1

walk-by : (step other : ℕ → ℕ → Type 0) → ((a b : ℕ) → step a b → other a b) → (xs : List ℕ) (a b : ℕ) → IsWalk step a xs b → IsWalk other a xs b
walk-by step other by [] a b walk = walk
walk-by step other by (x ∷ xs) a b walk = (by a x walk.0, walk-by step other by xs x b walk.1)

has-walk-by : (step other : ℕ → ℕ → Type 0) → ((a b : ℕ) → step a b → other a b) → (a b : ℕ) → HasWalk step a b → HasWalk other a b
has-walk-by step other by a b h = (h.0, walk-by step other by h.0 a b h.1)

pub distance-by : (step other : ℕ → ℕ → Type 0) → ((a b : ℕ) → step a b → other a b) → ((a b : ℕ) → other a b → step a b) → (a b d : ℕ) → IsDistance step a b d → IsDistance other a b d
distance-by step other by back a b d is = record {
  walk = (is.walk.0, (is.walk.1.0, walk-by step other by is.walk.0 a b is.walk.1.1));
  least = λ xs walk. is.least xs (walk-by other step back xs a b walk);
}

pub distance-same : (step : ℕ → ℕ → Type 0) (a b d e : ℕ) → IsDistance step a b d → IsDistance step a b e → d ≡ e
distance-same step a b d e one two =
    let le = one.least two.walk.0 two.walk.1.1 in
    let ge = two.least one.walk.0 one.walk.1.1 in
    let p = one.walk.1.0 in let q = two.walk.1.0 in omega arith

pub distance-walk : (step : ℕ → ℕ → Type 0) (a b d : ℕ) → IsDistance step a b d → HasWalk step a b
distance-walk step a b d is = (is.walk.0, is.walk.1.1)

pub apart-by : (step other : ℕ → ℕ → Type 0) → ((a b : ℕ) → step a b → other a b) → ((a b : ℕ) → other a b → step a b) → (n m a b : ℕ) → n ≡ m → IsFirstApart step n a b → IsFirstApart other m a b
apart-by step other by back n m a b same is = record {
  lesser = is.lesser;
  below = (let low = is.below in omega arith);
  apart = λ h. is.apart (has-walk-by other step back a b h);
  first = λ e f lt low before. has-walk-by step other by e f (is.first e f lt (omega arith) before);
}

-- ---- what is settled
known-at : (ks : List ℕ) (rest : List (Option ℕ)) (w : ℕ) → w < length ks → distance_in (map (λ (d : ℕ). Some d) ks ++ rest) w ≡ Some (slice_index ks w)
known-at [] rest w lt = absurd (omega arith)
known-at (k ∷ ks) rest zero lt = refl
known-at (k ∷ ks) rest (suc w) lt = known-at ks rest w (omega arith)

pub first-unreached : (ks : List ℕ) (rest ds : List (Option ℕ)) (v : ℕ) → length ks ≡ v → map (λ (d : ℕ). Some d) ks ++ rest ≡ ds → v < length ds → distance_in ds v ≡ None → IsFirstUnreached ds v
first-unreached ks rest ds v count all lt none = record {
  below = lt;
  none = none;
  first = λ w low. ap is_some (ap (λ (xs : List (Option ℕ)). distance_in xs w) (sym all) ∙ known-at ks rest w (omega arith));
}

known-all : (ks : List ℕ) (w : ℕ) → w < length ks → distance_in (map (λ (d : ℕ). Some d) ks) w ≡ Some (slice_index ks w)
known-all [] w lt = absurd (omega arith)
known-all (k ∷ ks) zero lt = refl
known-all (k ∷ ks) (suc w) lt = known-all ks w (omega arith)

at-some : (o : Option ℕ) (d : ℕ) (A : Type 0) (P : ℕ → Type 0) → o ≡ Some d → MatchOption o A P → P d
at-some (Some e) d A P is h = let same : e ≡ d = cc in subst P same h
at-some None d A P is h = cc

at-none : (o : Option ℕ) (A : Type 0) (P : ℕ → Type 0) → o ≡ None → MatchOption o A P → A
at-none (Some e) A P is h = cc
at-none None A P is h = h

some-value : (o : Option ℕ) → IsSome o → (d : ℕ) × (o ≡ Some d)
some-value (Some d) is = (d, refl)
some-value None is = cc

pub distances-from : (graph : List (List ℕ)) (target : ℕ) (ds : List (Option ℕ)) (ks : List ℕ) → Settles graph target ds → map (λ (d : ℕ). Some d) ks ≡ ds → AreDistances graph target ks
distances-from graph target ds ks settles all =
    let count : length ks ≡ length graph = sym (length-map ks (λ (d : ℕ). Some d)) ∙ ap (λ (xs : List (Option ℕ)). length xs) all ∙ settles.count in
    record {
      count = count;
      each = λ v lt. at-some (distance_in ds v) (slice_index ks v) (HasWalk (Adjacent graph) v target → ⊥) (IsDistance (Adjacent graph) v target)
          (ap (λ (xs : List (Option ℕ)). distance_in xs v) (sym all) ∙ known-all ks v (omega arith)) (settles.each v lt);
    }

pub first-away : (graph : List (List ℕ)) (target v : ℕ) (ds : List (Option ℕ)) → Settles graph target ds → IsFirstUnreached ds v → IsFirstAway graph target v
first-away graph target v ds settles first =
    let low : v < length graph = (let lt = first.below in let count = settles.count in omega arith) in
    record {
      below = low;
      away = at-none (distance_in ds v) (HasWalk (Adjacent graph) v target → ⊥) (IsDistance (Adjacent graph) v target) first.none (settles.each v low);
      first = λ w lt. (let some = some-value (distance_in ds w) (first.first w lt) in
          distance-walk (Adjacent graph) w target some.0 (at-some (distance_in ds w) some.0 (HasWalk (Adjacent graph) w target → ⊥) (IsDistance (Adjacent graph) w target) some.1 (settles.each w (omega arith))));
    }

-- ---- the first pair apart
pub toward-walk : (graph : List (List ℕ)) (target : ℕ) (row : Row) (v : ℕ) → IsToward graph target row → v < length graph → HasWalk (Adjacent graph) v target
toward-walk graph target row v toward lt = distance-walk (Adjacent graph) v target (slice_index row.distances v) (toward.distances.each v lt)

pub first-apart : (graph : List (List ℕ)) (rows : List Row) (target v : ℕ) → IsGraph graph → target < length graph → ((b : ℕ) → b < target → IsToward graph b (row_in rows b)) → IsFirstAway graph target v → IsFirstApart (Adjacent graph) (length graph) target v
first-apart graph rows target v g lt before away =
    let walks : (b a : ℕ) → b < target → a < length graph → HasWalk (Adjacent graph) a b = λ b a low in'. toward-walk graph b (row_in rows b) a (before b low) in' in
    record {
      lesser = elim (cases_lt target v) [
        | inl lesser ↦ lesser
        | inr other ↦ elim (cases_eq v target) [
          | inl same ↦ absurd (away.away ([], same))
          | inr apart ↦ absurd (away.away (has-walk-back (Adjacent graph) g.both_ways target v (walks v target (omega arith) lt)))
        ]
      ];
      below = away.below;
      apart = λ h. away.away (has-walk-back (Adjacent graph) g.both_ways target v h);
      first = λ e f low in' earlier. elim earlier [
        | inl smaller ↦ has-walk-back (Adjacent graph) g.both_ways f e (walks e f smaller in')
        | inr here ↦ subst (λ (w : ℕ). HasWalk (Adjacent graph) w f) (sym here.0) (has-walk-back (Adjacent graph) g.both_ways f target (away.first f here.1))
      ];
    }

-- ---- one more row
pub rows-more : (graph : List (List ℕ)) (rows new : List Row) (n : ℕ) (row : Row) → length rows ≡ n → new ≡ rows ++ row ∷ [] → ((b : ℕ) → b < n → IsToward graph b (row_in rows b)) → IsToward graph n row → (b : ℕ) → b < n + 1 → IsToward graph b (row_in new b)
rows-more graph rows new n row count is before now b lt =
    elim (cases_eq b n) [
      | inl same ↦ let at : row_in new b ≡ row = ap (λ (rs : List Row). row_in rs b) is ∙ get_or_push rows row empty_row b (count ∙ sym same) in
          subst (λ (r : Row). IsToward graph b r) (sym at) (subst (λ (w : ℕ). IsToward graph w row) (sym same) now)
      | inr other ↦ let low : b < length rows = omega arith in
          let at : row_in new b ≡ row_in rows b = ap (λ (rs : List Row). row_in rs b) is ∙ get_or_append_left rows (row ∷ []) empty_row b low in
          subst (λ (r : Row). IsToward graph b r) (sym at) (before b (omega arith))
    ]

-- ---- causes
pub away-cause : (graph : List (List ℕ)) (target : ℕ) (ds : List (Option ℕ)) (e : RouteFault) → Settles graph target ds → IsCause (λ a b. (a ≡ target) × IsFirstUnreached ds b) e → IsCause (λ a b. (a ≡ target) × IsFirstAway graph target b) e
away-cause graph target ds (Unreachable a b) settles is = (is.0, first-away graph target b ds settles is.1)
away-cause graph target ds NoMemory settles is = tt

pub apart-cause : (graph : List (List ℕ)) (rows : List Row) (target : ℕ) (e : RouteFault) → IsGraph graph → target < length graph → ((b : ℕ) → b < target → IsToward graph b (row_in rows b))
    → IsCause (λ a b. (a ≡ target) × IsFirstAway graph target b) e → IsCause (IsFirstApart (Adjacent graph) (length graph)) e
apart-cause graph rows target (Unreachable a b) g lt before is = subst (λ (w : ℕ). IsFirstApart (Adjacent graph) (length graph) w b) (sym is.0) (first-apart graph rows target b g lt before is.1)
apart-cause graph rows target NoMemory g lt before is = tt

pub link-cause : (step other : ℕ → ℕ → Type 0) → ((a b : ℕ) → step a b → other a b) → ((a b : ℕ) → other a b → step a b) → (n m : ℕ) (e : RouteFault) → n ≡ m → IsCause (IsFirstApart step n) e → IsCause (IsFirstApart other m) e
link-cause step other by back n m (Unreachable a b) same is = apart-by step other by back n m a b same is
link-cause step other by back n m NoMemory same is = tt

-- ---- the whole
-- the lists of neighbours of a topology in form, in order
pub record AreNeighbours (t : Topology) (graph : List (List ℕ)) : Type 0 where
  pub count : length graph ≡ length t.switches
  pub linked : (a m : ℕ) → a < length t.switches → Adjacent graph a m ↔ Linked t.links a m
  pub rise : (a : ℕ) → a < length t.switches → IsNonDecreasing (neighbours_of graph a)

link-below : (t : Topology) → IsWellFormed t → (a b : ℕ) → Linked t.links a b → (a < length t.switches) × (b < length t.switches)
link-below t form a b (inl h) = let link = All-contains (IsLink (length t.switches)) t.links (a, b) form.links h in let lt = link.lesser in let low = link.below in (omega arith, low)
link-below t form a b (inr h) = let link = All-contains (IsLink (length t.switches)) t.links (b, a) form.links h in let lt = link.lesser in let low = link.below in (low, omega arith)

linked-back : (links : List (ℕ × ℕ)) (a b : ℕ) → Linked links a b → Linked links b a
linked-back links a b (inl h) = inr h
linked-back links a b (inr h) = inl h

nobody : (graph : List (List ℕ)) (a m : ℕ) → length graph ≤ a → Adjacent graph a m → ⊥
nobody graph a m past step = Contains-nil m (subst (λ (ns : List ℕ). Contains ns m) (nothing graph a past) step)
  where
    nothing : (g : List (List ℕ)) (i : ℕ) → length g ≤ i → neighbours_of g i ≡ []
    nothing [] i le = refl
    nothing (x ∷ xs) zero le = absurd (omega arith)
    nothing (x ∷ xs) (suc i) le = nothing xs i (omega arith)

pub to-link : (t : Topology) (graph : List (List ℕ)) → AreNeighbours t graph → (a m : ℕ) → Adjacent graph a m → Linked t.links a m
to-link t graph are a m step = elim (cases_lt a (length graph)) [
  | inl low ↦ (are.linked a m (let count = are.count in omega arith)).0 step
  | inr past ↦ absurd (nobody graph a m past step)
]

pub from-link : (t : Topology) (graph : List (List ℕ)) → IsWellFormed t → AreNeighbours t graph → (a m : ℕ) → Linked t.links a m → Adjacent graph a m
from-link t graph form are a m link = (are.linked a m (link-below t form a m link).0).1 link

pub IsGraph-from : (t : Topology) (graph : List (List ℕ)) → IsWellFormed t → AreNeighbours t graph → IsGraph graph
IsGraph-from t graph form are = record {
  below = λ a m step. (let low = (link-below t form a m (to-link t graph are a m step)).1 in let count = are.count in omega arith);
  both_ways = λ a m step. from-link t graph form are m a (linked-back t.links a m (to-link t graph are a m step));
  rise = λ a lt. are.rise a (let count = are.count in omega arith);
  few = (let count = are.count in let few = form.switches in omega arith);
}

-- the next hop among the neighbours
next-from : (t : Topology) (graph : List (List ℕ)) (target a n : ℕ) (distances : List ℕ) → IsWellFormed t → AreNeighbours t graph → AreDistances graph target distances → IsNearest (neighbours_of graph a) distances n → IsNext (Linked t.links) a target n
next-from t graph target a n distances form are ds best =
    let g = IsGraph-from t graph form are in
    let at : (m d : ℕ) → Adjacent graph a m → IsDistance (Linked t.links) m target d → d ≡ slice_index distances m =
    λ m d step is. distance-same (Adjacent graph) m target d (slice_index distances m) (distance-by (Linked t.links) (Adjacent graph) (from-link t graph form are) (to-link t graph are) m target d is) (ds.each m (g.below a m step)) in
    record {
      neighbour = to-link t graph are a n best.member;
      nearest = λ m d e link near far. (let step = from-link t graph form are a m link in let p = at n d best.member near in let q = at m e step far in let le = best.nearest m step in omega arith);
      least = λ m d link near also. (let step = from-link t graph form are a m link in best.least m step (sym (at m d step also) ∙ at n d best.member near));
    }

pub routes-from : (t : Topology) (graph : List (List ℕ)) (table : Table) → IsWellFormed t → AreNeighbours t graph → length table.rows ≡ length graph → ((b : ℕ) → b < length graph → IsToward graph b (row_in table.rows b))
    → (table.diameter ≡ 0) ⊎ HasDistance table.rows table.diameter → ((d : ℕ) → HasDistance table.rows d → d ≤ table.diameter) → AreRoutes t table
routes-from t graph table form are count rows reached bound =
    let n = length t.switches in
    let to = to-link t graph are in
    let from = from-link t graph form are in
    let size : length graph ≡ n = are.count in
    let distances : (a b : ℕ) → a < n → b < n → IsDistance (Linked t.links) a b (distance_of table a b) =
    λ a b low also. distance-by (Adjacent graph) (Linked t.links) to from a b (distance_of table a b) ((rows b (omega arith)).distances.each a (omega arith)) in
    record {
      count = count ∙ size;
      distances = distances;
      nexts = λ a b low also apart. (
          let row = rows b (omega arith) in
          next-from t graph b a (next_of table a b) (row_in table.rows b).distances form are row.distances (row.nexts a (omega arith) apart));
      diameter = record {
        reached = elim reached [
          | inl zero' ↦ (0, (0, (form.some, (form.some, record { walk = ([], (sym zero', refl)); least = λ xs walk. omega arith }))))
          | inr has ↦ let low : has.target < n = (let lt = has.below in omega arith) in
              let row = rows has.target (omega arith) in
              let i = has.member.0 in
              let in' : i < length (row_in table.rows has.target).distances = has.member.1 in
              let at : table.diameter ≡ distance_of table i has.target = get_or_read (row_in table.rows has.target).distances i table.diameter in' (sym has.member.2) 0 in
              let below : i < n = (let len = row.distances.count in omega arith) in
              (i, (has.target, (below, (low, subst (λ (d : ℕ). IsDistance (Linked t.links) i has.target d) (sym at) (distances i has.target below low)))))
        ];
        greatest = λ a b e low also is. (
            let same = distance-same (Linked t.links) a b e (distance_of table a b) is (distances a b low also) in
            let row = rows b (omega arith) in
            let here : Contains (row_in table.rows b).distances (distance_of table a b) = Contains-get_or (row_in table.rows b).distances a 0 (let len = row.distances.count in omega arith) in
            let le = bound (distance_of table a b) (record { target = b; below = omega arith; member = here }) in omega arith);
      };
    }

pub square-from : (graph : List (List ℕ)) (table : Table) → length table.rows ≡ length graph → ((b : ℕ) → b < length graph → IsToward graph b (row_in table.rows b)) → IsSquare table
square-from graph table count rows = record {
  distances = All-from_get_or (λ (r : Row). length r.distances ≡ length table.rows) table.rows empty_row (λ i lt. (rows i (omega arith)).distances.count ∙ sym count);
  nexts = All-from_get_or (λ (r : Row). length r.nexts ≡ length table.rows) table.rows empty_row (λ i lt. (rows i (omega arith)).count ∙ sym count);
}

pub are-neighbours : (t : Topology) (graph : List (List ℕ)) (names : List (List ℕ)) (links : List (ℕ × ℕ)) → names ≡ t.switches → links ≡ t.links → length graph ≡ length names
    → ((a m : ℕ) → a < length names → Adjacent graph a m ↔ Linked links a m) → ((a : ℕ) → a < length names → IsNonDecreasing (neighbours_of graph a)) → AreNeighbours t graph
are-neighbours t graph names links same also count linked rise =
    let size : length names ≡ length t.switches = ap (λ (ns : List (List ℕ)). length ns) same in
    record {
      count = count ∙ size;
      linked = λ a m lt. subst (λ (ls : List (ℕ × ℕ)). Adjacent graph a m ↔ Linked ls a m) also (linked a m (omega arith));
      rise = λ a lt. rise a (omega arith);
    }
