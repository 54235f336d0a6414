-- What a search knows after each level, and at its end.
use Rattle.std.proofs.Common.{◌≡◌, ◌∙◌, inl, inr, ℕ, zero, suc, ◌+◌, ◌-◌, ◌<◌, ◌≤◌, List, [], ◌∷◌, length, take, drop, ◌++◌, replicate, Option, Some, None, IsSome, is_none, MatchOption, refl, sym, ap, subst, arith}
use Rattle.std.specs.Option.{IsSomeAnd}
use Rattle.std.specs.List.{Contains, flat_map}
use Rattle.std.proofs.lemmas.Bool.{cases_eq}
use Rattle.std.proofs.lemmas.Grind.{common_steps}
use Rattle.std.proofs.lemmas.List.{length-replicate}
use Rattle.std.proofs.lemmas.List.Sums.{count_by-le-length}
use Rattle.snap_topology.specs.Walks.{IsWalk, HasWalk, IsDistance}
use Rattle.snap_topology.specs.Graphs.{Adjacent, IsGraph, neighbours_of}
use Rattle.snap_topology.specs.Search.{distance_in, unreached, Reaches, Settles}
use Rattle.snap_topology.proofs.Joined.{Contains-one, Contains-only, Contains-nil, Contains-flat_map, flat_map-Contains}

-- the switches up to distance d are known, and those of the level are at d
pub record Levels (graph : List (List ℕ)) (target d : ℕ) (ds : List (Option ℕ)) (level : List ℕ) : Type 0 where
  pub count : length ds ≡ length graph
  pub upto : (v k : ℕ) → distance_in ds v ≡ Some k → k ≤ d
  pub walks : (v k : ℕ) → distance_in ds v ≡ Some k → (xs : List ℕ) × ((length xs ≡ k) × IsWalk (Adjacent graph) v xs target)
  pub start : distance_in ds target ≡ Some 0
  pub closed : (v x k : ℕ) → Adjacent graph v x → distance_in ds x ≡ Some k → k < d → IsSomeAnd (distance_in ds v) (λ j. j ≤ k + 1)
  pub last : (v : ℕ) → distance_in ds v ≡ Some d → Contains level v
  pub members : (v : ℕ) → Contains level v → (v < length graph) × (distance_in ds v ≡ Some d)
  pub room : d + unreached ds + length level ≤ length graph

nowhere-at : (n v : ℕ) → distance_in (replicate n None) v ≡ None
nowhere-at zero v = refl
nowhere-at (suc n) zero = refl
nowhere-at (suc n) (suc v) = nowhere-at n v

absent : {k : ℕ} (o : Option ℕ) → o ≡ None → o ≡ Some k → ⊥
absent o none some = cc

-- once the target alone is reached
pub Levels-first : (graph : List (List ℕ)) (target : ℕ) (old new : List (Option ℕ)) (level : List ℕ) → target < length graph → old ≡ replicate (length graph) None → Reaches (target ∷ []) 0 old new [] level → Levels graph target 0 new level
Levels-first graph target old new level lt start one =
    let size : length old ≡ length graph = ap (λ (xs : List (Option ℕ)). length xs) start ∙ length-replicate (length graph) None in
    let nothing : (v : ℕ) → distance_in old v ≡ None = λ v. ap (λ (xs : List (Option ℕ)). distance_in xs v) start ∙ nowhere-at (length graph) v in
    let fresh : (v k : ℕ) → distance_in new v ≡ Some k → (k ≡ 0) × (Contains (target ∷ []) v × Contains level v) = λ v k is. elim (one.fresh v k is) [ inl before ↦ absurd (absent (distance_in old v) (nothing v) before) | inr now ↦ now ] in
    let found : (v k : ℕ) → distance_in new v ≡ Some k → target ≡ v = λ v k is. Contains-only target v (fresh v k is).1.0 in
    let added : (v : ℕ) → Contains level v → Contains (target ∷ []) v × (distance_in new v ≡ Some 0) = λ v h. elim (one.added v h) [ inl before ↦ absurd (Contains-nil v before) | inr now ↦ now ] in
    record {
      count = one.count ∙ size;
      upto = λ v k is. let zero' = (fresh v k is).0 in omega arith;
      walks = λ v k is. ([], (sym (fresh v k is).0, sym (found v k is)));
      start = at-target (distance_in new target) (one.reached target (Contains-one target)) (λ k is. (fresh target k is).0);
      closed = λ v x k step is lt. absurd (omega arith);
      last = λ v is. (fresh v 0 is).1.1;
      members = λ v h. (subst (λ (w : ℕ). w < length graph) (Contains-only target v (added v h).0) lt, (added v h).1);
      room = omega (arith, one.fewer, count_by-le-length is_none old);
    }
  where
    at-target : (o : Option ℕ) → IsSome o → ((k : ℕ) → o ≡ Some k → k ≡ 0) → o ≡ Some 0
    at-target (Some k) is zero' = ap (λ (j : ℕ). Some j) (zero' k refl)
    at-target None is zero' = cc

-- what holds of a known value
some-and : (o : Option ℕ) (P : ℕ → Type 0) → IsSome o → ((j : ℕ) → o ≡ Some j → P j) → IsSomeAnd o P
some-and (Some j) P is all = all j refl
some-and None P is all = cc

some-of : (o : Option ℕ) (P : ℕ → Type 0) → IsSomeAnd o P → (j : ℕ) × ((o ≡ Some j) × P j)
some-of (Some j) P h = (j, (refl, h))
some-of None P h = absurd h

kept-and : (o p : Option ℕ) (P : ℕ → Type 0) → ((k : ℕ) → o ≡ Some k → p ≡ Some k) → IsSomeAnd o P → IsSomeAnd p P
kept-and o p P kept h = let w = some-of o P h in subst (λ (q : Option ℕ). IsSomeAnd q P) (sym (kept w.0 w.1.0)) w.1.1

-- one more level
pub Levels-next : (graph : List (List ℕ)) (target d : ℕ) (old new : List (Option ℕ)) (level next : List ℕ) → IsGraph graph → 0 < length level → Levels graph target d old level
    → Reaches (flat_map (neighbours_of graph) level) (d + 1) old new [] next → Levels graph target (d + 1) new next
Levels-next graph target d old new level next g some before one =
    let f = neighbours_of graph in
    let upto : (v k : ℕ) → distance_in new v ≡ Some k → k ≤ d + 1 = λ v k is. elim (one.fresh v k is) [ inl was ↦ omega (arith, before.upto v k was) | inr now ↦ let e = now.0 in omega arith ] in
    let older : (v k : ℕ) → distance_in new v ≡ Some k → k < d + 1 → distance_in old v ≡ Some k = λ v k is lt. elim (one.fresh v k is) [ inl was ↦ was | inr now ↦ let e = now.0 in absurd (omega arith) ] in
    let added : (v : ℕ) → Contains next v → Contains (flat_map f level) v × (distance_in new v ≡ Some (d + 1)) = λ v h. elim (one.added v h) [ inl was ↦ absurd (Contains-nil v was) | inr now ↦ now ] in
    record {
      count = one.count ∙ before.count;
      upto = upto;
      walks = λ v k is. elim (one.fresh v k is) [
        | inl was ↦ before.walks v k was
        | inr now ↦ let x = flat_map-Contains f level v now.1.0 in
            let w = before.walks x.0 d (before.members x.0 x.1.0).1 in
            (x.0 ∷ w.0, ((let e = w.1.0 in let k' = now.0 in omega arith), (g.both_ways x.0 v x.1.1, w.1.1)))
      ];
      start = one.kept target 0 before.start;
      closed = λ v x k step is lt. elim (cases_eq k d) [
        | inl same ↦ let was = older x k is lt in
            let here = before.last x (was ∙ ap (λ (j : ℕ). Some j) same) in
            let reached = one.reached v (Contains-flat_map f level x v here (g.both_ways v x step)) in
            some-and (distance_in new v) (λ j. j ≤ k + 1) reached (λ j e. let bound = upto v j e in omega arith)
        | inr other ↦ kept-and (distance_in old v) (distance_in new v) (λ j. j ≤ k + 1) (λ j e. one.kept v j e) (before.closed v x k step (older x k is lt) (omega arith))
      ];
      last = λ v is. elim (one.fresh v (d + 1) is) [ inl was ↦ absurd (omega (arith, before.upto v (d + 1) was)) | inr now ↦ now.1.1 ];
      members = λ v h. let x = flat_map-Contains f level v (added v h).0 in (g.below x.0 v x.1.1, (added v h).1);
      room = omega (arith, one.fewer, before.room);
    }

some-from : (o : Option ℕ) (n j : ℕ) → o ≡ Some j → j ≤ n → IsSomeAnd o (λ i. i ≤ n)
some-from o n j is le = subst (λ (p : Option ℕ). IsSomeAnd p (λ i. i ≤ n)) (sym is) le

-- at the end each walk is as long as a known distance
closed-walk : (graph : List (List ℕ)) (target d : ℕ) (ds : List (Option ℕ)) (level : List ℕ) → length level ≡ 0 → Levels graph target d ds level → (xs : List ℕ) (v : ℕ) → IsWalk (Adjacent graph) v xs target → IsSomeAnd (distance_in ds v) (λ j. j ≤ length xs)
closed-walk graph target d ds level none levels [] v walk =
    some-from (distance_in ds v) 0 0 (ap (λ (w : ℕ). distance_in ds w) walk ∙ levels.start) (omega arith)
closed-walk graph target d ds level none levels (x ∷ xs) v walk =
    let at = some-of (distance_in ds x) (λ j. j ≤ length xs) (closed-walk graph target d ds level none levels xs x walk.1) in
    elim (cases_eq at.0 d) [
      | inl same ↦ absurd (omega (arith, (levels.last x (at.1.0 ∙ ap (λ (j : ℕ). Some j) same)).1))
      | inr other ↦ let low = levels.upto x at.0 at.1.0 in
          let step = some-of (distance_in ds v) (λ j. j ≤ at.0 + 1) (levels.closed v x at.0 walk.0 at.1.0 (omega arith)) in
          some-from (distance_in ds v) (length (x ∷ xs)) step.0 step.1.0 (let a = step.1.1 in let b = at.1.1 in omega arith)
    ]

settled : (graph : List (List ℕ)) (target v : ℕ) (o : Option ℕ) → ((k : ℕ) → o ≡ Some k → (xs : List ℕ) × ((length xs ≡ k) × IsWalk (Adjacent graph) v xs target))
    → ((xs : List ℕ) → IsWalk (Adjacent graph) v xs target → IsSomeAnd o (λ j. j ≤ length xs)) → MatchOption o (HasWalk (Adjacent graph) v target → ⊥) (IsDistance (Adjacent graph) v target)
settled graph target v (Some k) walks least = record { walk = walks k refl; least = λ xs walk. least xs walk }
settled graph target v None walks least = λ h. least h.0 h.1

-- once a level is empty each distance is known
pub Settles-from : (graph : List (List ℕ)) (target d : ℕ) (ds : List (Option ℕ)) (level : List ℕ) → length level ≡ 0 → Levels graph target d ds level → Settles graph target ds
Settles-from graph target d ds level none levels = record {
  count = levels.count;
  each = λ v lt. settled graph target v (distance_in ds v) (λ k is. levels.walks v k is) (λ xs walk. closed-walk graph target d ds level none levels xs v walk);
}

-- a list of n stays one where something is written back through a slice of it
pub length-written_back : {X : Type 0} (n : ℕ) (new old : List X) → n ≡ length old → length (take n (new ++ drop (length new) old)) ≡ n
length-written_back n new old all = grind (arith, common_steps)
