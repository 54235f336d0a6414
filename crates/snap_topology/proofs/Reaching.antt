-- Steps of a search by levels.
use Rattle.std.proofs.Common.{◌≡◌, ◌∙◌, inl, inr, ℕ, ◌+◌, ◌<◌, ◌≤◌, Bool, true, false, cond, List, [], ◌∷◌, ◌++◌, length, get_or, set, take, Option, Some, None, IsSome, is_some, is_none, refl, sym, ap, subst, arith, get_or-set_same, get_or-set_other, length-append, append-nil}
use Rattle.std.specs.List.{All, Contains, flat_map}
use Rattle.std.proofs.lemmas.Bool.{cases_eq}
use Rattle.std.proofs.lemmas.List.{get_or_read, length-set, take_more}
use Rattle.std.proofs.lemmas.Grind.{flat_map-append}
use Rattle.snap_topology.specs.Graphs.{IsGraph, neighbours_of}
use Rattle.std.proofs.lemmas.List.Sums.{get_or-le-sum_by, sum_by-set}
use Rattle.std.proofs.lemmas.List.Elements.{All-weaker, All-contains, All-contains_itself, Contains-append_left, Contains-append_right, Contains-append_cases}
use Rattle.snap_topology.specs.Search.{distance_in, unreached, Reaches}
use Rattle.snap_topology.proofs.Joined.{Contains-one, Contains-only}

some_if : (o p : Option ℕ) → ((k : ℕ) → o ≡ Some k → p ≡ Some k) → IsSome o → IsSome p
some_if (Some k) p kept is = ap is_some (kept k refl)
some_if None p kept is = cc

pub Reaches-trans : (vs ws : List ℕ) (d : ℕ) (a b c : List (Option ℕ)) (l m n : List ℕ) → Reaches vs d a b l m → Reaches ws d b c m n → Reaches (vs ++ ws) d a c l n
Reaches-trans vs ws d a b c l m n one two = record {
  count = two.count ∙ one.count;
  kept = λ v k is. two.kept v k (one.kept v k is);
  fresh = λ v k is. elim (two.fresh v k is) [
    | inl before ↦ elim (one.fresh v k before) [
      | inl start ↦ inl start
      | inr now ↦ inr (now.0, (Contains-append_left vs ws v now.1.0, two.held v now.1.1))
    ]
    | inr now ↦ inr (now.0, (Contains-append_right vs ws v now.1.0, now.1.1))
  ];
  reached = λ v h. elim (Contains-append_cases vs ws v h) [
    | inl left ↦ some_if (distance_in b v) (distance_in c v) (λ k is. two.kept v k is) (one.reached v left)
    | inr right ↦ two.reached v right
  ];
  held = λ v h. two.held v (one.held v h);
  added = λ v h. elim (two.added v h) [
    | inl before ↦ elim (one.added v before) [
      | inl start ↦ inl start
      | inr now ↦ inr (Contains-append_left vs ws v now.0, two.kept v d now.1)
    ]
    | inr now ↦ inr (Contains-append_right vs ws v now.0, now.1)
  ];
  fewer = omega (arith, one.fewer, two.fewer);
}

known : (o : Option ℕ) → is_none o ≡ false → IsSome o
known (Some k) is = refl
known None is = cc

not-known : (o : Option ℕ) (k : ℕ) → is_none o ≡ true → o ≡ Some k → ⊥
not-known (Some j) k is e = cc
not-known None k is e = cc

-- a switch that was reached before
pub Reaches-known : (x d : ℕ) (ds : List (Option ℕ)) (level : List ℕ) → is_none (distance_in ds x) ≡ false → Reaches (x ∷ []) d ds ds level level
Reaches-known x d ds level is = record {
  count = refl;
  kept = λ v k e. e;
  fresh = λ v k e. inl e;
  reached = λ v h. subst (λ (w : ℕ). IsSome (distance_in ds w)) (Contains-only x v h) (known (distance_in ds x) is);
  held = λ v h. h;
  added = λ v h. inl h;
  fewer = refl;
}

unreached-set : (x d : ℕ) (ds : List (Option ℕ)) → x < length ds → is_none (distance_in ds x) ≡ true → unreached (set ds x (Some d)) + 1 ≡ unreached ds
unreached-set x d ds lt is =
    let sums = sum_by-set (λ (o : Option ℕ). cond (is_none o) 1 0) ds x (Some d) None lt in
    let one : Bool → ℕ = λ b. cond b 1 0 in let here = ap one is in
    omega (arith, sums, here)

-- a switch that is reached now
pub Reaches-fresh : (x d : ℕ) (ds : List (Option ℕ)) (level : List ℕ) → x < length ds → is_none (distance_in ds x) ≡ true → Reaches (x ∷ []) d ds (set ds x (Some d)) level (level ++ x ∷ [])
Reaches-fresh x d ds level lt is = record {
  count = length-set ds x (Some d);
  kept = λ v k e. elim (cases_eq v x) [
    | inl same ↦ absurd (not-known (distance_in ds x) k is (ap (λ w. distance_in ds w) (sym same) ∙ e))
    | inr other ↦ get_or-set_other ds x v (Some d) None other ∙ e
  ];
  fresh = λ v k e. elim (cases_eq v x) [
    | inl same ↦ inr (
      (let both : Some d ≡ Some k = sym (get_or-set_same ds x (Some d) None lt) ∙ ap (λ w. distance_in (set ds x (Some d)) w) (sym same) ∙ e in cc),
      (subst (λ (w : ℕ). Contains (x ∷ []) w) (sym same) (Contains-one x), subst (λ (w : ℕ). Contains (level ++ x ∷ []) w) (sym same) (Contains-append_right level (x ∷ []) x (Contains-one x))),
    )
    | inr other ↦ inl (sym (get_or-set_other ds x v (Some d) None other) ∙ e)
  ];
  reached = λ v h. subst (λ (w : ℕ). IsSome (distance_in (set ds x (Some d)) w)) (Contains-only x v h) (ap is_some (get_or-set_same ds x (Some d) None lt));
  held = λ v h. Contains-append_left level (x ∷ []) v h;
  added = λ v h. elim (Contains-append_cases level (x ∷ []) v h) [
    | inl before ↦ inl before
    | inr now ↦ inr (now, ap (λ w. distance_in (set ds x (Some d)) w) (sym (Contains-only x v now)) ∙ get_or-set_same ds x (Some d) None lt)
  ];
  fewer = omega (arith, unreached-set x d ds lt is, length-append level (x ∷ []));
}

pub reaches-as : (vs : List ℕ) (d : ℕ) (a b b' : List (Option ℕ)) (l m m' : List ℕ) → b' ≡ b → m' ≡ m → Reaches vs d a b l m → Reaches vs d a b' l m'
reaches-as vs d a b b' l m m' same also r = subst (λ (x : List (Option ℕ)). Reaches vs d a x l m') (sym same) (subst (λ (x : List ℕ). Reaches vs d a b l x) (sym also) r)

-- one more switch of a list
reach-more : (vs : List ℕ) (i d : ℕ) (old now new : List (Option ℕ)) (l m n : List ℕ) → i < length vs → Reaches (take i vs) d old now l m → Reaches (get_or vs i 0 ∷ []) d now new m n → Reaches (take (i + 1) vs) d old new l n
reach-more vs i d old now new l m n lt one two = subst (λ (ws : List ℕ). Reaches ws d old new l n) (sym (take_more vs i 0 lt)) (Reaches-trans (take i vs) (get_or vs i 0 ∷ []) d old now new l m n one two)

pub reach-fresh : (vs : List ℕ) (i d : ℕ) (old now new : List (Option ℕ)) (l m n : List ℕ) → i < length vs → get_or vs i 0 < length now → is_none (distance_in now (get_or vs i 0)) ≡ true
    → new ≡ set now (get_or vs i 0) (Some d) → n ≡ m ++ get_or vs i 0 ∷ [] → Reaches (take i vs) d old now l m → Reaches (take (i + 1) vs) d old new l n
reach-fresh vs i d old now new l m n lt low none put more one =
    reach-more vs i d old now new l m n lt one (reaches-as (get_or vs i 0 ∷ []) d now _ new m _ n put more (Reaches-fresh (get_or vs i 0) d now m low none))

pub reach-known : (vs : List ℕ) (i d : ℕ) (old now new : List (Option ℕ)) (l m n : List ℕ) → i < length vs → is_none (distance_in now (get_or vs i 0)) ≡ false
    → new ≡ now → n ≡ m → Reaches (take i vs) d old now l m → Reaches (take (i + 1) vs) d old new l n
reach-known vs i d old now new l m n lt some put more one =
    reach-more vs i d old now new l m n lt one (reaches-as (get_or vs i 0 ∷ []) d now _ new m _ n put more (Reaches-known (get_or vs i 0) d now m some))

-- the neighbours of one more switch of a level
pub reach-level : (graph : List (List ℕ)) (level : List ℕ) (i x d : ℕ) (ns : List ℕ) (old now new : List (Option ℕ)) (l m n : List ℕ) → i < length level → x ≡ get_or level i 0 → ns ≡ neighbours_of graph x
    → Reaches (flat_map (neighbours_of graph) (take i level)) d old now l m → Reaches ns d now new m n → Reaches (flat_map (neighbours_of graph) (take (i + 1) level)) d old new l n
reach-level graph level i x d ns old now new l m n lt at are one two =
    let f = neighbours_of graph in
    let more : flat_map f (take (i + 1) level) ≡ flat_map f (take i level) ++ ns =
    ap (flat_map f) (take_more level i 0 lt) ∙ flat_map-append f (take i level) (get_or level i 0 ∷ []) ∙ ap (λ (ys : List ℕ). flat_map f (take i level) ++ ys) (append-nil (f (get_or level i 0)) ∙ ap f (sym at) ∙ sym are) in
    subst (λ (ws : List ℕ). Reaches ws d old new l n) (sym more) (Reaches-trans (flat_map f (take i level)) ns d old now new l m n one two)

-- the neighbours that an index reads
pub neighbours_of-read : (graph : List (List ℕ)) (x : ℕ) (item ns : List ℕ) → x < length graph → item ≡ get_or graph x item → ns ≡ item → ns ≡ neighbours_of graph x
neighbours_of-read graph x item ns lt is same = same ∙ get_or_read graph x item lt is []

pub neighbours_of-below : (graph : List (List ℕ)) (ds : List (Option ℕ)) (x : ℕ) (ns : List ℕ) → IsGraph graph → length ds ≡ length graph → ns ≡ neighbours_of graph x → All (λ v. v < length ds) ns
neighbours_of-below graph ds x ns g count are = subst (λ (vs : List ℕ). All (λ v. v < length ds) vs) (sym are)
    (All-weaker (Contains (neighbours_of graph x)) (λ v. v < length ds) (λ v h. let low = g.below x v h in omega arith) (neighbours_of graph x) (All-contains_itself (neighbours_of graph x)))

-- where all are reached, a level more changes nothing
known-of-all : (ds : List (Option ℕ)) (v : ℕ) → unreached ds ≡ 0 → v < length ds → IsSome (distance_in ds v)
known-of-all ds v none lt = by (distance_in ds v) (get_or-le-sum_by (λ (o : Option ℕ). cond (is_none o) 1 0) ds v None lt)
  where
    by : (o : Option ℕ) → cond (is_none o) 1 0 ≤ unreached ds → IsSome o
    by (Some d) low = refl
    by None low = let one : 1 ≤ unreached ds = low in absurd (omega (arith, none))

Reaches-idle : (vs : List ℕ) (d : ℕ) (ds : List (Option ℕ)) (level : List ℕ) → unreached ds ≡ 0 → All (λ v. v < length ds) vs → Reaches vs d ds ds level level
Reaches-idle vs d ds level none below = record {
  count = refl;
  kept = λ v k e. e;
  fresh = λ v k e. inl e;
  reached = λ v h. known-of-all ds v none (All-contains (λ w. w < length ds) vs v below h);
  held = λ v h. h;
  added = λ v h. inl h;
  fewer = refl;
}

pub reach-idle : (graph : List (List ℕ)) (level : List ℕ) (i d left : ℕ) (old now new : List (Option ℕ)) (m n : List ℕ) → IsGraph graph → i < length level → length old ≡ length graph → unreached old ≤ left → left ≤ length m → new ≡ now → n ≡ m
    → Reaches (flat_map (neighbours_of graph) (take i level)) d old now [] m → Reaches (flat_map (neighbours_of graph) (take (i + 1) level)) d old new [] n
reach-idle graph level i d left old now new m n g lt count few all put more one =
    let x = get_or level i 0 in
    let ns = neighbours_of graph x in
    let size : length now ≡ length graph = one.count ∙ count in
    let idle = Reaches-idle ns d now m (omega (arith, one.fewer)) (neighbours_of-below graph now x ns g size refl) in
    reach-level graph level i x d ns old now new [] m n lt refl refl one (reaches-as ns d now now new m m n put more idle)
