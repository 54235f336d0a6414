-- The nearest of some switches in order, and the greatest of some distances.
use Rattle.std.proofs.Common.{◌≡◌, ◌≢◌, ◌∙◌, ◌⊎◌, inl, inr, ℕ, ◌+◌, ◌<◌, ◌≤◌, max, List, [], ◌∷◌, ◌++◌, length, length-append, get_or, take, refl, Option, Some, None, MatchOption, unwrap_or, sym, ap, subst, arith, slice_index}
use Rattle.std.specs.List.{Contains}
use Rattle.std.specs.List.Sorted.{IsNonDecreasing}
use Rattle.std.specs.Ordering.{nat_cmp, ord_max}
use Rattle.std.proofs.lemmas.Bool.{cases_eq, cases_lt}
use Rattle.std.proofs.lemmas.Bool.Decides.{nat_tests}
use Rattle.std.proofs.lemmas.List.{take_more, get_or_push, get_or_append_left, length-map, map-append}
use Rattle.std.proofs.lemmas.Grind.{common_steps, get_or_default_zero}
use Rattle.snap_topology.specs.Graphs.{Adjacent, IsGraph, neighbours_of}
use Rattle.std.proofs.lemmas.List.Elements.{Contains-push_cases, Contains-get_or}
use Rattle.snap_topology.specs.Hops.{AreDistances, AreNexts, HasDistance, IsLeastNearer, IsNearest, IsToward, NoneNearer}
use Rattle.snap_topology.specs.Tables.{Row, row_by, row_in}
use Rattle.snap_topology.specs.Walks.{IsWalk}

-- none of the first i switches is nearer than d
abbrev pub NoneBefore : (ms distances : List ℕ) (d i : ℕ) → Type 0
NoneBefore ms distances d i = (k : ℕ) → k < i → d ≤ slice_index distances (slice_index ms k)

pub NoneBefore-more : (ms distances : List ℕ) (d i x : ℕ) → x ≡ slice_index ms i → d ≤ slice_index distances x → NoneBefore ms distances d i → NoneBefore ms distances d (i + 1)
NoneBefore-more ms distances d i x is far before k lt = elim (cases_eq k i) [
  | inl same ↦ subst (λ (w : ℕ). d ≤ slice_index distances w) (is ∙ ap (slice_index ms) (sym same)) far
  | inr other ↦ before k (omega arith)
]

-- the value at an index where a list contains it
at-index : (ms : List ℕ) (m : ℕ) (h : Contains ms m) → slice_index ms h.0 ≡ m
at-index ms m h = sym (get_or_default_zero ms h.0 m h.1) ∙ h.2

pub NoneNearer-all : (ms distances : List ℕ) (d i : ℕ) → length ms ≤ i → NoneBefore ms distances d i → NoneNearer ms distances d
NoneNearer-all ms distances d i all before m h =
    subst (λ (w : ℕ). d ≤ slice_index distances w) (at-index ms m h) (before h.0 (let lt = h.1 in omega arith))

-- in order, the first that is nearer is the one of least number
pub IsLeastNearer-first : (ms distances : List ℕ) (d i x : ℕ) → i < length ms → x ≡ slice_index ms i → IsNonDecreasing ms → slice_index distances x < d → NoneBefore ms distances d i → IsLeastNearer ms distances d x
IsLeastNearer-first ms distances d i x lt is rise near before = record {
  member = subst (λ (w : ℕ). Contains ms w) (sym is) (Contains-get_or ms i 0 lt);
  nearer = near;
  least = λ m h nearer. elim (cases_lt h.0 i) [
    | inl early ↦ absurd (omega (arith, before h.0 early, ap (slice_index distances) (at-index ms m h)))
    | inr late ↦ omega (arith, rise i h.0 0 late h.1, at-index ms m h)
  ];
}

-- ---- the greatest distance
pub greatest-more : (ds : List ℕ) (i most new : ℕ) → i < length ds → new ≡ max most (get_or ds i 0) → (most ≡ 0) ⊎ Contains ds most → ((d : ℕ) → Contains (take i ds) d → d ≤ most)
    → ((new ≡ 0) ⊎ Contains ds new) × ((d : ℕ) → Contains (take (i + 1) ds) d → d ≤ new)
greatest-more ds i most new lt is reached bound =
    let x = get_or ds i 0 in
    let here : Contains ds x = Contains-get_or ds i 0 lt in (
      elim (cases_eq new x) [
        | inl same ↦ inr (subst (λ (w : ℕ). Contains ds w) (sym same) here)
        | inr other ↦ let kept : new ≡ most = omega arith in
            elim reached [ inl zero' ↦ inl (kept ∙ zero') | inr there ↦ inr (subst (λ (w : ℕ). Contains ds w) (sym kept) there) ]
      ],
      λ d h. elim (Contains-push_cases (take i ds) x d (subst (λ (ys : List ℕ). Contains ys d) (take_more ds i 0 lt) h)) [ inl before ↦ omega (arith, bound d before) | inr now ↦ omega arith ],
    )

pub diameter-more : (rows : List Row) (i most top new : ℕ) (ds : List ℕ) → i < length rows → ds ≡ (row_in rows i).distances → new ≡ max most top → (top ≡ 0) ⊎ Contains ds top → ((d : ℕ) → Contains ds d → d ≤ top)
    → (most ≡ 0) ⊎ HasDistance rows most → ((t d : ℕ) → t < i → Contains (row_in rows t).distances d → d ≤ most)
    → ((new ≡ 0) ⊎ HasDistance rows new) × ((t d : ℕ) → t < i + 1 → Contains (row_in rows t).distances d → d ≤ new)
diameter-more rows i most top new ds lt are is found bound reached bounds = (
  elim (cases_eq new most) [
    | inl same ↦ elim reached [ inl zero' ↦ inl (same ∙ zero') | inr there ↦ inr (subst (λ (w : ℕ). HasDistance rows w) (sym same) there) ]
    | inr other ↦ let taken : new ≡ top = omega arith in
        elim found [
          | inl zero' ↦ inl (taken ∙ zero')
          | inr there ↦ inr (subst (λ (w : ℕ). HasDistance rows w) (sym taken) (record { target = i; below = lt; member = subst (λ (xs : List ℕ). Contains xs top) are there }))
        ]
  ],
  λ t d low h. elim (cases_eq t i) [
    | inl same ↦ omega (arith, bound d (subst (λ (xs : List ℕ). Contains xs d) (sym are) (subst (λ (w : ℕ). Contains (row_in rows w).distances d) same h)))
    | inr other ↦ omega (arith, bounds t d (omega arith) h)
  ],
)

pub take-all : {X : Type 0} (xs : List X) (i : ℕ) → length xs ≤ i → take i xs ≡ xs
take-all xs i all = grind (arith, common_steps)

-- ---- next hops
-- a neighbour is at most one nearer
neighbour-far : (graph : List (List ℕ)) (target : ℕ) (distances : List ℕ) (a m : ℕ) → IsGraph graph → AreDistances graph target distances → a < length graph → Adjacent graph a m → slice_index distances a ≤ slice_index distances m + 1
neighbour-far graph target distances a m g ds lt step =
    let on = (ds.each m (g.below a m step)).walk in
    omega (arith, on.1.0, (ds.each a lt).least (m ∷ on.0) (step, on.1.1))

-- the first step of a walk to another switch, and what is left of it
first-step : (step : ℕ → ℕ → Type 0) (xs : List ℕ) (a b : ℕ) → a ≢ b → IsWalk step a xs b → (m : ℕ) × (step a m × ((ys : List ℕ) × (IsWalk step m ys b × (length ys < length xs))))
first-step step [] a b apart walk = absurd (apart walk)
first-step step (x ∷ xs) a b apart walk = (x, (walk.0, (xs, (walk.1, omega arith))))

-- of another switch than the target some neighbour is nearer
some-nearer : (graph : List (List ℕ)) (target : ℕ) (distances : List ℕ) (a : ℕ) → IsGraph graph → AreDistances graph target distances → a < length graph → a ≢ target → NoneNearer (neighbours_of graph a) distances (slice_index distances a) → ⊥
some-nearer graph target distances a g ds lt apart none =
    let way = (ds.each a lt).walk in
    let first = first-step (Adjacent graph) way.0 a target apart way.1.1 in
    omega (arith, way.1.0, first.1.1.1.1, (ds.each first.0 (g.below a first.0 first.1.0)).least first.1.1.0 first.1.1.1.0, none first.0 first.1.0)

pub next-nearest : (graph : List (List ℕ)) (target : ℕ) (distances : List ℕ) (a : ℕ) (o : Option ℕ) → IsGraph graph → AreDistances graph target distances → a < length graph
    → MatchOption o (NoneNearer (neighbours_of graph a) distances (slice_index distances a)) (IsLeastNearer (neighbours_of graph a) distances (slice_index distances a)) → a ≢ target → IsNearest (neighbours_of graph a) distances (unwrap_or o target)
next-nearest graph target distances a (Some n) g ds lt is apart = record {
  member = is.member;
  nearest = λ m h. omega (arith, is.nearer, neighbour-far graph target distances a m g ds lt h);
  least = λ m h tie. is.least m h (omega (arith, tie, is.nearer));
}
next-nearest graph target distances a None g ds lt is apart = absurd (some-nearer graph target distances a g ds lt apart is)

pub nexts-more : (graph : List (List ℕ)) (target : ℕ) (distances nexts new : List ℕ) (n next : ℕ) → length nexts ≡ n → new ≡ nexts ++ next ∷ [] → ((a : ℕ) → a < n → a ≢ target → IsNearest (neighbours_of graph a) distances (slice_index nexts a))
    → (n ≢ target → IsNearest (neighbours_of graph n) distances next) → (a : ℕ) → a < n + 1 → a ≢ target → IsNearest (neighbours_of graph a) distances (slice_index new a)
nexts-more graph target distances nexts new n next count is before now a lt apart =
    elim (cases_eq a n) [
      | inl same ↦ let at : slice_index new a ≡ next = ap (λ (xs : List ℕ). slice_index xs a) is ∙ get_or_push nexts next 0 a (count ∙ sym same) in
          subst (λ (x : ℕ). IsNearest (neighbours_of graph a) distances x) (sym at)
          (subst (λ (b : ℕ). IsNearest (neighbours_of graph b) distances next) (sym same) (now (λ here. apart (same ∙ here))))
      | inr other ↦ let low : a < length nexts = omega arith in
          let at : slice_index new a ≡ slice_index nexts a = ap (λ (xs : List ℕ). slice_index xs a) is ∙ get_or_append_left nexts (next ∷ []) 0 a low in
          subst (λ (x : ℕ). IsNearest (neighbours_of graph a) distances x) (sym at) (before a (omega arith) apart)
    ]

-- the first n switches have their hops
pub record HopsUpTo (graph : List (List ℕ)) (target : ℕ) (distances : List ℕ) (hops : List (ℕ × ℕ)) (n : ℕ) : Type 0 where
  pub count : length hops ≡ n
  pub known : (row_by hops).distances ≡ take n distances
  pub nexts : (a : ℕ) → a < n → a ≢ target → IsNearest (neighbours_of graph a) distances (slice_index (row_by hops).nexts a)

pub HopsUpTo-none : (graph : List (List ℕ)) (target : ℕ) (distances : List ℕ) → HopsUpTo graph target distances [] 0
HopsUpTo-none graph target distances = record { count = refl; known = refl; nexts = λ a lt apart. absurd (omega arith) }

pub HopsUpTo-more : (graph : List (List ℕ)) (target : ℕ) (distances : List ℕ) (hops new : List (ℕ × ℕ)) (n next : ℕ) → n < length distances → new ≡ hops ++ (slice_index distances n, next) ∷ []
    → HopsUpTo graph target distances hops n → (n ≢ target → IsNearest (neighbours_of graph n) distances next) → HopsUpTo graph target distances new (n + 1)
HopsUpTo-more graph target distances hops new n next lt is before now =
    let hop : ℕ × ℕ = (slice_index distances n, next) in
    record {
      count = ap (λ (hs : List (ℕ × ℕ)). length hs) is ∙ omega (arith, length-append hops (hop ∷ []), before.count);
      known = ap (λ (hs : List (ℕ × ℕ)). (row_by hs).distances) is ∙ map-append (λ (h : ℕ × ℕ). h.0) hops (hop ∷ []) ∙ ap (λ ds. ds ++ slice_index distances n ∷ []) before.known ∙ sym (take_more distances n 0 lt);
      nexts = nexts-more graph target distances (row_by hops).nexts (row_by new).nexts n next (length-map hops (λ (h : ℕ × ℕ). h.1) ∙ before.count)
          (ap (λ (hs : List (ℕ × ℕ)). (row_by hs).nexts) is ∙ map-append (λ (h : ℕ × ℕ). h.1) hops (hop ∷ [])) before.nexts now;
    }

pub HopsUpTo-all : (graph : List (List ℕ)) (target : ℕ) (distances : List ℕ) (hops : List (ℕ × ℕ)) → AreDistances graph target distances → HopsUpTo graph target distances hops (length graph) → IsToward graph target (row_by hops)
HopsUpTo-all graph target distances hops are all =
    let same : (row_by hops).distances ≡ distances = all.known ∙ take-all distances (length graph) (omega (arith, are.count)) in
    record {
      distances = subst (λ ds. AreDistances graph target ds) (sym same) are;
      count = length-map hops (λ (h : ℕ × ℕ). h.1) ∙ all.count;
      nexts = subst (λ ds. AreNexts graph target ds (row_by hops).nexts) (sym same) (λ a lt apart. all.nexts a lt apart);
    }

pub ord_max-max : (a b : ℕ) → ord_max nat_cmp a b ≡ max a b
ord_max-max a b = grind (arith, nat_tests)
