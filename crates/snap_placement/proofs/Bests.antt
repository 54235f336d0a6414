-- The best picks, one choice after the other.
use Rattle.std.proofs.Common.{◌≡◌, ◌≢◌, ◌∙◌, ℕ, zero, suc, ◌+◌, ◌*◌, ◌<◌, ◌≤◌, List, [], ◌∷◌, ◌++◌, All, Contains, append_assoc, length, get_or, drop, map, slice_index, slice_index_or, refl, sym, ap, subst, arith}
use Rattle.std.specs.List.{AllByRecursion, sum_by}
use Rattle.std.specs.Ordering.{nat_cmp, ordering_then}
use Rattle.std.specs.Cmp.Lexicographic.{slice_cmp}
use Rattle.std.specs.declared.cmp.Ordering.{Ordering}
use Rattle.std.specs.declared.cmp.Ordering.TheVariants.{Less, Equal, Greater}
use Rattle.std.proofs.lemmas.Cmp.{ranked}
use Rattle.std.proofs.lemmas.List.{drop_more}
use Rattle.std.proofs.lemmas.List.Elements.{All-contains, All-cons, All-get_or, recursion_from_All}
use Rattle.snap_topology.specs.Tables.{Table, distance_of}
use Rattle.snap_placement.specs.declared.trips.Trip.{Trip}
use Rattle.snap_placement.specs.Costs.{cost_from, cost_of}
use Rattle.snap_placement.specs.Placements.{places_of}
use Rattle.snap_placement.specs.Steps.{IsBest, IsCheapest, IsPlan, IsRow, IsStage, Follows, Picks, choices, over, path}
use Rattle.snap_placement.proofs.Costing.{cost_from-first, cost_of-first, weight_of}

-- ---- lists in order

ahead-steps : (n y : ℕ) (xs ys : List ℕ) (o : Ordering) → o ≡ nat_cmp n y → n ≤ y → (n ≡ y → slice_cmp nat_cmp xs ys ≢ Greater) → ordering_then o (slice_cmp nat_cmp xs ys) ≢ Greater
ahead-steps n y xs ys Less is le rest = λ e. cc
ahead-steps n y xs ys Equal is le rest = rest (ranked n y Equal is)
ahead-steps n y xs ys Greater is le rest = absurd (let lt : y < n = ranked n y Greater is in omega arith)

-- a lesser first number, or the same and the rest not behind
ahead : (n y : ℕ) (xs ys : List ℕ) → n ≤ y → (n ≡ y → slice_cmp nat_cmp xs ys ≢ Greater) → slice_cmp nat_cmp (n ∷ xs) (y ∷ ys) ≢ Greater
ahead n y xs ys le rest = ahead-steps n y xs ys (nat_cmp n y) refl le rest

-- ---- one more choice

module _ (cost : List ℕ → ℕ) (near : ℕ → ℕ) (rest : ℕ → List ℕ → ℕ) (best : ℕ → List ℕ) (c : List ℕ) (cs : List (List ℕ)) (n : ℕ)
    (parts : (y : ℕ) (ys : List ℕ) → cost (y ∷ ys) ≡ near y + rest y ys)
    (bests : (y : ℕ) → Contains c y → IsBest (rest y) cs (best y))
    (cheap : IsCheapest (λ y. near y + rest y (best y)) c n) where
  least-of : (other : List ℕ) → Picks (c ∷ cs) other → cost (n ∷ best n) ≤ cost other
  least-of [] picked = absurd picked
  least-of (y ∷ ys) picked =
      let low = (bests y picked.0).least ys picked.1 in
      let first = cheap.least y picked.0 in
      let a = parts n (best n) in let b = parts y ys in omega arith

  first-of : (other : List ℕ) → Picks (c ∷ cs) other → cost other ≡ cost (n ∷ best n) → slice_cmp nat_cmp (n ∷ best n) other ≢ Greater
  first-of [] picked same = absurd picked
  first-of (y ∷ ys) picked same =
      let there = bests y picked.0 in
      let low = there.least ys picked.1 in
      let first = cheap.least y picked.0 in
      let a = parts n (best n) in let b = parts y ys in
      let tie : rest y ys ≡ rest y (best y) = omega arith in
      let level : near y + rest y (best y) ≡ near n + rest n (best n) = omega arith in
      ahead n y (best n) ys (cheap.first y picked.0 level) (λ e. subst (λ (z : ℕ). slice_cmp nat_cmp (best z) ys ≢ Greater) (sym e) (there.first ys picked.1 tie))

  -- the cheapest switch, and the best picks from it
  pub extend : IsBest cost (c ∷ cs) (n ∷ best n)
  extend = record { picks = (cheap.member, (bests n cheap.member).picks); least = least-of; first = first-of }

-- what is cheapest by one cost is so by another that is equal on the switches
pub cheapest-by : (f g : ℕ → ℕ) (c : List ℕ) (n : ℕ) → ((m : ℕ) → Contains c m → f m ≡ g m) → IsCheapest f c n → IsCheapest g c n
cheapest-by f g c n same is = record {
  member = is.member;
  least = λ m h. let a = same m h in let b = same n is.member in let low = is.least m h in omega arith;
  first = λ m h e. let a = same m h in let b = same n is.member in is.first m h (omega arith);
}

-- no choice
pub none-best : (cost : List ℕ → ℕ) → IsBest cost [] []
none-best cost = record { picks = tt; least = least-none; first = first-none }
  where
    least-none : (other : List ℕ) → Picks [] other → cost [] ≤ cost other
    least-none [] picked = omega arith
    least-none (y ∷ ys) picked = absurd picked

    first-none : (other : List ℕ) → Picks [] other → cost other ≡ cost [] → slice_cmp nat_cmp [] other ≢ Greater
    first-none [] picked same = λ e. cc
    first-none (y ∷ ys) picked same = absurd picked

-- one more rank of a plan
pub plan-more : (routes : Table) (trips : List Trip) (c : List ℕ) (cs : List (List ℕ)) (n : ℕ) (nexts : List (List ℕ)) (costs row prices : List ℕ)
    → IsStage routes (sum_by weight_of trips) n c costs row prices → All (λ m. m < n) c → IsPlan (distance_of routes) trips cs n nexts costs
    → IsPlan (distance_of routes) trips (c ∷ cs) n (row ∷ nexts) prices
plan-more routes trips c cs n nexts costs row prices stage below plan =
    let d = distance_of routes in
    let total = sum_by weight_of trips in
    let low : (x : ℕ) → x < n → slice_index row x < n = λ x lt. All-contains (λ m. m < n) c (slice_index row x) below (stage.cheapest x lt).member in
    record {
      count = stage.count;
      rows = All-cons (IsRow n) row nexts (record { count = stage.long; below = low }) plan.rows;
      best = λ x lt. extend (cost_from d trips x) (λ y. total * d x y) (λ y ys. cost_from d trips y ys) (λ y. path nexts y) c cs (slice_index row x)
          (λ y ys. cost_from-first d trips x y ys)
          (λ y h. plan.best y (All-contains (λ m. m < n) c y below h))
          (cheapest-by (λ y. total * d x y + slice_index costs y) (λ y. total * d x y + cost_from d trips y (path nexts y)) c (slice_index row x)
          (λ m h. ap (λ (k : ℕ). total * d x m + k) (plan.cost m (All-contains (λ k. k < n) c m below h))) (stage.cheapest x lt));
      cost = λ x lt. stage.cost x lt ∙ ap (λ (k : ℕ). total * d x (slice_index row x) + k) (plan.cost (slice_index row x) (low x lt))
          ∙ sym (cost_from-first d trips x (slice_index row x) (path nexts (slice_index row x)));
    }

-- the first group's switch before a plan for the others
pub plan-first : (routes : Table) (trips : List Trip) (c : List ℕ) (cs : List (List ℕ)) (n first : ℕ) (nexts : List (List ℕ)) (near costs : List ℕ)
    → ((y : ℕ) → y < n → slice_index near y ≡ sum_by (λ (t : Trip). t.weight * distance_of routes t.from y) trips) → All (λ m. m < n) c
    → IsCheapest (over near costs) c first → IsPlan (distance_of routes) trips cs n nexts costs
    → IsBest (cost_of (distance_of routes) trips) (c ∷ cs) (first ∷ path nexts first) × (over near costs first ≡ cost_of (distance_of routes) trips (first ∷ path nexts first))
plan-first routes trips c cs n first nexts near costs nears below cheap plan =
    let d = distance_of routes in
    let entry = λ (y : ℕ). sum_by (λ (t : Trip). t.weight * d t.from y) trips in
    let under : (m : ℕ) → Contains c m → m < n = λ m h. All-contains (λ k. k < n) c m below h in
    let same : (m : ℕ) → Contains c m → over near costs m ≡ entry m + cost_from d trips m (path nexts m) = λ m h.
    let a = nears m (under m h) in let b = plan.cost m (under m h) in omega arith in (
      extend (cost_of d trips) entry (λ y ys. cost_from d trips y ys) (λ y. path nexts y) c cs first (λ y ys. cost_of-first d trips y ys) (λ y h. plan.best y (under y h))
          (cheapest-by (over near costs) (λ y. entry y + cost_from d trips y (path nexts y)) c first same cheap),
      same first cheap.member ∙ sym (cost_of-first d trips first (path nexts first)),
    )

-- ---- choices and paths

choices-at : (order : List ℕ) (allowed : List (List ℕ)) (i : ℕ) → i < length order → drop i (choices order allowed) ≡ places_of allowed (get_or order i 0) ∷ drop (suc i) (choices order allowed)
choices-at [] allowed i lt = absurd (omega arith)
choices-at (v ∷ order) allowed zero lt = refl
choices-at (v ∷ order) allowed (suc i) lt = choices-at order allowed i (omega arith)

-- one more of the choices from a rank on
pub choices-from : (order : List ℕ) (allowed : List (List ℕ)) (i j : ℕ) → j ≡ i + 1 → i < length order → drop i (choices order allowed) ≡ places_of allowed (get_or order i 0) ∷ drop j (choices order allowed)
choices-from order allowed i j next lt =
    let same : suc i ≡ j = omega arith in
    choices-at order allowed i lt ∙ ap (λ (k : ℕ). places_of allowed (get_or order i 0) ∷ drop k (choices order allowed)) same

pub choices-all : (order : List ℕ) (allowed : List (List ℕ)) (i : ℕ) → length order ≤ i → drop i (choices order allowed) ≡ []
choices-all [] allowed zero le = refl
choices-all [] allowed (suc i) le = refl
choices-all (v ∷ order) allowed zero le = absurd (omega arith)
choices-all (v ∷ order) allowed (suc i) le = choices-all order allowed i (omega arith)

follows-steps : (n : ℕ) (nexts : List (List ℕ)) (at : ℕ) → AllByRecursion (IsRow n) nexts → at < n → Follows nexts at
follows-steps n [] at rows lt = tt
follows-steps n (row ∷ nexts) at rows lt = (let size = rows.0.count in omega arith, follows-steps n nexts (slice_index row at) rows.1 (rows.0.below at lt))

pub follows : (n : ℕ) (nexts : List (List ℕ)) (at : ℕ) → All (IsRow n) nexts → at < n → Follows nexts at
follows n nexts at rows lt = follows-steps n nexts at (recursion_from_All (IsRow n) nexts rows) lt

-- ---- one more switch of a way

row-left : (nexts : List (List ℕ)) (i : ℕ) (row : List ℕ) → i < length nexts → row ≡ get_or nexts i row → drop i nexts ≡ row ∷ drop (i + 1) nexts
row-left nexts i row lt is = drop_more nexts i row lt ∙ ap (λ (r : List ℕ). r ∷ drop (i + 1) nexts) (sym is)

pub at-left : (nexts : List (List ℕ)) (i at : ℕ) (row : List ℕ) → i < length nexts → row ≡ get_or nexts i row → Follows (drop i nexts) at → at < length row
at-left nexts i at row lt is rows = (subst (λ (l : List (List ℕ)). Follows l at) (row-left nexts i row lt is) rows).0

pub rows-left : (nexts : List (List ℕ)) (i at next : ℕ) (row : List ℕ) → i < length nexts → row ≡ get_or nexts i row → next ≡ slice_index row at → Follows (drop i nexts) at → Follows (drop (i + 1) nexts) next
rows-left nexts i at next row lt is here rows = subst (λ (n : ℕ). Follows (drop (i + 1) nexts) n) (sym here) (subst (λ (l : List (List ℕ)). Follows l at) (row-left nexts i row lt is) rows).1

pub way-more : (nexts : List (List ℕ)) (i at next : ℕ) (row way more whole : List ℕ) → i < length nexts → row ≡ get_or nexts i row → next ≡ slice_index row at → more ≡ way ++ next ∷ []
    → way ++ path (drop i nexts) at ≡ whole → more ++ path (drop (i + 1) nexts) next ≡ whole
way-more nexts i at next row way more whole lt is here put all =
    ap (λ (l : List ℕ). l ++ path (drop (i + 1) nexts) next) put ∙ append_assoc way (next ∷ []) (path (drop (i + 1) nexts) next)
    ∙ ap (λ (m : ℕ). way ++ m ∷ path (drop (i + 1) nexts) m) here ∙ ap (λ (l : List (List ℕ)). way ++ path l at) (sym (row-left nexts i row lt is)) ∙ all

-- the picks are as many as the choices, each one of its choice
pub Picks-at : (cs : List (List ℕ)) (xs : List ℕ) → Picks cs xs → (length xs ≡ length cs) × ((i : ℕ) → i < length cs → Contains (slice_index_or cs i []) (slice_index xs i))
Picks-at [] [] picked = (refl, λ i lt. absurd (omega arith))
Picks-at [] (x ∷ xs) picked = absurd picked
Picks-at (c ∷ cs) [] picked = absurd picked
Picks-at (c ∷ cs) (x ∷ xs) picked = let rest = Picks-at cs xs picked.1 in (let long = rest.0 in omega arith, at rest.1)
  where
    at : ((i : ℕ) → i < length cs → Contains (slice_index_or cs i []) (slice_index xs i)) → (i : ℕ) → i < length (c ∷ cs) → Contains (slice_index_or (c ∷ cs) i []) (slice_index (x ∷ xs) i)
    at rest zero lt = picked.0
    at rest (suc i) lt = rest i (omega arith)

-- a pick by a function
pub Picks-map : (f : ℕ → List ℕ) (h : ℕ → ℕ) (order : List ℕ) → AllByRecursion (λ v. Contains (f v) (h v)) order → Picks (map f order) (map h order)
Picks-map f h [] all = tt
Picks-map f h (v ∷ order) all = (all.0, Picks-map f h order all.1)

-- the way that begins at the first group's cheapest switch
pub found-first : (routes : Table) (trips : List Trip) (order : List ℕ) (allowed : List (List ℕ)) (n first : ℕ) (nexts : List (List ℕ)) (near costs place seen known way : List ℕ)
    → 1 ≤ length order → place ≡ places_of allowed (get_or order 0 0) → seen ≡ near → known ≡ costs
    → ((y : ℕ) → y < n → slice_index near y ≡ sum_by (λ (t : Trip). t.weight * distance_of routes t.from y) trips) → All (λ v. All (λ m. m < n) (places_of allowed v)) order
    → IsCheapest (over seen known) place first → IsPlan (distance_of routes) trips (drop 1 (choices order allowed)) n nexts costs → way ≡ first ∷ path nexts first
    → IsBest (cost_of (distance_of routes) trips) (choices order allowed) way × (over near costs first ≡ cost_of (distance_of routes) trips way)
found-first routes trips order allowed n first nexts near costs place seen known way some is same also nears below cheap plan are =
    let c = places_of allowed (get_or order 0 0) in
    let cs = drop 1 (choices order allowed) in
    let cheap' = subst (λ (xs : List ℕ). IsCheapest (over xs costs) c first) same
    (subst (λ (ys : List ℕ). IsCheapest (over seen ys) c first) also (subst (λ (p : List ℕ). IsCheapest (over seen known) p first) is cheap)) in
    let low = All-get_or (λ (v : ℕ). All (λ m. m < n) (places_of allowed v)) order 0 0 some below in
    let both = plan-first routes trips c cs n first nexts near costs nears low cheap' plan in
    let all : choices order allowed ≡ c ∷ cs = choices-from order allowed 0 1 refl some in (
      subst (λ (xs : List ℕ). IsBest (cost_of (distance_of routes) trips) (choices order allowed) xs) (sym are)
          (subst (λ (l : List (List ℕ)). IsBest (cost_of (distance_of routes) trips) l (first ∷ path nexts first)) (sym all) both.0),
      both.1 ∙ ap (cost_of (distance_of routes) trips) (sym are),
    )
