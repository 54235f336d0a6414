-- Sums of weights times lengths.
use Rattle.std.proofs.Common.{◌≡◌, ◌∙◌, ℕ, zero, suc, ◌+◌, ◌*◌, ◌<◌, ◌≤◌, List, [], ◌∷◌, ◌++◌, length, get_or, set, take, replicate, slice_index_or, refl, sym, ap, arith}
use Rattle.std.specs.List.{All, sum_by}
use Rattle.std.proofs.Math.Nat.{mul-add, add-mul}
use Rattle.std.proofs.lemmas.List.Elements.{All-head, All-tail}
use Rattle.std.proofs.lemmas.List.Sums.{sum_by-cons, sum_by_more}
use Rattle.snap_placement.specs.declared.trips.Trip.{Trip}
use Rattle.snap_placement.specs.Costs.{along, cost_from, cost_of}
use Rattle.snap_placement.specs.Steps.{weighed}

pub sum_by-plus : {X : Type 0} (f g h : X → ℕ) → ((x : X) → f x ≡ g x + h x) → (xs : List X) → sum_by f xs ≡ sum_by g xs + sum_by h xs
sum_by-plus f g h each [] = refl
sum_by-plus f g h each (x ∷ xs) =
    let rest = sum_by-plus f g h each xs in let here = each x in
    let a = sum_by-cons f x xs in let b = sum_by-cons g x xs in let e = sum_by-cons h x xs in omega arith

pub sum_by-times : {X : Type 0} (f w : X → ℕ) (k : ℕ) → ((x : X) → f x ≡ w x * k) → (xs : List X) → sum_by f xs ≡ sum_by w xs * k
sum_by-times f w k each [] = omega arith
sum_by-times f w k each (x ∷ xs) =
    let rest = sum_by-times f w k each xs in let here = each x in
    let spread = add-mul (w x) (sum_by w xs) k in
    let a = sum_by-cons f x xs in
    let both : sum_by f (x ∷ xs) ≡ (w x + sum_by w xs) * k = omega arith in
    both ∙ ap (λ (n : ℕ). n * k) (sym (sum_by-cons w x xs))

pub sum_by-each : {X : Type 0} (f g : X → ℕ) (xs : List X) → All (λ x. f x ≡ g x) xs → sum_by f xs ≡ sum_by g xs
sum_by-each f g [] all = refl
sum_by-each f g (x ∷ xs) all =
    let here = All-head (λ x. f x ≡ g x) x xs all in let rest = sum_by-each f g xs (All-tail (λ x. f x ≡ g x) x xs all) in
    let a = sum_by-cons f x xs in let b = sum_by-cons g x xs in omega arith

pub sum_by-within : {X : Type 0} (P : X → Type 0) (f w : X → ℕ) (k : ℕ) → ((x : X) → P x → f x ≤ w x * k) → (xs : List X) → All P xs → sum_by f xs ≤ sum_by w xs * k
sum_by-within P f w k each [] all = omega arith
sum_by-within P f w k each (x ∷ xs) all =
    let rest = sum_by-within P f w k each xs (All-tail P x xs all) in let here = each x (All-head P x xs all) in
    let spread = add-mul (w x) (sum_by w xs) k in
    let a = sum_by-cons f x xs in
    let b : sum_by w (x ∷ xs) * k ≡ (w x + sum_by w xs) * k = ap (λ (n : ℕ). n * k) (sum_by-cons w x xs) in
    omega arith

-- ---- costs
abbrev pub weight_of : Trip → ℕ
weight_of t = t.weight

pub cost_of-first : (d : ℕ → ℕ → ℕ) (trips : List Trip) (y : ℕ) (ys : List ℕ) → cost_of d trips (y ∷ ys) ≡ sum_by (λ (t : Trip). t.weight * d t.from y) trips + cost_from d trips y ys
cost_of-first d trips y ys =
    sum_by-plus _ (λ (t : Trip). t.weight * d t.from y) (λ (t : Trip). t.weight * along d y (ys ++ t.to ∷ [])) (λ t. mul-add t.weight (d t.from y) (along d y (ys ++ t.to ∷ []))) trips

pub cost_from-first : (d : ℕ → ℕ → ℕ) (trips : List Trip) (x y : ℕ) (ys : List ℕ) → cost_from d trips x (y ∷ ys) ≡ sum_by weight_of trips * d x y + cost_from d trips y ys
cost_from-first d trips x y ys =
    sum_by-plus _ (λ (t : Trip). t.weight * d x y) (λ (t : Trip). t.weight * along d y (ys ++ t.to ∷ [])) (λ t. mul-add t.weight (d x y) (along d y (ys ++ t.to ∷ []))) trips
    ∙ ap (λ (n : ℕ). n + cost_from d trips y ys) (sum_by-times (λ (t : Trip). t.weight * d x y) weight_of (d x y) (λ t. refl) trips)

alone : (w n : ℕ) → w * (n + 0) ≡ w * n
alone w n = ap (λ (k : ℕ). w * k) (omega arith)

pub cost_from-none : (d : ℕ → ℕ → ℕ) (trips : List Trip) (x : ℕ) → cost_from d trips x [] ≡ sum_by (λ (t : Trip). t.weight * d x t.to) trips
cost_from-none d trips x = sum_by-each _ (λ (t : Trip). t.weight * d x t.to) trips (λ k e lt. alone (slice_index_or trips k e).weight (d x (slice_index_or trips k e).to))

-- ---- weights by place
pub weighed-none : (f : ℕ → ℕ) (at n : ℕ) → weighed f at (replicate n 0) ≡ 0
weighed-none f at zero = refl
weighed-none f at (suc n) = let rest = weighed-none f (at + 1) n in omega arith

pub weighed-set : (f : ℕ → ℕ) (at : ℕ) (ws : List ℕ) (i w : ℕ) → i < length ws → weighed f at (set ws i (get_or ws i 0 + w)) ≡ weighed f at ws + w * f (at + i)
weighed-set f at [] i w lt = absurd (omega arith)
weighed-set f at (x ∷ ws) zero w lt =
    let spread = add-mul x w (f at) in
    let here : w * f (at + 0) ≡ w * f at = ap (λ (k : ℕ). w * f k) (omega arith) in omega arith
weighed-set f at (x ∷ ws) (suc i) w lt =
    let rest = weighed-set f (at + 1) ws i w (omega arith) in
    let here : w * f (at + suc i) ≡ w * f (at + 1 + i) = ap (λ (k : ℕ). w * f k) (omega arith) in omega arith

abbrev pub no_trip : Trip
no_trip = record { from = 0; to = 0; weight = 0 }

-- one more trip
pub summed-more : (f : ℕ → ℕ) (place : Trip → ℕ) (trips : List Trip) (i : ℕ) (sums : List ℕ) (old w at : ℕ) → i < length trips → old ≡ get_or sums at 0 → w ≡ (get_or trips i no_trip).weight → at ≡ place (get_or trips i no_trip) → at < length sums
    → weighed f 0 sums ≡ sum_by (λ (t : Trip). t.weight * f (place t)) (take i trips) → weighed f 0 (set sums at (old + w)) ≡ sum_by (λ (t : Trip). t.weight * f (place t)) (take (i + 1) trips)
summed-more f place trips i sums old w at lt was heavy there low before =
    let t = get_or trips i no_trip in
    let more = weighed-set f 0 sums at w low in
    let all = sum_by_more (λ (s : Trip). s.weight * f (place s)) trips i no_trip lt in
    let here : w * f (0 + at) ≡ t.weight * f (place t) = ap (λ (k : ℕ). w * f k) (omega arith ∙ there) ∙ ap (λ (k : ℕ). k * f (place t)) heavy in
    ap (λ (k : ℕ). weighed f 0 (set sums at (k + w))) was ∙ more ∙ (omega arith ∙ sym all)
