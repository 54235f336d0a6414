-- Indices and places, number by number.
use Rattle.std.proofs.Common.{◌≡◌, ℕ, ◌<◌, Bool, List, length, map, get_or, sym, ap, ◌∙◌, arith}
use Rattle.std.specs.Prelude.{Result, MatchResult}
use Rattle.std.proofs.lemmas.List.{get_or-map, length-map, ext_get_or}
use Rattle.snap_core.specs.declared.place.Place.{Place}
use Rattle.snap_core.specs.declared.policy.Atom.{Atom}
use Rattle.snap_core.specs.declared.policy.Update.{Update}
use Rattle.snap_core.specs.declared.policy.Atom.TheVariants.{Num as Number}
use Rattle.snap_core.specs.Arrays.{Arrays, number_after, place_at, put, update, value_of}
use Rattle.snap_context.specs.View.{View}
use Rattle.snap_equal.specs.declared.stop.Stop.{Stop}
use Rattle.snap_equal.specs.Told.{Decides, IsStop}
use Rattle.snap_equal.proofs.Telling.{result_as}

pub same_numbers : (k : List ℕ) (xs ys : List Atom) → length xs ≡ length ys → ((j : ℕ) → j < length xs → value_of (get_or xs j (Number 0)) k ≡ value_of (get_or ys j (Number 0)) k)
    → map (λ a. value_of a k) xs ≡ map (λ a. value_of a k) ys
same_numbers k xs ys e each =
    let f : Atom → ℕ = λ a. value_of a k in
    ext_get_or 0 (map f xs) (map f ys) (rw (length-map, length-map) e)
    (λ j l.
    let lx : j < length xs = rw length-map at l in
    let ly : j < length ys = omega (arith, e, lx) in
    get_or-map f xs j (Number 0) 0 lx ∙ each j lx ∙ sym (get_or-map f ys j (Number 0) 0 ly))

pub number_at : (k : List ℕ) (xs ys : List Atom) (j : ℕ) → j < length xs → j < length ys → map (λ a. value_of a k) xs ≡ map (λ a. value_of a k) ys
    → value_of (get_or xs j (Number 0)) k ≡ value_of (get_or ys j (Number 0)) k
number_at k xs ys j lx ly e =
    let f : Atom → ℕ = λ a. value_of a k in
    sym (get_or-map f xs j (Number 0) 0 lx) ∙ (ap (λ ns. get_or ns j 0) e ∙ get_or-map f ys j (Number 0) 0 ly)

-- places of one variable
pub places : (v : View) (r : Result Bool Stop) (s t : ℕ) (xs ys : List Atom) → s ≡ t
    → MatchResult r (Decides v (λ m k. map (λ a. value_of a k) xs ≡ map (λ a. value_of a k) ys)) (IsStop v 0) → MatchResult r (Decides v (λ m k. place_at s xs k ≡ place_at t ys k)) (IsStop v 0)
places v r s t xs ys e h = result_as v 0 (λ m k. map (λ a. value_of a k) xs ≡ map (λ a. value_of a k) ys) (λ m k. place_at s xs k ≡ place_at t ys k)
    (λ m k i is. λ j. record { var = e j; index = is j })
    (λ m k i is. ap (λ (p : Place). p.index) is) r h

pub same_place_of : (k : List ℕ) (s t : ℕ) (xs ys : List Atom) → s ≡ t → map (λ a. value_of a k) xs ≡ map (λ a. value_of a k) ys → place_at s xs k ≡ place_at t ys k
same_place_of k s t xs ys e is = λ j. record { var = e j; index = is j }

-- updates at one place whose operations do the same
pub same_update : (k : List ℕ) (u w : Update) (n : Arrays) → place_at u.var u.index k ≡ place_at w.var w.index k → ((x : ℕ) → number_after u.op x k ≡ number_after w.op x k) → update n u k ≡ update n w k
same_update k u w n at op =
    let number : number_after u.op (n (place_at u.var u.index k)) k ≡ number_after w.op (n (place_at w.var w.index k)) k =
    op (n (place_at u.var u.index k)) ∙ ap (λ (p : Place). number_after w.op (n p) k) at in
    λ j. put n (at j) (number j)
