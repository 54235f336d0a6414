-- What holds of a whole list, at each of its entries.
use Rattle.std.proofs.Common.{◌≡◌, ℕ, true, false, List, [], ◌∷◌, ◌++◌, map, refl, sym, ap, subst, ◌∙◌, append_assoc}
use Rattle.std.specs.List.{All, AllByRecursion, IsDistinct, list_all}
use Rattle.std.specs.List.Sorted.{IsStrictlySortedBy}
use Rattle.std.specs.Ordering.{is_lt, nat_cmp}
use Rattle.std.specs.Cmp.{IsTotalOrder}
use Rattle.std.specs.declared.cmp.Ordering.{Ordering}
use Rattle.std.specs.declared.cmp.Ordering.TheVariants.{Less}
use Rattle.std.specs.Str.{bytes_eq}
use Rattle.std.proofs.lemmas.Bool.{and_from}
use Rattle.std.proofs.lemmas.List.Elements.{All-head}
use Rattle.snap_core.proofs.Elements.{All-back}
use Rattle.snap_tables.specs.Entries.{AllFrom, AreInSequence, are_new, is_above, is_new}
use Rattle.snap_tables.specs.Pieces.{is_adjacent}
use Rattle.snap_tables.proofs.Turns.{above-tail, bytes-other}

-- entries are in sequence where each may come behind those before it
module _ {X : Type 0} (IsNext : List X → X → Type 0) where
  turns-from : (before xs : List X) → ((ys : List X) (x : X) (zs : List X) → before ++ xs ≡ ys ++ (x ∷ zs) → IsNext ys x) → AllFrom IsNext before xs
  turns-from before [] f = tt
  turns-from before (x ∷ xs) f = (f before x xs refl, turns-from (before ++ (x ∷ [])) xs (λ ys y zs e. f ys y zs (sym (append_assoc before (x ∷ []) xs) ∙ e)))

  pub turns : (xs : List X) → ((ys : List X) (x : X) (zs : List X) → xs ≡ ys ++ (x ∷ zs) → IsNext ys x) → AreInSequence IsNext xs
  turns xs f = turns-from [] xs f

pub all-middle : {X : Type 0} (P : X → Type 0) (ys : List X) (x : X) (zs : List X) → AllByRecursion P (ys ++ (x ∷ zs)) → P x
all-middle P [] x zs h = h.0
all-middle P (y ∷ ys) x zs h = all-middle P ys x zs h.1

pub all-at : {X : Type 0} (P : X → Type 0) (xs ys : List X) (x : X) (zs : List X) → xs ≡ ys ++ (x ∷ zs) → All P xs → P x
all-at P xs ys x zs e h = All-head P x zs (All-back P ys (x ∷ zs) (subst (All P) e h))

all-without : {X : Type 0} (P : X → Type 0) (ys : List X) (x : X) (zs : List X) → AllByRecursion P (ys ++ (x ∷ zs)) → AllByRecursion P (ys ++ zs)
all-without P [] x zs h = h.1
all-without P (y ∷ ys) x zs h = (h.0, all-without P ys x zs h.1)

-- lists in order
module _ {X : Type 0} (c : X → X → Ordering) where
  pub sorted-before : (ys : List X) (x : X) (zs : List X) → IsStrictlySortedBy c (ys ++ (x ∷ zs)) → AllByRecursion (λ q. c q x ≡ Less) ys
  unfolding IsStrictlySortedBy
  sorted-before [] x zs s = tt
  sorted-before (y ∷ ys) x zs s = (all-middle (λ q. c y q ≡ Less) ys x zs s.0, sorted-before ys x zs s.1)

  pub sorted-behind : (ys : List X) (x : X) (zs : List X) → IsStrictlySortedBy c (ys ++ (x ∷ zs)) → AllByRecursion (λ q. c x q ≡ Less) zs
  unfolding IsStrictlySortedBy
  sorted-behind [] x zs s = s.0
  sorted-behind (y ∷ ys) x zs s = sorted-behind ys x zs s.1

  pub sorted-adjacent : (xs : List X) → IsStrictlySortedBy c xs → is_adjacent (λ a b. is_lt (c a b)) xs ≡ true
  unfolding IsStrictlySortedBy
  sorted-adjacent [] s = refl
  sorted-adjacent (x ∷ []) s = refl
  sorted-adjacent (x ∷ y ∷ ys) s = and_from (is_lt (c x y)) (is_adjacent (λ a b. is_lt (c a b)) (y ∷ ys)) (ap is_lt s.0.0) (sorted-adjacent (y ∷ ys) s.1)

  module _ (o : IsTotalOrder c) where
    pub sorted-above : (ys : List X) (x : X) (zs : List X) → IsStrictlySortedBy c (ys ++ (x ∷ zs)) → is_above (λ a b. is_lt (c a b)) ys x ≡ true
    unfolding IsStrictlySortedBy
    sorted-above [] x zs s = refl
    sorted-above (y ∷ []) x zs s = ap is_lt s.0.0
    sorted-above (y ∷ z ∷ ys) x zs s = above-tail c o y z ys x ∙ sorted-above (z ∷ ys) x zs s.1

-- a list by its map in order
pub sorted-unmap : {X : Type 0} (f : X → ℕ) (xs : List X) → IsStrictlySortedBy nat_cmp (map f xs) → IsStrictlySortedBy (λ a b. nat_cmp (f a) (f b)) xs
unfolding IsStrictlySortedBy
sorted-unmap f [] h = tt
sorted-unmap f (x ∷ xs) h = (all-unmap xs h.0, sorted-unmap f xs h.1)
  where
    all-unmap : (ys : _) → AllByRecursion (λ y. nat_cmp (f x) y ≡ Less) (map f ys) → AllByRecursion (λ y. nat_cmp (f x) (f y) ≡ Less) ys
    all-unmap [] h = tt
    all-unmap (y ∷ ys) h = (h.0, all-unmap ys h.1)

-- names that differ
pub new-of : (xs : List (List ℕ)) (y : List ℕ) (zs : List (List ℕ)) → IsDistinct bytes_eq (xs ++ (y ∷ zs)) → is_new xs y ≡ true
unfolding IsDistinct
new-of [] y zs d = refl
new-of (x ∷ xs) y zs d = rw (bytes-other x y (all-middle (λ q. bytes_eq x q ≡ false) xs y zs d.0)) (new-of xs y zs d.1)

distinct-without : (xs : List (List ℕ)) (y : List ℕ) (zs : List (List ℕ)) → IsDistinct bytes_eq (xs ++ (y ∷ zs)) → IsDistinct bytes_eq (xs ++ zs)
unfolding IsDistinct
distinct-without [] y zs d = d.1
distinct-without (x ∷ xs) y zs d = (all-without (λ q. bytes_eq x q ≡ false) xs y zs d.0, distinct-without xs y zs d.1)

pub are-new-of : (xs ys zs : List (List ℕ)) → IsDistinct bytes_eq (xs ++ (ys ++ zs)) → are_new xs ys ≡ true
are-new-of xs [] zs d = refl
are-new-of xs (y ∷ ys) zs d = and_from (is_new xs y) (list_all (is_new xs) ys) (new-of xs y (ys ++ zs) d) (are-new-of xs ys zs (distinct-without xs y (ys ++ zs) d))
