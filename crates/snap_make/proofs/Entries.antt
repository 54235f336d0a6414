-- Lists by pairs of numbers have each entry once, and rise.
use Rattle.std.proofs.Common.{◌≡◌, ℕ, zero, suc, ◌<◌, ⊎_elim, Bool, true, false, cond, List, [], ◌∷◌, ◌++◌, map, Option, Some, None, refl, sym, ap, subst, ◌∙◌, arith, get_or}
use Rattle.std.specs.Prelude.{slice_get, nat_eq, ◌&&◌, if◌then◌else◌}
use Rattle.std.specs.List.{All, AllByRecursion}
use Rattle.std.specs.List.Sorted.{IsStrictlySortedBy}
use Rattle.std.specs.Ordering.{nat_cmp, ordering_then}
use Rattle.std.specs.declared.cmp.Ordering.{Ordering}
use Rattle.std.specs.declared.cmp.Ordering.TheVariants.{Less, Equal, Greater}
use Rattle.std.proofs.lemmas.Bool.{eqb-true, eq-eqb, le-ltb, cases_lt, and_parts}
use Rattle.std.proofs.lemmas.Option.{none-some, same_Some}
use Rattle.std.proofs.lemmas.List.Elements.{All-append, All-nil, All-push, All-tail, All-weaker, recursion_from_All}
use Rattle.snap_rows.proofs.Rows.{All-get}
use Rattle.snap_core.proofs.Elements.{All-unmap}
use Rattle.snap_core.proofs.Entries.{both}
use Rattle.snap_core.proofs.Orders.{nat_cmp-Less}
use Rattle.snap_rows.specs.declared.tables.RowAt.{RowAt}
use Rattle.snap_rows.specs.Entries.{row_in}
use Rattle.snap_make.specs.Pairs.{Entry, row_entry, one_entry, at_switch, at_switches}

nat_same : (a b : ℕ) → a ≡ b → nat_cmp a b ≡ Equal
nat_same a b e = ap (λ c. cond c Less (cond (nat_eq a b) Equal Greater)) (le-ltb a b (omega (arith, e))) ∙ ap (λ c. cond c Equal Greater) (eq-eqb a b e)

module _ {X : Type 0} where
  abbrev pub found : List (Entry X) → ℕ → ℕ → Option X
  found [] w n = None
  found (e ∷ es) w n = if nat_eq e.0 w && nat_eq e.1 n then Some e.2 else found es w n

  -- what is found is an entry
  each_found : (P : Entry X → Type 0) (es : List (Entry X)) (w n : ℕ) (b : X) → All P es → found es w n ≡ Some b → P (w, n, b)
  each_found P [] w n b h e = absurd (none-some b e)
  each_found P (x ∷ es) w n b h e = by (nat_eq x.0 w && nat_eq x.1 n) refl e (each_found P es w n b (All-tail P x es h))
    where
      by : (c : Bool) → (nat_eq x.0 w && nat_eq x.1 n) ≡ c → cond c (Some x.2) (found es w n) ≡ Some b → (found es w n ≡ Some b → P (w, n, b)) → P (w, n, b)
      by true same f rest =
          let parts = and_parts (nat_eq x.0 w) (nat_eq x.1 n) same in
          subst (λ z. P (w, n, z)) (same_Some x.2 b f) (subst (λ z. P (w, z, x.2)) (eqb-true x.1 n parts.1) (subst (λ z. P (z, x.1, x.2)) (eqb-true x.0 w parts.0) (h 0 x (omega arith))))
      by false other f rest = rest f

  found_none : (P : Entry X → Type 0) (es : List (Entry X)) (w n : ℕ) → All P es → ((b : X) → P (w, n, b) → ⊥) → found es w n ≡ None
  found_none P es w n h never = by (found es w n) refl
    where
      by : (o : Option X) → found es w n ≡ o → found es w n ≡ None
      by None e = e
      by (Some b) e = absurd (never b (each_found P es w n b h e))

  found_left : (xs ys : List (Entry X)) (w n : ℕ) (b : X) → found xs w n ≡ Some b → found (xs ++ ys) w n ≡ Some b
  found_left [] ys w n b e = absurd (none-some b e)
  found_left (x ∷ xs) ys w n b e = by (nat_eq x.0 w && nat_eq x.1 n) e (found_left xs ys w n b)
    where
      by : (c : Bool) → cond c (Some x.2) (found xs w n) ≡ Some b → (found xs w n ≡ Some b → found (xs ++ ys) w n ≡ Some b) → cond c (Some x.2) (found (xs ++ ys) w n) ≡ Some b
      by true f rest = f
      by false f rest = rest f

  found_right : (xs ys : List (Entry X)) (w n : ℕ) → found xs w n ≡ None → found (xs ++ ys) w n ≡ found ys w n
  found_right [] ys w n e = refl
  found_right (x ∷ xs) ys w n e = by (nat_eq x.0 w && nat_eq x.1 n) e (found_right xs ys w n)
    where
      by : (c : Bool) → cond c (Some x.2) (found xs w n) ≡ None → (found xs w n ≡ None → found (xs ++ ys) w n ≡ found ys w n) → cond c (Some x.2) (found (xs ++ ys) w n) ≡ found ys w n
      by true f rest = absurd (none-some x.2 (sym f))
      by false f rest = rest f

  found_one : (w n : ℕ) (b : X) (o : Option X) → o ≡ Some b → found (one_entry w n o) w n ≡ Some b
  found_one w n b None e = absurd (none-some b e)
  found_one w n b (Some x) e = ap (λ c. cond (c && nat_eq n n) (Some x) None) (eq-eqb w w refl) ∙ ap (λ c. cond c (Some x) None) (eq-eqb n n refl) ∙ e

  module _ (g : ℕ → Option X) (w : ℕ) where
    abbrev pub Here : ℕ → Entry X → Type 0
    Here n e = (e.0 ≡ w) × (e.1 < n) × (g e.1 ≡ Some e.2)

    one_here : (n : ℕ) (o : Option X) → g n ≡ o → All (Here (suc n)) (one_entry w n o)
    one_here n None e = All-nil (Here (suc n))
    one_here n (Some b) e = All-push (Here (suc n)) [] (w, n, b) (All-nil (Here (suc n))) (refl, omega arith, e)

    pub all_here : (n : ℕ) → All (Here n) (at_switch g w n)
    all_here zero = All-nil (Here 0)
    all_here (suc n) =
        All-append (Here (suc n)) (at_switch g w n) (one_entry w n (g n))
        (All-weaker (Here n) (Here (suc n)) (λ e h. (h.0, (let l = h.1 in omega (arith, l)), h.2)) (at_switch g w n) (all_here n)) (one_here n (g n) refl)

    pub there : (n i : ℕ) (b : X) → i < n → g i ≡ Some b → found (at_switch g w n) w i ≡ Some b
    there zero i b l e = absurd (omega (arith, l))
    there (suc n) i b l e = ⊎_elim
        (λ less. found_left (at_switch g w n) (one_entry w n (g n)) w i b (there n i b less e))
        (λ more.
        (let same : i ≡ n = omega (arith, l, more) in
        found_right (at_switch g w n) (one_entry w n (g n)) w i (found_none (Here n) (at_switch g w n) w i (all_here n) (λ x h. (let k = h.1 in omega (arith, k, same))))
        ∙ subst (λ k. found (one_entry w k (g k)) w i ≡ Some b) same (found_one w i b (g i) e)))
        (cases_lt i n)

  module _ (g : ℕ → ℕ → Option X) (many : ℕ) where
    abbrev pub Planned : ℕ → Entry X → Type 0
    Planned s e = (e.0 < s) × (e.1 < many) × (g e.0 e.1 ≡ Some e.2)

    pub all_planned : (s : ℕ) → All (Planned s) (at_switches g s many)
    all_planned zero = All-nil (Planned 0)
    all_planned (suc s) =
        All-append (Planned (suc s)) (at_switches g s many) (at_switch (g s) s many)
        (All-weaker (Planned s) (Planned (suc s)) (λ e h. ((let l = h.0 in omega (arith, l)), h.1, h.2)) (at_switches g s many) (all_planned s))
        (All-weaker (Here (g s) s many) (Planned (suc s)) (λ e h. ((let l = h.0 in omega (arith, l)), h.1, ap (λ w. g w e.1) h.0 ∙ h.2)) (at_switch (g s) s many) (all_here (g s) s many))

    pub present : (s w n : ℕ) (b : X) → w < s → n < many → g w n ≡ Some b → found (at_switches g s many) w n ≡ Some b
    present zero w n b l k e = absurd (omega (arith, l))
    present (suc s) w n b l k e = ⊎_elim
        (λ less. found_left (at_switches g s many) (at_switch (g s) s many) w n b (present s w n b less k e))
        (λ more.
        (let same : w ≡ s = omega (arith, l, more) in
        found_right (at_switches g s many) (at_switch (g s) s many) w n (found_none (Planned s) (at_switches g s many) w n (all_planned s) (λ x h. (let q = h.0 in omega (arith, q, same))))
        ∙ subst (λ v. found (at_switch (g v) v many) w n ≡ Some b) same (there (g w) w many n b k e)))
        (cases_lt w s)

    -- the row of each switch and number is the planned one, where there is none beyond the bounds
    pub found_is : (s : ℕ) → ((w n : ℕ) (b : X) → g w n ≡ Some b → (w < s) × (n < many)) → (w n : ℕ) → found (at_switches g s many) w n ≡ g w n
    found_is s bounds w n = by (g w n) refl
      where
        by : (o : Option X) → g w n ≡ o → found (at_switches g s many) w n ≡ o
        by (Some b) e = let l = bounds w n b e in present s w n b l.0 l.1 e
        by None e = found_none (Planned s) (at_switches g s many) w n (all_planned s) (λ b h. none-some b (sym e ∙ h.2))

  -- ---- order
  abbrev pub entry_cmp : Entry X → Entry X → Ordering
  entry_cmp a b = ordering_then (nat_cmp a.0 b.0) (nat_cmp a.1 b.1)

  lower_switch : (a b : Entry X) → a.0 < b.0 → entry_cmp a b ≡ Less
  lower_switch a b l = ap (λ o. ordering_then o (nat_cmp a.1 b.1)) (nat_cmp-Less a.0 b.0 l)

  lower_number : (a b : Entry X) → a.0 ≡ b.0 → a.1 < b.1 → entry_cmp a b ≡ Less
  lower_number a b e l = ap (λ o. ordering_then o (nat_cmp a.1 b.1)) (nat_same a.0 b.0 e) ∙ nat_cmp-Less a.1 b.1 l

  sorted_append : (xs ys : List (Entry X)) → IsStrictlySortedBy entry_cmp xs → IsStrictlySortedBy entry_cmp ys → All (λ x. All (λ y. entry_cmp x y ≡ Less) ys) xs → IsStrictlySortedBy entry_cmp (xs ++ ys)
  unfolding IsStrictlySortedBy
  sorted_append [] ys a b h = b
  sorted_append (x ∷ xs) ys a b h =
      (both (λ y. entry_cmp x y ≡ Less) xs ys a.0 (recursion_from_All (λ y. entry_cmp x y ≡ Less) ys (h 0 x (omega arith))), sorted_append xs ys a.1 b (All-tail (λ x. All (λ y. entry_cmp x y ≡ Less) ys) x xs h))

  each_pair : (P Q : Entry X → Type 0) → ((x y : Entry X) → P x → Q y → entry_cmp x y ≡ Less) → (xs ys : List (Entry X)) → All P xs → All Q ys → All (λ x. All (λ y. entry_cmp x y ≡ Less) ys) xs
  each_pair P Q f xs ys a b = λ i d l j e m. f (get_or xs i d) (get_or ys j e) (a i d l) (b j e m)

  one_sorted : (w n : ℕ) (o : Option X) → IsStrictlySortedBy entry_cmp (one_entry w n o)
  unfolding IsStrictlySortedBy
  one_sorted w n None = tt
  one_sorted w n (Some b) = (tt, tt)

  one_is : (w n : ℕ) (o : Option X) → All (λ e. (e.0 ≡ w) × (e.1 ≡ n)) (one_entry w n o)
  one_is w n None = All-nil (λ e. (e.0 ≡ w) × (e.1 ≡ n))
  one_is w n (Some b) = All-push (λ e. (e.0 ≡ w) × (e.1 ≡ n)) [] (w, n, b) (All-nil (λ e. (e.0 ≡ w) × (e.1 ≡ n))) (refl, refl)

  switch_sorted : (g : ℕ → Option X) (w n : ℕ) → IsStrictlySortedBy entry_cmp (at_switch g w n)
  unfolding IsStrictlySortedBy
  switch_sorted g w zero = tt
  switch_sorted g w (suc n) =
      sorted_append (at_switch g w n) (one_entry w n (g n)) (switch_sorted g w n) (one_sorted w n (g n))
      (each_pair (Here g w n) (λ e. (e.0 ≡ w) × (e.1 ≡ n)) (λ x y h k. lower_number x y (h.0 ∙ sym k.0) (let l = h.1 in let e = k.1 in omega (arith, l, e))) (at_switch g w n) (one_entry w n (g n)) (all_here g w n) (one_is w n (g n)))

  pub switches_sorted : (g : ℕ → ℕ → Option X) (s n : ℕ) → IsStrictlySortedBy entry_cmp (at_switches g s n)
  unfolding IsStrictlySortedBy
  switches_sorted g zero n = tt
  switches_sorted g (suc s) n =
      sorted_append (at_switches g s n) (at_switch (g s) s n) (switches_sorted g s n) (switch_sorted (g s) s n)
      (each_pair (Planned g n s) (Here (g s) s n) (λ x y h k. lower_switch x y (let l = h.0 in let e = k.0 in omega (arith, l, e))) (at_switches g s n) (at_switch (g s) s n) (all_planned g n s) (all_here (g s) s n))

module _ {X Y : Type 0} (f : Y → Entry X) where
  pub each_at : (P : Entry X → Type 0) (rs : List Y) (i : ℕ) (r : Y) → All P (map f rs) → slice_get rs i ≡ Some r → P (f r)
  each_at P rs i r h e = All-get (λ y. P (f y)) rs i r (All-unmap P f rs h) e

  all_sorted : (r : Y) (rs : List Y) → AllByRecursion (λ y. entry_cmp (f r) y ≡ Less) (map f rs) → AllByRecursion (λ y. entry_cmp (f r) (f y) ≡ Less) rs
  all_sorted r [] h = tt
  all_sorted r (x ∷ rs) h = (h.0, all_sorted r rs h.1)

  pub unmapped_sorted : (rs : List Y) → IsStrictlySortedBy entry_cmp (map f rs) → IsStrictlySortedBy (λ x y. entry_cmp (f x) (f y)) rs
  unfolding IsStrictlySortedBy
  unmapped_sorted [] h = tt
  unmapped_sorted (r ∷ rs) h = (all_sorted r rs h.0, unmapped_sorted rs h.1)

pub row_found : (rs : List RowAt) (w n : ℕ) → row_in rs w n ≡ found (map row_entry rs) w n
row_found [] w n = refl
row_found (r ∷ rs) w n = ap (cond (nat_eq r.at w && nat_eq r.number n) (Some r.row)) (row_found rs w n)
