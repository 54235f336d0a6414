-- Updates at numbers do the same in any order that keeps those at one place in theirs.
use Rattle.std.proofs.Common.{◌≡◌, ℕ, Bool, true, false, cond, not, ◌&&◌, List, [], ◌∷◌, ◌++◌, refl, sym, ap, ◌∙◌, subst, arith}
use Rattle.std.specs.Prelude.{map}
use Rattle.std.specs.List.{All, filter}
use Rattle.std.specs.List.Sorted.{IsPermutation, IsStableBy, ties}
use Rattle.std.specs.declared.cmp.Ordering.{Ordering}
use Rattle.std.specs.Ordering.{nat_cmp, is_lt, ordering_then}
use Rattle.std.specs.Cmp.{IsStrictWeakOrder}
use Rattle.std.specs.Cmp.Lexicographic.{slice_cmp}
use Rattle.std.proofs.lemmas.Cmp.{nat_list_cmp_total, tied_itself}
use Rattle.std.proofs.lemmas.Bool.{false≢true}
use Rattle.std.proofs.lemmas.List.Elements.{All-nil, All-push, All-tail}
use Rattle.std.proofs.lemmas.List.{append-nil, append_assoc}
use Rattle.std.proofs.lemmas.List.Sorted.{ranks_by, IsStrictWeakOrder-flip, All-permutation, IsPermutation-append_left, IsPermutation-append_right, IsPermutation-refl, IsPermutation-trans}
use Rattle.snap_core.proofs.Places.{same_place-exact}
use Rattle.snap_core.proofs.Orders.{then-Equal}
use Rattle.snap_core.proofs.Updates.{updates-append}
use Rattle.snap_core.specs.declared.place.Place.{Place}
use Rattle.snap_core.specs.declared.policy.Atom.{Atom}
use Rattle.snap_core.specs.declared.policy.Atom.TheVariants.{Num as Number, Comp}
use Rattle.snap_core.specs.declared.policy.Op.TheVariants.{Add}
use Rattle.snap_core.specs.declared.policy.Update.{Update}
use Rattle.snap_core.specs.Arrays.{Arrays, number_after, place_at, same_place, update, updates, value_of}
use Rattle.snap_diagrams.specs.Codes.{index_code}
use Rattle.snap_context.specs.Known.{IsFixed}
use Rattle.snap_compose.specs.Fixed.{AreReordered, EndInRun, IsFixedUpdate, falling}
use Rattle.snap_compose.proofs.Splitting.{hit, missed}

-- a second test of two keeps the same, where the first lets through all that it does
module _ {X : Type 0} (P : X → Type 0) (p q : X → Bool) (within : (x : X) → P x → q x ≡ true → p x ≡ true) where
  next_within : (x : X) (xs : List X) → P x → filter q (filter p xs) ≡ filter q xs → (b d : Bool) → p x ≡ b → q x ≡ d → filter q (cond b (x ∷ filter p xs) (filter p xs)) ≡ cond d (x ∷ filter q xs) (filter q xs)
  next_within x xs h rest true d e f = λ i. cond (f i) (x ∷ rest i) (rest i)
  next_within x xs h rest false true e f = absurd (false≢true (sym e ∙ within x h f))
  next_within x xs h rest false false e f = rest

  filter-filter : (xs : List X) → All P xs → filter q (filter p xs) ≡ filter q xs
  filter-filter [] h = refl
  filter-filter (x ∷ xs) h = next_within x xs (h 0 x (omega arith)) (filter-filter xs (All-tail P x xs h)) (p x) (q x) refl refl

-- numbers are the index that they give
fixed_values : (ix : List Atom) (k : List ℕ) → All IsFixed ix → map Number (map (λ a. value_of a k) ix) ≡ ix
fixed_values [] k h = refl
fixed_values (Number n ∷ ix) k h = ap (λ (l : List Atom). Number n ∷ l) (fixed_values ix k (All-tail IsFixed (Number n) ix h))
fixed_values (Comp c ∷ ix) k h = absurd (h 0 (Comp c) (omega arith))

module _ (k : List ℕ) (p : Place) where
  abbrev is_at : Update → Bool
  is_at u = same_place (place_at u.var u.index k) p

  abbrev at_place : List Update → List Update
  at_place us = filter is_at us

  -- an update of stores that agree at the place
  agree_after : (u : Update) (m n : Arrays) → m p ≡ n p → is_at u ≡ true → update m u k p ≡ update n u k p
  agree_after u m n e t =
      let at : place_at u.var u.index k ≡ p = same_place-exact (place_at u.var u.index k) p t in
      hit u m k p at ∙ ap (λ x. number_after u.op x k) e ∙ sym (hit u n k p at)

  -- at a place only the updates there count
  next_there : (u : Update) (us : List Update) (m n : Arrays) → m p ≡ n p → ((a b : Arrays) → a p ≡ b p → updates a us k p ≡ updates b (at_place us) k p)
      → (t : Bool) → is_at u ≡ t → updates (update m u k) us k p ≡ updates n (cond t (u ∷ at_place us) (at_place us)) k p
  next_there u us m n e rest true t = rest (update m u k) (update n u k) (agree_after u m n e t)
  next_there u us m n e rest false t = rest (update m u k) n (missed u m k p t ∙ e)

  updates-filter : (us : List Update) (m n : Arrays) → m p ≡ n p → updates m us k p ≡ updates n (at_place us) k p
  updates-filter [] m n e = e
  updates-filter (u ∷ us) m n e = next_there u us m n e (updates-filter us) (is_at u) refl

  -- one at the very numbers of the place
  abbrev here : Update
  here = record { var = p.var; index = map Number p.index; op = Add 0 }

  -- updates at numbers that are at the place tie with that one
  at_place-ties : (u : Update) → IsFixedUpdate u → is_at u ≡ true → ties (λ x y. is_lt (falling x y)) here u ≡ true
  at_place-ties u h t =
      let same : u.index ≡ map Number p.index = sym (fixed_values u.index k h) ∙ ap (λ (q : Place). map Number q.index) (same_place-exact (place_at u.var u.index k) p t) in
      (λ i. not (is_lt (slice_cmp nat_cmp (index_code (same i)) (index_code here.index))) && not (is_lt (slice_cmp nat_cmp (index_code here.index) (index_code (same i)))))
      ∙ (λ i. not (is_lt (tied_itself nat_list_cmp_total (index_code here.index) i)) && not (is_lt (tied_itself nat_list_cmp_total (index_code here.index) i)))

  stay_at_place : (us vs : List Update) → All IsFixedUpdate us → All IsFixedUpdate vs → IsStableBy (λ x y. is_lt (falling x y)) us vs → at_place vs ≡ at_place us
  stay_at_place us vs hu hv stable =
      let late : Update → Bool = ties (λ x y. is_lt (falling x y)) here in
      sym (filter-filter IsFixedUpdate late is_at at_place-ties vs hv)
      ∙ ap at_place (stable here)
      ∙ filter-filter IsFixedUpdate late is_at at_place-ties us hu

-- the law
pub fixed_same : (us vs : List Update) → IsPermutation us vs → IsStableBy (λ x y. is_lt (falling x y)) us vs → All IsFixedUpdate us → (m : Arrays) (k : List ℕ) → updates m vs k ≡ updates m us k
fixed_same us vs perm stable h m k =
    let hv = All-permutation IsFixedUpdate us vs perm h in
    λ i p. (updates-filter k p vs m m refl ∙ ap (λ (ws : List Update). updates m ws k p) (stay_at_place k p us vs h hv stable) ∙ sym (updates-filter k p us m m refl)) i

-- ---- in another order
pub reordered_more : (us vs xs : List Update) → AreReordered us vs → AreReordered (us ++ xs) (vs ++ xs)
reordered_more us vs xs r = record {
  same = λ m k. updates-append vs xs m k ∙ ap (λ (n : Arrays). updates n xs k) (r.same m k) ∙ sym (updates-append us xs m k);
  permuted = IsPermutation-append_left xs us vs r.permuted;
}

pub reordered-trans : (us vs ws : List Update) → AreReordered us vs → AreReordered vs ws → AreReordered us ws
reordered-trans us vs ws a b = record { same = λ m k. b.same m k ∙ a.same m k; permuted = IsPermutation-trans us vs ws a.permuted b.permuted }

pub run_sorted : (us run sorted : List Update) → IsPermutation run sorted → IsStableBy (λ x y. is_lt (falling x y)) run sorted → All IsFixedUpdate run → AreReordered (us ++ run) (us ++ sorted)
run_sorted us run sorted perm stable fixed = record {
  same = λ m k. updates-append us sorted m k ∙ fixed_same run sorted perm stable fixed (updates m us k) k ∙ sym (updates-append us run m k);
  permuted = IsPermutation-append_right us run sorted perm;
}

-- ---- one update more
pub run_longer : (us some run : List Update) (u : Update) → IsFixedUpdate u → EndInRun us some run → EndInRun (us ++ u ∷ []) some (run ++ u ∷ [])
run_longer us some run u h e = record {
  fixed = All-push IsFixedUpdate run u e.fixed h;
  same = subst (AreReordered (us ++ u ∷ [])) (append_assoc some run (u ∷ [])) (reordered_more us (some ++ run) (u ∷ []) e.same);
}

pub run_ended : (us some run new : List Update) (u : Update) → AreReordered (some ++ run) new → EndInRun us some run → EndInRun (us ++ u ∷ []) (new ++ u ∷ []) []
run_ended us some run new u r e = record {
  fixed = All-nil IsFixedUpdate;
  same = subst (AreReordered (us ++ u ∷ [])) (sym (append-nil (new ++ u ∷ []))) (reordered_more us new (u ∷ []) (reordered-trans us (some ++ run) new e.same r));
}

pub none_yet : EndInRun [] [] []
none_yet = record { fixed = All-nil IsFixedUpdate; same = record { same = λ m k. refl; permuted = IsPermutation-refl [] } }

-- ---- the order is one
pub falling-order : IsStrictWeakOrder (λ u v. is_lt (falling u v))
falling-order = IsStrictWeakOrder-flip (λ u v. is_lt (slice_cmp nat_cmp (index_code u.index) (index_code v.index))) (ranks_by nat_list_cmp_total (λ (u : Update). index_code u.index))

pub falling_is : (u v : Update) (o : Ordering) → ((s t : List ℕ) → slice_cmp nat_cmp (index_code v.index ++ s) (index_code u.index ++ t) ≡ ordering_then o (slice_cmp nat_cmp s t)) → o ≡ falling u v
falling_is u v o h = sym (then-Equal o) ∙ sym (h [] []) ∙ (λ i. slice_cmp nat_cmp (append-nil (index_code v.index) i) (append-nil (index_code u.index) i))
