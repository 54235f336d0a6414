-- An addition behind others at its place does what one addition of the sum does.
use Rattle.std.proofs.Common.{◌≡◌, ℕ, zero, suc, ◌+◌, ◌%◌, ◌<◌, ◌≤◌, ◌^◌, Bool, true, false, cond, List, [], ◌∷◌, ◌++◌, length, get_or, set, refl, sym, ap, ◌∙◌, subst, arith}
use Rattle.std.specs.Prelude.{All, Some}
use Rattle.std.proofs.lemmas.List.Elements.{All-pop, All-push, All-set, All-tail}
use Rattle.snap_core.proofs.Places.{same_place-exact}
use Rattle.snap_core.specs.declared.place.Place.{Place}
use Rattle.snap_core.specs.declared.policy.Op.{Op}
use Rattle.snap_core.specs.declared.policy.Op.TheVariants.{Put, Add}
use Rattle.snap_core.specs.declared.policy.Update.{Update}
use Rattle.snap_core.specs.Arrays.{Arrays, number_after, place_at, same_place, update, updates}
use Rattle.snap_core.specs.Fits.{OpFits}
use Rattle.snap_diagrams.specs.Bounds.{Sizes, UpdateIn}
use Rattle.snap_compose.specs.Additions.{added_up, Adds, AreSame, IsAddend, IsAddition, IsSpelledAt, added}
use Rattle.snap_compose.proofs.Splitting.{updates_more}

-- a number after an addition at its place, or at another
abbrev added_at : Bool → ℕ → ℕ → ℕ
added_at b n x = cond b ((x + n) % 2 ^ 64) x

module _ (k : List ℕ) where
  abbrev is_at : Update → Place → Bool
  is_at u p = same_place (place_at u.var u.index k) p

  once : (m : Arrays) (p : Place) (u : Update) → Adds u → update m u k p ≡ added_at (is_at u p) (added u.op) (m p)
  once m p u h = at (is_at u p) refl
    where
      q : Place
      q = place_at u.var u.index k

      sum : (o : Op) → IsAddition o → number_after o (m q) k ≡ (m q + added o) % 2 ^ 64
      sum (Put a) i = absurd i
      sum (Add n) i = refl

      at : (b : Bool) → same_place q p ≡ b → cond b (number_after u.op (m q) k) (m p) ≡ added_at b (added u.op) (m p)
      at true e = sum u.op h ∙ ap (λ (r : Place). (m r + added u.op) % 2 ^ 64) (same_place-exact q p e)
      at false e = refl

  both : (m : Arrays) (p : Place) (u v : Update) → Adds u → Adds v → update (update m u k) v k p ≡ added_at (is_at v p) (added v.op) (added_at (is_at u p) (added u.op) (m p))
  both m p u v hu hv = once (update m u k) p v hv ∙ ap (added_at (is_at v p) (added v.op)) (once m p u hu)

  turned : (b c : Bool) (x y n : ℕ) → added_at c y (added_at b x n) ≡ added_at b x (added_at c y n)
  turned true true x y n = omega arith
  turned true false x y n = refl
  turned false c x y n = refl

  swapped : (m : Arrays) (u v : Update) → Adds u → Adds v → update (update m u k) v k ≡ update (update m v k) u k
  swapped m u v hu hv = λ i p. (both m p u v hu hv ∙ turned (is_at u p) (is_at v p) (added u.op) (added v.op) (m p) ∙ sym (both m p v u hv hu)) i

  -- an addition may come before others
  last_first : (us : List Update) (v : Update) (m : Arrays) → All Adds us → Adds v → updates m (us ++ v ∷ []) k ≡ updates (update m v k) us k
  last_first [] v m h hv = refl
  last_first (u ∷ us) v m h hv = last_first us v (update m u k) (All-tail Adds u us h) hv ∙ ap (λ (n : Arrays). updates n us k) (swapped m u v (h 0 u (omega arith)) hv)

  -- two additions at one place
  summed : (b : Bool) (x y n : ℕ) → added_at b y (added_at b x n) ≡ added_at b ((x + y) % 2 ^ 64) n
  summed true x y n = omega arith
  summed false x y n = refl

  by_both : (o : Op) (n : ℕ) → IsAddition o → added (added_up o n) ≡ (added o + n) % 2 ^ 64
  by_both (Put a) n h = absurd h
  by_both (Add x) n h = refl

  still_adds : (o : Op) (n : ℕ) → IsAddition o → IsAddition (added_up o n)
  still_adds (Put a) n h = absurd h
  still_adds (Add x) n h = tt

  two_at_one : (m : Arrays) (u v : Update) (n : ℕ) → IsSpelledAt u v → Adds u → v.op ≡ Add n → update (update m u k) v k ≡ update m (record u { op = added_up u.op n }) k
  two_at_one m u v n s hu e =
      let var = sym s.var in
      let index = sym s.index in
      λ i p. (
      both m p u v hu (subst IsAddition (sym e) tt)
      ∙ ap (λ (b : Bool). added_at b (added v.op) (added_at (is_at u p) (added u.op) (m p))) (λ j. same_place (place_at (var j) (index j) k) p)
      ∙ ap (λ (o : Op). added_at (is_at u p) (added o) (added_at (is_at u p) (added u.op) (m p))) e
      ∙ summed (is_at u p) (added u.op) n (m p)
      ∙ ap (λ (x : ℕ). added_at (is_at u p) x (m p)) (sym (by_both u.op n hu))
      ∙ sym (once m p (record u { op = added_up u.op n }) (still_adds u.op n hu))) i

  pub sum_after : (us : List Update) (i n : ℕ) (d v : Update) (m : Arrays) → i < length us → IsSpelledAt (get_or us i d) v → ((j : ℕ) (e : Update) → i ≤ j → j < length us → Adds (get_or us j e)) → v.op ≡ Add n
      → updates m (set us i (record (get_or us i d) { op = added_up (get_or us i d).op n })) k ≡ updates m (us ++ v ∷ []) k
  sum_after [] i n d v m l s h e = absurd (omega (arith, l))
  sum_after (u ∷ us) zero n d v m l s h e =
      let rest : All Adds us = λ j x b. h (suc j) x (omega arith) (omega (arith, b)) in
      ap (λ (a : Arrays). updates a us k) (sym (two_at_one m u v n s (h 0 d (omega arith) l) e))
      ∙ sym (last_first us v (update m u k) rest (subst IsAddition (sym e) tt))
  sum_after (u ∷ us) (suc i) n d v m l s h e =
      sum_after us i n d v (update m u k) (omega (arith, l)) s (λ j x a b. h (suc j) x (omega (arith, a)) (omega (arith, b))) e

-- ---- lists of updates that do the same
pub same_refl : (us : List Update) → AreSame us us
same_refl us = record { after = λ m k. refl; fits = λ s h. h }

parts : (s : Sizes) (us : List Update) (u : Update) → All (UpdateIn s) (us ++ u ∷ []) → All (UpdateIn s) us × UpdateIn s u
parts s us u h = All-pop (UpdateIn s) (us ++ u ∷ []) us (Some u) refl h

still_fits : (c : ℕ) (o : Op) (n : ℕ) → OpFits c o → OpFits c (added_up o n)
still_fits c (Put a) n h = h
still_fits c (Add x) n h = tt

pub same_sum : (us : List Update) (i n : ℕ) (d v : Update) → IsAddend us v i → v.op ≡ Add n → AreSame (set us i (record (get_or us i d) { op = added_up (get_or us i d).op n })) (us ++ v ∷ [])
same_sum us i n d v a e = record {
  after = λ m k. sum_after k us i n d v m a.within (a.place d) a.adds e;
  fits = λ s h.
      let front : All (UpdateIn s) us = (parts s us v h).0 in
      let at : UpdateIn s (get_or us i d) = front i d a.within in
      All-set (UpdateIn s) us i (record (get_or us i d) { op = added_up (get_or us i d).op n }) (record { var = at.var; index = at.index; op = still_fits s.comps (get_or us i d).op n at.op }) front;
}

pub same_more : (ws us vs : List Update) (u : Update) → AreSame ws (us ++ u ∷ []) → AreSame us vs → AreSame ws (vs ++ u ∷ [])
same_more ws us vs u a b = record {
  after = λ m k. a.after m k ∙ updates_more m us u k ∙ ap (λ (n : Arrays). update n u k) (b.after m k) ∙ sym (updates_more m vs u k);
  fits = λ s h. a.fits s (All-push (UpdateIn s) us u (b.fits s (parts s vs u h).0) (parts s vs u h).1);
}
