-- Updates by rank do what they do in order.
use Rattle.std.proofs.Common.{◌≡◌, ◌≢◌, ℕ, zero, suc, ◌+◌, ◌%◌, ◌^◌, ◌<◌, ◌≤◌, Bool, true, false, ◌&&◌, cond, not, List, [], ◌∷◌, ◌++◌, length, ⊎_elim, refl, sym, ap, ◌∙◌, arith}
use Rattle.std.specs.Prelude.{nat_eq, slice_index}
use Rattle.std.specs.List.{filter}
use Rattle.std.proofs.lemmas.Bool.{eqb-true, eqb-false, eq-eqb, both_ways, cond-true, cond-false, false≢true, and_parts, cases_lt}
use Rattle.std.proofs.lemmas.List.{append-nil}
use Rattle.std.specs.List.{All}
use Rattle.std.proofs.lemmas.List.Elements.{filter-append, All-head, All-tail, All-filter}
use Rattle.std.proofs.Math.Nat.{mod-eq_of_lt}
use Rattle.snap_core.specs.Laws.{AreSmall, OpIsSmall}
use Rattle.snap_core.specs.declared.policy.Pol.TheVariants.{Change}
use Rattle.snap_core.proofs.Small.{stays_fine}
use Rattle.snap_core.proofs.Places.{same_place-exact}
use Rattle.snap_core.specs.declared.place.Place.{Place}
use Rattle.snap_core.specs.declared.policy.Update.{Update}
use Rattle.snap_core.specs.declared.policy.Op.{Op}
use Rattle.snap_core.specs.declared.policy.Op.TheVariants.{Put, Add}
use Rattle.snap_core.specs.Arrays.{Arrays, update, updates, place_at, same_place, number_after}
use Rattle.snap_core.specs.Inputs.{IsStore}
use Rattle.snap_core.proofs.Unwritten.{updated_keeps}
use Rattle.snap_dep.specs.Locality.{AgreeOn}
use Rattle.snap_dep.proofs.Agreement.{update_agrees}
use Rattle.snap_dep.proofs.Sets.{has-pow_other}
use Rattle.snap_faithful.specs.Leaves.{is_still, of_rank, by_ranks}

-- the updates of a variable
only : ℕ → List Update → List Update
only v us = filter (λ (u : Update). nat_eq u.var v) us

-- what updates make of a variable goes by its own updates
only_updates : (v : ℕ) (k : List ℕ) (us : List Update) (s n : Arrays) → AgreeOn (λ x. nat_eq x v) s n → (q : Place) → q.var ≡ v → updates s (only v us) k q ≡ updates n us k q
unfolding only
only_updates v k [] s n h q e = h q (eq-eqb q.var v e)
only_updates v k (u ∷ us) s n h q e = by (nat_eq u.var v) refl (λ a b c. only_updates v k us a b c q e)
  where
    by : (b : Bool) → nat_eq u.var v ≡ b → ((a b : Arrays) → AgreeOn (λ x. nat_eq x v) a b → updates a (filter (λ (u : Update). nat_eq u.var v) us) k q ≡ updates b us k q)
        → updates s (cond b (u ∷ filter (λ (u : Update). nat_eq u.var v) us) (filter (λ (u : Update). nat_eq u.var v) us)) k q ≡ updates n (u ∷ us) k q
    by true is rest = rest (update s u k) (update n u k) (update_agrees (λ x. nat_eq x v) u s n k h)
    by false isnt rest =
        rest s (update n u k)
        (λ q' inside. h q' inside ∙ sym (updated_keeps u n k q' (has-pow_other u.var q'.var (λ same. both_ways _ isnt (ap (λ x. nat_eq x v) same ∙ inside)))))

-- ---- updates that change nothing
still_number : (op : Op) (old : ℕ) (k : List ℕ) → old < 2 ^ 64 → is_still op ≡ true → number_after op old k ≡ old
still_number (Put a) old k l e = absurd (false≢true e)
still_number (Add n) old k l e = let z = eqb-true n 0 e in ap (λ x. (old + x) % 2 ^ 64) z ∙ ap (λ x. x % 2 ^ 64) plus_zero ∙ mod-eq_of_lt l
  where
    plus_zero : old + 0 ≡ old
    plus_zero = omega arith

still_same : (u : Update) (m : Arrays) (k : List ℕ) → is_still u.op ≡ true → IsStore m → (q : Place) → update m u k q ≡ m q
still_same u m k e small q = by (same_place (place_at u.var u.index k) q) refl
  where
    by : (b : Bool) → same_place (place_at u.var u.index k) q ≡ b → cond (same_place (place_at u.var u.index k) q) (number_after u.op (m (place_at u.var u.index k)) k) (m q) ≡ m q
    by true is = cond-true _ _ _ is ∙ still_number u.op (m (place_at u.var u.index k)) k (small (place_at u.var u.index k)) e ∙ ap m (same_place-exact (place_at u.var u.index k) q is)
    by false isnt = cond-false _ _ _ isnt

drop_still : (k : List ℕ) → AreSmall k → (us : List Update) → All (λ (u : Update). OpIsSmall u.op) us → (m : Arrays) → IsStore m → updates m (filter (λ (u : Update). not (is_still u.op)) us) k ≡ updates m us k
drop_still k ak [] all m small = refl
drop_still k ak (u ∷ us) all m small =
    by (is_still u.op) refl (λ a h. drop_still k ak us (All-tail (λ (u : Update). OpIsSmall u.op) u us all) a h)
  where
    after : IsStore (update m u k)
    after = (stays_fine (Change u) m k (length k) (All-head (λ (u : Update). OpIsSmall u.op) u us all) small (refl, ak)).0

    by : (b : Bool) → is_still u.op ≡ b → ((a : Arrays) → IsStore a → updates a (filter (λ (u : Update). not (is_still u.op)) us) k ≡ updates a us k)
        → updates m (cond (not b) (u ∷ filter (λ (u : Update). not (is_still u.op)) us) (filter (λ (u : Update). not (is_still u.op)) us)) k ≡ updates m (u ∷ us) k
    by true e rest = rest m small ∙ ap (λ (a : Arrays). updates a us k) (λ i q. sym (still_same u m k e small q) i)
    by false e rest = rest (update m u k) after

-- ---- those of a variable, by rank
module _ (ranks : List ℕ) (v : ℕ) where
  abbrev own : List Update → List Update
  own us = filter (λ (u : Update). nat_eq u.var v) us

  abbrev moves : List Update → List Update
  moves us = filter (λ (u : Update). not (is_still u.op)) us

  of_own : (us : List Update) → own (of_rank ranks (slice_index ranks v) us) ≡ moves (own us)
  of_own [] = refl
  of_own (u ∷ us) = by (not (is_still u.op)) (nat_eq (slice_index ranks u.var) (slice_index ranks v)) (nat_eq u.var v) refl refl refl (of_own us)
    where
      by : (a b c : Bool) → not (is_still u.op) ≡ a → nat_eq (slice_index ranks u.var) (slice_index ranks v) ≡ b → nat_eq u.var v ≡ c → own (of_rank ranks (slice_index ranks v) us) ≡ moves (own us)
          → own (cond (a && b) (u ∷ of_rank ranks (slice_index ranks v) us) (of_rank ranks (slice_index ranks v) us)) ≡ moves (cond c (u ∷ own us) (own us))
      by true true true d e f rest = (λ i. cond (f i) (u ∷ rest i) (rest i)) ∙ sym (ap (λ b. cond b (u ∷ moves (own us)) (moves (own us))) d)
      by true true false d e f rest = ap (λ b. cond b (u ∷ own (of_rank ranks (slice_index ranks v) us)) (own (of_rank ranks (slice_index ranks v) us))) f ∙ rest
      by true false true d e f rest = absurd (both_ways _ e (eq-eqb (slice_index ranks u.var) (slice_index ranks v) (ap (slice_index ranks) (eqb-true u.var v f))))
      by true false false d e f rest = rest
      by false b true d e f rest = rest ∙ sym (ap (λ b. cond b (u ∷ moves (own us)) (moves (own us))) d)
      by false b false d e f rest = rest

  of_other : (r : ℕ) → slice_index ranks v ≢ r → (us : List Update) → own (of_rank ranks r us) ≡ []
  of_other r ne [] = refl
  of_other r ne (u ∷ us) = by (not (is_still u.op) && nat_eq (slice_index ranks u.var) r) refl (nat_eq u.var v) refl (of_other r ne us)
    where
      by : (a : Bool) → (not (is_still u.op) && nat_eq (slice_index ranks u.var) r) ≡ a → (c : Bool) → nat_eq u.var v ≡ c → own (of_rank ranks r us) ≡ [] → own (cond a (u ∷ of_rank ranks r us) (of_rank ranks r us)) ≡ []
      by true e true f rest = absurd (ne (sym (ap (slice_index ranks) (eqb-true u.var v f)) ∙ eqb-true (slice_index ranks u.var) r (and_parts (not (is_still u.op)) (nat_eq (slice_index ranks u.var) r) e).1))
      by true e false f rest = ap (λ b. cond b (u ∷ own (of_rank ranks r us)) (own (of_rank ranks r us))) f ∙ rest
      by false e c f rest = rest

  none_yet : (n : ℕ) (us : List Update) → n ≤ slice_index ranks v → own (by_ranks ranks n us) ≡ []
  none_yet zero us l = refl
  none_yet (suc n) us l =
      filter-append (λ (u : Update). nat_eq u.var v) (by_ranks ranks n us) (of_rank ranks n us)
      ∙ (λ i. none_yet n us (omega (arith, l)) i ++ of_other n (λ e. (omega (arith, l, e))) us i)

  found : (n : ℕ) (us : List Update) → slice_index ranks v < n → own (by_ranks ranks n us) ≡ moves (own us)
  found zero us l = absurd (omega (arith, l))
  found (suc n) us l = by (nat_eq (slice_index ranks v) n) refl (λ h. found n us h)
    where
      by : (b : Bool) → nat_eq (slice_index ranks v) n ≡ b → (slice_index ranks v < n → own (by_ranks ranks n us) ≡ moves (own us)) → own (by_ranks ranks n us ++ of_rank ranks n us) ≡ moves (own us)
      by true e rest =
          let same = eqb-true (slice_index ranks v) n e in
          filter-append (λ (u : Update). nat_eq u.var v) (by_ranks ranks n us) (of_rank ranks n us)
          ∙ (λ i. none_yet n us (omega (arith, same)) i ++ (ap (λ r. own (of_rank ranks r us)) (sym same) ∙ of_own us) i)
      by false e rest =
          let ne = eqb-false (slice_index ranks v) n e in
          filter-append (λ (u : Update). nat_eq u.var v) (by_ranks ranks n us) (of_rank ranks n us)
          ∙ (λ i. rest (omega (arith, l, ne)) i ++ of_other n ne us i) ∙ append-nil _

  none_own : (n : ℕ) (us : List Update) → All (λ (u : Update). slice_index ranks u.var < n) us → n ≤ slice_index ranks v → own us ≡ []
  none_own n [] all l = refl
  none_own n (u ∷ us) all l = by (nat_eq u.var v) refl (none_own n us (All-tail (λ (u : Update). slice_index ranks u.var < n) u us all) l)
    where
      by : (b : Bool) → nat_eq u.var v ≡ b → own us ≡ [] → cond b (u ∷ own us) (own us) ≡ []
      by true e rest = absurd (let h = All-head (λ (u : Update). slice_index ranks u.var < n) u us all in let s = ap (slice_index ranks) (eqb-true u.var v e) in omega (arith, h, s, l))
      by false e rest = rest

  own_ranked : (n : ℕ) (us : List Update) → All (λ (u : Update). slice_index ranks u.var < n) us → own (by_ranks ranks n us) ≡ moves (own us)
  own_ranked n us all = ⊎_elim (λ l. found n us l) (λ l. none_yet n us l ∙ sym (ap moves (none_own n us all l))) (cases_lt (slice_index ranks v) n)

-- updates by rank leave what updates in order leave
pub ranked_updates : (ranks : List ℕ) (n : ℕ) (k : List ℕ) → AreSmall k → (us : List Update) → All (λ (u : Update). slice_index ranks u.var < n) us → All (λ (u : Update). OpIsSmall u.op) us → (m : Arrays) → IsStore m
    → (q : Place) → updates m (by_ranks ranks n us) k q ≡ updates m us k q
unfolding only
ranked_updates ranks n k ak us low all m small q =
    sym (only_updates q.var k (by_ranks ranks n us) m m (λ q e. refl) q refl)
    ∙ ap (λ (l : List Update). updates m l k q) (own_ranked ranks q.var n us low)
    ∙ ap (λ (a : Arrays). a q) (drop_still k ak (filter (λ (u : Update). nat_eq u.var q.var) us) (All-filter (λ (u : Update). nat_eq u.var q.var) (λ (u : Update). OpIsSmall u.op) us all) m small)
    ∙ only_updates q.var k us m m (λ q e. refl) q refl
