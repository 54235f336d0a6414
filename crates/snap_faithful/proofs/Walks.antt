-- Walks over the nodes of tables, by different arrays.
use Rattle.std.proofs.Common.{◌≡◌, ◌≢◌, ℕ, ◌+◌, ◌≤◌, Bool, true, false, cond, List, [], ◌∷◌, Option, Some, None, refl, sym, ap, subst, ◌∙◌, arith}
use Rattle.std.specs.Prelude.{nat_eq, nat_le, nat_lt, IfSome}
use Rattle.std.specs.List.{filter}
use Rattle.std.proofs.lemmas.Bool.{eqb-true, eqb-false, eq-eqb, lt-leb, ltb-true, lt-ltb, cond-false, both_ways}
use Rattle.snap_core.specs.declared.place.Place.{Place}
use Rattle.snap_core.specs.declared.policy.Update.{Update}
use Rattle.snap_core.specs.declared.policy.Test.{Test}
use Rattle.snap_core.specs.declared.policy.Test.TheVariants.{Value, Equal, State as StateTest}
use Rattle.snap_core.specs.Arrays.{Arrays, update, updates, place_at}
use Rattle.snap_core.specs.Tests.{passes, term_value}
use Rattle.snap_core.proofs.Unwritten.{updated_keeps}
use Rattle.snap_dep.specs.Locality.{AgreeOn, cut}
use Rattle.snap_dep.proofs.Agreement.{update_agrees}
use Rattle.snap_dep.proofs.Sets.{has-pow_other}
use Rattle.snap_rows.specs.declared.tables.Tables.{Tables}
use Rattle.snap_rows.specs.declared.tables.Row.{Row}
use Rattle.snap_rows.specs.declared.tables.Row.TheVariants.{Field, State, Last}
use Rattle.snap_rows.specs.Entries.{Parts, row_at, node_of, rank_of, var_of, is_node}
use Rattle.snap_rows.specs.Rules.{MayFollow}
use Rattle.snap_rows.specs.Handles.{side, is_field, is_test, is_ranked, Follows, arrives, follows}
use Rattle.std.proofs.lemmas.Option.{same_Some}
use Rattle.snap_faithful.specs.Visits.{Comes, here, on}
use Rattle.snap_faithful.proofs.Nodes.{IsTwo, AsksFields, own_node, asks_fields, in_order}
use Rattle.snap_rows.proofs.OwnReads.{field_passes}
use Rattle.snap_rows.proofs.Able.{ranked_tests}

-- a field row, or a state row of a rank below r
abbrev pub is_early : Tables → ℕ → Row → Bool
is_early t r (Field test y z) = true
is_early t r (State test y z) = nat_lt (rank_of t (var_of test)) r
is_early t r _ = false

-- ---- tests and arrays
same_passes : (S : ℕ → Bool) (m n : Arrays) (k : List ℕ) → AgreeOn S m n → (test : Test) → S (var_of test) ≡ true → passes test m k ≡ passes test n k
same_passes S m n k h (Value c v) e = refl
same_passes S m n k h (Equal a b v) e = refl
same_passes S m n k h (StateTest s es v) e = ap (λ x. nat_eq x (term_value v k)) (h (place_at s es k) e)

pub side_is : (c : Bool) (y z x : ℕ) (P : ℕ → Type 0) → P y × P z → Some (cond c y z) ≡ Some x → P x
side_is true y z x P h e = subst P (same_Some y x e) h.0
side_is false y z x P h e = subst P (same_Some z x e) h.1

-- where p lets a row pass so does p', and the row goes the same way by both arrays
abbrev pub GoesSame : Tables → List ℕ → (Row → Bool) → (Row → Bool) → Arrays → Arrays → Type 0
GoesSame t k p p' m n = (b : Row) → AsksFields b → p b ≡ true → (p' b ≡ true) × (side b m k ≡ side b n k)

pub same_side : (b c : Bool) (y z : ℕ) → b ≡ c → Some (cond b y z) ≡ Some (cond c y z)
same_side b c y z e = ap (λ x. Some (cond x y z)) e

module _ (t : Tables) (k : List ℕ) where
  -- ---- what goes the same way
  pub early_goes : (r : ℕ) (m n : Arrays) → AgreeOn (λ v. nat_lt (rank_of t v) r) m n → (p' : Row → Bool) → ((b : Row) → is_early t r b ≡ true → p' b ≡ true) → GoesSame t k (is_early t r) p' m n
  early_goes r m n h p' up (Field test y z) f e = (up (Field test y z) e, same_side _ _ y z (field_passes m n k test f))
  early_goes r m n h p' up (State test y z) f e = (up (State test y z) e, same_side _ _ y z (same_passes (λ v. nat_lt (rank_of t v) r) m n k h test e))
  early_goes r m n h p' up _ f e = absurd (both_ways _ refl e)

  pub ranked_goes : (r : ℕ) (m n : Arrays) → AgreeOn (λ v. nat_eq (rank_of t v) r) m n → (p' : Row → Bool) → ((b : Row) → is_ranked t r b ≡ true → p' b ≡ true) → GoesSame t k (is_ranked t r) p' m n
  ranked_goes r m n h p' up (State test y z) f e = (up (State test y z) e, same_side _ _ y z (same_passes (λ v. nat_eq (rank_of t v) r) m n k h test e))
  ranked_goes r m n h p' up _ f e = absurd (both_ways _ refl e)

  pub field_goes : (m n : Arrays) → GoesSame t k is_field (is_early t 0) m n
  field_goes m n (Field test y z) f e = (refl, same_side _ _ y z (field_passes m n k test f))
  field_goes m n _ f e = absurd (both_ways _ refl e)

  pub early_is_test : (r : ℕ) (b : Row) → is_early t r b ≡ true → is_test b ≡ true
  early_is_test r (Field test y z) e = refl
  early_is_test r (State test y z) e = refl
  early_is_test r _ e = absurd (both_ways _ refl e)

  pub test_is_node : (b : Row) → is_test b ≡ true → is_node b ≡ true
  test_is_node (Field test y z) e = refl
  test_is_node (State test y z) e = refl
  test_is_node _ e = absurd (both_ways _ refl e)

  pub field_is_node : (b : Row) → is_field b ≡ true → is_node b ≡ true
  field_is_node (Field test y z) e = refl
  field_is_node _ e = absurd (both_ways _ refl e)

  pub ranked_is_node : (r : ℕ) (b : Row) → is_ranked t r b ≡ true → is_node b ≡ true
  ranked_is_node r b e = test_is_node b (ranked_tests t r b e)

  pub early_more : (r : ℕ) (b : Row) → is_early t r b ≡ true → is_early t (r + 1) b ≡ true
  early_more r (Field test y z) e = refl
  early_more r (State test y z) e = lt-ltb (rank_of t (var_of test)) (r + 1) (let l = ltb-true (rank_of t (var_of test)) r e in omega (arith, l))
  early_more r _ e = absurd (both_ways _ refl e)

  pub ranked_is_early : (r : ℕ) (b : Row) → is_ranked t r b ≡ true → is_early t (r + 1) b ≡ true
  ranked_is_early r (State test y z) e = lt-ltb (rank_of t (var_of test)) (r + 1) (let l = eqb-true (rank_of t (var_of test)) r e in omega (arith, l))
  ranked_is_early r _ e = absurd (both_ways _ refl e)

  pub joined : (p : Row → Bool) (m : Arrays) {a b c : ℕ} → Comes t k p m a b → Comes t k p m b c → Comes t k p m a c
  joined p m here r = r
  joined p m (on node yes_p way rest) r = on node yes_p way (joined p m rest r)

  -- where rows stop
  pub stops : (w : ℕ) (p : Row → Bool) (m : Arrays) {a b : ℕ} → Follows t w k p m a b → (x : Row) × (row_at t w b ≡ Some x) × (p x ≡ false)
  stops w p m (arrives {b = body} row no_p) = (body, row, no_p)
  stops w p m (follows row yes_p way rest) = stops w p m rest

  -- the row from which a walk to a leaf begins is a node
  pub begins : (w : ℕ) (m : Arrays) (ups : List Update) (outs : List Parts) {a b : ℕ} → Follows t w k is_test m a b → row_at t w b ≡ Some (Last ups outs) → (x : Row) × (row_at t w a ≡ Some x) × (is_node x ≡ true)
  begins w m ups outs (arrives row no_p) last = (Last ups outs, last, refl)
  begins w m ups outs (follows {b = body} row yes_p way rest) last = (body, row, test_is_node body yes_p)

  -- ---- updates of one rank
  abbrev pub of_rank : ℕ → List Update → List Update
  of_rank r us = filter (λ (u : Update). nat_eq (rank_of t u.var) r) us

  pub rank_updates : (r : ℕ) (us : List Update) (s n : Arrays) → AgreeOn (λ v. nat_eq (rank_of t v) r) s n → (q : Place) → rank_of t q.var ≡ r → updates s (of_rank r us) k q ≡ updates n us k q
  rank_updates r [] s n h q e = h q (eq-eqb (rank_of t q.var) r e)
  rank_updates r (u ∷ us) s n h q e = by_rank (nat_eq (rank_of t u.var) r) refl (λ a b c. rank_updates r us a b c q e)
    where
      by_rank : (b : Bool) → nat_eq (rank_of t u.var) r ≡ b → ((a b : Arrays) → AgreeOn (λ v. nat_eq (rank_of t v) r) a b → updates a (of_rank r us) k q ≡ updates b us k q)
          → updates s (cond b (u ∷ of_rank r us) (of_rank r us)) k q ≡ updates n (u ∷ us) k q
      by_rank true is rest = rest (update s u k) (update n u k) (update_agrees (λ v. nat_eq (rank_of t v) r) u s n k h)
      by_rank false isnt rest =
          rest s (update n u k)
          (λ q' inside. h q' inside ∙ sym (updated_keeps u n k q' (has-pow_other u.var q'.var (λ same. both_ways _ isnt (ap (λ v. nat_eq (rank_of t v) r) same ∙ inside)))))

  pub rank_keeps : (r : ℕ) (us : List Update) (s : Arrays) (q : Place) → rank_of t q.var ≢ r → updates s (of_rank r us) k q ≡ s q
  rank_keeps r [] s q ne = refl
  rank_keeps r (u ∷ us) s q ne = by_rank (nat_eq (rank_of t u.var) r) refl (λ a. rank_keeps r us a q ne)
    where
      by_rank : (b : Bool) → nat_eq (rank_of t u.var) r ≡ b → ((a : Arrays) → updates a (of_rank r us) k q ≡ a q) → updates s (cond b (u ∷ of_rank r us) (of_rank r us)) k q ≡ s q
      by_rank true is rest = rest (update s u k) ∙ updated_keeps u s k q (has-pow_other u.var q.var (λ same. ne (ap (rank_of t) (sym same) ∙ eqb-true (rank_of t u.var) r is)))
      by_rank false isnt rest = rest s

module _ (t : Tables) (k : List ℕ) (two : IsTwo t) where
  pub moved : (p p' : Row → Bool) (m n : Arrays) → GoesSame t k p p' m n → {a b : ℕ} → Comes t k p m a b → Comes t k p' n a b
  moved p p' m n g here = here
  moved p p' m n g (on {n = a} {b = body} node yes_p way rest) =
      let same = g body (asks_fields t two a body node) yes_p in
      on node same.0 (sym same.1 ∙ way) (moved p p' m n g rest)

  pub along : (w : ℕ) (p : Row → Bool) (m : Arrays) → ((b : Row) → p b ≡ true → is_node b ≡ true) → {a b : ℕ} → Follows t w k p m a b → Comes t k p m a b
  along w p m inner (arrives row no_p) = here
  along w p m inner (follows {n = a} {b = body} row yes_p way rest) = on (own_node t two w a body row (inner body yes_p)) yes_p way (along w p m inner rest)

  -- ---- order
  weaker : (r q : ℕ) → r ≤ q → (b : Row) → MayFollow t q b → MayFollow t r b
  weaker r q l (Field test y z) f = f
  weaker r q l (State test y z) f = omega (arith, l, f)
  weaker r q l _ f = tt

  weaker_if : (r q : ℕ) → r ≤ q → (o : Option Row) → IfSome o (MayFollow t q) → IfSome o (MayFollow t r)
  weaker_if r q l None f = tt
  weaker_if r q l (Some b) f = weaker r q l b f

  -- a state row of at least rank r leads to none that may not follow r
  pub steps_on : (r a x : ℕ) (m : Arrays) (b : Row) → node_of t a ≡ Some b → is_test b ≡ true → IfSome (node_of t a) (MayFollow t r) → side b m k ≡ Some x → IfSome (node_of t x) (MayFollow t r)
  steps_on r a x m (Field test y z) node e f way = absurd (subst (λ o. IfSome o (MayFollow t r)) node f)
  steps_on r a x m (State test y z) node e f way =
      weaker_if r (rank_of t (var_of test)) (subst (λ o. IfSome o (MayFollow t r)) node f) (node_of t x)
      (side_is (passes test m k) y z x (λ v. IfSome (node_of t v) (MayFollow t (rank_of t (var_of test)))) (in_order t two a (State test y z) node) way)
  steps_on r a x m _ node e f way = absurd (both_ways _ refl e)

  pub keeps_order : (r : ℕ) (w : ℕ) (m : Arrays) {a v : ℕ} → IfSome (node_of t a) (MayFollow t r) → Follows t w k (is_ranked t r) m a v → IfSome (node_of t v) (MayFollow t r)
  keeps_order r w m f (arrives row no_p) = f
  keeps_order r w m f (follows {n = a} {x = x} {b = body} row yes_p way rest) =
      keeps_order r w m (steps_on r a x m body (own_node t two w a body row (ranked_is_node t k r body yes_p)) (ranked_tests t r body yes_p) f way) rest

  greater : (r : ℕ) (b : Row) → MayFollow t r b → is_ranked t r b ≡ false → MayFollow t (r + 1) b
  greater r (Field test y z) f e = f
  greater r (State test y z) f e = let ne = eqb-false (rank_of t (var_of test)) r e in omega (arith, f, ne)
  greater r _ f e = tt

  pub goes_beyond : (r w v : ℕ) (b x : Row) → row_at t w v ≡ Some b → is_node b ≡ true → row_at t w v ≡ Some x → is_ranked t r x ≡ false → IfSome (node_of t v) (MayFollow t r) → IfSome (node_of t v) (MayFollow t (r + 1))
  goes_beyond r w v b x row inner other no_p f =
      let node = own_node t two w v b row inner in
      let same : b ≡ x = same_Some b x (sym row ∙ other) in
      subst (λ o. IfSome o (MayFollow t (r + 1))) (sym node) (greater r b (subst (λ o. IfSome o (MayFollow t r)) node f) (ap (is_ranked t r) same ∙ no_p))

  -- past rank r a walk with greater ranks as 0 is the same from any arrays
  pub tail : (r w : ℕ) (m s : Arrays) {v leaf : ℕ} → IfSome (node_of t v) (MayFollow t (r + 1)) → Follows t w k is_test (cut (rank_of t) r s) v leaf → Comes t k is_test (cut (rank_of t) r m) v leaf
  tail r w m s f (arrives row no_p) = here
  tail r w m s f (follows {n = a} {x = x} {b = body} row yes_p way rest) =
      let node = own_node t two w a body row (test_is_node t k body yes_p) in
      on node yes_p (sym (zero_side body (subst (λ o. IfSome o (MayFollow t (r + 1))) node f)) ∙ way)
      (tail r w m s (steps_on (r + 1) a x (cut (rank_of t) r s) body node yes_p f way) rest)
    where
      zeros : AgreeOn (λ v. nat_lt r (rank_of t v)) (cut (rank_of t) r s) (cut (rank_of t) r m)
      zeros q e =
          let above : nat_le (rank_of t q.var) r ≡ false = lt-leb (rank_of t q.var) r (ltb-true r (rank_of t q.var) e) in
          cond-false (nat_le (rank_of t q.var) r) (s q) 0 above ∙ sym (cond-false (nat_le (rank_of t q.var) r) (m q) 0 above)

      zero_side : (b : Row) → MayFollow t (r + 1) b → side b (cut (rank_of t) r s) k ≡ side b (cut (rank_of t) r m) k
      zero_side (Field test y z) f = absurd f
      zero_side (State test y z) f = same_side _ _ y z (same_passes (λ v. nat_lt r (rank_of t v)) _ _ k zeros test (lt-ltb r (rank_of t (var_of test)) (omega (arith, f))))
      zero_side _ f = refl
