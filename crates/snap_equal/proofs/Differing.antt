-- Updates make the same of a store where additions have no difference and the other places agree.
use Rattle.std.proofs.Common.{◌≡◌, ℕ, Bool, true, false, List, [], length, take, drop, get_or, refl, sym, ap, ◌∙◌, subst, arith}
use Rattle.std.specs.Prelude.{Some, None, All}
use Rattle.std.proofs.Math.Path.{fun_ext}
use Rattle.std.proofs.lemmas.List.{take-append-drop}
use Rattle.snap_core.specs.declared.place.Place.{Place}
use Rattle.snap_core.specs.declared.policy.Update.{Update}
use Rattle.snap_core.specs.Arrays.{Arrays, place_at, updates, has}
use Rattle.snap_core.specs.Inputs.{IsStore}
use Rattle.snap_context.specs.Classes.{wrap}
use Rattle.snap_context.specs.View.{View}
use Rattle.snap_context.proofs.Wrap.{wrap_zero, wrap_cancel, wrap_cancel_right}
use Rattle.snap_compose.specs.Additions.{IsAddition}
use Rattle.snap_equal.specs.Held.{AgreeAlong}
use Rattle.snap_equal.specs.Tally.{IsSum, AddOutside, IsDifference, total}
use Rattle.snap_equal.specs.Told.{IsModel, On}
use Rattle.snap_equal.proofs.Adding.{updates-add, total_small, wrap_turn}
use Rattle.snap_equal.proofs.AllPlaces.{agree_at}
use Rattle.snap_core.proofs.Updates.{updates-append}

adds_at : (mixed : ℕ) (us : List Update) (q : Place) → AddOutside mixed us → has mixed q.var ≡ false → All (λ u. u.var ≡ q.var → IsAddition u.op) us
adds_at mixed us q adds out i d l e = adds i d l (ap (has mixed) e ∙ out)

module _ (v : View) (mixed arrays n : ℕ) (left right us vs sums : List Update) (is_left : us ≡ drop n left) (is_right : vs ≡ drop n right)
    (same : On v (λ m k. updates m (take n left) k ≡ updates m (take n right) k)) (small : On v (λ m k. IsStore (updates m (take n left) k)))
    (add_left : AddOutside mixed us) (add_right : AddOutside mixed vs)
    (are : All (IsSum mixed (length v.classes) arrays) sums) (difference : IsDifference v mixed us vs sums)
    (m : Arrays) (k : List ℕ) (i : IsModel v m k) where
  -- the store after the common updates
  abbrev middle : Arrays
  middle = updates m (take n left) k

  left_from : updates m left k ≡ updates middle us k
  left_from = ap (λ xs. updates m xs k) (sym (take-append-drop n left)) ∙ updates-append (take n left) (drop n left) m k ∙ ap (λ xs. updates middle xs k) (sym is_left)

  right_from : updates m right k ≡ updates middle vs k
  right_from = ap (λ xs. updates m xs k) (sym (take-append-drop n right)) ∙ updates-append (take n right) (drop n right) m k
      ∙ ap (λ (x : Arrays). updates x (drop n right) k) (sym (same m k i)) ∙ ap (λ xs. updates middle xs k) (sym is_right)

  module _ (q : Place) (out : has mixed q.var ≡ false) where
    left_at : updates m left k q ≡ wrap (middle q) (total us k q)
    left_at = ap (λ (x : Arrays). x q) left_from ∙ updates-add k q us middle (adds_at mixed us q add_left out) (small m k i q)

    right_at : updates m right k q ≡ wrap (middle q) (total vs k q)
    right_at = ap (λ (x : Arrays). x q) right_from ∙ updates-add k q vs middle (adds_at mixed vs q add_right out) (small m k i q)

    sums_at : updates m sums k q ≡ wrap (m q) (total sums k q)
    sums_at = updates-add k q sums m (λ j d l e. (are j d l).adds) (i.store q)

    none_where_equal : updates m left k q ≡ updates m right k q → updates m sums k q ≡ m q
    none_where_equal e =
        let t : total us k q ≡ total vs k q =
        wrap_cancel_right (middle q) (total us k q) (total vs k q) (total_small us k q) (total_small vs k q) (sym left_at ∙ e ∙ right_at) in
        let z : total sums k q ≡ 0 = wrap_cancel (total sums k q) 0 (total vs k q) (total_small sums k q) (omega arith)
        (difference m k i q out ∙ t ∙ sym (wrap_turn 0 (total vs k q) ∙ wrap_zero (total vs k q) (total_small vs k q))) in
        sums_at ∙ ap (wrap (m q)) z ∙ wrap_zero (m q) (i.store q)

    equal_where_none : updates m sums k q ≡ m q → updates m left k q ≡ updates m right k q
    equal_where_none e =
        let z : total sums k q ≡ 0 = wrap_cancel_right (m q) (total sums k q) 0 (total_small sums k q) (omega arith) (sym sums_at ∙ e ∙ sym (wrap_zero (m q) (i.store q))) in
        let t : total us k q ≡ total vs k q =
        sym (difference m k i q out) ∙ ap (λ x. wrap x (total vs k q)) z ∙ wrap_turn 0 (total vs k q) ∙ wrap_zero (total vs k q) (total_small vs k q) in
        left_at ∙ ap (wrap (middle q)) t ∙ sym right_at

  -- equal stores have no difference
  pub equal_sums : updates m left k ≡ updates m right k → AgreeAlong None sums k (updates m sums k) m
  equal_sums e j d l chosen =
      let u : Update = get_or sums j d in
      none_where_equal (place_at u.var u.index k) (are j d l).outside (ap (λ (x : Arrays). x (place_at u.var u.index k)) e)

  module _ (none : AgreeAlong None sums k (updates m sums k) m)
      (along : AgreeAlong (Some mixed) us k (updates m left k) (updates m right k))
      (back : AgreeAlong (Some mixed) vs k (updates m left k) (updates m right k)) where
    middle_along : (ws : List Update) → AgreeAlong (Some mixed) ws k (updates m left k) (updates m right k) → AgreeAlong (Some mixed) ws k (updates middle us k) (updates middle vs k)
    middle_along ws h = subst (λ (x : Arrays). AgreeAlong (Some mixed) ws k (updates middle us k) x) right_from (subst (λ (x : Arrays). AgreeAlong (Some mixed) ws k x (updates m right k)) left_from h)

    equal_at : (q : Place) (b : Bool) → has mixed q.var ≡ b → updates m left k q ≡ updates m right k q
    equal_at q true e =
        ap (λ (x : Arrays). x q) left_from
        ∙ agree_at (Some mixed) us vs middle k q e (middle_along us along) (middle_along vs back)
        ∙ sym (ap (λ (x : Arrays). x q) right_from)
    equal_at q false e = equal_where_none q e (agree_at None sums [] m k q refl none (λ j d l. absurd (omega (arith, l))))

    -- where there is no difference and the other places agree the stores are equal
    pub equal_stores : updates m left k ≡ updates m right k
    equal_stores = fun_ext (λ q. equal_at q (has mixed q.var) refl)
