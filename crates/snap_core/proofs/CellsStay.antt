-- Cells of a store that stay.
use Rattle.std.proofs.Common.{◌≡◌, ℕ, Bool, true, false, cond, List, map, refl, ap, ◌∙◌}
use Rattle.std.proofs.lemmas.Bool.{cond-true, cond-false}
use Rattle.snap_core.specs.declared.place.Place.{Place}
use Rattle.snap_core.specs.declared.policy.Update.{Update}
use Rattle.snap_core.specs.Arrays.{Arrays, same_place, put, value_of, place_at, number_after, update}
use Rattle.snap_core.specs.declared.write.Write.{Write}
use Rattle.snap_core.specs.Cells.{written}
use Rattle.snap_core.proofs.Places.{same_place-exact}

-- the number that was there is put back
pub put-back : (m : Arrays) (p : Place) (v : ℕ) → put (put m p v) p (m p) ≡ m
put-back m p v = λ i q. back q (same_place p q) refl i
  where
    back : (q : Place) (t : Bool) → same_place p q ≡ t → cond (same_place p q) (m p) (cond (same_place p q) v (m q)) ≡ m q
    back q true e = cond-true _ _ _ e ∙ ap m (same_place-exact p q e)
    back q false e = cond-false _ _ _ e ∙ cond-false _ _ _ e

-- ---- one update, which may be undone
pub update-done : (m n : Arrays) (u : Update) (k ix : List ℕ) (w : Write)
    → ix ≡ map (λ e. value_of e k) u.index
    → ((old : ℕ) → written w old ≡ number_after u.op old k)
    → n ≡ put m (record { var = u.var; index = ix }) (written w (m (record { var = u.var; index = ix })))
    → n ≡ update m u k
update-done m n u k ix w at number done =
    done
    ∙ (λ i. put m (record { var = u.var; index = at i }) (written w (m (record { var = u.var; index = at i }))))
    ∙ ap (put m (place_at u.var u.index k)) (number (m (place_at u.var u.index k)))

pub update-undone : (m n r z : Arrays) (p : Place) (x v : ℕ) → v ≡ m p → n ≡ put m p x → r ≡ n → z ≡ put r p v → z ≡ m
update-undone m n r z p x v number done kept back = back ∙ (λ i. put ((kept ∙ done) i) p (number i)) ∙ put-back m p x
