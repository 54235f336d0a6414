-- What is overwritten leaves nothing.
use Rattle.std.proofs.Common.{◌≡◌, ℕ, Bool, true, false, List, [], ◌∷◌, ◌++◌, ◌+◌, ◌<◌, length, get_or, take, drop, refl, sym, ap, ◌∙◌, subst, append_assoc}
use Rattle.std.proofs.Math.Path.{fun_ext}
use Rattle.std.proofs.lemmas.List.{take-append-drop}
use Rattle.snap_core.specs.declared.place.Place.{Place}
use Rattle.snap_core.specs.declared.policy.Update.{Update}
use Rattle.snap_core.specs.Arrays.{Arrays, same_place, place_at, number_after, update, updates}
use Rattle.snap_core.proofs.Places.{same_place-exact}
use Rattle.snap_core.proofs.Updates.{updates-append}
use Rattle.snap_compose.proofs.Splitting.{hit, missed}
use Rattle.snap_equal.proofs.Turning.{cut}

module _ (k : List ℕ) (p : Place) where
  -- stores that agree at each other place
  abbrev AgreeBeside : Arrays → Arrays → Type 0
  AgreeBeside m n = (q : Place) → same_place p q ≡ false → m q ≡ n q

  beside_update : (u : Update) (m n : Arrays) → AgreeBeside m n → AgreeBeside (update m u k) (update n u k)
  beside_update u m n h q off = by (same_place (place_at u.var u.index k) q) refl
    where
      by : (b : Bool) → same_place (place_at u.var u.index k) q ≡ b → update m u k q ≡ update n u k q
      by true e =
          let is : place_at u.var u.index k ≡ q = same_place-exact (place_at u.var u.index k) q e in
          hit u m k q is ∙ ap (λ x. number_after u.op x k) (h q off) ∙ sym (hit u n k q is)
      by false e = missed u m k q e ∙ h q off ∙ sym (missed u n k q e)

  beside_updates : (us : List Update) (m n : Arrays) → AgreeBeside m n → AgreeBeside (updates m us k) (updates n us k)
  beside_updates [] m n h = h
  beside_updates (u ∷ us) m n h = beside_updates us (update m u k) (update n u k) (beside_update u m n h)

  closed : (w : Update) → place_at w.var w.index k ≡ p → ((x y : ℕ) → number_after w.op x k ≡ number_after w.op y k) → (m n : Arrays) → AgreeBeside m n → update m w k ≡ update n w k
  closed w at same m n h = fun_ext (λ q. by q (same_place (place_at w.var w.index k) q) refl)
    where
      by : (q : Place) (b : Bool) → same_place (place_at w.var w.index k) q ≡ b → update m w k q ≡ update n w k q
      by q true e =
          let is : place_at w.var w.index k ≡ q = same_place-exact (place_at w.var w.index k) q e in
          hit w m k q is ∙ same (m q) (n q) ∙ sym (hit w n k q is)
      by q false e = missed w m k q e ∙ h q (subst (λ (r : Place). same_place r q ≡ false) at e) ∙ sym (missed w n k q e)

-- an update is lost where one of those behind it writes its place
abbrev pub IsLost : List ℕ → Update → List Update → Type 0
IsLost k u us = (n : Arrays) → updates (update n u k) us k ≡ updates n us k

pub lost : (k : List ℕ) (u w : Update) (us : List Update) (i : ℕ) → i < length us → w ≡ get_or us i w → place_at w.var w.index k ≡ place_at u.var u.index k
    → ((x y : ℕ) → number_after w.op x k ≡ number_after w.op y k) → IsLost k u us
lost k u w us i l is at same n =
    let p : Place = place_at u.var u.index k in
    let parts : (m : Arrays) → updates m us k ≡ updates (update (updates m (take i us) k) w k) (drop (i + 1) us) k = λ m.
    ap (λ vs. updates m vs k) (sym (take-append-drop i us)) ∙ updates-append (take i us) (drop i us) m k
    ∙ ap (λ vs. updates (updates m (take i us) k) vs k) (cut k u us i w l is) in
    parts (update n u k)
    ∙ ap (λ (x : Arrays). updates x (drop (i + 1) us) k)
    (closed k p w at same (updates (update n u k) (take i us) k) (updates n (take i us) k) (beside_updates k p (take i us) (update n u k) n (λ q off. missed u n k q off)))
    ∙ sym (parts n)

-- ---- updates that are kept, and those that are left
module _ (k : List ℕ) (m : Arrays) (kept us : List Update) (i : ℕ) (u : Update) (l : i < length us) (is : u ≡ get_or us i u) where
  pub kept_more : updates m ((kept ++ u ∷ []) ++ drop (i + 1) us) k ≡ updates m (kept ++ drop i us) k
  kept_more = ap (λ vs. updates m vs k) (append_assoc kept (u ∷ []) (drop (i + 1) us) ∙ ap (λ vs. kept ++ vs) (sym (cut k u us i u l is)))

  pub kept_less : IsLost k u (drop (i + 1) us) → updates m (kept ++ drop (i + 1) us) k ≡ updates m (kept ++ drop i us) k
  kept_less h =
      updates-append kept (drop (i + 1) us) m k
      ∙ sym (h (updates m kept k))
      ∙ sym (updates-append kept (drop i us) m k ∙ ap (λ vs. updates (updates m kept k) vs k) (cut k u us i u l is))
