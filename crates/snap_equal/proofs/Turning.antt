-- Updates that do the same in another order.
use Rattle.std.proofs.Common.{◌≡◌, ℕ, Bool, true, false, List, [], ◌∷◌, ◌++◌, ◌+◌, ◌<◌, zero, suc, length, get_or, take, drop, refl, sym, ap, ◌∙◌, add-one}
use Rattle.std.specs.Prelude.{All}
use Rattle.std.specs.List.{remove}
use Rattle.std.proofs.Math.Path.{fun_ext}
use Rattle.std.proofs.Math.Seq.{drop-cons}
use Rattle.std.proofs.lemmas.List.{take-append-drop}
use Rattle.std.proofs.lemmas.List.Elements.{All-cons, All-head, All-tail}
use Rattle.snap_core.specs.declared.place.Place.{Place}
use Rattle.snap_core.specs.declared.policy.Update.{Update}
use Rattle.snap_core.specs.Arrays.{Arrays, same_place, place_at, number_after, update, updates}
use Rattle.snap_core.proofs.Places.{same_place-exact}
use Rattle.snap_core.proofs.Updates.{updates-append}
use Rattle.snap_compose.proofs.Splitting.{hit, missed}

-- ---- two updates
module _ (k : List ℕ) (u w : Update) (n : Arrays)
    (both : place_at u.var u.index k ≡ place_at w.var w.index k → (x : ℕ) → number_after w.op (number_after u.op x k) k ≡ number_after u.op (number_after w.op x k) k) where
  at : (q : Place) (a b : Bool) → same_place (place_at u.var u.index k) q ≡ a → same_place (place_at w.var w.index k) q ≡ b → update (update n u k) w k q ≡ update (update n w k) u k q
  at q true true e f =
      let p : place_at u.var u.index k ≡ q = same_place-exact (place_at u.var u.index k) q e in
      let r : place_at w.var w.index k ≡ q = same_place-exact (place_at w.var w.index k) q f in
      hit w (update n u k) k q r ∙ ap (λ x. number_after w.op x k) (hit u n k q p)
      ∙ both (p ∙ sym r) (n q)
      ∙ sym (hit u (update n w k) k q p ∙ ap (λ x. number_after u.op x k) (hit w n k q r))
  at q true false e f =
      let p : place_at u.var u.index k ≡ q = same_place-exact (place_at u.var u.index k) q e in
      missed w (update n u k) k q f ∙ hit u n k q p
      ∙ sym (hit u (update n w k) k q p ∙ ap (λ x. number_after u.op x k) (missed w n k q f))
  at q false true e f =
      let r : place_at w.var w.index k ≡ q = same_place-exact (place_at w.var w.index k) q f in
      hit w (update n u k) k q r ∙ ap (λ x. number_after w.op x k) (missed u n k q e)
      ∙ sym (missed u (update n w k) k q e ∙ hit w n k q r)
  at q false false e f =
      missed w (update n u k) k q f ∙ missed u n k q e ∙ sym (missed u (update n w k) k q e ∙ missed w n k q f)

  pub turned : update (update n u k) w k ≡ update (update n w k) u k
  turned = fun_ext (λ q. at q (same_place (place_at u.var u.index k) q) (same_place (place_at w.var w.index k) q) refl refl)

-- ---- one update behind others
-- done before these it does what it does behind them
abbrev pub GoesBehind : List ℕ → Update → List Update → Type 0
GoesBehind k u us = (n : Arrays) → updates (update n u k) us k ≡ update (updates n us k) u k

module _ (k : List ℕ) (u : Update) (us : List Update) (i : ℕ) (w : Update) (l : i < length us) (is : w ≡ get_or us i w) where
  pub cut : drop i us ≡ w ∷ drop (i + 1) us
  cut = rw add-one (drop-cons us i w l) ∙ ap (λ (x : Update). x ∷ drop (i + 1) us) (sym is)

  pub behind_more : ((n : Arrays) → update (update n w k) u k ≡ update (update n u k) w k) → GoesBehind k u (drop (i + 1) us) → GoesBehind k u (drop i us)
  behind_more turns h n =
      ap (λ vs. updates (update n u k) vs k) cut
      ∙ ap (λ (x : Arrays). updates x (drop (i + 1) us) k) (sym (turns n))
      ∙ h (update n w k)
      ∙ ap (λ vs. update (updates n vs k) u k) (sym cut)

  -- one that does what u does is done last, where u goes behind all that follow
  pub done_last : ((n : Arrays) → update n w k ≡ update n u k) → GoesBehind k u (drop (i + 1) us) → (n : Arrays) → updates n us k ≡ update (updates n (remove us i) k) u k
  done_last same h n =
      ap (λ vs. updates n vs k) (sym (take-append-drop i us)) ∙ updates-append (take i us) (drop i us) n k
      ∙ ap (λ vs. updates (updates n (take i us) k) vs k) cut
      ∙ ap (λ (x : Arrays). updates x (drop (i + 1) us) k) (same (updates n (take i us) k))
      ∙ h (updates n (take i us) k)
      ∙ ap (λ (x : Arrays). update x u k) (sym (updates-append (take i us) (drop (i + 1) us) n k))
      ∙ ap (λ vs. update (updates n (take i us ++ vs) k) u k) (rw add-one refl)

-- ---- updates that are let go
module _ (k : List ℕ) (m : Arrays) (left rest : List Update) where
  -- one that is done last in both
  pub matched : (less : List Update) (i : ℕ) (u : Update) → i < length left → u ≡ get_or left i u → ((n : Arrays) → updates n rest k ≡ update (updates n less k) u k)
      → updates (updates m rest k) (drop (i + 1) left) k ≡ updates (updates m less k) (drop i left) k
  matched less i u l is last =
      ap (λ (x : Arrays). updates x (drop (i + 1) left) k) (last m)
      ∙ ap (λ vs. updates (updates m less k) vs k) (sym (cut k u left i u l is))

  -- where what is left does the same the whole does
  pub same_behind : (right first : List Update) (n : ℕ) → first ≡ take n left → updates m first k ≡ updates m rest k → updates m right k ≡ updates (updates m rest k) (drop n left) k → updates m left k ≡ updates m right k
  same_behind right first n is same whole =
      ap (λ vs. updates m vs k) (sym (take-append-drop n left)) ∙ updates-append (take n left) (drop n left) m k
      ∙ ap (λ vs. updates (updates m vs k) (drop n left) k) (sym is)
      ∙ ap (λ (x : Arrays). updates x (drop n left) k) same
      ∙ sym whole

-- ---- all but one
pub All-remove : {X : Type 0} (P : X → Type 0) (xs : List X) (i : ℕ) → All P xs → All P (remove xs i)
All-remove P [] zero h = h
All-remove P [] (suc i) h = h
All-remove P (x ∷ xs) zero h = All-tail P x xs h
All-remove P (x ∷ xs) (suc i) h = All-cons P x (remove xs i) (All-head P x xs h) (All-remove P xs i (All-tail P x xs h))
