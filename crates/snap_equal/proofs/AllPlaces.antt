-- Stores are equal where they agree at the places of updates.
use Rattle.std.proofs.Common.{◌≡◌, ℕ, Bool, true, false, List, [], ◌∷◌, get_or, refl, sym, ap, ◌∙◌, subst}
use Rattle.std.specs.Prelude.{◌==◌, Option, All}
use Rattle.std.proofs.lemmas.Bool.{eqb-true, eq-eqb, true≢false}
use Rattle.std.proofs.lemmas.List.Elements.{All-head, All-tail}
use Rattle.snap_core.specs.declared.place.Place.{Place}
use Rattle.snap_core.specs.declared.policy.Update.{Update}
use Rattle.snap_core.specs.Arrays.{Arrays, same_place, place_at, update, updates}
use Rattle.snap_equal.specs.Held.{AgreeAlong}
use Rattle.snap_equal.specs.Tally.{is_chosen}
use Rattle.snap_compose.proofs.Splitting.{missed}
use Rattle.snap_equal.proofs.Holding.{not_same}

module _ (k : List ℕ) (q : Place) where
  abbrev Elsewhere : Update → Type 0
  Elsewhere u = same_place (place_at u.var u.index k) q ≡ false

  untouched : (us : List Update) (m : Arrays) → All Elsewhere us → updates m us k q ≡ m q
  untouched [] m h = refl
  untouched (u ∷ us) m h = untouched us (update m u k) (All-tail Elsewhere u us h) ∙ missed u m k q (All-head Elsewhere u us h)

  -- the place is not among those of the updates that are looked at, or the stores agree there
  module _ (only : Option ℕ) (chosen : is_chosen only q.var ≡ true) (m n : Arrays) (differ : m q ≡ n q → ⊥) where
    off : (u : Update) → (is_chosen only u.var ≡ true → m (place_at u.var u.index k) ≡ n (place_at u.var u.index k)) → place_at u.var u.index k ≡ q → ⊥
    off u h e = differ (subst (λ (p : Place). m p ≡ n p) e (h (ap (λ (p : Place). is_chosen only p.var) e ∙ chosen)))

    sought : (us : List Update) → AgreeAlong only us k m n → All Elsewhere us
    sought us h i d l = let u : Update = get_or us i d in not_same (place_at u.var u.index k) q (off u (h i d l)) (same_place (place_at u.var u.index k) q) refl

module _ (only : Option ℕ) (us vs : List Update) (m : Arrays) (k : List ℕ) (q : Place) (chosen : is_chosen only q.var ≡ true)
    (along : AgreeAlong only us k (updates m us k) (updates m vs k)) (back : AgreeAlong only vs k (updates m us k) (updates m vs k)) where
  at : (b : Bool) → (updates m us k q == updates m vs k q) ≡ b → updates m us k q ≡ updates m vs k q
  at true e = eqb-true _ _ e
  at false e =
      let differ : updates m us k q ≡ updates m vs k q → ⊥ = λ same. true≢false (sym (eq-eqb _ _ same) ∙ e) in
      untouched k q us m (sought k q only chosen (updates m us k) (updates m vs k) differ us along)
      ∙ sym (untouched k q vs m (sought k q only chosen (updates m us k) (updates m vs k) differ vs back))

  -- lists of updates that agree along both agree at each place that is looked at
  pub agree_at : updates m us k q ≡ updates m vs k q
  agree_at = at (updates m us k q == updates m vs k q) refl

pub agree_along : (only : Option ℕ) (ws : List Update) (k : List ℕ) (m n : Arrays) → m ≡ n → AgreeAlong only ws k m n
agree_along only ws k m n e i d l chosen = ap (λ (x : Arrays). x (place_at (get_or ws i d).var (get_or ws i d).index k)) e
