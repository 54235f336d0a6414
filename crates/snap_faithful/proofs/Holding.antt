-- What switches hold of one store, each the arrays that it owns.
use Rattle.std.proofs.Common.{◌≡◌, ◌≢◌, ℕ, ◌<◌, ◌≤◌, ⊎_elim, Bool, true, false, cond, Option, Some, None, refl, sym, ap, subst, ◌∙◌}
use Rattle.std.specs.Prelude.{nat_eq, option_map, unwrap_or}
use Rattle.std.proofs.lemmas.Bool.{cases_lt, eq-eqb, eqb-true, eqb-false, cond-true, cond-false}
use Rattle.std.proofs.lemmas.Option.{same_Some, slice_get_past}
use Rattle.snap_core.specs.declared.place.Place.{Place}
use Rattle.snap_core.specs.Arrays.{Arrays}
use Rattle.snap_core.specs.Inputs.{IsZeroFrom}
use Rattle.snap_rows.specs.declared.tables.ArrayAt.{ArrayAt}
use Rattle.snap_rows.specs.declared.tables.Tables.{Tables}
use Rattle.snap_rows.specs.Actions.{Action}
use Rattle.snap_rows.specs.Entries.{owner_of}
use Rattle.snap_rows.specs.Form.{array_count}
use Rattle.snap_rows.specs.Network.{Net, Copy, stepped, start, global_store}
use Rattle.snap_faithful.proofs.Nodes.{OutDoes, is_delivered, is_carried}

module _ (owner : ℕ → Option ℕ) where
  abbrev pub HoldsOf : ℕ → Arrays → Arrays → Type 0
  HoldsOf w s n = (q : Place) → owner q.var ≡ Some w → s q ≡ n q

  abbrev pub NetHoldsOf : Net → Arrays → Type 0
  NetHoldsOf s n = (w : ℕ) → HoldsOf w (s.stores w) n

  -- arrays of other switches are as they were
  abbrev pub OthersOf : ℕ → Arrays → Arrays → Type 0
  OthersOf w old new = (w' : ℕ) → w' ≢ w → (q : Place) → owner q.var ≡ Some w' → new q ≡ old q

  pub others : (w : ℕ) (old new : Arrays) → ((q : Place) → (owner q.var ≡ Some w → ⊥) → new q ≡ old q) → OthersOf w old new
  others w old new far w' ne q at = far q (λ own. ne (same_Some w' w (sym at ∙ own)))

  pub held_after : (s : Net) (c : Copy) (j : ℕ) (m : Arrays) (a : Action) (old new : Arrays) → NetHoldsOf s old → HoldsOf c.at m new → OthersOf c.at old new → NetHoldsOf (stepped s j c m a) new
  held_after s c j m a old new held here far w q at = by (nat_eq w c.at) refl
    where
      by : (b : Bool) → nat_eq w c.at ≡ b → cond (nat_eq w c.at) m (s.stores w) q ≡ new q
      by true is = ap (λ (x : Arrays). x q) (cond-true (nat_eq w c.at) m (s.stores w) is) ∙ here q (subst (λ x. owner q.var ≡ Some x) (eqb-true w c.at is) at)
      by false isnt = ap (λ (x : Arrays). x q) (cond-false (nat_eq w c.at) m (s.stores w) isnt) ∙ held w q at ∙ sym (far w (eqb-false w c.at isnt) q at)

  -- a copy on its way out leaves the arrays alone
  pub same_store : (s : Net) (c : Copy) (a : Arrays) → NetHoldsOf s a → {p : ℕ} {m : Arrays} {d : Action} → OutDoes p (s.stores c.at) m d → HoldsOf c.at m a
  same_store s c a held is_delivered = held c.at
  same_store s c a held is_carried = held c.at

-- at a start, and of the whole network, where each array has an owner
module _ (t : Tables) (owner : ℕ → Option ℕ) (stands : (v : ℕ) → v < array_count t → (w : ℕ) × (owner_of t v ≡ Some w) × (owner v ≡ Some w)) where
  no_owner : (v : ℕ) → array_count t ≤ v → owner_of t v ≡ None
  no_owner v l = ap (option_map (λ (a : ArrayAt). a.at)) (slice_get_past t.arrays v l)

  pub whole_holds : (s : Net) (m : Arrays) → NetHoldsOf owner s m → IsZeroFrom (array_count t) m → (q : Place) → global_store t s q ≡ m q
  whole_holds s m held zeros q =
      ⊎_elim
      (λ within. (let w = stands q.var within in ap (λ o. unwrap_or (option_map (λ w. s.stores w q) o) 0) w.1 ∙ held w.0 q w.2))
      (λ beyond. ap (λ o. unwrap_or (option_map (λ w. s.stores w q) o) 0) (no_owner q.var beyond) ∙ sym (zeros q beyond))
      (cases_lt q.var (array_count t))

  pub starts : (m : Arrays) → IsZeroFrom (array_count t) m → NetHoldsOf owner (start t m) m
  starts m zeros w q at =
      ⊎_elim
      (λ within.
      (let o = stands q.var within in
      let same : o.0 ≡ w = same_Some o.0 w (sym o.2 ∙ at) in
      ap (λ x. cond (unwrap_or (option_map (λ y. nat_eq y w) x) false) (m q) 0) o.1 ∙ ap (λ b. cond b (m q) 0) (eq-eqb o.0 w same)))
      (λ beyond. ap (λ x. cond (unwrap_or (option_map (λ y. nat_eq y w) x) false) (m q) 0) (no_owner q.var beyond) ∙ sym (zeros q beyond))
      (cases_lt q.var (array_count t))
