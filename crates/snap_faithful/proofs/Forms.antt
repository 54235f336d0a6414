-- Stages are in form: next to each other different switches, and an update in each; and tidied updates rise.
use Rattle.std.proofs.Common.{◌≡◌, ℕ, suc, ◌<◌, ◌≤◌, Bool, true, false, cond, List, [], ◌∷◌, length, refl, ap, subst, arith}
use Rattle.std.specs.Prelude.{nat_eq, slice_index}
use Rattle.std.specs.List.{All}
use Rattle.std.specs.List.Sorted.{IsNonDecreasingBy}
use Rattle.std.proofs.lemmas.Bool.{eqb-true, eqb-false}
use Rattle.std.proofs.lemmas.List.Elements.{All-nil, All-cons, All-head, All-tail}
use Rattle.snap_core.specs.declared.policy.Update.{Update}
use Rattle.snap_rows.specs.declared.tables.Stage.{Stage as LeafStage}
use Rattle.snap_rows.specs.Form.{Alternate, AlternateFrom}
use Rattle.snap_faithful.specs.OnDemand.{in_front, stages_of}
use Rattle.snap_faithful.specs.Written.{RisesFrom}

front_alternates : (w : ℕ) (u : Update) (ss : List LeafStage) → Alternate ss → Alternate (in_front w u ss)
front_alternates w u [] alt = tt
front_alternates w u (s ∷ ss) alt = by (nat_eq s.at w) refl
  where
    by : (b : Bool) → nat_eq s.at w ≡ b → Alternate (cond b (record { at = w; ups = u ∷ s.ups } ∷ ss) (record { at = w; ups = u ∷ [] } ∷ s ∷ ss))
    by true e = subst (λ v. AlternateFrom v ss) (eqb-true s.at w e) alt
    by false e = (eqb-false s.at w e, alt)

pub stages_alternate : (at : ℕ → ℕ) (us : List Update) → Alternate (stages_of at us)
stages_alternate at [] = tt
stages_alternate at (u ∷ us) = front_alternates (at u.var) u (stages_of at us) (stages_alternate at us)

abbrev HasSome : LeafStage → Type 0
HasSome s = 1 ≤ length s.ups

front_some : (w : ℕ) (u : Update) (ss : List LeafStage) → All HasSome ss → All HasSome (in_front w u ss)
front_some w u [] all = All-cons HasSome _ [] (omega arith) (All-nil HasSome)
front_some w u (s ∷ ss) all = by (nat_eq s.at w)
  where
    by : (b : Bool) → All HasSome (cond b (record { at = w; ups = u ∷ s.ups } ∷ ss) (record { at = w; ups = u ∷ [] } ∷ s ∷ ss))
    by true = All-cons HasSome _ ss (omega arith) (All-tail HasSome s ss all)
    by false = All-cons HasSome _ (s ∷ ss) (omega arith) all

pub stages_some : (at : ℕ → ℕ) (us : List Update) → All HasSome (stages_of at us)
stages_some at [] = All-nil HasSome
stages_some at (u ∷ us) = front_some (at u.var) u (stages_of at us) (stages_some at us)

module _ (P : ℕ → Type 0) where
  abbrev IsAt : LeafStage → Type 0
  IsAt s = P s.at

  front_at : (w : ℕ) (u : Update) (ss : List LeafStage) → P w → All IsAt ss → All IsAt (in_front w u ss)
  front_at w u [] h all = All-cons IsAt _ [] h (All-nil IsAt)
  front_at w u (s ∷ ss) h all = by (nat_eq s.at w)
    where
      by : (b : Bool) → All IsAt (cond b (record { at = w; ups = u ∷ s.ups } ∷ ss) (record { at = w; ups = u ∷ [] } ∷ s ∷ ss))
      by true = All-cons IsAt _ ss h (All-tail IsAt s ss all)
      by false = All-cons IsAt _ (s ∷ ss) h all

  -- what holds of the switches of all variables holds of those of the stages
  pub stages_at : (at : ℕ → ℕ) → ((v : ℕ) → P (at v)) → (us : List Update) → All (λ (s : LeafStage). P s.at) (stages_of at us)
  stages_at at h [] = All-nil IsAt
  stages_at at h (u ∷ us) = front_at (at u.var) u (stages_of at us) (h u.var) (stages_at at h us)

module _ (P : Update → Type 0) where
  abbrev Keeps : LeafStage → Type 0
  Keeps s = All P s.ups

  front_keeps : (w : ℕ) (u : Update) (ss : List LeafStage) → P u → All Keeps ss → All Keeps (in_front w u ss)
  front_keeps w u [] h all = All-cons Keeps _ [] (All-cons P u [] h (All-nil P)) (All-nil Keeps)
  front_keeps w u (s ∷ ss) h all = by (nat_eq s.at w)
    where
      by : (b : Bool) → All Keeps (cond b (record { at = w; ups = u ∷ s.ups } ∷ ss) (record { at = w; ups = u ∷ [] } ∷ s ∷ ss))
      by true = All-cons Keeps _ ss (All-cons P u s.ups h (All-head Keeps s ss all)) (All-tail Keeps s ss all)
      by false = All-cons Keeps _ (s ∷ ss) (All-cons P u [] h (All-nil P)) all

  -- what holds of all updates holds of those of each stage
  pub stages_keep : (at : ℕ → ℕ) (us : List Update) → All P us → All (λ (s : LeafStage). All P s.ups) (stages_of at us)
  stages_keep at [] all = All-nil Keeps
  stages_keep at (u ∷ us) all = front_keeps (at u.var) u (stages_of at us) (All-head P u us all) (stages_keep at us (All-tail P u us all))

abbrev head : Update → List Update → Update
head u [] = u
head u (y ∷ ys) = y

-- what `snap_make` proves of its leaves gives what is asked here
pub rises_from : (ranks : List ℕ) (arrays r : ℕ) (us : List Update) → IsNonDecreasingBy (λ (u : Update). slice_index ranks u.var) us → All (λ (u : Update). u.var < arrays) us
    → ((u : Update) (vs : List Update) → us ≡ u ∷ vs → r ≤ slice_index ranks u.var) → RisesFrom ranks arrays r us
rises_from ranks arrays r [] rise low least = tt
rises_from ranks arrays r (u ∷ us) rise low least = (
  least u us refl,
  All-head (λ (u : Update). u.var < arrays) u us low,
  rises_from ranks arrays (slice_index ranks u.var) us
      (λ i j d le within. rise (suc i) (suc j) d (omega (arith, le)) (omega (arith, within)))
      (All-tail (λ (u : Update). u.var < arrays) u us low)
      (λ v vs e. by us v vs e rise),
)
  where
    by : (us : List Update) (v : Update) (vs : List Update) → us ≡ v ∷ vs → IsNonDecreasingBy (λ (u : Update). slice_index ranks u.var) (u ∷ us) → slice_index ranks u.var ≤ slice_index ranks v.var
    by [] v vs e rise = absurd (let n : 0 ≡ suc (length vs) = ap length e in omega (arith, n))
    by (x ∷ xs) v vs e rise = subst (λ (l : List Update). slice_index ranks u.var ≤ slice_index ranks (head u l).var) e (rise 0 1 u (omega arith) (let n = length xs in omega arith))
