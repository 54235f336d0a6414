-- Stages of updates.
use Rattle.std.proofs.Common.{◌≡◌, ℕ, suc, ◌-◌, ◌<◌, ◌≤◌, Bool, true, false, cond, List, [], ◌∷◌, ◌++◌, length, refl, sym, ap, subst, ◌∙◌, arith}
use Rattle.std.specs.Prelude.{nat_eq}
use Rattle.std.specs.List.{All}
use Rattle.std.proofs.lemmas.Bool.{eqb-true, eqb-false}
use Rattle.std.proofs.lemmas.List.Elements.{All-nil, All-cons, All-head, All-tail}
use Rattle.snap_core.specs.declared.policy.Update.{Update}
use Rattle.snap_rows.specs.declared.tables.Stage.{Stage as LeafStage}
use Rattle.snap_faithful.specs.StagedFacts.{all_ups}
use Rattle.snap_faithful.specs.OnDemand.{in_front, stages_of}

module _ (at : ℕ → ℕ) where
  front_all : (w : ℕ) (u : Update) (ss : List LeafStage) → all_ups (in_front w u ss) ≡ u ∷ all_ups ss
  front_all w u [] = refl
  front_all w u (s ∷ ss) = by (nat_eq s.at w)
    where
      by : (b : Bool) → all_ups (cond b (record { at = w; ups = u ∷ s.ups } ∷ ss) (record { at = w; ups = u ∷ [] } ∷ s ∷ ss)) ≡ u ∷ (s.ups ++ all_ups ss)
      by true = refl
      by false = refl

  -- all updates are there, in order
  pub stages_all : (us : List Update) → all_ups (stages_of at us) ≡ us
  stages_all [] = refl
  stages_all (u ∷ us) = front_all (at u.var) u (stages_of at us) ∙ ap (λ l. u ∷ l) (stages_all us)

  -- each at its stage's switch
  abbrev pub AtOwn : LeafStage → Type 0
  AtOwn s = All (λ (u : Update). at u.var ≡ s.at) s.ups

  front_own : (u : Update) (ss : List LeafStage) → All AtOwn ss → All AtOwn (in_front (at u.var) u ss)
  front_own u [] all = All-cons AtOwn _ [] (All-cons (λ (x : Update). at x.var ≡ at u.var) u [] refl (All-nil (λ (x : Update). at x.var ≡ at u.var))) (All-nil AtOwn)
  front_own u (s ∷ ss) all = by (nat_eq s.at (at u.var)) refl
    where
      by : (b : Bool) → nat_eq s.at (at u.var) ≡ b → All AtOwn (cond b (record { at = at u.var; ups = u ∷ s.ups } ∷ ss) (record { at = at u.var; ups = u ∷ [] } ∷ s ∷ ss))
      by true e =
          All-cons AtOwn _ ss
          (All-cons (λ (x : Update). at x.var ≡ at u.var) u s.ups refl (subst (λ w. All (λ (x : Update). at x.var ≡ w) s.ups) (eqb-true s.at (at u.var) e) (All-head AtOwn s ss all)))
          (All-tail AtOwn s ss all)
      by false e = All-cons AtOwn _ (s ∷ ss) (All-cons (λ (x : Update). at x.var ≡ at u.var) u [] refl (All-nil (λ (x : Update). at x.var ≡ at u.var))) all

  pub stages_own : (us : List Update) → All AtOwn (stages_of at us)
  stages_own [] = All-nil AtOwn
  stages_own (u ∷ us) = front_own u (stages_of at us) (stages_own us)

  -- ---- how many there are
  module _ (groups arrays : ℕ) (rank : ℕ → ℕ) (together : (u v : ℕ) → u < arrays → v < arrays → rank u ≡ rank v → at u ≡ at v) where
    -- ranks are at least r, never fall, and are below the number of groups
    abbrev pub RiseFrom : ℕ → List Update → Type 0
    RiseFrom r [] = Unit {0}
    RiseFrom r (u ∷ us) = (r ≤ rank u.var) × (rank u.var < groups) × (u.var < arrays) × RiseFrom (rank u.var) us

    longer : (w : ℕ) (u : Update) (s : LeafStage) (ss : List LeafStage) → length (in_front w u (s ∷ ss)) ≤ suc (length (s ∷ ss))
    longer w u s ss = by (nat_eq s.at w)
      where
        by : (b : Bool) → length {A = LeafStage} (cond b (record { at = w; ups = u ∷ s.ups } ∷ ss) (record { at = w; ups = u ∷ [] } ∷ s ∷ ss)) ≤ suc (suc (length ss))
        by true = omega arith
        by false = omega arith

    -- where the next update is at the same switch no stage is added
    as_long : (w : ℕ) (u v : Update) (ss : List LeafStage) → length (in_front w u (in_front w v ss)) ≡ length (in_front w v ss)
    as_long w u v [] = by (nat_eq w w) refl
      where
        by : (b : Bool) → nat_eq w w ≡ b → length {A = LeafStage} (cond b (record { at = w; ups = u ∷ v ∷ [] } ∷ []) (record { at = w; ups = u ∷ [] } ∷ record { at = w; ups = v ∷ [] } ∷ [])) ≡ 1
        by true e = refl
        by false e = absurd (eqb-false w w e refl)
    as_long w u v (s ∷ ss) = by (nat_eq s.at w)
      where
        one : (x : LeafStage) (xs : List LeafStage) → x.at ≡ w → length (in_front w u (x ∷ xs)) ≡ length (x ∷ xs)
        one x xs e = at_w (nat_eq x.at w) refl
          where
            at_w : (b : Bool) → nat_eq x.at w ≡ b → length {A = LeafStage} (cond b (record { at = w; ups = u ∷ x.ups } ∷ xs) (record { at = w; ups = u ∷ [] } ∷ x ∷ xs)) ≡ suc (length xs)
            at_w true f = refl
            at_w false f = absurd (eqb-false x.at w f e)

        by : (b : Bool) → length (in_front w u (cond b (record { at = w; ups = v ∷ s.ups } ∷ ss) (record { at = w; ups = v ∷ [] } ∷ s ∷ ss))) ≡ length {A = LeafStage} (cond b (record { at = w; ups = v ∷ s.ups } ∷ ss) (record { at = w; ups = v ∷ [] } ∷ s ∷ ss))
        by true = one (record { at = w; ups = v ∷ s.ups }) ss refl
        by false = one (record { at = w; ups = v ∷ [] }) (s ∷ ss) refl

    grows : (w : ℕ) (u : Update) (ss : List LeafStage) → length (in_front w u ss) ≤ suc (length ss)
    grows w u [] = omega arith
    grows w u (s ∷ ss) = longer w u s ss

    pub stages_few : (r : ℕ) (us : List Update) → r ≤ groups → RiseFrom r us → length (stages_of at us) ≤ groups - r
    stages_few r [] l rise = omega arith
    stages_few r (u ∷ []) l rise = let a = rise.0 in let b = rise.1 in omega (arith, a, b)
    stages_few r (u ∷ v ∷ us) l rise =
        by (nat_eq (rank u.var) (rank v.var)) refl (stages_few (rank u.var) (v ∷ us) (omega (arith, b)) rise.3) (stages_few (rank v.var) (v ∷ us) (omega (arith, below)) (omega arith, below, rise.3.2, rise.3.3))
      where
        a : r ≤ rank u.var
        a = rise.0

        b : rank u.var < groups
        b = rise.1

        least : rank u.var ≤ rank v.var
        least = rise.3.0

        below : rank v.var < groups
        below = rise.3.1

        by : (c : Bool) → nat_eq (rank u.var) (rank v.var) ≡ c → length (stages_of at (v ∷ us)) ≤ groups - rank u.var → length (stages_of at (v ∷ us)) ≤ groups - rank v.var → length (stages_of at (u ∷ v ∷ us)) ≤ groups - r
        by true e rest more =
            let same : at v.var ≡ at u.var = sym (together u.var v.var rise.2 rise.3.2 (eqb-true (rank u.var) (rank v.var) e)) in
            let long : length (stages_of at (u ∷ v ∷ us)) ≡ length (stages_of at (v ∷ us)) =
            subst (λ w. length (in_front (at u.var) u (in_front w v (stages_of at us))) ≡ length (in_front w v (stages_of at us))) (sym same) (as_long (at u.var) u v (stages_of at us)) in
            omega (arith, long, rest, a)
        by false e less rest =
            let ne = eqb-false (rank u.var) (rank v.var) e in
            let one = grows (at u.var) u (stages_of at (v ∷ us)) in
            omega (arith, rest, one, ne, least, a, below)
