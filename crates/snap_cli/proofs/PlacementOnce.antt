-- A file spells one placement for programs with one core program, or is refused for one reason.
use Rattle.std.proofs.Common.{◌≡◌, ℕ, List, Option, Some, None, Result, Ok, Err, sym, ◌∙◌, ap, ap₂, subst}
use Rattle.snap_dep.specs.Dependencies.{Tied}
use Rattle.snap_placement.specs.declared.placement.PlaceFault.{PlaceFault}
use Rattle.snap_placement.specs.declared.placement.PlaceFault.TheVariants.{Apart}
use Rattle.snap_placement.specs.Answer.{IsAnswer, MissingThen, OwnersThen, ShapeThen, SwitchThen, VariableThen, missing, no_switch, no_variable, owners}
use Rattle.snap_placement.specs.Shape.{entries_of}
use Rattle.snap_placement.specs.Together.{IsTogether, TellsApart}
use Rattle.snap_cli.specs.PlacementOf.{PlacementOf, SpellsPlacement, refusal_of_placement}
use Rattle.snap_cli.proofs.Shared.{core_program, document, Program, Refusal, Topology}
use Rattle.snap_cli.proofs.Pipeline.{Agree, Alike, alike, least_once, within_once}
use Rattle.snap_cli.proofs.SameCore.{same_names}
use Rattle.snap_cli.proofs.SameUses.{same_tied}

-- what is tied for the one is tied for the other
module _ (P Q : ℕ → ℕ → Type 0) (to : (a b : ℕ) → P a b → Q a b) (from : (a b : ℕ) → Q a b → P a b) where
  module _ (owned : List ℕ) where
    faults-once : (e f : PlaceFault) → TellsApart P owned e → TellsApart Q owned f → e ≡ f
    faults-once (Apart a b) (Apart c d) h k =
        let both = least_once a b c d (λ before. k.apart (h.first c d k.lesser k.below before (from c d k.together))) (λ before. h.apart (k.first a b h.lesser h.below before (to a b h.together))) in
        ap₂ (λ x y. Apart x y) both.0 both.1
    faults-once (Apart a b) f h k = absurd k
    faults-once e f h k = absurd h

    not-apart : IsTogether P owned → (f : PlaceFault) → TellsApart Q owned f → ⊥
    not-apart h (Apart a b) k = k.apart (h a b k.lesser k.below (from a b k.together))
    not-apart h f k = k

    apart-not : (e : PlaceFault) → TellsApart P owned e → IsTogether Q owned → ⊥
    apart-not (Apart a b) h k = h.apart (k a b h.lesser h.below (to a b h.together))
    apart-not e h k = h

    owners-once : (r s : Result (List ℕ) PlaceFault) → OwnersThen P owned r → OwnersThen Q owned s → r ≡ s
    owners-once (Ok a) (Ok b) h k = ap (λ x. Ok x) (h.0 ∙ sym k.0)
    owners-once (Ok a) (Err f) h k = absurd (not-apart h.1 f k)
    owners-once (Err e) (Ok b) h k = absurd (apart-not e h k.1)
    owners-once (Err e) (Err f) h k = ap (λ x. Err x) (faults-once e f h k)

    switch-once : (x : Option ℕ) (r s : Result (List ℕ) PlaceFault) → SwitchThen P owned x r → SwitchThen Q owned x s → r ≡ s
    switch-once (Some var) r s h k = h ∙ sym k
    switch-once None r s h k = owners-once r s h k

  module _ (arrays switches : List (List ℕ)) where
    missing-once : (entries : List (List ℕ × List ℕ)) (x : Option ℕ) (r s : Result (List ℕ) PlaceFault) → MissingThen P arrays switches entries x r → MissingThen Q arrays switches entries x s → r ≡ s
    missing-once entries (Some var) r s h k = h ∙ sym k
    missing-once entries None r s h k = switch-once (owners arrays switches entries) (no_switch arrays switches entries) r s h k

    variable-once : (entries : List (List ℕ × List ℕ)) (x : Option (List ℕ × List ℕ)) (r s : Result (List ℕ) PlaceFault) → VariableThen P arrays switches entries x r → VariableThen Q arrays switches entries x s → r ≡ s
    variable-once entries (Some entry) r s h k = h ∙ sym k
    variable-once entries None r s h k = missing-once entries (missing arrays entries) r s h k

    shape-once : (x : Result (List (List ℕ × List ℕ)) PlaceFault) (r s : Result (List ℕ) PlaceFault) → ShapeThen P arrays switches x r → ShapeThen Q arrays switches x s → r ≡ s
    shape-once (Ok entries) r s h k = variable-once entries (no_variable arrays entries) r s h k
    shape-once (Err e) r s h k = h ∙ sym k

-- two programs with one core program
module _ (p q : Program) (same : core_program p ≡ core_program q) (t : Topology) where
  answer-once : (text : List ℕ) (r s : Result (List ℕ) PlaceFault) → IsAnswer p t text r → IsAnswer q t text s → r ≡ s
  answer-once text r s h k =
      let entries = entries_of (document text) in
      shape-once (Tied p.body) (Tied q.body) (same_tied p q same) (same_tied q p (sym same)) p.arrays t.switches entries r s h
      (subst (λ (vs : List (List ℕ)). ShapeThen (Tied q.body) vs t.switches entries s) (sym (same_names p q same)) k)

  spelled-once : (text : List ℕ) (r s : Result (List ℕ) Refusal) → SpellsPlacement p t text r → SpellsPlacement q t text s → r ≡ s
  spelled-once text (Ok a) (Ok b) h k =
      let x = answer-once text (Ok a) (Ok b) h k in let places : a ≡ b = cc in ap (λ y. Ok y) places
  spelled-once text (Ok a) (Err f) h (other, k, was) = let x = answer-once text (Ok a) (Err other) h k in absurd (cc)
  spelled-once text (Err e) (Ok b) (one, h, is) k = let x = answer-once text (Err one) (Ok b) h k in absurd (cc)
  spelled-once text (Err e) (Err f) (one, h, is) (other, k, was) =
      let x = answer-once text (Err one) (Err other) h k in
      let faults : one ≡ other = cc in
      ap (λ y. Err y) (is ∙ (ap₂ refusal_of_placement (same_names p q same) faults ∙ sym was))

  pub placement_once : (file : List ℕ) → Agree (Alike ◌≡◌) (PlacementOf p t file) (PlacementOf q t file)
  placement_once file = alike (within_once _ _ _ _ _ (spelled-once file))
