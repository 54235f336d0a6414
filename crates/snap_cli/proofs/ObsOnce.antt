-- A run on one big switch ends in one way, with one text.
use Rattle.std.proofs.Common.{◌≡◌, ◌++◌, ◌+◌, ◌<◌, ℕ, List, take, Option, Some, Err, sym, ◌∙◌, ap, subst, inl, inr, arith}
use Rattle.std.proofs.lemmas.Option.{same_Some}
use Rattle.std.proofs.lemmas.List.{take-take}
use Rattle.snap_core.specs.Switch.{one_big_switch}
use Rattle.snap_report.specs.declared.fault.TraceFault.TheVariants as run
use Rattle.snap_report.specs.OneSwitch.{EndsAsRead, IsReport, IsUndefinedAfter, made_text}
use Rattle.snap_report.specs.Reports.{end_text}
use Rattle.snap_report.proofs.SwitchLemmas.{switch-take}
use Rattle.snap_cli.proofs.Shared.{ended, Ending, HasOneListing, IsRunEnding, Program, refused, RunEnding, spelled, Stop, Switched, zero_arrays}

pub run_ends_once : (r : RunEnding) (a b : Ending) → IsRunEnding r a → IsRunEnding r b → a ≡ b
run_ends_once (Err run.Read) a b h k = absurd h
run_ends_once r a b h k = search

-- a run's ending and its text are one
abbrev pub AreOne : {E : Type 0} → (E → List ℕ → Type 0) → Type 0
AreOne {E} Runs = (a b : List ℕ) (e f : E) → Runs e a → Runs f b → (e ≡ f) × (a ≡ b)

-- so are those of the command
pub run_once : (Runs : RunEnding → List ℕ → Type 0) → AreOne Runs → AreOne (λ (ending : Ending) text. (run : RunEnding) × Runs run text × IsRunEnding run ending)
run_once Runs one x y a b h k =
    let both = one x y h.0 k.0 h.1 k.1 in
    (run_ends_once k.0 a b (subst (λ r. IsRunEnding r a) both.0 h.2) k.2, both.1)

module _ (lists : HasOneListing) (p : Program) where
  abbrev Switch : List (List ℕ) → Option Switched
  Switch packets = one_big_switch p.body zero_arrays packets

  read_once : (stop : Stop) (made : Switched) (e f : RunEnding) (a b : List ℕ) → EndsAsRead p.fields p.arrays stop made e a → EndsAsRead p.fields p.arrays stop made f b → (e ≡ f) × (a ≡ b)
  read_once ended made e f a b h k =
      (h.0 ∙ sym k.0, h.1.2 ∙ (ap (λ entries. made_text p.fields made ++ end_text p.arrays entries) (lists made.arrays h.1.0 k.1.0 h.1.1 k.1.1) ∙ sym k.1.2))
  read_once (refused fault) made e f a b h k = (h.0 ∙ sym k.0, h.1 ∙ sym k.1)

  -- one big switch that is defined on all packets is undefined after none
  never_after : (packets : List (List ℕ)) (made cut : Switched) (before : ℕ) → Switch packets ≡ Some made → IsUndefinedAfter p packets before cut → ⊥
  never_after packets made cut before whole after = switch-take p.body packets zero_arrays (before + 1) made whole after.none

  -- and it is undefined first at one packet
  not_before : (packets : List (List ℕ)) (made cut : Switched) (a b : ℕ) → IsUndefinedAfter p packets a made → IsUndefinedAfter p packets b cut → a < b → ⊥
  not_before packets made cut a b h k less =
      let same : take (a + 1) (take b packets) ≡ take (a + 1) packets = take-take (a + 1) b packets (omega arith) in
      switch-take p.body (take b packets) zero_arrays (a + 1) cut k.some (ap Switch same ∙ h.none)

  after_once : (packets : List (List ℕ)) (made cut : Switched) (a b : ℕ) → IsUndefinedAfter p packets a made → IsUndefinedAfter p packets b cut → a ≡ b
  after_once packets made cut a b h k =
      let up : a < b → ⊥ = not_before packets made cut a b h k in let down : b < a → ⊥ = not_before packets cut made b a k h in omega (arith, up, down)

  pub reports_once : (file : List ℕ) → AreOne (IsReport p file)
  reports_once file a b e f (inl h) (inl k) =
      let read = spelled p.fields file in
      let same = same_Some h.0 k.0 (sym h.1 ∙ k.1) in
      read_once read.stop k.0 e f a b (subst (λ made. EndsAsRead p.fields p.arrays read.stop made e a) same h.2) k.2
  reports_once file a b e f (inl h) (inr k) = absurd (never_after (spelled p.fields file).packets h.0 k.1 k.0 h.1 k.2)
  reports_once file a b e f (inr h) (inl k) = absurd (never_after (spelled p.fields file).packets k.0 h.1 h.0 k.1 h.2)
  reports_once file a b e f (inr h) (inr k) =
      let packets = (spelled p.fields file).packets in
      let at = after_once packets h.1 k.1 h.0 k.0 h.2 k.2 in
      let same = same_Some h.1 k.1 (sym (subst (λ n. Switch (take n packets) ≡ Some h.1) at h.2.some) ∙ k.2.some) in (
        h.3 ∙ (ap (λ n. Err (run.Undefined (n + 1))) at ∙ sym k.3),
        h.4 ∙ (ap (made_text p.fields) same ∙ sym k.4),
      )
