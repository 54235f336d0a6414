-- A program that was read is judged in one way, but that each pair on which it races may be told.
use Rattle.std.proofs.Common.{◌≡◌, ◌≤◌, ◌⊎◌, ℕ, List, length, Ok, Err, refl, sym, ◌∙◌, subst, inl, inr}
use Rattle.snap_core.specs.declared.place.Place.{Place}
use Rattle.snap_build.specs.Whole.{IsRaceOf}
use Rattle.snap_cli.specs.Check.{IsJudgedText, NeverRaces, Races}
use Rattle.snap_cli.proofs.Shared.{Arrays, core_program, count, Ending, EndsJudged, IsPacket, IsSameEnding, Program, Race, Refusal, status_of}
use Rattle.snap_cli.proofs.Pipeline.{Agree, cases_once}
use Rattle.snap_cli.proofs.SameCore.{same_eval, same_fields, same_names}

-- two programs with one core program: where the one never races, the other doesn't
pub same_never : (p q : Program) → core_program p ≡ core_program q → NeverRaces p → NeverRaces q
same_never p q same never m k store packet none =
    never m k store (subst (λ fields. IsPacket (count fields) k) (sym (same_fields p q same)) packet) (same_eval p q same m k ∙ none)

pub never_both : (p q : Program) → core_program p ≡ core_program q → NeverRaces p → (m : Arrays) (k : List ℕ) → IsRaceOf q m k → ⊥
never_both p q same never m k race = same_never p q same never m k race.of.store race.of.packet race.none

-- and where the one races, the other does
pub same_race : (p q : Program) → core_program p ≡ core_program q → (m : Arrays) (k : List ℕ) → IsRaceOf p m k → IsRaceOf q m k
same_race p q same m k race = record {
  of = record {
    packet = subst (λ fields. IsPacket (count fields) k) (same_fields p q same) race.of.packet;
    store = race.of.store;
    only = subst (λ arrays. (at : Place) → length arrays ≤ at.var → m at ≡ 0) (same_names p q same) race.of.only;
  };
  none = sym (same_eval p q same m k) ∙ race.none;
}

-- the status of a program that was read
pub judged_status : (p q : Program) → core_program p ≡ core_program q → (e : Ending) → EndsJudged p e
    → ((status_of e ≡ 0) × NeverRaces q) ⊎ ((status_of e ≡ 10) × Races q)
judged_status p q same (Ok u) h = inl (refl, same_never p q same h)
judged_status p q same (Err (Race text)) h = inr (refl, (h.0, h.1, same_race p q same h.0 h.1 h.2))
judged_status p q same (Err e) h = absurd h

-- the race that is told of a program that was read
pub judged_race : (p q : Program) → core_program p ≡ core_program q → (e : Refusal) → EndsJudged p (Err e) → Races q × (status_of (Err e) ≡ 10)
judged_race p q same (Race text) h = ((h.0, h.1, same_race p q same h.0 h.1 h.2), refl)
judged_race p q same e h = absurd h

pub judged_once : (p q : Program) → core_program p ≡ core_program q → (a b : Ending) → EndsJudged p a → EndsJudged q b → IsSameEnding a b
judged_once p q same (Ok u) (Ok v) h k = inl refl
judged_once p q same (Ok u) (Err (Race text)) h k = absurd (never_both p q same h k.0 k.1 k.2)
judged_once p q same (Err (Race text)) (Ok v) h k = absurd (never_both q p (sym same) k h.0 h.1 h.2)
judged_once p q same (Err (Race text)) (Err (Race other)) h k = inr tt
judged_once p q same a b h k = absurd search

pub text_judged_once : (p q : Program) → core_program p ≡ core_program q → Agree ◌≡◌ (IsJudgedText p) (IsJudgedText q)
text_judged_once p q same a b =
    cases_once (λ h k. h.1 ∙ sym k.1) (λ h k. never_both p q same h.0 k.0.0 k.0.1 k.0.2) (λ h k. never_both q p (sym same) h.0 k.0.0 k.0.1 k.0.2) (λ h k. h.1 ∙ sym k.1)
