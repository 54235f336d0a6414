use Rattle.std.proofs.Common.{◌≡◌, ◌⊎◌, ℕ, List, [], Option, Some, Err, refl, sym, subst, inl, inr}
use Rattle.std.specs.Option.{MatchOption}
use Rattle.std.specs.Io.KnownBytes.{Appends}
use Rattle.snap_io.specs.Files.{Files}
use Rattle.snap_words.specs.Commands.{Command, command_of}
use Rattle.snap_cli.specs.declared.refusal.Refusal.TheVariants.{Usage, Read, ReadChange, Write, NoMemory}
use Rattle.snap_cli.specs.Answers.{Answers, MeetsWords}
use Rattle.snap_cli.specs.Deserved.{Ends, IsText, Meets}
use Rattle.snap_cli.specs.Laws.{DeservesOneEnding, DeservesOneText, IsDue, IsExact, IsFailure}
use Rattle.snap_cli.specs.Refusals.{Ending, status_of}
use Rattle.snap_cli.proofs.laws.answers_exactly.Goals as goal

abbrev IsWhole : Files → Command → Ending → Option (List ℕ) → Option (List ℕ) → Type 0
IsWhole files command ending old new = Ends files command ending × ((text : List ℕ) × IsText files command text × Appends old new text)

-- a device failed or memory was short, or the ending is deserved
met : (files : Files) (command : Command) (ending : Ending) (old new : Option (List ℕ)) → Meets files command ending old new
    → IsFailure (status_of ending) ⊎ IsWhole files command ending old new
met files command (Err (Read name)) old new h = inl (inl refl)
met files command (Err (ReadChange name)) old new h = inl (inl refl)
met files command (Err Write) old new h = inl (inr (inl refl))
met files command (Err NoMemory) old new h = inl (inr (inr refl))
met files command ending old new h = inr h

meets : (files : Files) (words : List (List ℕ)) (command : Command) (ending : Ending) (old new : Option (List ℕ)) → command_of words ≡ Some command
    → MeetsWords files words ending old new → Meets files command ending old new
meets files words command ending old new is h =
    subst (λ o. MatchOption o (((ending ≡ Err Usage) ⊎ (ending ≡ Err NoMemory)) × Appends old new []) (λ x. Meets files x ending old new)) is h

module _ (one_ending : DeservesOneEnding) (one_text : DeservesOneText) where
  due : (files : Files) (command : Command) (ending : Ending) (text : List ℕ) → Ends files command ending → IsText files command text → IsDue files command ending text
  due files command ending text h k = record {
    ends = h;
    no_other_ending = λ e other. one_ending files command e ending other h;
    has_text = k;
    no_other_text = λ t other. one_text files command t text other k;
  }

  exactly : (files : Files) (words : List (List ℕ)) (command : Command) (status : ℕ) (shelf_before shelf_now : List ℕ → ℕ) (out_before out_now : ℕ) (out_old out_new : Option (List ℕ)) (err_before err_now : ℕ) (err_old err_new : Option (List ℕ))
      (a : Answers words (Some files) status shelf_before shelf_now out_before out_now out_old out_new err_before err_now err_old err_new) → IsFailure (status_of a.ending) ⊎ IsWhole files command a.ending out_old out_new
      → IsFailure status ⊎ ((ending : Ending) × (text : List ℕ) × IsDue files command ending text × IsExact ending text status out_old out_new err_before err_now err_old err_new)
  exactly files words command status shelf_before shelf_now out_before out_now out_old out_new err_before err_now err_old err_new a (inl failed) = inl (subst IsFailure (sym a.status_is) failed)
  exactly files words command status shelf_before shelf_now out_before out_now out_old out_new err_before err_now err_old err_new a (inr whole) =
      inr (a.ending, whole.1.0, due files command a.ending whole.1.0 whole.0 whole.1.1, record { status_is = a.status_is; out = whole.1.2; err = a.err })

pub returns : goal.returns
returns c = λ words files command status shelf_before shelf_now out_before out_now out_old out_new err_before err_now err_old err_new is a.
    exactly c.answers_are_deterministic.ensures.ending c.answers_are_deterministic.ensures.text files words command status shelf_before shelf_now out_before out_now out_old out_new err_before err_now err_old err_new a
    (met files command a.ending out_old out_new (meets files words command a.ending out_old out_new is a.out))
