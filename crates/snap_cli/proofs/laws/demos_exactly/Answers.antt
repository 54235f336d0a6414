use Rattle.std.proofs.Common.{◌≡◌, ◌⊎◌, ℕ, List, Option, ap, ◌∙◌, inl, inr}
use Rattle.std.specs.Io.KnownBytes.{Appends}
use Rattle.snap_io.specs.Files.{Files}
use Rattle.snap_words.specs.Commands.{demo}
use Rattle.snap_demo.specs.Summary.{IsSummary}
use Rattle.snap_cli.specs.Laws.{IsDue, IsExact, IsFailure}
use Rattle.snap_cli.specs.Refusals.{Ending, status_of}
use Rattle.snap_cli.proofs.laws.demos_exactly.Goals as goal

module _ (files : Files) (switches status : ℕ) (out_old out_new : Option (List ℕ)) (err_before err_now : ℕ) (err_old err_new : Option (List ℕ)) where
  exactly : IsFailure status ⊎ ((ending : Ending) × (text : List ℕ) × IsDue files (demo switches) ending text × IsExact ending text status out_old out_new err_before err_now err_old err_new)
      → IsFailure status ⊎ ((status ≡ 0) × ((text : List ℕ) × IsSummary switches text × Appends out_old out_new text))
  exactly (inl failed) = inl failed
  exactly (inr (ending, text, due, exact)) = inr (exact.status_is ∙ ap status_of due.ends, (text, due.has_text, exact.out))

pub returns : goal.returns
returns c = λ words files switches status shelf_before shelf_now out_before out_now out_old out_new err_before err_now err_old err_new is a.
    exactly files switches status out_old out_new err_before err_now err_old err_new
    (c.answers_exactly.ensures words files (demo switches) status shelf_before shelf_now out_before out_now out_old out_new err_before err_now err_old err_new is a)
