-- One number more, and other things told.
use Rattle.std.proofs.Common.{◌≡◌, ℕ, Bool, true, false, List, [], Some, refl, sym, subst, ◌∙◌}
use Rattle.std.specs.Prelude.{if◌then◌else◌}
use Rattle.std.specs.Str.{bytes_eq}
use Rattle.std.proofs.lemmas.Bool.{cond-true, cond-false}
use Rattle.std.proofs.lemmas.Slice.Eq.{bytes_eq-Decides}
use Rattle.snap_core.specs.Cells.{Cells, cell}
use Rattle.snap_diagrams.specs.Memos.{Remembers}

pub remembers_none : (P : List ℕ → ℕ → Type 0) → Remembers P []
remembers_none P q d e = absurd (cc)

pub remembers_weaker : (P Q : List ℕ → ℕ → Type 0) (memo : Cells) → ((q : List ℕ) (d : ℕ) → P q d → Q q d) → Remembers P memo → Remembers Q memo
remembers_weaker P Q memo f r q d e = f q d (r q d e)

pub remembers_more : (P : List ℕ → ℕ → Type 0) (old new : Cells) (code : List ℕ) (n : ℕ) → Remembers P old → P code n
    → ((q : List ℕ) → cell new q ≡ (if bytes_eq code q then Some n else cell old q)) → Remembers P new
remembers_more P old new code n r p more q d e = by (bytes_eq code q) refl
  where
    by : (b : Bool) → bytes_eq code q ≡ b → P q d
    by true t =
        let same : n ≡ d = (let m = more q ∙ cond-true (bytes_eq code q) (Some n) (cell old q) t in cc) in
        subst (λ (k : List ℕ). P k d) ((bytes_eq-Decides code q).0 t) (subst (λ (i : ℕ). P code i) same p)
    by false f = r q d (sym (more q ∙ cond-false (bytes_eq code q) (Some n) (cell old q) f) ∙ e)
