-- Contexts of some of the facts of others.
use Rattle.std.specs.Prelude.{◌≡◌, ℕ, List, [], ◌∷◌, ◌++◌, length, if◌then◌else◌}
use Rattle.snap_core.specs.Arrays.{Arrays}
use Rattle.snap_diagrams.specs.Codes.{test_code}
use Rattle.snap_context.specs.declared.fact.Fact.{Fact}
use Rattle.snap_context.specs.Meets.{Meets}
use Rattle.snap_context.specs.View.{View}

-- as many components, and what meets the facts of v meets those of w
pub record IsWeaker (v w : View) : Type 0 where
  pub same : length w.classes ≡ length v.classes
  pub meets : (m : Arrays) (k : List ℕ) → Meets v.facts m k → Meets w.facts m k

-- ---- facts as lists of numbers
abbrev pub fact_code : Fact → List ℕ
fact_code f = (if f.yes then 1 else 0) ∷ test_code f.test

abbrev pub facts_code : List Fact → List ℕ
facts_code [] = []
facts_code (f ∷ fs) = fact_code f ++ facts_code fs
