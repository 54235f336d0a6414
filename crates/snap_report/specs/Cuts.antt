-- The first word of a text, cut at its first `=`.
use Rattle.std.specs.Prelude.{◌≡◌, ℕ, ◌==◌, ◌||◌, Bool, List, [], ◌∷◌, filter, Option, None, Some}
use Rattle.snap_core.specs.declared.program.Field.{Field}
use Rattle.snap_core.specs.Fields.{found}
use Rattle.snap_core.specs.Figures.{parts_by}
use Rattle.snap_report.specs.PacketLines.{Draft, is_blank, is_some_text, with_value, words_of}

abbrev pub is_equals : ℕ → Bool
is_equals b = b == 61

-- what ends a name: `=`, or the word's end
abbrev pub is_mark : ℕ → Bool
is_mark b = is_equals b || is_blank b

-- what stands before the first `=` of a word and behind it, where it has one
abbrev pub IsCutOf : (word : List ℕ) → Option (List ℕ × List ℕ) → Type 0
IsCutOf word None = parts_by is_equals word ≡ word ∷ []
IsCutOf word (Some cut) = parts_by is_equals word ≡ cut.0 ∷ parts_by is_equals cut.1

pub record IsFirstCut (text : List ℕ) (cut : Option (List ℕ × List ℕ)) (behind : List ℕ) : Type 0 where
  pub word : List ℕ
  pub words : words_of text ≡ word ∷ words_of behind
  pub parts : IsCutOf word cut

-- the text up to its first blank, and the text behind
pub record IsUntilBlank (text value behind : List ℕ) : Type 0 where
  pub more : List (List ℕ)
  pub parts : parts_by is_blank text ≡ value ∷ more
  pub words : filter is_some_text more ≡ words_of behind

-- a word at the front of a text begins with a name and `=`, and this text stands behind: its value goes on to a blank
pub record IsNameFront (text name rest : List ℕ) : Type 0 where
  pub cut : (value behind : List ℕ) → IsUntilBlank rest value behind → IsFirstCut text (Some (name, value)) behind

-- the first word of a text has no `=`
pub record HasNoName (text : List ℕ) : Type 0 where
  pub behind : List ℕ
  pub cut : IsFirstCut text None behind

-- the draft with a word that is cut so: no value has another `=`
abbrev pub with_cut : List Field → Option (List ℕ × List ℕ) → Draft → Option Draft
with_cut fields None draft = None
with_cut fields (Some cut) draft = with_value (found fields cut.0) cut.1 draft
