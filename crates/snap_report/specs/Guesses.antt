-- Where a guess of a word's field stands.
use Rattle.std.specs.Prelude.{◌≡◌, ℕ, ◌+◌, List, Option, None, Some, drop, option_and_then}
use Rattle.snap_core.specs.declared.program.Field.{Field}
use Rattle.snap_core.specs.declared.program.Found.{Found}
use Rattle.snap_core.specs.declared.program.Found.TheVariants.{Plain, Split}
use Rattle.snap_core.specs.Fields.{count}
use Rattle.snap_report.specs.declared.guess.Guess.{Guess}
use Rattle.snap_report.specs.Cuts.{IsUntilBlank}
use Rattle.snap_report.specs.PacketLines.{Draft, with_value, with_words, words_of}

-- the components before the guess's and those of the fields from its place on are all
pub record StandsAt (fields : List Field) (guess : Guess) : Type 0 where
  pub comps : guess.comp + count (drop guess.place fields) ≡ count fields

-- what the name of a field stands for, whose components begin at c
abbrev pub whole_of : ℕ → Option ℕ → Found
whole_of c None = Plain c
whole_of c (Some n) = Split c (c + 1) n

-- The first word of a text sets what its name stands for to a value that begins the rest.
pub record Sets (fields : List Field) (text : List ℕ) (found : Found) (rest : List ℕ) : Type 0 where
  pub set : (value behind : List ℕ) (draft : Draft) → IsUntilBlank rest value behind
      → with_words fields (words_of text) draft
      ≡ option_and_then (with_words fields (words_of behind)) (with_value (Some found) value draft)

-- The first word of a text has no name that stands for something.
pub record SetsNothing (fields : List Field) (text : List ℕ) : Type 0 where
  pub none : (draft : Draft) → with_words fields (words_of text) draft ≡ None
