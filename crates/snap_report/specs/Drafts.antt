-- A draft of the program as a draft of the definitions, and what a value makes of it.
use Rattle.std.specs.Prelude.{◌≡◌, ℕ, List, Option, Some, None}
use Rattle.snap_core.specs.declared.program.Field.{Field}
use Rattle.snap_core.specs.declared.program.Found.{Found}
use Rattle.snap_report.specs.declared.draft.PacketDraft.{PacketDraft as Kept}
use Rattle.snap_report.specs.Cuts.{IsUntilBlank}
use Rattle.snap_report.specs.PacketLines.{Draft, with_value, with_words, words_of}

abbrev pub draft_of : Kept → Draft
draft_of kept = record { numbers = kept.packet; named = kept.named }

-- what the words of a text make of it
abbrev pub with_text : List Field → (text : List ℕ) → Kept → Option Draft
with_text fields text kept = with_words fields (words_of text) (draft_of kept)

-- the value at the front of a text, up to a blank, makes the new draft of the old
pub record IsSet (found : Found) (text behind : List ℕ) (old new : Draft) : Type 0 where
  pub value : List ℕ
  pub until : IsUntilBlank text value behind
  pub set : with_value (Some found) value old ≡ Some new

-- it makes none
pub record IsNotSet (found : Found) (text : List ℕ) (old : Draft) : Type 0 where
  pub value : List ℕ
  pub behind : List ℕ
  pub until : IsUntilBlank text value behind
  pub set : with_value (Some found) value old ≡ None
