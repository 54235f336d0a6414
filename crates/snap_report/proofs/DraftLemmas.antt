-- Drafts, one word more.
use Rattle.std.proofs.Common.{◌≡◌, ℕ, ◌+◌, ◌-◌, ◌||◌, Bool, true, false, cond, eqb, Bor, Option, None, Some, List, [], ◌∷◌, length, take, drop, refl, sym, ap, ◌∙◌}
use Rattle.std.specs.Prelude.{MatchOption, option_and_then, position}
use Rattle.std.specs.List.{list_any}
use Rattle.snap_core.specs.declared.program.Field.{Field}
use Rattle.snap_core.specs.declared.program.Found.{Found}
use Rattle.snap_core.specs.declared.program.Found.TheVariants.{Plain, Split}
use Rattle.snap_core.specs.Fields.{found}
use Rattle.snap_core.specs.Figures.{onto_first, parts_by}
use Rattle.snap_report.specs.Cuts.{HasNoName, IsCutOf, IsFirstCut, IsNameFront, IsUntilBlank, with_cut}
use Rattle.snap_report.specs.Drafts.{IsNotSet, IsSet}
use Rattle.snap_report.specs.Guesses.{Sets, SetsNothing}
use Rattle.snap_report.specs.PacketLines.{Draft, is_blank, with_number, with_parts, with_value, with_word, with_words, words_of}
use Rattle.snap_report.proofs.CutLemmas.{until-blank, until-end}
use Rattle.snap_report.proofs.EqualsLemmas.{is_equals, has_equals, plain_value-equals, split_value-equals}

abbrev are_many : List (List ℕ) → Bool
are_many (a ∷ b ∷ parts) = true
are_many parts = false

module _ (p : ℕ → Bool) where
  two_parts : (a text : List ℕ) → are_many (a ∷ parts_by p text) ≡ true
  two_parts a [] = refl
  two_parts a (x ∷ xs) =
      elim (p x) as (λ t. are_many (a ∷ cond t ([] ∷ parts_by p xs) (onto_first x (parts_by p xs))) ≡ true) [
        | true ↦ refl
        | false ↦ elim (parts_by p xs) as (λ ps. are_many (a ∷ onto_first x ps) ≡ true) [ [] ↦ refl | q ∷ qs ↦ refl ]
      ]

  are_many-onto : (b : ℕ) (parts : List (List ℕ)) → are_many (onto_first b parts) ≡ are_many parts
  are_many-onto b [] = refl
  are_many-onto b (x ∷ []) = refl
  are_many-onto b (x ∷ y ∷ parts) = refl

  -- a text has two parts or more where it has a separator
  are_many-any : (text : List ℕ) → are_many (parts_by p text) ≡ list_any p text
  are_many-any [] = refl
  are_many-any (x ∷ xs) =
      elim (p x) as (λ t. are_many (cond t ([] ∷ parts_by p xs) (onto_first x (parts_by p xs))) ≡ (t || list_any p xs)) [
        | true ↦ two_parts [] xs
        | false ↦ are_many-onto x (parts_by p xs) ∙ are_many-any xs
      ]

  one_part : (text : List ℕ) → list_any p text ≡ false → parts_by p text ≡ text ∷ []
  one_part [] e = refl
  one_part (x ∷ xs) e =
      elim (p x) as (λ t. (t || list_any p xs) ≡ false → cond t ([] ∷ parts_by p xs) (onto_first x (parts_by p xs)) ≡ (x ∷ xs) ∷ []) [
        | true ↦ λ h. absurd (cc)
        | false ↦ λ h. ap (onto_first x) (one_part xs h)
      ] e

with_parts-many : (fields : List Field) (name : List ℕ) (parts : List (List ℕ)) (draft : Draft) → are_many parts ≡ true → with_parts fields (name ∷ parts) draft ≡ None
with_parts-many fields name [] draft e = absurd (cc)
with_parts-many fields name (a ∷ []) draft e = absurd (cc)
with_parts-many fields name (a ∷ b ∷ parts) draft e = refl

-- a value with a `=` in it sets nothing
with_value-equals : (named : Option Found) (value : List ℕ) (draft : Draft) → has_equals value ≡ true → with_value named value draft ≡ None
with_value-equals None value draft e = refl
with_value-equals (Some (Plain comp)) value draft e = ap (λ n. option_and_then (λ n. with_number comp n draft) n) (plain_value-equals value e)
with_value-equals (Some (Split net host prefix)) value draft e =
    ap (λ n. option_and_then (λ (pair : ℕ × ℕ). option_and_then (with_number host pair.1) (with_number net pair.0 draft)) n) (split_value-equals prefix value e)

-- A word is cut at its first `=`: no value has another.
with_parts-value : (fields : List Field) (name value : List ℕ) (draft : Draft) → with_parts fields (name ∷ parts_by (λ b. eqb b 61) value) draft ≡ with_value (found fields name) value draft
with_parts-value fields name value draft =
    elim (has_equals value) as (λ t. has_equals value ≡ t → with_parts fields (name ∷ parts_by is_equals value) draft ≡ with_value (found fields name) value draft) [
      | true ↦ λ e. with_parts-many fields name (parts_by is_equals value) draft (are_many-any is_equals value ∙ e) ∙ sym (with_value-equals (found fields name) value draft e)
      | false ↦ λ e. ap (λ parts. with_parts fields (name ∷ parts) draft) (one_part is_equals value e)
    ] refl

with_word-cut : (fields : List Field) (word : List ℕ) (cut : Option (List ℕ × List ℕ)) (draft : Draft) → IsCutOf word cut → with_word fields word draft ≡ with_cut fields cut draft
with_word-cut fields word None draft e = ap (λ parts. with_parts fields parts draft) e
with_word-cut fields word (Some cut) draft e = ap (λ parts. with_parts fields parts draft) e ∙ with_parts-value fields cut.0 cut.1 draft

-- the words of a text, of which the first is cut
pub with_words-cut : (fields : List Field) (text : List ℕ) (cut : Option (List ℕ × List ℕ)) (behind : List ℕ) (draft : Draft) → IsFirstCut text cut behind
    → with_words fields (words_of text) draft ≡ option_and_then (with_words fields (words_of behind)) (with_cut fields cut draft)
with_words-cut fields text cut behind draft first =
    ap (λ words. with_words fields words draft) first.words ∙ ap (option_and_then (with_words fields (words_of behind))) (with_word-cut fields first.word cut draft first.parts)

-- what a word makes whose name stands for something, and one whose name doesn't
pub sets-named : (fields : List Field) (text name rest : List ℕ) (what : Found) → IsNameFront text name rest → found fields name ≡ Some what → Sets fields text what rest
sets-named fields text name rest what front named = record {
  set = λ value behind draft until. with_words-cut fields text (Some (name, value)) behind draft (front.cut value behind until)
      ∙ ap (λ f. option_and_then (with_words fields (words_of behind)) (with_value f value draft)) named;
}

pub sets_nothing-unnamed : (fields : List Field) (text : List ℕ) → HasNoName text → SetsNothing fields text
sets_nothing-unnamed fields text h = record { none = λ draft. with_words-cut fields text None h.behind draft h.cut }

pub sets_nothing-unknown : (fields : List Field) (text name rest : List ℕ) → IsNameFront text name rest → found fields name ≡ None → SetsNothing fields text
sets_nothing-unknown fields text name rest front unknown =
    elim (position is_blank rest) as (λ p. position is_blank rest ≡ p → SetsNothing fields text) [
      | None ↦ λ e. before rest [] (until-end rest e)
      | Some n ↦ λ e. before (take n rest) (take (length rest - (n + 1)) (drop (n + 1) rest)) (until-blank rest n e)
    ] refl
  where
    before : (value behind : List ℕ) → IsUntilBlank rest value behind → SetsNothing fields text
    before value behind until = record {
      none = λ draft. with_words-cut fields text (Some (name, value)) behind draft (front.cut value behind until)
          ∙ ap (λ f. option_and_then (with_words fields (words_of behind)) (with_value f value draft)) unknown;
    }

-- what a word makes, where its value was read
pub words-either : (fields : List Field) (text rest : List ℕ) (what : Found) (old new : Draft) → Sets fields text what rest
    → (result : Option (Bor (List ℕ))) → MatchOption result (IsNotSet what rest old) (λ behind. IsSet what rest behind.now old new)
    → MatchOption result (with_words fields (words_of text) old ≡ None) (λ behind. with_words fields (words_of text) old ≡ with_words fields (words_of behind.now) new)
words-either fields text rest what old new sets (Some behind) is =
    sets.set is.value behind.now old is.until ∙ ap (option_and_then (with_words fields (words_of behind.now))) is.set
words-either fields text rest what old new sets None is =
    sets.set is.value is.behind old is.until ∙ ap (option_and_then (with_words fields (words_of is.behind))) is.set
