-- The words of a text, from its front.
use Rattle.std.proofs.Common.{◌≡◌, ℕ, ◌-◌, ◌<◌, ◌≤◌, zero, suc, Bool, true, false, not, cond, None, Some, List, [], ◌∷◌, length, take, drop, get_or, refl, sym, ap, ◌∙◌, arith, length-drop}
use Rattle.std.specs.Prelude.{filter, position, nat_lt}
use Rattle.std.specs.List.{position_or_len}
use Rattle.std.proofs.lemmas.List.Sums.{prefix_len_passes}
use Rattle.std.proofs.lemmas.Bool.Decides.{nat_tests}
use Rattle.std.proofs.lemmas.List.{drop_all, at_drop_more, take_rest}
use Rattle.std.proofs.lemmas.List.Quantifiers.{position-Some}
use Rattle.std.proofs.lemmas.Bool.{not-true}
use Rattle.snap_core.specs.Figures.{onto_first, parts_by}
use Rattle.snap_report.specs.PacketLines.{is_blank, is_inked, is_some_text, words_of, BeginsWord, both_numbers}

-- three parts or more are no two numbers
pub both_numbers-many : (p : ℕ → Bool) (a b rest : List ℕ) → both_numbers (a ∷ b ∷ parts_by p rest) ≡ None
both_numbers-many p a b [] = refl
both_numbers-many p a b (x ∷ xs) =
    elim (p x) as (λ t. both_numbers (a ∷ b ∷ cond t ([] ∷ parts_by p xs) (onto_first x (parts_by p xs))) ≡ None) [
      | true ↦ refl
      | false ↦ elim (parts_by p xs) as (λ ps. both_numbers (a ∷ b ∷ onto_first x ps) ≡ None) [ [] ↦ refl | q ∷ qs ↦ refl ]
    ]

-- a blank at the front is no part of a word
pub words_of-blank : (b : ℕ) (bs : List ℕ) → is_blank b ≡ true → words_of (b ∷ bs) ≡ words_of bs
words_of-blank b bs e = ap (λ t. filter is_some_text (cond t ([] ∷ parts_by is_blank bs) (onto_first b (parts_by is_blank bs)))) e

blank_of : (b : ℕ) → is_inked b ≡ false → is_blank b ≡ true
blank_of b e = elim (is_blank b) as (λ t. not t ≡ false → t ≡ true) [ true ↦ λ h. refl | false ↦ λ h. sym h ] e

no_blank_of : (b : ℕ) → is_inked b ≡ true → is_blank b ≡ false
no_blank_of b e = elim (is_blank b) as (λ t. not t ≡ true → t ≡ false) [ true ↦ λ h. sym h | false ↦ λ h. refl ] e

pub words_of-blanks : (text : List ℕ) (n : ℕ) → n ≤ length text → ((k : ℕ) → k < n → is_inked (get_or text k 0) ≡ false) → words_of text ≡ words_of (drop n text)
words_of-blanks text zero within blanks = refl
words_of-blanks [] (suc n) within blanks = absurd (omega arith)
words_of-blanks (b ∷ bs) (suc n) within blanks = words_of-blank b bs (blank_of b (blanks 0 (omega arith))) ∙ words_of-blanks bs n (omega arith) (λ k h. blanks (suc k) (omega arith))

some_or_none : (b : Bool) (n : ℕ) → cond b (Some n) None ≡ None → b ≡ false
some_or_none true n e = absurd (cc)
some_or_none false n e = refl

-- where no element is found, none passes
pub position-None : (p : ℕ → Bool) (xs : List ℕ) → position p xs ≡ None → (k : ℕ) → k < length xs → p (get_or xs k 0) ≡ false
position-None p xs e k within =
    let no : nat_lt (position_or_len p xs) (length xs) ≡ false = some_or_none (nat_lt (position_or_len p xs) (length xs)) (position_or_len p xs) e in
    let before : k < position_or_len p xs = grind (arith, nat_tests) in
    not-true (p (get_or xs k 0)) (prefix_len_passes (λ x. not (p x)) xs k 0 before)

-- behind the blanks at the front
pub words_of-inked : (text : List ℕ) (n : ℕ) → position is_inked text ≡ Some n → words_of text ≡ words_of (take (length text - n) (drop n text))
words_of-inked text n e =
    let at = position-Some is_inked text n 0 e in
    words_of-blanks text n (omega (arith, at.0)) at.2 ∙ ap words_of (sym (take_rest text n))

pub words_of-none : (text : List ℕ) → position is_inked text ≡ None → words_of text ≡ []
words_of-none text e = words_of-blanks text (length text) (omega arith) (position-None is_inked text e) ∙ ap words_of (drop_all (length text) text (omega arith))

begins : (text : List ℕ) → 0 < length text → is_inked (get_or text 0 0) ≡ true → BeginsWord text
begins [] some e = absurd (omega arith)
begins (b ∷ bs) some e = no_blank_of b e

pub BeginsWord-inked : (text : List ℕ) (n : ℕ) → position is_inked text ≡ Some n → BeginsWord (take (length text - n) (drop n text))
BeginsWord-inked text n e =
    let at = position-Some is_inked text n 0 e in
    let rest = take (length text - n) (drop n text) in
    let first : get_or rest 0 0 ≡ get_or text n 0 = ap (λ l. get_or l 0 0) (take_rest text n) ∙ at_drop_more (λ l. get_or l 0 0) text n 0 at.0 in
    begins rest (omega (arith, ap length (take_rest text n), length-drop n text, at.0)) (ap is_inked first ∙ at.1)
