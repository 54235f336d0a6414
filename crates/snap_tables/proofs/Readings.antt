-- What words of a line say.
use Rattle.std.proofs.Common.{◌≡◌, ℕ, zero, suc, ◌^◌, ◌<◌, ◌≤◌, ◌&&◌, Bool, true, false, cond, List, [], ◌∷◌, Option, Some, None, length, get_or, refl, sym, ap, ◌∙◌, arith, eqb, decimal}
use Rattle.std.proofs.lemmas.Bool.{and_parts, leb-true, eqb-true}
use Rattle.std.specs.Prelude.{nat_le, nat_lt, option_and_then}
use Rattle.std.specs.List.{list_all}
use Rattle.std.specs.Char.{is_ascii_digit}
use Rattle.std.proofs.lemmas.Fmt.{decimal-digits_value, first_decimal, decimal_nonempty, decimal_digit, digits_decimal, digits_value-decimal}
use Rattle.std.proofs.lemmas.Str.Parse.{IsNumeralModel, IsDigitsTest, FoldsDigits, numerals_by_fold, tells_all_ascii_digits}
use Rattle.snap_core.specs.Figures.{number_up_to, value_after, value_of_digits, parts_by, onto_first}
use Rattle.snap_core.proofs.FigureLemmas.{number_up_to-digits}
use Rattle.snap_tables.specs.Text.{Words}
use Rattle.snap_tables.specs.Reading.{both_said, comp_term_said, plus_said, below_said, declared_said, inner_said, is_close, is_padded, no_words, number_said}

-- a text has one part at least
pub parts_by-some : (Q : Words → Type 0) → ((w : List ℕ) (ws : Words) → Q (w ∷ ws)) → (p : ℕ → Bool) (bs : List ℕ) → Q (parts_by p bs)
parts_by-some Q h p [] = h [] []
parts_by-some Q h p (b ∷ bs) =
    elim (p b) as (λ t. Q (cond t ([] ∷ parts_by p bs) (onto_first b (parts_by p bs)))) [
      | true ↦ h [] (parts_by p bs)
      | false ↦ elim (parts_by p bs) as (λ ps. Q (onto_first b ps)) [ [] ↦ h (b ∷ []) [] | q ∷ qs ↦ h (b ∷ q) qs ]
    ]

pub no_words_parts : (p : ℕ → Bool) (bs : List ℕ) → no_words (parts_by p bs) ≡ false
no_words_parts p bs = parts_by-some (λ ws. no_words ws ≡ false) (λ w ws. refl) p bs

pub both_said-many : (comps : ℕ) (p : ℕ → Bool) (a b rest : List ℕ) → both_said comps (a ∷ b ∷ parts_by p rest) ≡ None
both_said-many comps p a b rest = parts_by-some (λ ws. both_said comps (a ∷ b ∷ ws) ≡ None) (λ w ws. refl) p rest

pub comp_term_said-many : (comps : ℕ) (p : ℕ → Bool) (a b rest : List ℕ) → comp_term_said comps (a ∷ b ∷ parts_by p rest) ≡ None
comp_term_said-many comps p a b rest =
    parts_by-some (λ ws. comp_term_said comps (a ∷ b ∷ ws) ≡ None) (λ w ws. none (below_said comps a) b w ws) p rest
  where
    none : (o : Option ℕ) (b w : List ℕ) (ws : Words) → option_and_then (λ c. plus_said c (b ∷ w ∷ ws)) o ≡ None
    none None b w ws = refl
    none (Some c) b w ws = refl

pub declared_said-many : (p : ℕ → Bool) (a b rest : List ℕ) → declared_said (a ∷ b ∷ parts_by p rest) ≡ None
declared_said-many p a b rest = parts_by-some (λ ws. declared_said (a ∷ b ∷ ws) ≡ None) (λ w ws. refl) p rest

-- more behind the bracket
pub inner_said-more : (comps : ℕ) (a rest : List ℕ) → 0 < length rest → inner_said comps (a ∷ parts_by is_close rest) ≡ None
inner_said-more comps a [] some = absurd (omega arith)
inner_said-more comps a (b ∷ bs) some =
    elim (is_close b) as (λ t. inner_said comps (a ∷ cond t ([] ∷ parts_by is_close bs) (onto_first b (parts_by is_close bs))) ≡ None) [
      | true ↦ parts_by-some (λ ws. inner_said comps (a ∷ [] ∷ ws) ≡ None) (λ w ws. refl) is_close bs
      | false ↦ elim (parts_by is_close bs) as (λ ps. inner_said comps (a ∷ onto_first b ps) ≡ None) [ [] ↦ refl | q ∷ qs ↦ refl ]
    ]

-- digits, as the program tells and folds them
folds : FoldsDigits value_after
folds = record { empty = λ n. refl; more = λ n c cs k. refl }

tells : IsDigitsTest (λ ds. list_all is_ascii_digit ds ≡ true)
tells = record {
  empty = refl;
  parts = λ c cs e. tells_all_ascii_digits.parts c cs e;
  more = λ c cs k e. tells_all_ascii_digits.more c cs k e;
}

pub model : IsNumeralModel (λ ds. list_all is_ascii_digit ds ≡ true) value_of_digits
model = numerals_by_fold (λ ds. list_all is_ascii_digit ds ≡ true) tells value_after folds

chosen_some : (b : Bool) (n m : ℕ) → cond b (Some n) None ≡ Some m → (b ≡ true) × (n ≡ m)
chosen_some true n m e = (refl, Some-injective e)
  where
    Some-injective : {n m : ℕ} → Some n ≡ Some m → n ≡ m
    Some-injective e = cc
chosen_some false n m e = absurd (cc)

-- the number of a word, exactly
pub number_up_to-some : (most : ℕ) (w : List ℕ) (n : ℕ) → number_up_to most w ≡ Some n → (0 < length w) × (list_all is_ascii_digit w ≡ true) × (value_of_digits w ≡ n) × (n ≤ most)
number_up_to-some most [] n e = absurd (cc)
number_up_to-some most (d ∷ ds) n e =
    let k = chosen_some (list_all is_ascii_digit (d ∷ ds) && nat_le (value_of_digits (d ∷ ds)) most) (value_of_digits (d ∷ ds)) n e in
    let t = and_parts (list_all is_ascii_digit (d ∷ ds)) (nat_le (value_of_digits (d ∷ ds)) most) k.0 in
    (omega arith, t.0, k.1, omega (arith, k.1, leb-true (value_of_digits (d ∷ ds)) most t.1))

number_said-number : (most : ℕ) (w : List ℕ) (n : ℕ) → number_said most w ≡ Some n → (is_padded w ≡ false) × (number_up_to most w ≡ Some n)
number_said-number most w n e = split (is_padded w) (number_up_to most w) e
  where
    split : (b : Bool) (o : Option ℕ) → cond b None o ≡ Some n → (b ≡ false) × (o ≡ Some n)
    split true o e = absurd (cc)
    split false o e = (refl, e)

unpadded : (w : List ℕ) → is_padded w ≡ false → get_or w 0 0 ≡ 48 → length w ≡ 1
unpadded [] h e = absurd (omega arith)
unpadded (d ∷ []) h e = refl
unpadded (d ∷ c ∷ cs) h e = absurd (grind arith)

pub said-decimal : (most : ℕ) (w : List ℕ) (n : ℕ) → most < 2 ^ 64 → number_said most w ≡ Some n → (w ≡ decimal n) × (n ≤ most)
said-decimal most w n small e =
    let k = number_said-number most w n e in
    let s = number_up_to-some most w n k.1 in
    (sym (ap decimal (sym s.2) ∙ decimal-digits_value model w s.1 s.0 (unpadded w k.0) (omega (arith, s.2, s.3))), s.3)

padded-no : (w : List ℕ) → (get_or w 0 0 ≡ 48 → length w ≡ 1) → is_padded w ≡ false
padded-no [] h = refl
padded-no (d ∷ []) h = grind arith
padded-no (d ∷ c ∷ cs) h = elim (eqb d 48) as (λ b. (b ≡ true → ⊥) → (b && nat_lt 0 (length (c ∷ cs))) ≡ false) [
  | true ↦ λ k. absurd (k refl)
  | false ↦ λ k. refl
] (λ e. omega (arith, h (eqb-true d 48 e)))

decimal-unpadded : (n : ℕ) → n < 2 ^ 64 → get_or (decimal n) 0 0 ≡ 48 → length (decimal n) ≡ 1
decimal-unpadded zero small e = ap length (decimal_digit 0 (omega arith))
decimal-unpadded (suc n) small e = absurd (omega (arith, first_decimal (suc n) (omega arith) small))

pub decimal-said : (most n : ℕ) → most < 2 ^ 64 → n ≤ most → number_said most (decimal n) ≡ Some n
decimal-said most n small within =
    let less : n < 2 ^ 64 = omega arith in
    let v = digits_value-decimal model n less in
    ap (λ b. cond b None (number_up_to most (decimal n))) (padded-no (decimal n) (decimal-unpadded n less))
    ∙ number_up_to-digits most (decimal n) (decimal_nonempty n less) (digits_decimal model n less) (omega (arith, v)) ∙ ap Some v
