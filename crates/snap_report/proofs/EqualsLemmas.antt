-- No value has a `=` in it.
use Rattle.std.proofs.Common.{◌≡◌, ℕ, ◌&&◌, ◌||◌, Bool, true, false, cond, eqb, Option, None, Some, List, [], ◌∷◌, length, refl, ap, ◌∙◌, arith}
use Rattle.std.specs.Prelude.{nat_le, option_and_then, option_map}
use Rattle.std.specs.List.{list_all, list_any}
use Rattle.std.specs.Char.{is_ascii_digit}
use Rattle.std.proofs.lemmas.Bool.Decides.{nat_tests}
use Rattle.snap_core.specs.Figures.{address_behind, address_of, address_of_parts, number_of, number_up_to, octet_of, onto_first, parts_by}
use Rattle.snap_core.proofs.FigureLemmas.{number_up_to-other}
use Rattle.snap_report.specs.PacketLines.{both_numbers, plain_or, plain_value, split_or, split_value}

-- the parts between separators have what the text has, where that is no separator
module _ (p q : ℕ → Bool) (apart : (b : ℕ) → p b ≡ true → q b ≡ false) where
  onto_first-any : (b : ℕ) (parts : List (List ℕ)) → list_any (list_any p) (onto_first b parts) ≡ (p b || list_any (list_any p) parts)
  onto_first-any b [] = elim (p b) as (λ t. ((t || false) || false) ≡ (t || false)) [ true ↦ refl | false ↦ refl ]
  onto_first-any b (part ∷ parts) =
      elim (p b) as (λ t. ((t || list_any p part) || list_any (list_any p) parts) ≡ (t || (list_any p part || list_any (list_any p) parts))) [ true ↦ refl | false ↦ refl ]

  any-more : (pb qb rest parts : Bool) → (pb ≡ true → qb ≡ false) → (rest ≡ true → parts ≡ true) → (pb || rest) ≡ true → cond qb parts (pb || parts) ≡ true
  any-more true true rest parts apart more e = let no : true ≡ false = apart refl in absurd (cc)
  any-more true false rest parts apart more e = refl
  any-more false true rest parts apart more e = more e
  any-more false false rest parts apart more e = more e

  parts_by-any : (text : List ℕ) → list_any p text ≡ true → list_any (list_any p) (parts_by q text) ≡ true
  parts_by-any [] e = absurd (cc)
  parts_by-any (b ∷ bs) e =
      let parts = parts_by q bs in
      let step : list_any (list_any p) (parts_by q (b ∷ bs)) ≡ cond (q b) (list_any (list_any p) parts) (p b || list_any (list_any p) parts) =
      elim (q b) as (λ t. list_any (list_any p) (cond t ([] ∷ parts) (onto_first b parts)) ≡ cond t (list_any (list_any p) parts) (p b || list_any (list_any p) parts)) [
        | true ↦ refl
        | false ↦ onto_first-any b parts
      ] in
      step ∙ any-more (p b) (q b) (list_any p bs) (list_any (list_any p) parts) (apart b) (parts_by-any bs) e

abbrev pub is_equals : ℕ → Bool
is_equals b = eqb b 61

abbrev pub has_equals : List ℕ → Bool
has_equals text = list_any is_equals text

digit-more : (equals digit rest digits : Bool) → (equals ≡ true → digit ≡ false) → (rest ≡ true → digits ≡ false) → (equals || rest) ≡ true → (digit && digits) ≡ false
digit-more true true rest digits apart more e = let no : true ≡ false = apart refl in absurd (cc)
digit-more true false rest digits apart more e = refl
digit-more false true rest digits apart more e = more e
digit-more false false rest digits apart more e = refl

no_digits : (text : List ℕ) → has_equals text ≡ true → list_all is_ascii_digit text ≡ false
no_digits [] e = absurd (cc)
no_digits (b ∷ bs) e = digit-more (is_equals b) (is_ascii_digit b) (has_equals bs) (list_all is_ascii_digit bs) (other b) (no_digits bs) e
  where
    other : (b : ℕ) → is_equals b ≡ true → is_ascii_digit b ≡ false
    other b e = grind (arith, nat_tests)

number-equals : (most : ℕ) (text : List ℕ) → has_equals text ≡ true → number_up_to most text ≡ None
number-equals most text e = number_up_to-other most text (no_digits text e)

octet-equals : (text : List ℕ) → has_equals text ≡ true → octet_of text ≡ None
octet-equals text e = ap (λ o. cond (nat_le (length text) 3) o None) (number-equals 255 text e) ∙ either (nat_le (length text) 3)
  where
    either : (t : Bool) → cond {A = Option ℕ} t None None ≡ None
    either true = refl
    either false = refl

-- an address of four parts, of which one is none
four : (a b c d : Bool) (x y z w : Option ℕ) → (a ≡ true → x ≡ None) → (b ≡ true → y ≡ None) → (c ≡ true → z ≡ None) → (d ≡ true → w ≡ None)
    → (a || (b || (c || (d || false)))) ≡ true
    → option_and_then (λ m. address_behind m w) (option_and_then (λ m. address_behind m z) (option_and_then (λ m. address_behind m y) x)) ≡ None
four a b c d None y z w fa fb fc fd e = refl
four a b c d (Some x) None z w fa fb fc fd e = refl
four a b c d (Some x) (Some y) None w fa fb fc fd e = refl
four a b c d (Some x) (Some y) (Some z) None fa fb fc fd e = refl
four true b c d (Some x) (Some y) (Some z) (Some w) fa fb fc fd e = let no : Some x ≡ None = fa refl in absurd (cc)
four false true c d (Some x) (Some y) (Some z) (Some w) fa fb fc fd e = let no : Some y ≡ None = fb refl in absurd (cc)
four false false true d (Some x) (Some y) (Some z) (Some w) fa fb fc fd e = let no : Some z ≡ None = fc refl in absurd (cc)
four false false false true (Some x) (Some y) (Some z) (Some w) fa fb fc fd e = let no : Some w ≡ None = fd refl in absurd (cc)
four false false false false (Some x) (Some y) (Some z) (Some w) fa fb fc fd e = absurd (cc)

parts-equals : (parts : List (List ℕ)) → list_any (list_any is_equals) parts ≡ true → address_of_parts parts ≡ None
parts-equals [] e = refl
parts-equals (a ∷ []) e = refl
parts-equals (a ∷ b ∷ []) e = refl
parts-equals (a ∷ b ∷ c ∷ []) e = refl
parts-equals (a ∷ b ∷ c ∷ d ∷ []) e =
    four (has_equals a) (has_equals b) (has_equals c) (has_equals d) (octet_of a) (octet_of b) (octet_of c) (octet_of d)
    (octet-equals a) (octet-equals b) (octet-equals c) (octet-equals d) e
parts-equals (a ∷ b ∷ c ∷ d ∷ more ∷ parts) e = refl

-- two numbers, of which one is none
two : (a b : Bool) (x y : Option ℕ) → (a ≡ true → x ≡ None) → (b ≡ true → y ≡ None) → (a || (b || false)) ≡ true
    → option_and_then {U = ℕ × ℕ} (λ n. option_map {U = ℕ × ℕ} (λ h. (n, h)) y) x ≡ None
two a b None y fa fb e = refl
two a b (Some x) None fa fb e = refl
two true b (Some x) (Some y) fa fb e = let no : Some x ≡ None = fa refl in absurd (cc)
two false true (Some x) (Some y) fa fb e = let no : Some y ≡ None = fb refl in absurd (cc)
two false false (Some x) (Some y) fa fb e = absurd (cc)

numbers-equals : (parts : List (List ℕ)) → list_any (list_any is_equals) parts ≡ true → both_numbers parts ≡ None
numbers-equals [] e = refl
numbers-equals (a ∷ []) e = refl
numbers-equals (a ∷ b ∷ []) e = two (has_equals a) (has_equals b) (number_of a) (number_of b) (number-equals _ a) (number-equals _ b) e
numbers-equals (a ∷ b ∷ more ∷ parts) e = refl

address-equals : (text : List ℕ) → has_equals text ≡ true → address_of text ≡ None
address-equals text e = parts-equals (parts_by (λ b. eqb b 46) text) (parts_by-any is_equals (λ b. eqb b 46) (λ b h. grind (arith, nat_tests)) text e)

pub plain_value-equals : (text : List ℕ) → has_equals text ≡ true → plain_value text ≡ None
plain_value-equals text e = ap (λ n. plain_or n (address_of text)) (number-equals _ text e) ∙ address-equals text e

pub split_value-equals : (prefix : ℕ) (text : List ℕ) → has_equals text ≡ true → split_value prefix text ≡ None
split_value-equals prefix text e =
    ap (λ a. split_or prefix a (both_numbers (parts_by (λ b. eqb b 58) text))) (address-equals text e)
    ∙ numbers-equals (parts_by (λ b. eqb b 58) text) (parts_by-any is_equals (λ b. eqb b 58) (λ b h. grind (arith, nat_tests)) text e)
