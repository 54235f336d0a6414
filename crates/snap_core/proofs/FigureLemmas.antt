-- Numbers in digits, read from the front.
use Rattle.std.proofs.Common.{◌≡◌, ℕ, ◌+◌, ◌-◌, ◌*◌, ◌<◌, ◌≤◌, ◌&&◌, Bool, true, false, cond, List, [], ◌∷◌, Option, Some, None, length, get_or, drop, refl, ap, ◌∙◌, arith}
use Rattle.std.specs.Prelude.{nat_le}
use Rattle.std.specs.List.{list_all}
use Rattle.std.specs.Char.{is_ascii_digit}
use Rattle.std.proofs.lemmas.Bool.Decides.{nat_tests}
use Rattle.std.proofs.lemmas.Bool.{le-leb}
use Rattle.std.proofs.lemmas.List.{at_drop_more}
use Rattle.snap_core.specs.Figures.{value_after, value_of_digits, number_up_to}

-- more digits make no less
pub value_after-le : (n : ℕ) (ds : List ℕ) → n ≤ value_after n ds
value_after-le n [] = omega arith
value_after-le n (d ∷ ds) = omega (arith, value_after-le (n * 10 + (d - 48)) ds)

-- the number, where both tests hold
abbrev chosen : Bool → Bool → ℕ → Option ℕ
chosen a b n = cond (a && b) (Some n) None

chosen-false : (a : Bool) (n : ℕ) → chosen a false n ≡ None
chosen-false true n = refl
chosen-false false n = refl

pub number_up_to-above : (most : ℕ) (text : List ℕ) → most < value_of_digits text → number_up_to most text ≡ None
number_up_to-above most [] above = refl
number_up_to-above most (d ∷ ds) above =
    let n = value_of_digits (d ∷ ds) in
    let no : nat_le n most ≡ false = grind (arith, nat_tests) in
    ap (λ b. chosen (list_all is_ascii_digit (d ∷ ds)) b n) no ∙ chosen-false (list_all is_ascii_digit (d ∷ ds)) n

pub number_up_to-other : (most : ℕ) (text : List ℕ) → list_all is_ascii_digit text ≡ false → number_up_to most text ≡ None
number_up_to-other most [] other = refl
number_up_to-other most (d ∷ ds) other = let n = value_of_digits (d ∷ ds) in ap (λ b. chosen b (nat_le n most) n) other

pub number_up_to-digits : (most : ℕ) (text : List ℕ) → 0 < length text → list_all is_ascii_digit text ≡ true → value_of_digits text ≤ most → number_up_to most text ≡ Some (value_of_digits text)
number_up_to-digits most [] some digits within = absurd (omega arith)
number_up_to-digits most (d ∷ ds) some digits within =
    let n = value_of_digits (d ∷ ds) in
    ap (λ b. chosen b (nat_le n most) n) digits ∙ ap (λ b. chosen true b n) (le-leb n most within)

-- the value, from what was read and the digits that are left
pub value_of_digits-more : (text : List ℕ) (i n : ℕ) → i < length text → value_of_digits text ≡ value_after n (drop i text) → value_of_digits text ≡ value_after (n * 10 + (get_or text i 0 - 48)) (drop (i + 1) text)
value_of_digits-more text i n within e = e ∙ at_drop_more (value_after n) text i 0 within

-- the number after the next digit is no more than the whole
pub value_of_digits-le : (text : List ℕ) (i n : ℕ) → i < length text → value_of_digits text ≡ value_after n (drop i text) → n * 10 + (get_or text i 0 - 48) ≤ value_of_digits text
value_of_digits-le text i n within e = omega (arith, value_of_digits-more text i n within e, value_after-le (n * 10 + (get_or text i 0 - 48)) (drop (i + 1) text))
