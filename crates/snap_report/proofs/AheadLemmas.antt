-- An address at the front of a text, part by part.
use Rattle.std.proofs.Common.{◌≡◌, ℕ, ◌+◌, ◌*◌, ◌<◌, ◌≤◌, ◌&&◌, Bool, true, false, cond, eqb, Option, Some, None, List, [], ◌∷◌, ◌++◌, length, refl, ap, ◌∙◌, arith}
use Rattle.std.specs.Prelude.{nat_le, option_and_then}
use Rattle.std.specs.List.{list_all}
use Rattle.std.specs.Char.{is_ascii_digit}
use Rattle.std.proofs.lemmas.Bool.Decides.{nat_tests}
use Rattle.std.proofs.lemmas.List.{append-nil}
use Rattle.std.proofs.lemmas.Bool.{and_parts}
use Rattle.snap_core.specs.Figures.{address_behind, address_of_parts, octet_of, number_up_to, value_of_digits, onto_first, parts_by}
use Rattle.snap_core.proofs.FigureLemmas.{number_up_to-digits}
use Rattle.snap_report.specs.Ahead.{IsAddressFront, IsOctetAhead}
use Rattle.snap_report.specs.Cuts.{IsUntilBlank}
use Rattle.snap_report.specs.PacketLines.{is_blank}

digit_test : (a : ℕ) → a ≤ 9 → is_ascii_digit (48 + a) ≡ true
digit_test a small = grind (arith, nat_tests)

octet-digits : (digits : List ℕ) (n : ℕ) → 0 < length digits → length digits ≤ 3 → list_all is_ascii_digit digits ≡ true → value_of_digits digits ≡ n → n ≤ 255 → octet_of digits ≡ Some n
octet-digits digits n some few all is small =
    let short : nat_le (length digits) 3 ≡ true = grind (arith, nat_tests) in
    ap (λ t. cond t (number_up_to 255 digits) None) short ∙ number_up_to-digits 255 digits some all (omega (arith, is)) ∙ ap Some is

-- a text that begins with digits
module _ (text rest : List ℕ) (a : ℕ) (e : text ≡ (48 + a) ∷ rest) (small : a ≤ 9) where
  pub octet-one : IsOctetAhead text a rest
  octet-one =
      let all : list_all is_ascii_digit ((48 + a) ∷ []) ≡ true = ap (λ t. t && true) (digit_test a small) in
      record { digits = (48 + a) ∷ []; parts = e; all = all; is = octet-digits ((48 + a) ∷ []) a (omega arith) (omega arith) all (omega arith) (omega arith) }

  module _ (more : List ℕ) (b : ℕ) (f : rest ≡ (48 + b) ∷ more) (low : b ≤ 9) where
    pub octet-two : IsOctetAhead text (a * 10 + b) more
    octet-two =
        let digits = (48 + a) ∷ (48 + b) ∷ [] in
        let all : list_all is_ascii_digit digits ≡ true = ap (λ t. t && (is_ascii_digit (48 + b) && true)) (digit_test a small) ∙ ap (λ t. t && true) (digit_test b low) in
        record { digits = digits; parts = e ∙ ap (λ l. (48 + a) ∷ l) f; all = all; is = octet-digits digits (a * 10 + b) (omega arith) (omega arith) all (omega arith) (omega arith) }

    module _ (last : List ℕ) (c : ℕ) (g : more ≡ (48 + c) ∷ last) (least : c ≤ 9) where
      pub octet-three : (a * 10 + b) * 10 + c ≤ 255 → IsOctetAhead text ((a * 10 + b) * 10 + c) last
      octet-three within =
          let digits = (48 + a) ∷ (48 + b) ∷ (48 + c) ∷ [] in
          let all : list_all is_ascii_digit digits ≡ true =
          ap (λ t. t && (is_ascii_digit (48 + b) && (is_ascii_digit (48 + c) && true))) (digit_test a small) ∙ ap (λ t. t && (is_ascii_digit (48 + c) && true)) (digit_test b low) ∙ ap (λ t. t && true) (digit_test c least) in
          record {
            digits = digits;
            parts = e ∙ ap (λ l. (48 + a) ∷ l) (f ∙ ap (λ l. (48 + b) ∷ l) g);
            all = all;
            is = octet-digits digits ((a * 10 + b) * 10 + c) (omega arith) (omega arith) all (omega arith) within;
          }

-- no digit separates, so digits belong to the first part
module _ (p : ℕ → Bool) (apart : (b : ℕ) → is_ascii_digit b ≡ true → p b ≡ false) where
  digits-first : (digits rest part : List ℕ) (more : List (List ℕ)) → list_all is_ascii_digit digits ≡ true → parts_by p rest ≡ part ∷ more
      → parts_by p (digits ++ rest) ≡ (digits ++ part) ∷ more
  digits-first [] rest part more all e = e
  digits-first (d ∷ ds) rest part more all e =
      let each = and_parts (is_ascii_digit d) (list_all is_ascii_digit ds) all in
      ap (λ t. cond t ([] ∷ parts_by p (ds ++ rest)) (onto_first d (parts_by p (ds ++ rest)))) (apart d each.0) ∙ ap (onto_first d) (digits-first ds rest part more each.1 e)

no_blank : (b : ℕ) → is_ascii_digit b ≡ true → is_blank b ≡ false
no_blank b e = grind (arith, nat_tests)

abbrev is_dot : ℕ → Bool
is_dot b = eqb b 46

no_dot : (b : ℕ) → is_ascii_digit b ≡ true → is_dot b ≡ false
no_dot b e = grind (arith, nat_tests)

-- a text that goes on with a blank
pub until-here : (b : ℕ) (behind : List ℕ) → is_blank b ≡ true → IsUntilBlank (b ∷ behind) [] behind
until-here b behind e = record {
  more = parts_by is_blank behind;
  parts = ap (λ t. cond t ([] ∷ parts_by is_blank behind) (onto_first b (parts_by is_blank behind))) e;
  words = refl;
}

until-digits : (digits rest value behind : List ℕ) → list_all is_ascii_digit digits ≡ true → IsUntilBlank rest value behind → IsUntilBlank (digits ++ rest) (digits ++ value) behind
until-digits digits rest value behind all until = record { more = until.more; parts = digits-first is_blank no_blank digits rest value until.more all until.parts; words = until.words }

until-dot : (rest value behind : List ℕ) → IsUntilBlank rest value behind → IsUntilBlank (46 ∷ rest) (46 ∷ value) behind
until-dot rest value behind until = record { more = until.more; parts = ap (onto_first 46) until.parts; words = until.words }

dot-part : (digits rest : List ℕ) → list_all is_ascii_digit digits ≡ true → parts_by is_dot (digits ++ 46 ∷ rest) ≡ digits ∷ parts_by is_dot rest
dot-part digits rest all = digits-first is_dot no_dot digits (46 ∷ rest) [] (parts_by is_dot rest) all refl ∙ ap (λ d. d ∷ parts_by is_dot rest) (append-nil digits)

last-part : (digits : List ℕ) → list_all is_ascii_digit digits ≡ true → parts_by is_dot (digits ++ []) ≡ digits ∷ []
last-part digits all = digits-first is_dot no_dot digits [] [] [] all refl ∙ ap (λ d. d ∷ []) (append-nil digits)

four : (x y z w : Option ℕ) (a b c d : ℕ) → x ≡ Some a → y ≡ Some b → z ≡ Some c → w ≡ Some d
    → option_and_then (λ m. address_behind m w) (option_and_then (λ m. address_behind m z) (option_and_then (λ m. address_behind m y) x)) ≡ Some (((a * 256 + b) * 256 + c) * 256 + d)
four x y z w a b c d ex ey ez ew =
    ap (λ x. option_and_then (λ m. address_behind m w) (option_and_then (λ m. address_behind m z) (option_and_then (λ m. address_behind m y) x))) ex
    ∙ ap (λ y. option_and_then (λ m. address_behind m w) (option_and_then (λ m. address_behind m z) (address_behind a y))) ey
    ∙ ap (λ z. option_and_then (λ m. address_behind m w) (address_behind (a * 256 + b) z)) ez
    ∙ ap (address_behind ((a * 256 + b) * 256 + c)) ew

-- three parts with their dots and a fourth, behind which the text ends or goes on with a blank
pub address-front : (text second third fourth rest behind : List ℕ) (a b c d : ℕ) → IsOctetAhead text a (46 ∷ second) → IsOctetAhead second b (46 ∷ third)
    → IsOctetAhead third c (46 ∷ fourth) → IsOctetAhead fourth d rest → IsUntilBlank rest [] behind → IsAddressFront text (((a * 256 + b) * 256 + c) * 256 + d) behind
address-front text second third fourth rest behind a b c d one two three last ends =
    let v4 = last.digits ++ [] in
    let v3 = three.digits ++ 46 ∷ v4 in
    let v2 = two.digits ++ 46 ∷ v3 in
    let v1 = one.digits ++ 46 ∷ v2 in
    let u4 : IsUntilBlank fourth v4 behind = rw last.parts (until-digits last.digits rest [] behind last.all ends) in
    let u3 : IsUntilBlank third v3 behind = rw three.parts (until-digits three.digits (46 ∷ fourth) (46 ∷ v4) behind three.all (until-dot fourth v4 behind u4)) in
    let u2 : IsUntilBlank second v2 behind = rw two.parts (until-digits two.digits (46 ∷ third) (46 ∷ v3) behind two.all (until-dot third v3 behind u3)) in
    let u1 : IsUntilBlank text v1 behind = rw one.parts (until-digits one.digits (46 ∷ second) (46 ∷ v2) behind one.all (until-dot second v2 behind u2)) in
    let parts : parts_by is_dot v1 ≡ one.digits ∷ two.digits ∷ three.digits ∷ last.digits ∷ [] =
    dot-part one.digits v2 one.all
    ∙ ap (λ l. one.digits ∷ l) (dot-part two.digits v3 two.all ∙ ap (λ l. two.digits ∷ l) (dot-part three.digits v4 three.all ∙ ap (λ l. three.digits ∷ l) (last-part last.digits last.all))) in
    record {
      value = v1;
      until = u1;
      is = ap address_of_parts parts ∙ four (octet_of one.digits) (octet_of two.digits) (octet_of three.digits) (octet_of last.digits) a b c d one.is two.is three.is last.is;
    }
