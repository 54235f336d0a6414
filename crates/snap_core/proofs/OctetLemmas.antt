-- An address, read a part after the other.
use Rattle.std.proofs.Common.{◌≡◌, ℕ, ◌+◌, ◌-◌, ◌*◌, ◌<◌, ◌≤◌, ◌&&◌, Bool, true, false, cond, eqb, Option, Some, None, List, [], ◌∷◌, length, refl, sym, ap, ◌∙◌, arith}
use Rattle.std.specs.Prelude.{nat_le, nat_lt, option_and_then}
use Rattle.std.specs.Char.{is_ascii_digit}
use Rattle.std.proofs.lemmas.Bool.Decides.{nat_tests}
use Rattle.snap_core.specs.Figures.{address_of}
use Rattle.snap_core.proofs.AddressLemmas.{address_left-first}
use Rattle.snap_core.specs.AddressSteps.{Reading, IsNoOctet, IsNoPart, IsOctetFront, IsPartFront, address_behind_part, address_left, part_begins, with_digit, with_dot}

abbrev reading : (front part digits dots : ℕ) → Reading
reading front part digits dots = record { front = front; part = part; digits = digits; dots = dots }

-- a digit at the front goes on with the part
left-digit : (front part digits dots b : ℕ) (bs : List ℕ) → is_ascii_digit b ≡ true → digits < 3
    → address_left (reading front part digits dots) (b ∷ bs) ≡ address_left (reading front (part * 10 + (b - 48)) (digits + 1) dots) bs
left-digit front part digits dots b bs digit few =
    let r = reading front part digits dots in
    let next = reading front (part * 10 + (b - 48)) (digits + 1) dots in
    let left = λ (r : Reading). address_left r bs in
    let no : eqb b 46 ≡ false = grind (arith, nat_tests) in
    let yes : nat_lt digits 3 ≡ true = grind (arith, nat_tests) in
    ap (λ t. option_and_then left (cond t (with_dot r) (with_digit r b))) no
    ∙ ap (λ t. option_and_then left (cond (t && nat_lt digits 3) (Some next) None)) digit
    ∙ ap (λ t. option_and_then left (cond t (Some next) None)) yes

-- the same of a digit that stands for n
pub left-number : (front part digits dots n : ℕ) (bs : List ℕ) → n ≤ 9 → digits < 3
    → address_left (reading front part digits dots) ((48 + n) ∷ bs) ≡ address_left (reading front (part * 10 + n) (digits + 1) dots) bs
left-number front part digits dots n bs small few =
    let digit : is_ascii_digit (48 + n) ≡ true = grind (arith, nat_tests) in
    let same : part * 10 + (48 + n - 48) ≡ part * 10 + n = omega arith in
    left-digit front part digits dots (48 + n) bs digit few ∙ ap (λ m. address_left (reading front m (digits + 1) dots) bs) same

no_fourth : (b : Bool) → (b && false) ≡ false
no_fourth true = refl
no_fourth false = refl

neither : (left : Reading → Option ℕ) (x : Bool) → option_and_then left (cond x None None) ≡ None
neither left true = refl
neither left false = refl

-- a part is at most 255
too_large : (front part dots : ℕ) (text : List ℕ) → 255 < part → address_left (reading front part 3 dots) text ≡ None
too_large front part dots [] large =
    let no : nat_le part 255 ≡ false = grind (arith, nat_tests) in
    ap (λ t. cond (t && eqb dots 3) (Some (front * 256 + part)) None) no
too_large front part dots (b ∷ bs) large =
    let no : nat_le part 255 ≡ false = grind (arith, nat_tests) in
    let left = λ (r : Reading). address_left r bs in
    let next = part_begins (front * 256 + part) (dots + 1) in
    let more = reading front (part * 10 + (b - 48)) (3 + 1) dots in
    ap (λ t. option_and_then left (cond (eqb b 46) (cond (t && nat_lt dots 3) (Some next) None) (cond (is_ascii_digit b && false) (Some more) None))) no
    ∙ ap (λ t. option_and_then left (cond (eqb b 46) None (cond t (Some more) None))) (no_fourth (is_ascii_digit b))
    ∙ neither left (eqb b 46)

-- a text that begins with three digits
module _ (text rest : List ℕ) (a : ℕ) (e : text ≡ (48 + a) ∷ rest) (small : a ≤ 9) where
  first : (front dots : ℕ) → address_left (part_begins front dots) text ≡ address_left (reading front a 1 dots) rest
  first front dots =
      let same : 0 * 10 + a ≡ a = omega arith in
      ap (address_left (part_begins front dots)) e ∙ left-number front 0 0 dots a rest small (omega arith) ∙ ap (λ m. address_left (reading front m 1 dots) rest) same

  module _ (more : List ℕ) (b : ℕ) (f : rest ≡ (48 + b) ∷ more) (low : b ≤ 9) where
    second : (front dots : ℕ) → address_left (part_begins front dots) text ≡ address_left (reading front (a * 10 + b) 2 dots) more
    second front dots = first front dots ∙ ap (address_left (reading front a 1 dots)) f ∙ left-number front a 1 dots b more low (omega arith)

    module _ (last : List ℕ) (c : ℕ) (g : more ≡ (48 + c) ∷ last) (least : c ≤ 9) where
      third : (front dots : ℕ) → address_left (part_begins front dots) text ≡ address_left (reading front ((a * 10 + b) * 10 + c) 3 dots) last
      third front dots = second front dots ∙ ap (address_left (reading front (a * 10 + b) 2 dots)) g ∙ left-number front (a * 10 + b) 2 dots c last least (omega arith)

      pub octet-large : 255 < (a * 10 + b) * 10 + c → IsNoOctet text
      octet-large large = record { none = λ front dots. third front dots ∙ too_large front ((a * 10 + b) * 10 + c) dots last large }

pub address-no_part : (text : List ℕ) → IsNoPart text → address_of text ≡ None
address-no_part text h = sym (address_left-first text) ∙ h.none 0 0 (omega arith)

-- three parts with their dots, and a fourth
module _ (text second : List ℕ) (a : ℕ) (one : IsPartFront text a second) where
  behind-one : address_of text ≡ address_left (part_begins (0 * 256 + a) 1) second
  behind-one = sym (address_left-first text) ∙ one.left 0 0 (omega arith)

  pub address-no_second : IsNoPart second → address_of text ≡ None
  address-no_second h = behind-one ∙ h.none (0 * 256 + a) 1 (omega arith)

  module _ (third : List ℕ) (b : ℕ) (two : IsPartFront second b third) where
    behind-two : address_of text ≡ address_left (part_begins ((0 * 256 + a) * 256 + b) 2) third
    behind-two = behind-one ∙ two.left (0 * 256 + a) 1 (omega arith)

    pub address-no_third : IsNoPart third → address_of text ≡ None
    address-no_third h = behind-two ∙ h.none ((0 * 256 + a) * 256 + b) 2 (omega arith)

    module _ (fourth : List ℕ) (c : ℕ) (three : IsPartFront third c fourth) where
      behind-three : address_of text ≡ address_left (part_begins (((0 * 256 + a) * 256 + b) * 256 + c) 3) fourth
      behind-three = behind-two ∙ three.left ((0 * 256 + a) * 256 + b) 2 (omega arith)

      pub address-no_fourth : IsNoOctet fourth → address_of text ≡ None
      address-no_fourth h = behind-three ∙ h.none (((0 * 256 + a) * 256 + b) * 256 + c) 3

      module _ (rest : List ℕ) (d : ℕ) (four : IsOctetFront fourth d rest) where
        behind-four : address_of text ≡ address_behind_part ((((0 * 256 + a) * 256 + b) * 256 + c) * 256 + d) 3 rest
        behind-four = behind-three ∙ four.left (((0 * 256 + a) * 256 + b) * 256 + c) 3

        pub address-whole : length rest ≡ 0 → address_of text ≡ Some (((a * 256 + b) * 256 + c) * 256 + d)
        address-whole h =
            let same : (((0 * 256 + a) * 256 + b) * 256 + c) * 256 + d ≡ ((a * 256 + b) * 256 + c) * 256 + d = omega arith in
            behind-four ∙ ends rest h ∙ ap Some same
          where
            ends : (rest : List ℕ) → length rest ≡ 0 → address_behind_part ((((0 * 256 + a) * 256 + b) * 256 + c) * 256 + d) 3 rest ≡ Some ((((0 * 256 + a) * 256 + b) * 256 + c) * 256 + d)
            ends [] h = refl
            ends (x ∷ xs) h = absurd (omega arith)

        pub address-more : 0 < length rest → address_of text ≡ None
        address-more h = behind-four ∙ goes_on ((((0 * 256 + a) * 256 + b) * 256 + c) * 256 + d) rest h
          where
            goes_on : (front : ℕ) (rest : List ℕ) → 0 < length rest → address_behind_part front 3 rest ≡ None
            goes_on front [] h = absurd (omega arith)
            goes_on front (x ∷ xs) h = elim (eqb x 46) as (λ t. cond (t && false) (address_left (part_begins front (3 + 1)) xs) None ≡ None) [ true ↦ refl | false ↦ refl ]
