-- An address that is read a byte after the other is the one of its four parts.
use Rattle.std.proofs.Common.{◌≡◌, ℕ, ◌+◌, ◌-◌, ◌*◌, ◌<◌, ◌&&◌, zero, suc, Bool, true, false, cond, eqb, Option, Some, None, List, [], ◌∷◌, length, refl, sym, ap, ◌∙◌, arith, zero-add}
use Rattle.std.specs.Prelude.{nat_le, nat_lt, option_and_then}
use Rattle.std.specs.Char.{is_ascii_digit}
use Rattle.std.proofs.lemmas.Bool.Decides.{nat_tests}
use Rattle.snap_core.specs.Figures.{address_behind, address_of, address_of_parts, number_up_to, octet_of, onto_first, parts_by}
use Rattle.snap_core.specs.AddressSteps.{Reading, reading_at_first, is_octet, number_so_far, with_digit, with_dot, address_at_end, address_left}

-- a part, behind digits that were read
abbrev octet_from : ℕ → ℕ → List ℕ → Option ℕ
octet_from part digits [] = cond (nat_le 1 digits && nat_le part 255) (Some part) None
octet_from part digits (b ∷ bs) = cond (is_ascii_digit b && nat_lt digits 3) (octet_from (part * 10 + (b - 48)) (digits + 1) bs) None

-- what is left makes so many parts more
abbrev behind : ℕ → Option ℕ → List (List ℕ) → Option ℕ
behind zero front [] = front
behind zero front (part ∷ parts) = None
behind (suc k) front [] = None
behind (suc k) front (part ∷ parts) = behind k (option_and_then (λ m. address_behind m (octet_of part)) front) parts

-- an address whose first part is being read, and so many are behind it
abbrev read : ℕ → Reading → List (List ℕ) → Option ℕ
read k r [] = None
read k r (part ∷ parts) = behind k (address_behind r.front (octet_from r.part r.digits part)) parts

behind-none : (k : ℕ) (parts : List (List ℕ)) → behind k None parts ≡ None
behind-none zero [] = refl
behind-none zero (part ∷ parts) = refl
behind-none (suc k) [] = refl
behind-none (suc k) (part ∷ parts) = behind-none k parts

pub parts_by-some : (p : ℕ → Bool) (text : List ℕ) → 0 < length (parts_by p text)
parts_by-some p [] = omega arith
parts_by-some p (b ∷ bs) =
    elim (p b) as (λ t. 0 < length (cond t ([] ∷ parts_by p bs) (onto_first b (parts_by p bs)))) [
      | true ↦ omega arith
      | false ↦ elim (parts_by p bs) as (λ ps. 0 < length (onto_first b ps)) [ [] ↦ omega arith | q ∷ qs ↦ omega arith ]
    ]

-- a part of which nothing was read yet
octet_from-first : (text : List ℕ) → octet_from 0 0 text ≡ octet_of text
octet_from-first [] = refl
octet_from-first (a ∷ []) = one (is_ascii_digit a) (0 + (a - 48))
  where
    one : (x : Bool) (n : ℕ) → cond (x && true) (cond (nat_le n 255) (Some n) None) None ≡ cond ((x && true) && nat_le n 255) (Some n) None
    one true n = refl
    one false n = refl
octet_from-first (a ∷ b ∷ []) = two (is_ascii_digit a) (is_ascii_digit b) ((0 + (a - 48)) * 10 + (b - 48))
  where
    two : (x y : Bool) (n : ℕ) → cond (x && true) (cond (y && true) (cond (nat_le n 255) (Some n) None) None) None ≡ cond ((x && (y && true)) && nat_le n 255) (Some n) None
    two true true n = refl
    two true false n = refl
    two false y n = refl
octet_from-first (a ∷ b ∷ c ∷ []) = three (is_ascii_digit a) (is_ascii_digit b) (is_ascii_digit c) (((0 + (a - 48)) * 10 + (b - 48)) * 10 + (c - 48))
  where
    three : (x y z : Bool) (n : ℕ) → cond (x && true) (cond (y && true) (cond (z && true) (cond (nat_le n 255) (Some n) None) None) None) None ≡ cond ((x && (y && (z && true))) && nat_le n 255) (Some n) None
    three true true true n = refl
    three true true false n = refl
    three true false z n = refl
    three false y z n = refl
octet_from-first (a ∷ b ∷ c ∷ d ∷ text) =
    let whole = a ∷ b ∷ c ∷ d ∷ text in
    let no : nat_le (length whole) 3 ≡ false = grind (arith, nat_tests) in
    more (is_ascii_digit a) (is_ascii_digit b) (is_ascii_digit c) (is_ascii_digit d) (octet_from ((((0 + (a - 48)) * 10 + (b - 48)) * 10 + (c - 48)) * 10 + (d - 48)) 4 text)
    ∙ sym (ap (λ t. cond t (number_up_to 255 whole) None) no)
  where
    more : (x y z w : Bool) (o : Option ℕ) → cond (x && true) (cond (y && true) (cond (z && true) (cond (w && false) o None) None) None) None ≡ None
    more true true true true o = refl
    more true true true false o = refl
    more true true false w o = refl
    more true false z w o = refl
    more false y z w o = refl

module _ (left : Reading → Option ℕ) where
  dot-last : (r : Reading) → r.dots ≡ 3 → option_and_then left (with_dot r) ≡ None
  dot-last r last =
      let no : nat_lt r.dots 3 ≡ false = grind (arith, nat_tests) in
      let next : Reading = record { front = number_so_far r; part = 0; digits = 0; dots = r.dots + 1 } in
      ap (λ t. option_and_then left (cond (is_octet r && t) (Some next) None)) no
      ∙ elim (is_octet r) as (λ t. option_and_then left (cond (t && false) (Some next) None) ≡ None) [ true ↦ refl | false ↦ refl ]

  -- a dot ends a part
  dot : (parts : List (List ℕ)) → ((k : ℕ) (r : Reading) → k + r.dots ≡ 3 → left r ≡ read k r parts) → 0 < length parts
      → (k : ℕ) (r : Reading) → k + r.dots ≡ 3 → option_and_then left (with_dot r) ≡ read k r ([] ∷ parts)
  dot [] more some k r e = absurd (omega arith)
  dot (q ∷ qs) more some zero r e = dot-last r (omega arith)
  dot (q ∷ qs) more some (suc k) r e =
      let yes : nat_lt r.dots 3 ≡ true = grind (arith, nat_tests) in
      let next : Reading = record { front = number_so_far r; part = 0; digits = 0; dots = r.dots + 1 } in
      ap (λ t. option_and_then left (cond (is_octet r && t) (Some next) None)) yes
      ∙ elim (is_octet r) as (λ t. option_and_then left (cond (t && true) (Some next) None) ≡ behind k (option_and_then (λ m. address_behind m (octet_of q)) (address_behind r.front (cond t (Some r.part) None))) qs) [
        | true ↦ more k next (omega arith) ∙ ap (λ o. behind k (address_behind (number_so_far r) o) qs) (octet_from-first q)
        | false ↦ sym (behind-none k qs)
      ]

  -- a digit goes on with a part
  digit : (parts : List (List ℕ)) → ((k : ℕ) (r : Reading) → k + r.dots ≡ 3 → left r ≡ read k r parts) → 0 < length parts
      → (b k : ℕ) (r : Reading) → k + r.dots ≡ 3 → option_and_then left (with_digit r b) ≡ read k r (onto_first b parts)
  digit [] more some b k r e = absurd (omega arith)
  digit (q ∷ qs) more some b k r e =
      let next : Reading = record { front = r.front; part = r.part * 10 + (b - 48); digits = r.digits + 1; dots = r.dots } in
      elim (is_ascii_digit b && nat_lt r.digits 3) as (λ t. option_and_then left (cond t (Some next) None) ≡ behind k (address_behind r.front (cond t (octet_from next.part next.digits q) None)) qs) [
        | true ↦ more k next e
        | false ↦ sym (behind-none k qs)
      ]

at_end : (k : ℕ) (r : Reading) → k + r.dots ≡ 3 → address_at_end r ≡ read k r ([] ∷ [])
at_end zero r e =
    let yes : eqb r.dots 3 ≡ true = grind (arith, nat_tests) in
    ap (λ t. cond (is_octet r && t) (Some (number_so_far r)) None) yes
    ∙ elim (is_octet r) as (λ t. cond (t && true) (Some (number_so_far r)) None ≡ address_behind r.front (cond t (Some r.part) None)) [ true ↦ refl | false ↦ refl ]
at_end (suc k) r e =
    let no : eqb r.dots 3 ≡ false = grind (arith, nat_tests) in
    ap (λ t. cond (is_octet r && t) (Some (number_so_far r)) None) no
    ∙ elim (is_octet r) as (λ t. cond (t && false) (Some (number_so_far r)) None ≡ None) [ true ↦ refl | false ↦ refl ]

left-parts : (text : List ℕ) (k : ℕ) (r : Reading) → k + r.dots ≡ 3 → address_left r text ≡ read k r (parts_by (λ b. eqb b 46) text)
left-parts [] k r e = at_end k r e
left-parts (b ∷ bs) k r e =
    let left = λ (r : Reading). address_left r bs in
    let parts = parts_by (λ b. eqb b 46) bs in
    let some = parts_by-some (λ b. eqb b 46) bs in
    elim (eqb b 46) as (λ t. option_and_then left (cond t (with_dot r) (with_digit r b)) ≡ read k r (cond t ([] ∷ parts) (onto_first b parts))) [
      | true ↦ dot left parts (left-parts bs) some k r e
      | false ↦ digit left parts (left-parts bs) some b k r e
    ]

four : (parts : List (List ℕ)) → read 3 reading_at_first parts ≡ address_of_parts parts
four [] = refl
four (a ∷ []) = refl
four (a ∷ b ∷ []) = refl
four (a ∷ b ∷ c ∷ []) = refl
four (a ∷ b ∷ c ∷ d ∷ []) =
    let of = λ (o : Option ℕ). option_and_then (λ m. address_behind m (octet_of d)) (option_and_then (λ m. address_behind m (octet_of c)) (option_and_then (λ m. address_behind m (octet_of b)) o)) in
    ap (λ o. of (address_behind 0 o)) (octet_from-first a)
    ∙ elim (octet_of a) as (λ o. of (address_behind 0 o) ≡ of o) [ None ↦ refl | Some n ↦ ap (λ m. of (Some m)) (zero-add n) ]
four (a ∷ b ∷ c ∷ d ∷ more ∷ parts) = refl

pub address_left-first : (text : List ℕ) → address_left reading_at_first text ≡ address_of text
address_left-first text = left-parts text 3 reading_at_first refl ∙ four (parts_by (λ b. eqb b 46) text)
