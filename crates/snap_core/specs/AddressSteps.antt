-- An address, read a byte after the other.
use Rattle.std.specs.Prelude.{◌≡◌, ℕ, ◌+◌, ◌-◌, ◌*◌, ◌<◌, Bool, false, ◌&&◌, ◌==◌, nat_le, nat_lt, if◌then◌else◌, List, [], ◌∷◌, Some, None, option_and_then}
use Rattle.std.specs.Char.{is_ascii_digit}
use Rattle.std.specs.declared.option.Option.{Option}

-- An address as far as it is read: the number of the parts before the last dot, the part behind it, how many digits that
-- one has, and how many dots there were.
pub record Reading : Type 0 where
  pub front : ℕ
  pub part : ℕ
  pub digits : ℕ
  pub dots : ℕ

-- nothing is read
abbrev pub reading_at_first : Reading
reading_at_first = record { front = 0; part = 0; digits = 0; dots = 0 }

-- the part that is being read stands for a byte
abbrev pub is_octet : Reading → Bool
is_octet r = nat_le 1 r.digits && nat_le r.part 255

-- the number of all parts
abbrev pub number_so_far : Reading → ℕ
number_so_far r = r.front * 256 + r.part

abbrev pub with_digit : Reading → ℕ → Option Reading
with_digit r b =
    if is_ascii_digit b && nat_lt r.digits 3
    then Some (record { front = r.front; part = r.part * 10 + (b - 48); digits = r.digits + 1; dots = r.dots })
    else None

abbrev pub with_dot : Reading → Option Reading
with_dot r = if is_octet r && nat_lt r.dots 3 then Some (record { front = number_so_far r; part = 0; digits = 0; dots = r.dots + 1 })
    else None

abbrev pub with_byte : Reading → ℕ → Option Reading
with_byte r b = if b == 46 then with_dot r else with_digit r b

-- the address, where the text ends
abbrev pub address_at_end : Reading → Option ℕ
address_at_end r = if is_octet r && r.dots == 3 then Some (number_so_far r) else None

-- the address, where this text is left
abbrev pub address_left : Reading → List ℕ → Option ℕ
address_left r [] = address_at_end r
address_left r (b ∷ bs) = option_and_then (λ r. address_left r bs) (with_byte r b)

-- a part begins behind so many dots
abbrev pub part_begins : (front dots : ℕ) → Reading
part_begins front dots = record { front = front; part = 0; digits = 0; dots = dots }

-- the address, where this text is left behind a whole part: a dot or the end has to come
abbrev pub address_behind_part : (front dots : ℕ) → List ℕ → Option ℕ
address_behind_part front dots [] = if dots == 3 then Some front else None
address_behind_part front dots (b ∷ bs) = if b == 46 && nat_lt dots 3 then address_left (part_begins front (dots + 1)) bs else None

abbrev pub BeginsNoDigit : List ℕ → Type 0
BeginsNoDigit [] = Unit {0}
BeginsNoDigit (b ∷ bs) = is_ascii_digit b ≡ false

abbrev pub BeginsNoDot : List ℕ → Type 0
BeginsNoDot [] = Unit {0}
BeginsNoDot (b ∷ bs) = (b == 46) ≡ false

-- no part is at the front of this text
pub record IsNoOctet (text : List ℕ) : Type 0 where
  pub none : (front dots : ℕ) → address_left (part_begins front dots) text ≡ None

-- a part of this number is at the front of this text, before the rest
pub record IsOctetFront (text : List ℕ) (n : ℕ) (rest : List ℕ) : Type 0 where
  pub left : (front dots : ℕ) → address_left (part_begins front dots) text ≡ address_behind_part (front * 256 + n) dots rest

-- the same of a part and the dot behind it
pub record IsNoPart (text : List ℕ) : Type 0 where
  pub none : (front dots : ℕ) → dots < 3 → address_left (part_begins front dots) text ≡ None

pub record IsPartFront (text : List ℕ) (n : ℕ) (rest : List ℕ) : Type 0 where
  pub left : (front dots : ℕ) → dots < 3
      → address_left (part_begins front dots) text ≡ address_left (part_begins (front * 256 + n) (dots + 1)) rest
