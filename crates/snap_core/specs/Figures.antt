-- Numbers and addresses in decimal digits. Leading zeros are read.
use Rattle.std.specs.Prelude.{ℕ, ◌+◌, ◌-◌, ◌*◌, ◌^◌, ◌&&◌, ◌==◌, nat_le, if◌then◌else◌, List, [], ◌∷◌, length, Some, None, option_and_then, option_map, Bool}
use Rattle.std.specs.List.{list_all}
use Rattle.std.specs.Char.{is_ascii_digit}
use Rattle.std.specs.declared.option.Option.{Option}

-- a byte in front of the parts behind it
abbrev pub onto_first : ℕ → List (List ℕ) → List (List ℕ)
onto_first b [] = (b ∷ []) ∷ []
onto_first b (part ∷ parts) = (b ∷ part) ∷ parts

-- the parts between the bytes that separate, one part more than there are such bytes
abbrev pub parts_by : (ℕ → Bool) → List ℕ → List (List ℕ)
parts_by separates [] = [] ∷ []
parts_by separates (b ∷ bs) = if separates b then [] ∷ parts_by separates bs else onto_first b (parts_by separates bs)

-- the parts between the bytes that are this one
abbrev pub parts_at : ℕ → List ℕ → List (List ℕ)
parts_at separator = parts_by (λ b. b == separator)

-- what digits are worth behind a number that was read
abbrev pub value_after : ℕ → List ℕ → ℕ
value_after n [] = n
value_after n (d ∷ ds) = value_after (n * 10 + (d - 48)) ds

abbrev pub value_of_digits : List ℕ → ℕ
value_of_digits ds = value_after 0 ds

-- the number that a text spells in digits, if it has at most this value
abbrev pub number_up_to : ℕ → List ℕ → Option ℕ
number_up_to most [] = None
number_up_to most (d ∷ ds) = if list_all is_ascii_digit (d ∷ ds)
    && nat_le (value_of_digits (d ∷ ds)) most then Some (value_of_digits (d ∷ ds)) else None

-- a number of 64 bits
abbrev pub number_of : List ℕ → Option ℕ
number_of text = number_up_to (2 ^ 64 - 1) text

-- a part of an address: one to three digits, of value at most 255
abbrev pub octet_of : List ℕ → Option ℕ
octet_of text = if nat_le (length text) 3 then number_up_to 255 text else None

-- the number of an address: four parts in base 256, one behind the other
abbrev pub address_behind : ℕ → Option ℕ → Option ℕ
address_behind front part = option_map (λ n. front * 256 + n) part

abbrev pub address_of_parts : List (List ℕ) → Option ℕ
address_of_parts (a ∷ b ∷ c ∷ d ∷ []) =
    option_and_then (λ m. address_behind m (octet_of d))
    (option_and_then (λ m. address_behind m (octet_of c))
    (option_and_then (λ m. address_behind m (octet_of b)) (octet_of a)))
address_of_parts parts = None

-- the number of the address that a text spells, as `10.0.6.1`
abbrev pub address_of : List ℕ → Option ℕ
address_of text = address_of_parts (parts_at 46 text)
