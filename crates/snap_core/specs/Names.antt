-- What a name is, over its bytes.
use Rattle.std.specs.Prelude.{ℕ, Bool, true, false, not, ◌&&◌, ◌||◌, ◌==◌, nat_le, nat_lt, length, List, [], ◌∷◌, IsTrue, codes}
use Rattle.std.specs.List.{list_all, list_any}
use Rattle.std.specs.Str.{bytes_eq}

-- whether a byte is from a to z, both among them
abbrev pub is_between : ℕ → ℕ → ℕ → Bool
is_between a z b = nat_le a b && nat_le b z

-- a letter of ASCII or `_`
abbrev pub is_letter : ℕ → Bool
is_letter b = is_between 65 90 b || is_between 97 122 b || b == 95

abbrev pub is_digit : ℕ → Bool
is_digit b = is_between 48 57 b

abbrev pub is_plain : ℕ → Bool
is_plain b = is_letter b || is_digit b

-- `.` or `-`
abbrev pub is_joint : ℕ → Bool
is_joint b = b == 46 || b == 45

abbrev pub begins_plain : List ℕ → Bool
begins_plain [] = false
begins_plain (b ∷ bs) = is_plain b

-- letters, digits and `_`, and joints where one of these follows
abbrev pub goes_on : List ℕ → Bool
goes_on [] = true
goes_on (b ∷ bs) = (is_plain b || (is_joint b && begins_plain bs)) && goes_on bs

abbrev pub is_word : List ℕ → Bool
is_word [] = false
is_word (b ∷ bs) = is_letter b && goes_on bs

abbrev pub keywords : List (List ℕ)
keywords =
    codes "field" ∷ codes "array" ∷ codes "const" ∷ codes "let" ∷ codes "if" ∷ codes "then" ∷ codes "else"
    ∷ codes "id" ∷ codes "drop" ∷ codes "atomic" ∷ codes "True" ∷ codes "False" ∷ []

abbrev pub is_keyword : List ℕ → Bool
is_keyword w = list_any (bytes_eq w) keywords

-- a word that is no keyword
abbrev pub is_name : List ℕ → Bool
is_name w = is_word w && not (is_keyword w)

abbrev pub IsName : List ℕ → Type 0
IsName w = IsTrue (is_name w)

-- ---- names of switches
-- a letter, a digit, `_`, `.` or `-`
abbrev pub is_name_byte : ℕ → Bool
is_name_byte b = (nat_le 48 b && nat_le b 57)
    || ((nat_le 65 b && nat_le b 90) || ((nat_le 97 b && nat_le b 122) || (b == 95 || (b == 46 || b == 45))))

-- one or more of these
abbrev pub is_switch_name : List ℕ → Bool
is_switch_name name = nat_lt 0 (length name) && list_all is_name_byte name
