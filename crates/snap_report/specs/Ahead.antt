-- A split field's value at the front of a text, before a blank or the end.
use Rattle.std.specs.Prelude.{◌≡◌, ℕ, true, List, ◌++◌, Option, Some}
use Rattle.std.specs.List.{list_all}
use Rattle.std.specs.Char.{is_ascii_digit}
use Rattle.snap_core.specs.Figures.{address_of, octet_of}
use Rattle.snap_report.specs.Cuts.{IsUntilBlank}
use Rattle.snap_report.specs.PacketLines.{split_value}

-- the text up to its first blank spells these values
pub record IsSplitFront (prefix : ℕ) (text : List ℕ) (numbers : Option (ℕ × ℕ)) (behind : List ℕ) : Type 0 where
  pub value : List ℕ
  pub until : IsUntilBlank text value behind
  pub is : numbers ≡ split_value prefix value

-- the text up to its first blank spells this address
pub record IsAddressFront (text : List ℕ) (n : ℕ) (behind : List ℕ) : Type 0 where
  pub value : List ℕ
  pub until : IsUntilBlank text value behind
  pub is : address_of value ≡ Some n

-- a part of an address at the front of a text, before the rest
pub record IsOctetAhead (text : List ℕ) (n : ℕ) (rest : List ℕ) : Type 0 where
  pub digits : List ℕ
  pub parts : text ≡ digits ++ rest
  pub all : list_all is_ascii_digit digits ≡ true
  pub is : octet_of digits ≡ Some n
