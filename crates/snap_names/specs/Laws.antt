-- Laws of names and literals.
use Rattle.std.specs.Prelude.{ℕ, List, IsTrue, is_some, ◌↔◌}
use Rattle.snap_core.specs.Figures.{address_of}
use Rattle.snap_lex.specs.Lexemes.{IsAddress}

-- A text is an address of the tokens exactly where it spells a number as addresses do.
abbrev pub AddressesHaveNumbers : Type 0
AddressesHaveNumbers = (text : List ℕ) → IsAddress text ↔ IsTrue (is_some (address_of text))
