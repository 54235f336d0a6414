-- A text is read in one way.
use Rattle.std.specs.Prelude.{◌≡◌, ℕ, List, Result, Ok, Err}
use Rattle.snap_lex.specs.Lexemes.{Token, SpellsTokens, IsBadByte, IsBadNumber}
pub use Rattle.snap_lex.specs.declared.LexFault.{LexFault}
pub use Rattle.snap_lex.specs.declared.LexFault.TheVariants.{BadByte, BadNumber, NoMemory}

-- what is found in a text: the tokens that it spells, or a bad byte or a bad number at its place
abbrev pub Finds : List ℕ → Result (List Token) LexFault → Type 0
Finds text (Ok ts) = SpellsTokens text ts
Finds text (Err (BadByte at)) = IsBadByte text at
Finds text (Err (BadNumber at)) = IsBadNumber text at
Finds text (Err NoMemory) = ⊥

-- In a text one thing is found at most: one list of tokens, or one bad byte, or one bad number.
abbrev pub FindsOnce : Type 0
FindsOnce = (text : List ℕ) (a b : Result (List Token) LexFault) → Finds text a → Finds text b → a ≡ b

-- In a text something is found: where it spells no tokens it has a bad byte or a bad number.
abbrev pub FindsAlways : Type 0
FindsAlways = (text : List ℕ) → (a : Result (List Token) LexFault) × Finds text a
