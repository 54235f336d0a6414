-- Tokens are parsed in one way.
use Rattle.std.specs.Prelude.{◌≡◌, ℕ, List, Result, Ok, Err}
use Rattle.snap_lex.specs.declared.Token.{Token}
use Rattle.snap_parse.specs.declared.fault.ParseFault.{ParseFault}
use Rattle.snap_parse.specs.declared.fault.ParseFault.TheVariants.{Unexpected, TooDeep, NoMemory}
use Rattle.snap_parse.specs.Tree.{SourceTree}
use Rattle.snap_parse.specs.Grammar.{DerivesWithin, IsUnexpected, IsTooDeep}

-- what becomes of the tokens of a text that ends at `end`: a tree within the limit, or a token that is unexpected, or too deep,
-- at its place
abbrev pub Yields : (limit end : ℕ) → List Token → Result SourceTree ParseFault → Type 0
Yields limit end ts (Ok s) = DerivesWithin limit ts s
Yields limit end ts (Err (Unexpected at)) = IsUnexpected limit end ts at
Yields limit end ts (Err (TooDeep at)) = IsTooDeep limit ts at
Yields limit end ts (Err NoMemory) = ⊥

-- Tokens have one tree at most, or are unexpected or too deep at one place, and no two of these.
abbrev pub YieldsOnce : Type 0
YieldsOnce = (limit end : ℕ) (ts : List Token) (a b : Result SourceTree ParseFault) → Yields limit end ts a → Yields limit end ts b → a ≡ b

-- Tokens without a tree are unexpected, or too deep, at some place.
abbrev pub YieldsAlways : Type 0
YieldsAlways = (limit end : ℕ) (ts : List Token) → (a : Result SourceTree ParseFault) × Yields limit end ts a
