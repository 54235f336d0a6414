-- The tree of a text.
use Rattle.std.specs.Prelude.{ℕ, List}
use Rattle.snap_lex.specs.declared.Token.{Token}
use Rattle.snap_lex.specs.Lexemes.{SpellsTokens}
use Rattle.snap_parse.specs.Tree.{SourceTree}
use Rattle.snap_parse.specs.Grammar.{Derives}

-- the text spells tokens that derive the tree
abbrev pub HasTree : List ℕ → SourceTree → Type 0
HasTree text s = (ts : List Token) × SpellsTokens text ts × Derives ts s
