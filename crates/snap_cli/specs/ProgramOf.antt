-- The program that a text spells, or why it spells none.
use Rattle.std.specs.Prelude.{◌≡◌, ◌⊎◌, ℕ, ◌<◌, ◌≤◌, List, length, Result, Ok, Err}
use Rattle.snap_core.specs.declared.program.Program.{Program}
use Rattle.snap_core.specs.declared.program.Which.TheVariants.{Bytes}
use Rattle.snap_core.specs.Programs.{IsBounded}
use Rattle.snap_lex.specs.declared.Token.{Token}
use Rattle.snap_lex.specs.Lexemes.{SpellsTokens, IsBadByte, IsBadNumber}
use Rattle.snap_parse.specs.Tree.{SourceTree}
use Rattle.snap_parse.specs.Grammar.{DerivesWithin, IsUnexpected, IsTooDeep}
use Rattle.snap_names.specs.declared.fault.NameFault.{NameFault}
use Rattle.snap_names.specs.declared.fault.NameFault.TheVariants as name
use Rattle.snap_names.specs.Declarations.{CoreProgram, core_program, resolved}
use Rattle.snap_cli.specs.declared.refusal.Refusal.{Refusal}
use Rattle.snap_cli.specs.declared.refusal.Refusal.TheVariants.{Syntax, Naming, Limit}
use Rattle.snap_cli.specs.declared.refusal.SyntaxFault.TheVariants.{BadByte, BadNumber, UnexpectedToken, TooDeep}
use Rattle.snap_cli.specs.declared.refusal.NamingFault.{NamingFault}
use Rattle.snap_cli.specs.declared.refusal.NamingFault.TheVariants.{UnknownName, DeclaredTwice, WrongKind, WrongArity, TooWide, WrongPrefix}
use Rattle.snap_cli.specs.Spots.{spot_of}

-- a broken naming rule at this place
abbrev pub naming_at : NamingFault → ℕ → NameFault
naming_at UnknownName at = name.Unknown at
naming_at DeclaredTwice at = name.Twice at
naming_at WrongKind at = name.Kind at
naming_at WrongArity at = name.Arity at
naming_at TooWide at = name.Wide at
naming_at WrongPrefix at = name.Prefix at

-- what the reading of the text's tree gives: the text spells tokens that derive a tree, and the tree's reading is this
abbrev pub ReadsAs : List ℕ → Result CoreProgram NameFault → Type 0
ReadsAs text reading = (ts : List Token) × (s : SourceTree) × SpellsTokens text ts × DerivesWithin 128 ts s × (resolved text s ≡ reading)

-- a text that isn't too long
abbrev pub IsShort : List ℕ → Type 0
IsShort text = length text ≤ 262144

-- The text has at most 262,144 bytes, and spells this program; or it doesn't for this reason, at this place.
abbrev pub ProgramOf : List ℕ → Result Program Refusal → Type 0
ProgramOf text (Ok program) = IsShort text × ReadsAs text (Ok (core_program program)) × IsBounded program
ProgramOf text (Err (Syntax BadByte spot)) = (at : ℕ) × IsShort text × IsBadByte text at × (spot ≡ spot_of text at)
ProgramOf text (Err (Syntax BadNumber spot)) = (at : ℕ) × IsShort text × IsBadNumber text at × (spot ≡ spot_of text at)
ProgramOf text (Err (Syntax UnexpectedToken spot)) = (ts : List Token) × (at : ℕ) × IsShort text
    × SpellsTokens text ts × IsUnexpected 128 (length text) ts at × (spot ≡ spot_of text at)
ProgramOf text (Err (Syntax TooDeep spot)) = (ts : List Token) × (at : ℕ)
    × IsShort text × SpellsTokens text ts × IsTooDeep 128 ts at × (spot ≡ spot_of text at)
ProgramOf text (Err (Naming fault spot)) = (at : ℕ) × IsShort text × ReadsAs text (Err (naming_at fault at)) × (spot ≡ spot_of text at)
ProgramOf text (Err (Limit which count)) = ((which ≡ Bytes) × (count ≡ 262145) × (262144 < length text))
    ⊎ (IsShort text × ReadsAs text (Err (name.Limit which count)))
ProgramOf text (Err refusal) = ⊥
