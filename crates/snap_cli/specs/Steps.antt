-- What a step of a command gives.
use Rattle.std.specs.Prelude.{◌≡◌, ℕ, List, Result, Err}
use Rattle.snap_core.specs.declared.program.Program.{Program}
use Rattle.snap_lex.specs.declared.LexFault.{LexFault}
use Rattle.snap_lex.specs.declared.LexFault.TheVariants as lex
use Rattle.snap_parse.specs.declared.fault.ParseFault.{ParseFault}
use Rattle.snap_parse.specs.declared.fault.ParseFault.TheVariants as tree
use Rattle.snap_names.specs.declared.fault.NameFault.{NameFault}
use Rattle.snap_names.specs.declared.fault.NameFault.TheVariants as name
use Rattle.snap_cli.specs.declared.refusal.SyntaxFault.TheVariants.{BadByte, BadNumber, UnexpectedToken, TooDeep}
use Rattle.snap_cli.specs.declared.refusal.NamingFault.TheVariants.{UnknownName, DeclaredTwice, WrongKind, WrongArity, TooWide, WrongPrefix}
use Rattle.std.specs.Borrow.{Bor}
use Rattle.snap_report.specs.declared.fault.TraceFault.{TraceFault}
use Rattle.snap_report.specs.declared.fault.TraceFault.TheVariants as run
use Rattle.snap_cli.specs.Spots.{spot_of}
use Rattle.snap_cli.specs.declared.refusal.Refusal.{Refusal}
use Rattle.snap_cli.specs.declared.refusal.Refusal.TheVariants.{Read, ReadChange, Write, Syntax, Naming, Limit, Packets, NoMemory, Undefined}
use Rattle.snap_cli.specs.ProgramOf.{ProgramOf}

-- the program that a text spells, or why it spells none, or memory was short
abbrev pub SpellsProgram : List ℕ → Result Program Refusal → Type 0
SpellsProgram text (Err NoMemory) = Unit {0}
SpellsProgram text result = ProgramOf text result

-- the same of the file with this name, or it can't be read
abbrev pub GivesProgram : (name file : List ℕ) → Result Program Refusal → Type 0
GivesProgram name file (Err (Read failed)) = failed.now ≡ name
GivesProgram name file (Err (ReadChange failed)) = failed ≡ name
GivesProgram name file result = SpellsProgram file result

-- the refusal of a text that spells no tokens
abbrev pub refusal_of_tokens : List ℕ → LexFault → Refusal
refusal_of_tokens text (lex.BadByte at) = Syntax BadByte (spot_of text at)
refusal_of_tokens text (lex.BadNumber at) = Syntax BadNumber (spot_of text at)
refusal_of_tokens text lex.NoMemory = NoMemory

-- the refusal of a text whose tokens derive no tree
abbrev pub refusal_of_tree : List ℕ → ParseFault → Refusal
refusal_of_tree text (tree.Unexpected at) = Syntax UnexpectedToken (spot_of text at)
refusal_of_tree text (tree.TooDeep at) = Syntax TooDeep (spot_of text at)
refusal_of_tree text tree.NoMemory = NoMemory

-- the refusal of a text whose tree breaks a naming rule or passes a limit
abbrev pub refusal_of_names : List ℕ → NameFault → Refusal
refusal_of_names text (name.Unknown at) = Naming UnknownName (spot_of text at)
refusal_of_names text (name.Twice at) = Naming DeclaredTwice (spot_of text at)
refusal_of_names text (name.Kind at) = Naming WrongKind (spot_of text at)
refusal_of_names text (name.Arity at) = Naming WrongArity (spot_of text at)
refusal_of_names text (name.Wide at) = Naming TooWide (spot_of text at)
refusal_of_names text (name.Prefix at) = Naming WrongPrefix (spot_of text at)
refusal_of_names text (name.Limit which count) = Limit which count
refusal_of_names text name.NoMemory = NoMemory

-- the refusal of a run over the packets file with this name
abbrev pub refusal_of_run : Bor (List ℕ) → TraceFault → Refusal
refusal_of_run packets run.Read = Read packets
refusal_of_run packets run.Write = Write
refusal_of_run packets (run.Limit which count) = Limit which count
refusal_of_run packets (run.Packets line) = Packets line
refusal_of_run packets (run.Undefined packet) = Undefined packet
refusal_of_run packets run.NoMemory = NoMemory
