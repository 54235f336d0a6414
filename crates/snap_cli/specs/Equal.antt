-- What `equal` deserves on its files.
use Rattle.std.specs.Prelude.{◌≡◌, ◌⊎◌, ℕ, List, [], Ok, Err, codes}
use Rattle.std.specs.declared.option.Option.{Option}
use Rattle.std.specs.Io.KnownBytes.{Appends}
use Rattle.snap_core.specs.declared.program.Program.{Program}
use Rattle.snap_core.specs.Arrays.{Arrays}
use Rattle.snap_equal.specs.Same.{MeanSame, TellApart}
use Rattle.snap_io.specs.Files.{Files, file_of}
use Rattle.snap_io.specs.Sinks.{AppendsPart}
use Rattle.snap_cli.specs.declared.refusal.Refusal.{Refusal}
use Rattle.snap_cli.specs.declared.refusal.Refusal.TheVariants.{Write, NoMemory, Race, Declarations, Differ}
use Rattle.snap_cli.specs.Check.{NeverRaces, TellsRace}
use Rattle.snap_cli.specs.Pairs.{TellsPair}
use Rattle.snap_cli.specs.ProgramOf.{ProgramOf}
use Rattle.snap_cli.specs.Refusals.{Ending}

-- equal lists of fields, and of names of arrays
pub record AreDeclaredAlike (p q : Program) : Type 0 where
  pub fields : p.fields ≡ q.fields
  pub arrays : p.arrays ≡ q.arrays

-- declared alike, and neither races
pub record AreComparable (p q : Program) : Type 0 where
  pub declared : AreDeclaredAlike p q
  pub left : NeverRaces p
  pub right : NeverRaces q

-- on some store and packet they don't mean the same
abbrev pub Differs : Program → Program → Type 0
Differs p q = (m : Arrays) × (k : List ℕ) × TellApart p q m k

-- the text tells such a store and packet
abbrev pub TellsDifference : Program → Program → (text : List ℕ) → Type 0
TellsDifference p q text = (m : Arrays) × (k : List ℕ) × TellApart p q m k × TellsPair (codes "snapc: differ\n") p m k text

-- the text tells a race of the first, or one of the second where the first never races
abbrev pub TellsOneRace : Program → Program → (text : List ℕ) → Type 0
TellsOneRace p q text = TellsRace p text ⊎ (NeverRaces p × TellsRace q text)

-- how two programs that were read end
abbrev pub EndsCompared : Program → Program → Ending → Type 0
EndsCompared p q (Ok u) = AreComparable p q × MeanSame p q
EndsCompared p q (Err Declarations) = AreDeclaredAlike p q → ⊥
EndsCompared p q (Err (Race text)) = AreDeclaredAlike p q × TellsOneRace p q text.items
EndsCompared p q (Err (Differ text)) = AreComparable p q × TellsDifference p q text.items
EndsCompared p q ending = ⊥

-- the same, or memory was short
abbrev pub Compares : Program → Program → Ending → Type 0
Compares p q (Err NoMemory) = Unit {0}
Compares p q ending = EndsCompared p q ending

-- a refusal that tells a difference, or memory was short
abbrev pub IsDifferenceTold : Program → Program → Refusal → Type 0
IsDifferenceTold p q (Differ text) = TellsDifference p q text.items
IsDifferenceTold p q refusal = refusal ≡ NoMemory

-- neither program is refused, or the first that is: what is so then
abbrev pub IsFirstRefusal : Files → (left right : List ℕ) → Refusal → Type 0
IsFirstRefusal files left right refusal =
    ProgramOf (file_of files left) (Err refusal)
    ⊎ ((p : Program) × ProgramOf (file_of files left) (Ok p) × ProgramOf (file_of files right) (Err refusal))

-- how the command ends where no device fails and memory is there
abbrev pub EndsEqual : Files → (left right : List ℕ) → Ending → Type 0
EndsEqual files left right ending =
    ((refusal : Refusal) × IsFirstRefusal files left right refusal × (ending ≡ Err refusal))
    ⊎ ((p q : Program) × ProgramOf (file_of files left) (Ok p) × ProgramOf (file_of files right) (Ok q) × EndsCompared p q ending)

-- `equal` where two programs are declared alike, never race and mean the same, else nothing
abbrev pub IsComparedText : Program → Program → List ℕ → Type 0
IsComparedText p q text = (AreComparable p q × MeanSame p q × (text ≡ codes "equal\n"))
    ⊎ ((AreComparable p q → MeanSame p q → ⊥) × (text ≡ []))

-- the text that has gone out then: nothing where a program isn't read
abbrev pub IsEqualText : Files → (left right : List ℕ) → List ℕ → Type 0
IsEqualText files left right text =
    ((refusal : Refusal) × IsFirstRefusal files left right refusal × (text ≡ []))
    ⊎ ((p q : Program) × ProgramOf (file_of files left) (Ok p) × ProgramOf (file_of files right) (Ok q) × IsComparedText p q text)

-- nothing has gone out where the file with this name can't be read: the first, or the second where the first spells a program
abbrev pub MayPrecedeReadEqual : Files → (left right name : List ℕ) → List ℕ → Type 0
MayPrecedeReadEqual files left right name text =
    ((name ≡ left) × (text ≡ [])) ⊎ ((name ≡ right) × ((p : Program) × ProgramOf (file_of files left) (Ok p)) × (text ≡ []))

-- What was done for two programs that were read: `equal` went out where they are comparable and mean the same, or some
-- first bytes of it where the sink failed; or nothing went out, for a reason that is told.
abbrev pub MeetsEqual : Program → Program → Ending → Option (List ℕ) → Option (List ℕ) → Type 0
MeetsEqual p q (Ok u) old new = AreComparable p q × MeanSame p q × Appends old new (codes "equal\n")
MeetsEqual p q (Err Write) old new = AreComparable p q × MeanSame p q × AppendsPart old new (codes "equal\n")
MeetsEqual p q (Err NoMemory) old new = Appends old new []
MeetsEqual p q ending old new = EndsCompared p q ending × Appends old new []
