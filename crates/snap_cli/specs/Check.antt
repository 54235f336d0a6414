-- What `check` deserves on its file.
use Rattle.std.specs.Prelude.{◌≡◌, ◌≢◌, ◌⊎◌, ℕ, List, [], Ok, Err, None, codes}
use Rattle.std.specs.declared.option.Option.{Option}
use Rattle.std.specs.Io.KnownBytes.{Appends}
use Rattle.snap_core.specs.declared.program.Program.{Program}
use Rattle.snap_core.specs.Arrays.{Arrays}
use Rattle.snap_core.specs.Fields.{count}
use Rattle.snap_core.specs.Meaning.{eval}
use Rattle.snap_core.specs.Inputs.{IsStore, IsPacket}
use Rattle.snap_dep.specs.Ranks.{Grouping}
use Rattle.snap_diagrams.specs.declared.node.Node.{Node}
use Rattle.snap_diagrams.specs.declared.leaf.Leaf.{Leaf}
use Rattle.snap_build.specs.Whole.{IsRaceOf, IsWhole}
use Rattle.snap_io.specs.Files.{Files, file_of}
use Rattle.snap_io.specs.Sinks.{AppendsPart}
use Rattle.snap_cli.specs.declared.refusal.Refusal.{Refusal}
use Rattle.snap_cli.specs.declared.refusal.Refusal.TheVariants.{Write, NoMemory, Race}
use Rattle.snap_cli.specs.Pairs.{TellsPair}
use Rattle.snap_cli.specs.ProgramOf.{ProgramOf}
use Rattle.snap_cli.specs.Refusals.{Ending}

-- evaluation is undefined on no store and packet
abbrev pub NeverRaces : Program → Type 0
NeverRaces p = (m : Arrays) (k : List ℕ) → IsStore m → IsPacket (count p.fields) k → eval p.body m k ≢ None

-- evaluation is undefined on some store and packet of the program
abbrev pub Races : Program → Type 0
Races p = (m : Arrays) × (k : List ℕ) × IsRaceOf p m k

-- the text tells such a store and packet
abbrev pub TellsRace : Program → (text : List ℕ) → Type 0
TellsRace p text = (m : Arrays) × (k : List ℕ) × IsRaceOf p m k × TellsPair (codes "snapc: race\n") p m k text

-- nodes with the diagram of a program, which never races
abbrev pub HasWhole : Program → List (Node Leaf) → ℕ → Type 0
HasWhole p ns root = (groups : Grouping) × IsWhole p groups ns root

-- a refusal that tells a race, or memory was short
abbrev pub IsRaceTold : Program → Refusal → Type 0
IsRaceTold p (Race text) = TellsRace p text.items
IsRaceTold p refusal = refusal ≡ NoMemory

-- how a program that was read ends
abbrev pub EndsJudged : Program → Ending → Type 0
EndsJudged p (Ok u) = NeverRaces p
EndsJudged p (Err (Race text)) = TellsRace p text.items
EndsJudged p ending = ⊥

-- the same, or memory was short
abbrev pub Judges : Program → Ending → Type 0
Judges p (Err NoMemory) = Unit {0}
Judges p ending = EndsJudged p ending

-- how the command ends where no device fails and memory is there
abbrev pub EndsCheck : Files → (program : List ℕ) → Ending → Type 0
EndsCheck files program ending =
    ((refusal : Refusal) × ProgramOf (file_of files program) (Err refusal) × (ending ≡ Err refusal))
    ⊎ ((p : Program) × ProgramOf (file_of files program) (Ok p) × EndsJudged p ending)

-- `ok` where the program never races, and nothing where it does
abbrev pub IsJudgedText : Program → List ℕ → Type 0
IsJudgedText p text = (NeverRaces p × (text ≡ codes "ok\n")) ⊎ (Races p × (text ≡ []))

-- the text that has gone out then: nothing where the program isn't read
abbrev pub IsCheckText : Files → (program : List ℕ) → List ℕ → Type 0
IsCheckText files program text =
    ((refusal : Refusal) × ProgramOf (file_of files program) (Err refusal) × (text ≡ []))
    ⊎ ((p : Program) × ProgramOf (file_of files program) (Ok p) × IsJudgedText p text)

-- What was done for a program that was read: it never races and `ok` went out, or some first bytes of it where the sink
-- failed; or it races as is told, or memory was short, and nothing went out.
abbrev pub MeetsCheck : Program → Ending → Option (List ℕ) → Option (List ℕ) → Type 0
MeetsCheck p (Ok u) old new = NeverRaces p × Appends old new (codes "ok\n")
MeetsCheck p (Err Write) old new = NeverRaces p × AppendsPart old new (codes "ok\n")
MeetsCheck p (Err (Race text)) old new = TellsRace p text.items × Appends old new []
MeetsCheck p (Err NoMemory) old new = Appends old new []
MeetsCheck p ending old new = ⊥
