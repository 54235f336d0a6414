-- What words and files deserve is one.
use Rattle.std.specs.Prelude.{◌≡◌, ◌⊎◌, ◌↔◌, ◌≤◌, ℕ, Bool, List, [], length, Result, Ok, Err, Some}
use Rattle.std.specs.declared.option.Option.{Option}
use Rattle.std.specs.Io.KnownBytes.{Appends}
use Rattle.snap_core.specs.declared.program.Program.{Program}
use Rattle.snap_io.specs.Files.{Files, file_of}
use Rattle.snap_topology.specs.declared.topology.Topology.{Topology}
use Rattle.snap_topology.specs.Spells.{SpellsTopology}
use Rattle.snap_topology.specs.Tables.{Table}
use Rattle.snap_names.specs.Declarations.{core_program}
use Rattle.snap_names.specs.Spells.{SpellsProgram}
use Rattle.snap_equal.specs.Same.{MeanSame}
use Rattle.snap_rows.specs.declared.tables.Tables.{Tables}
use Rattle.snap_report.specs.declared.fault.TraceFault.{TraceFault}
use Rattle.snap_report.specs.Spelled.{Spelled, ended, refused}
use Rattle.snap_runs.specs.Plain.{ArePlainBlocks, IsPlainReport, spelled_for}
use Rattle.snap_words.specs.Commands.{Command, changes, check, command_of, compile, equal, in_order, plain, rounds, schedule, trace, demo}
use Rattle.snap_demo.specs.Summary.{IsSummary}
use Rattle.snap_cli.specs.declared.refusal.Refusal.{Refusal}
use Rattle.snap_cli.specs.declared.refusal.Refusal.TheVariants.{Race, Differ}
use Rattle.snap_cli.specs.Answers.{Answers}
use Rattle.snap_cli.specs.Changes.{ChangesTo}
use Rattle.snap_cli.specs.Check.{NeverRaces, Races}
use Rattle.snap_cli.specs.Compile.{AreSpelled, IsCompiled}
use Rattle.snap_cli.specs.Deserved.{Ends, IsText, WritesMessage}
use Rattle.snap_cli.specs.Equal.{AreComparable, Differs}
use Rattle.snap_cli.specs.InOrder.{RunsInOrderTo}
use Rattle.snap_cli.specs.Obs.{IsRunEnding}
use Rattle.snap_cli.specs.Place.{IsPlaced, IsPlacementOf}
use Rattle.snap_cli.specs.ProgramOf.{ProgramOf}
use Rattle.snap_cli.specs.Refusals.{Ending, status_of, message_of}
use Rattle.snap_cli.specs.Rounds.{RunsByRoundsTo}
use Rattle.snap_cli.specs.Schedule.{SchedulesTo}
use Rattle.snap_cli.specs.TablesOf.{TablesOf}
use Rattle.snap_cli.specs.TopologyOf.{TopologyOf}

-- one program, wherever its parts lie in memory, or one refusal
abbrev pub IsSame : Result Program Refusal → Result Program Refusal → Type 0
IsSame (Ok p) (Ok q) = core_program p ≡ core_program q
IsSame (Err e) (Err f) = e ≡ f
IsSame a b = ⊥

-- A text spells one program at most, or is refused for one reason at one place, and not both.
abbrev pub SpellsOneProgram : Type 0
SpellsOneProgram = (text : List ℕ) (a b : Result Program Refusal) → ProgramOf text a → ProgramOf text b → IsSame a b

-- A text is read as a program, and as a topology, exactly where it spells them.
pub record SourcesAreSpelled : Type 0 where
  pub program : (text : List ℕ) (p : Program) → ProgramOf text (Ok p) ↔ SpellsProgram text p
  pub topology : (text : List ℕ) (t : Topology) → TopologyOf text (Ok t) ↔ SpellsTopology text t

-- both endings tell a race, or both tell a difference
abbrev pub TellAlike : Ending → Ending → Type 0
TellAlike (Err (Race text)) (Err (Race other)) = Unit {0}
TellAlike (Err (Differ text)) (Err (Differ other)) = Unit {0}
TellAlike a b = ⊥

-- One ending. A race or a difference may be told by different stores and packets.
abbrev pub IsSameEnding : Ending → Ending → Type 0
IsSameEnding a b = (a ≡ b) ⊎ TellAlike a b

-- A command deserves one ending at most, but that each store and packet on which a program races or two differ may be told,
abbrev pub DeservesOneEnding : Type 0
DeservesOneEnding = (files : Files) (command : Command) (a b : Ending) → Ends files command a → Ends files command b → IsSameEnding a b

-- both are texts of tables of one version that are faithful to what the files of `compile` spell
abbrev pub AreBothCompiled : Files → Command → List ℕ → List ℕ → Type 0
AreBothCompiled files (compile program topology placement on_demand) a b = IsCompiled files program topology placement on_demand a
    × IsCompiled files program topology placement on_demand b
AreBothCompiled files command a b = ⊥

-- One text. Of `compile` it is that of any tables that are faithful: not these are determined, but what networks do with them.
abbrev pub IsSameText : Files → Command → List ℕ → List ℕ → Type 0
IsSameText files command a b = (a ≡ b) ⊎ AreBothCompiled files command a b

-- and one text, but that each faithful tables may be written.
abbrev pub DeservesOneText : Type 0
DeservesOneText = (files : Files) (command : Command) (a b : List ℕ)
    → IsText files command a → IsText files command b → IsSameText files command a b

-- the command deserves this ending and this text, and no others, but for a race or a difference that another store and packet
-- tell, and for other tables that are faithful
pub record IsDue (files : Files) (command : Command) (ending : Ending) (text : List ℕ) : Type 0 where
  pub ends : Ends files command ending
  pub no_other_ending : (e : Ending) → Ends files command e → IsSameEnding e ending
  pub has_text : IsText files command text
  pub no_other_text : (t : List ℕ) → IsText files command t → IsSameText files command t text

-- a call's status and message are those of the ending, and the whole text went out
pub record IsExact (ending : Ending) (text : List ℕ) (status : ℕ) (out_old out_new : Option (List ℕ))
    (err_before err_now : ℕ) (err_old err_new : Option (List ℕ)) : Type 0 where
  pub status_is : status ≡ status_of ending
  pub out : Appends out_old out_new text
  pub err : WritesMessage err_before err_now err_old err_new (message_of ending)

-- the status of a device that failed, or of want of memory
abbrev pub IsFailure : (status : ℕ) → Type 0
IsFailure status = (status ≡ 2) ⊎ ((status ≡ 3) ⊎ (status ≡ 14))

-- Where no device failed and memory was there, a call answers what is due.
abbrev pub AnswersExactly : Type 0
AnswersExactly = (words : List (List ℕ)) (files : Files) (command : Command) (status : ℕ) (shelf_before shelf_now : List ℕ → ℕ)
    (out_before out_now : ℕ) (out_old out_new : Option (List ℕ)) (err_before err_now : ℕ) (err_old err_new : Option (List ℕ))
    → command_of words ≡ Some command
    → Answers words (Some files) status shelf_before shelf_now out_before out_now out_old out_new err_before err_now err_old err_new
    → IsFailure status ⊎ ((ending : Ending) × (text : List ℕ) × IsDue files command ending text
    × IsExact ending text status out_old out_new err_before err_now err_old err_new)

-- Where no device failed and memory was there, `check` of a program answers 0 just where its evaluation is undefined on no
-- store and packet, and 10 just where it is on some.
abbrev pub ChecksExactly : Type 0
ChecksExactly = (words : List (List ℕ)) (files : Files) (program : List ℕ) (p : Program) (status : ℕ) (shelf_before shelf_now : List ℕ → ℕ)
    (out_before out_now : ℕ) (out_old out_new : Option (List ℕ)) (err_before err_now : ℕ) (err_old err_new : Option (List ℕ))
    → command_of words ≡ Some (check program) → ProgramOf (file_of files program) (Ok p)
    → Answers words (Some files) status shelf_before shelf_now out_before out_now out_old out_new err_before err_now err_old err_new
    → IsFailure status ⊎ (((status ≡ 0) × NeverRaces p) ⊎ ((status ≡ 10) × Races p))

-- Where no device failed and memory was there, `equal` of two programs with equal declarations that never race answers 0
-- just where they mean the same, and 18 just where they don't on some store and packet.
abbrev pub EqualsExactly : Type 0
EqualsExactly = (words : List (List ℕ)) (files : Files) (left right : List ℕ)
    (p q : Program) (status : ℕ) (shelf_before shelf_now : List ℕ → ℕ)
    (out_before out_now : ℕ) (out_old out_new : Option (List ℕ)) (err_before err_now : ℕ) (err_old err_new : Option (List ℕ))
    → command_of words ≡ Some (equal left right) → ProgramOf (file_of files left) (Ok p)
    → ProgramOf (file_of files right) (Ok q) → AreComparable p q
    → Answers words (Some files) status shelf_before shelf_now out_before out_now out_old out_new err_before err_now err_old err_new
    → IsFailure status ⊎ (((status ≡ 0) × MeanSame p q) ⊎ ((status ≡ 18) × Differs p q))

-- **Where no device failed and memory was there, `compile` of a program, a topology with routes and a placement answers 0 just
-- where the program never races, and has then written the text of tables that are faithful to them, of version 2 or with
-- `--on-demand` of version 1; and 10 just where it races, and nothing has gone out.**
abbrev pub CompilesExactly : Type 0
CompilesExactly = (words : List (List ℕ)) (files : Files) (program topology placement : List ℕ) (on_demand : Bool)
    (p : Program) (t : Topology) (places : List ℕ) (status : ℕ) (shelf_before shelf_now : List ℕ → ℕ)
    (out_before out_now : ℕ) (out_old out_new : Option (List ℕ)) (err_before err_now : ℕ) (err_old err_new : Option (List ℕ))
    → command_of words ≡ Some (compile program topology placement on_demand) → AreSpelled files program topology placement p t places
    → Answers words (Some files) status shelf_before shelf_now out_before out_now out_old out_new err_before err_now err_old err_new
    → IsFailure status
    ⊎ (((status ≡ 0) × (Races p → ⊥)
    × ((text : List ℕ) × IsCompiled files program topology placement on_demand text × Appends out_old out_new text))
    ⊎ ((status ≡ 10) × Races p × Appends out_old out_new []))

-- a packets file was read to its end, and the report of the plain run of its packets went out; or reading stopped at what is
-- refused so, and the blocks of the packets before it did
abbrev pub TracesAs : Tables → (hops : Bool) → Spelled → (status : ℕ) → Option (List ℕ) → Option (List ℕ) → Type 0
TracesAs t hops read status old new =
    ((status ≡ 0) × (read.stop ≡ ended) × ((text : List ℕ) × IsPlainReport t hops read.packets text × Appends old new text))
    ⊎ ((fault : TraceFault) × (ending : Ending) × (read.stop ≡ refused fault) × IsRunEnding (Err fault) ending × (status ≡ status_of ending)
    × ((text : List ℕ) × ArePlainBlocks t hops read.packets text × Appends old new text))

-- **Where no device failed and memory was there, `trace` of tables that a file spells answers 0 just where all lines of the
-- packets file are in form, and has then written the report of the plain run of its packets.**
abbrev pub TracesExactly : Type 0
TracesExactly = (words : List (List ℕ)) (files : Files) (tables packets : List ℕ)
    (hops : Bool) (t : Tables) (status : ℕ) (shelf_before shelf_now : List ℕ → ℕ)
    (out_before out_now : ℕ) (out_old out_new : Option (List ℕ)) (err_before err_now : ℕ) (err_old err_new : Option (List ℕ))
    → command_of words ≡ Some (trace tables packets hops plain) → TablesOf (file_of files tables) (Ok t)
    → Answers words (Some files) status shelf_before shelf_now out_before out_now out_old out_new err_before err_now err_old err_new
    → IsFailure status ⊎ TracesAs t hops (spelled_for t (file_of files packets)) status out_old out_new

-- **Where no device failed and memory was there, `trace` of tables that a file spells, in the order of a schedule, answers 0 just
-- where all lines of the packets file are in form and all lines of the schedule can be done to an end, and has then written the
-- report of exactly their events. It answers 13 just where a line of the schedule is the first that can't, and nothing has gone out.**
abbrev pub SchedulesExactly : Type 0
SchedulesExactly = (words : List (List ℕ)) (files : Files) (tables packets lines : List ℕ)
    (hops : Bool) (t : Tables) (status : ℕ) (shelf_before shelf_now : List ℕ → ℕ)
    (out_before out_now : ℕ) (out_old out_new : Option (List ℕ)) (err_before err_now : ℕ) (err_old err_new : Option (List ℕ))
    → command_of words ≡ Some (trace tables packets hops (schedule lines)) → TablesOf (file_of files tables) (Ok t)
    → Answers words (Some files) status shelf_before shelf_now out_before out_now out_old out_new err_before err_now err_old err_new
    → IsFailure status
    ⊎ ((ending : Ending) × (text : List ℕ) × SchedulesTo t hops (file_of files packets) (file_of files lines) ending text
    × IsExact ending text status out_old out_new err_before err_now err_old err_new)

-- **Where no device failed and memory was there, `trace` of tables that a file spells, with the changes of a file, answers 0 just
-- where the changes are in form, each names valid tables of the shape of the first, and all lines of the packets file are in form,
-- and has then written the report of the run with these changes. Where the changes or their tables are refused nothing has gone
-- out; at a line of packets that isn't in form the blocks of the packets before it have.**
abbrev pub ChangesExactly : Type 0
ChangesExactly = (words : List (List ℕ)) (files : Files) (tables packets lines : List ℕ)
    (hops : Bool) (t : Tables) (status : ℕ) (shelf_before shelf_now : List ℕ → ℕ)
    (out_before out_now : ℕ) (out_old out_new : Option (List ℕ)) (err_before err_now : ℕ) (err_old err_new : Option (List ℕ))
    → command_of words ≡ Some (trace tables packets hops (changes lines)) → TablesOf (file_of files tables) (Ok t)
    → Answers words (Some files) status shelf_before shelf_now out_before out_now out_old out_new err_before err_now err_old err_new
    → IsFailure status
    ⊎ ((ending : Ending) × (text : List ℕ) × ChangesTo files t packets hops lines ending text
    × IsExact ending text status out_old out_new err_before err_now err_old err_new)

-- **Where no device failed and memory was there, `trace --ordered` of tables that a file spells answers 16 just where they are of
-- version 1, and nothing has gone out; and else 0 just where all lines of the packets file are in form and all lines of the schedule,
-- if there is one, can be done to an end, and has then written the report of that run in order.**
abbrev pub TurnsExactly : Type 0
TurnsExactly = (words : List (List ℕ)) (files : Files) (tables packets : List ℕ)
    (lines : Option (List ℕ)) (hops : Bool) (t : Tables) (status : ℕ) (shelf_before shelf_now : List ℕ → ℕ)
    (out_before out_now : ℕ) (out_old out_new : Option (List ℕ)) (err_before err_now : ℕ) (err_old err_new : Option (List ℕ))
    → command_of words ≡ Some (trace tables packets hops (in_order lines)) → TablesOf (file_of files tables) (Ok t)
    → Answers words (Some files) status shelf_before shelf_now out_before out_now out_old out_new err_before err_now err_old err_new
    → IsFailure status
    ⊎ ((ending : Ending) × (text : List ℕ) × RunsInOrderTo files t packets hops lines ending text
    × IsExact ending text status out_old out_new err_before err_now err_old err_new)

-- **Where no device failed and memory was there, `trace --ordered --workers` of tables that a file spells answers 16 just where they
-- are of version 1, and else 0 just where all lines of the packets file are in form, and has then written the report of the run by
-- rounds. Where it answers something else nothing has gone out. So it is for every number of workers.**
abbrev pub RoundsExactly : Type 0
RoundsExactly = (words : List (List ℕ)) (files : Files) (tables packets : List ℕ)
    (workers : ℕ) (hops : Bool) (t : Tables) (status : ℕ) (shelf_before shelf_now : List ℕ → ℕ)
    (out_before out_now : ℕ) (out_old out_new : Option (List ℕ)) (err_before err_now : ℕ) (err_old err_new : Option (List ℕ))
    → command_of words ≡ Some (trace tables packets hops (rounds workers)) → TablesOf (file_of files tables) (Ok t)
    → Answers words (Some files) status shelf_before shelf_now out_before out_now out_old out_new err_before err_now err_old err_new
    → IsFailure status
    ⊎ ((ending : Ending) × (text : List ℕ) × RunsByRoundsTo files t packets hops ending text
    × IsExact ending text status out_old out_new err_before err_now err_old err_new)

-- **Where no device failed and memory was there, `demo` answers 0, and has written the summary: the counts of one big switch
-- over the stated program and packets.**
abbrev pub DemosExactly : Type 0
DemosExactly = (words : List (List ℕ)) (files : Files) (switches : ℕ) (status : ℕ) (shelf_before shelf_now : List ℕ → ℕ)
    (out_before out_now : ℕ) (out_old out_new : Option (List ℕ)) (err_before err_now : ℕ) (err_old err_new : Option (List ℕ))
    → command_of words ≡ Some (demo switches)
    → Answers words (Some files) status shelf_before shelf_now out_before out_now out_old out_new err_before err_now err_old err_new
    → IsFailure status ⊎ ((status ≡ 0) × ((text : List ℕ) × IsSummary switches text × Appends out_old out_new text))

-- **Where what `place` writes stands in a file beside the same program and topology, `compile` reads it as the placement that it
-- is: least in cost. A text of more than 1,048,576 bytes is too long for that, whatever it spells.**
abbrev pub PlacementsAreSpelled : Type 0
PlacementsAreSpelled = (files later : Files) (program topology demand placement text : List ℕ)
    → IsPlaced files program topology demand text → length text ≤ 1048576
    → file_of later program ≡ file_of files program → file_of later topology ≡ file_of files topology → file_of later placement ≡ text
    → (p : Program) × (t : Topology) × (table : Table) × (made : IsPlacementOf p t table (file_of files demand) text)
    × AreSpelled later program topology placement p t made.best.owners
