-- **What is compiled, each time for a program of its own, and then traced with changes of tables is what one big switch does whose
-- program changes.**
use Rattle.std.specs.Prelude.{◌≡◌, ℕ, Bool, false, nat_le, if◌then◌else◌, List, [], ◌∷◌, Ok}
use Rattle.std.specs.List.{All}
use Rattle.snap_core.specs.declared.program.Program.{Program}
use Rattle.snap_io.specs.Files.{Files, file_of}
use Rattle.snap_rows.specs.declared.tables.Tables.{Tables}
use Rattle.snap_rows.specs.Entries.{port_numbers}
use Rattle.snap_report.specs.Spelled.{ended, spelled}
use Rattle.snap_runs.specs.declared.change.Change.{Change}
use Rattle.snap_runs.specs.declared.later.Later.{Later}
use Rattle.snap_runs.specs.Changing.{ChangedRun, IsTurnsReport, in_force}
use Rattle.snap_refinement.specs.ChangeLaws.{AreTurnsShort}
use Rattle.snap_refinement.specs.ChangingSwitch.{IsChangingReport, IsSwitchReportUnder}
use Rattle.snap_words.specs.Commands.{changes, compile, trace}
use Rattle.snap_cli.specs.Changes.{ChangedTables, ChangesOf}
use Rattle.snap_cli.specs.Headline.{Did, TellsRun}
use Rattle.snap_cli.specs.ProgramOf.{ProgramOf}
use Rattle.snap_cli.specs.TablesOf.{TablesOf}

-- A call of `compile`, whose program file holds this source, answered 0 and wrote this, with `--on-demand` or without.
pub record IsOutputFor (source output : List ℕ) : Type 0 where
  pub files : Files
  pub program : List ℕ
  pub topology : List ℕ
  pub placement : List ℕ
  pub on_demand : Bool
  pub holds : file_of files program ≡ source
  pub did : Did files (compile program topology placement on_demand) output

-- the name of the file whose tables are in force for packet i, counted from 0
abbrev pub file_in_force : (name : List ℕ) → List Change → ℕ → List ℕ
file_in_force name [] i = name
file_in_force name (c ∷ cs) i = if nat_le c.after i then file_in_force c.name cs i else name

-- Each file of tables that a changes file names is what a call of `compile` wrote for the source of its name.
abbrev pub AreOutputsOf : (source : List ℕ → List ℕ) → Files → (lines : List ℕ) → Type 0
AreOutputsOf source later lines = (changes : List Change) → ChangesOf (file_of later lines) (Ok changes)
    → All (λ (c : Change). IsOutputFor (source c.name) (file_of later c.name)) changes

-- What the files spell: the changes, the tables and those of the changes, and for each packet a program, that of the source of
-- the file in force; and all lines of the packets file are in form.
pub record AreGivenUnder (source : List ℕ → List ℕ) (later : Files) (tables lines packets : List ℕ) : Type 0 where
  pub said : List Change
  pub the_said : ChangesOf (file_of later lines) (Ok said)
  pub first : Tables
  pub the_first : TablesOf (file_of later tables) (Ok first)
  pub others : List Later
  pub the_others : ChangedTables later first lines (Ok others)
  pub programs : ℕ → Program
  pub the_programs : (i : ℕ) → ProgramOf (source (file_in_force tables said i)) (Ok (programs i))
  pub whole : (spelled (programs 0).fields (file_of later packets)).stop ≡ ended

-- The text tells a run of these packets with these changes; and one big switch whose program changes does the same, each packet at
-- the ports of the tables that are in force then. No copy makes more than (groups + 1) times the greatest distance hops, or where the
-- tables in force are of version 1 (2 groups + 1) times, by the groups of the program and the topology that are in force.
abbrev pub TellsChangingSwitch : (source : List ℕ → List ℕ) → Files
    → (tables lines packets : List ℕ) → (hops : Bool) → (text : List ℕ) → Type 0
TellsChangingSwitch source later tables lines packets hops text =
    (g : AreGivenUnder source later tables lines packets)
    × TellsRun (ChangedRun g.first g.others (spelled (g.programs 0).fields (file_of later packets)).packets)
    (λ r. IsTurnsReport r.end r.state r.turns)
    (λ r. IsChangingReport g.programs (λ i. port_numbers (in_force g.first g.others i))
    (spelled (g.programs 0).fields (file_of later packets)).packets)
    (λ r. AreTurnsShort g.programs 0 r.turns) hops text

-- **The first file of tables and those that the changes name are what calls of `compile` wrote, each for a source, a topology and
-- a placement of its own, and a call of `trace --changes` answered 0, with hops or without. Then what it wrote is what one big switch
-- does whose program changes.** That the programs have the same fields and arrays is no premise: else the call would have answered 20.
abbrev pub UpgradesTraceAsOneSwitch : Type 0
UpgradesTraceAsOneSwitch = (source : List ℕ → List ℕ) (later : Files) (tables packets lines : List ℕ) (hops : Bool) (report : List ℕ)
    → IsOutputFor (source tables) (file_of later tables) → AreOutputsOf source later lines
    → Did later (trace tables packets hops (changes lines)) report
    → TellsChangingSwitch source later tables lines packets hops report

-- ---- one program
-- so did one for each file of tables that a changes file names
abbrev pub AreOutputsFor : (source : List ℕ) → Files → (lines : List ℕ) → Type 0
AreOutputsFor source = AreOutputsOf (λ name. source)

-- The files spell tables and those of the changes, and all lines of the packets file are in form. The text is what one big
-- switch does with all these packets, for the source's program, each at the ports of the tables that are in force then.
pub record TellsOneSwitchUnder (source : List ℕ) (later : Files) (tables lines packets : List ℕ) (text : List ℕ) : Type 0 where
  pub p : Program
  pub the_program : ProgramOf source (Ok p)
  pub first : Tables
  pub the_first : TablesOf (file_of later tables) (Ok first)
  pub others : List Later
  pub the_others : ChangedTables later first lines (Ok others)
  pub whole : (spelled p.fields (file_of later packets)).stop ≡ ended
  pub report : IsSwitchReportUnder p (λ i. port_numbers (in_force first others i)) (spelled p.fields (file_of later packets)).packets text

-- **The first file of tables and those that the changes name are what calls of `compile` wrote for one and the same source, each
-- for its own topology and placement, and a call of `trace --changes` answered 0. Then what it wrote is what one big switch does.**
abbrev pub ChangesTraceAsOneSwitch : Type 0
ChangesTraceAsOneSwitch = (source : List ℕ) (later : Files) (tables packets lines : List ℕ) (report : List ℕ)
    → IsOutputFor source (file_of later tables) → AreOutputsFor source later lines
    → Did later (trace tables packets false (changes lines)) report
    → TellsOneSwitchUnder source later tables lines packets report
