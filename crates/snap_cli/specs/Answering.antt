-- **That `trace` of what `compile` wrote answers 0.**
use Rattle.std.specs.Prelude.{◌≡◌, ◌⊎◌, ◌≤◌, ℕ, Bool, false, List, [], length, slice_get, slice_index, Ok, Some, None}
use Rattle.std.specs.declared.option.Option.{Option}
use Rattle.std.specs.List.{All, Contains}
use Rattle.snap_core.specs.declared.program.Field.{Field}
use Rattle.snap_core.specs.declared.program.Program.{Program}
use Rattle.snap_io.specs.Causes.{Rose}
use Rattle.snap_io.specs.Files.{Files, file_of}
use Rattle.snap_topology.specs.declared.topology.Topology.{Topology}
use Rattle.snap_rows.specs.declared.tables.Tables.{Tables}
use Rattle.snap_rows.specs.Network.{Happening, Net}
use Rattle.snap_report.specs.Spelled.{ended, spelled}
use Rattle.snap_runs.specs.Plain.{spelled_for}
use Rattle.snap_runs.specs.Schedules.{Obeys, lines_of}
use Rattle.snap_refinement.specs.OneSwitch.{ports_of}
use Rattle.snap_runs.specs.declared.change.Change.{Change}
use Rattle.snap_order.specs.Ordered.{Ordered, OrderedHappening}
use Rattle.snap_order.specs.Runs as turns
use Rattle.snap_words.specs.Commands.{Command, Order, changes, command_of, compile, in_order, plain, rounds, schedule, trace}
use Rattle.snap_cli.specs.Answers.{Answers}
use Rattle.snap_cli.specs.Changes.{ChangesOf}
use Rattle.snap_cli.specs.Equal.{AreDeclaredAlike}
use Rattle.snap_cli.specs.Headline.{Did}
use Rattle.snap_cli.specs.ProgramOf.{ProgramOf}
use Rattle.snap_cli.specs.TablesOf.{TablesOf}
use Rattle.snap_cli.specs.TopologyOf.{TopologyOf}
use Rattle.snap_cli.specs.Upgrades.{file_in_force}

-- ---- devices
-- no file's count of faults rose, nor that of the sink
pub record NoDeviceFailed (shelf_before shelf_now : List ℕ → ℕ) (out_before out_now : ℕ) : Type 0 where
  pub shelf : (name : List ℕ) → Rose (shelf_before name) (shelf_now name) → ⊥
  pub out : Rose out_before out_now → ⊥

-- A call for this command on these files answers 0, or 14 where memory is short, unless a device failed.
abbrev pub AnswersZero : Files → Command → Type 0
AnswersZero files command = (words : List (List ℕ)) (status : ℕ) (shelf_before shelf_now : List ℕ → ℕ)
    (out_before out_now : ℕ) (out_old out_new : Option (List ℕ)) (err_before err_now : ℕ) (err_old err_new : Option (List ℕ))
    → command_of words ≡ Some command
    → Answers words (Some files) status shelf_before shelf_now out_before out_now out_old out_new err_before err_now err_old err_new
    → NoDeviceFailed shelf_before shelf_now out_before out_now → (status ≡ 0) ⊎ (status ≡ 14)

-- ---- what was compiled
-- a call of `compile`: the files that it found, the three that it named, whether `--on-demand` was there, and the program and the
-- topology that the files spell
pub record CompileCall : Type 0 where
  pub files : Files
  pub program : List ℕ
  pub topology : List ℕ
  pub placement : List ℕ
  pub on_demand : Bool
  pub p : Program
  pub t : Topology
  pub the_program : ProgramOf (file_of files program) (Ok p)
  pub the_topology : TopologyOf (file_of files topology) (Ok t)

-- it answered 0, and wrote this, of no more bytes than a file of tables may have
pub record Wrote (c : CompileCall) (output : List ℕ) : Type 0 where
  pub did : Did c.files (compile c.program c.topology c.placement c.on_demand) output
  pub short : length output ≤ 67108864

-- ---- packets
-- All lines of a packets file are in form for these fields, and packet i, counted from 0, names one of the ports i.
pub record NamePorts (fields : List Field) (ports : ℕ → List ℕ) (packets : List ℕ) : Type 0 where
  pub form : (spelled fields packets).stop ≡ ended
  pub named : (i : ℕ) (k : List ℕ) → slice_get (spelled fields packets).packets i ≡ Some k → Contains (ports i) (slice_index k 0)

-- ---- schedules
-- the lines can be done to an end, which leaves no packet and no copy
abbrev pub LeadToEnd : Tables → (ks lines : List (List ℕ)) → Type 0
LeadToEnd t ks lines = (s : Net) × (hs : List Happening) × Obeys t ks lines [] s hs × (s.flying ≡ [])

-- the same for runs in order
abbrev pub LeadToEndInOrder : Tables → (ks lines : List (List ℕ)) → Type 0
LeadToEndInOrder t ks lines = (s : Ordered) × (us : List OrderedHappening) × turns.Obeys t ks lines [] s us × (s.net.flying ≡ [])

-- the schedule isn't too long, and its lines lead to an end in the network of the tables of a file
pub record CanBeDone (Lead : Tables → (ks lines : List (List ℕ)) → Type 0) (files : Files) (tables packets lines : List ℕ) : Type 0 where
  pub short : length (file_of files lines) ≤ 67108864
  pub lead : (t : Tables) → TablesOf (file_of files tables) (Ok t)
      → Lead t (spelled_for t (file_of files packets)).packets (lines_of (file_of files lines))

-- the schedule of a run in order, if it has one, can be done
abbrev pub TurnsCanBeDone : Files → (tables packets : List ℕ) → Option (List ℕ) → Type 0
TurnsCanBeDone files tables packets None = Unit {0}
TurnsCanBeDone files tables packets (Some lines) = CanBeDone LeadToEndInOrder files tables packets lines

-- the files of the order, if it has some, can be done with what `compile` wrote. Packets take turns in tables without `--on-demand`
-- alone. The files of changes have a law of their own
abbrev pub OrderCanBeDone : (on_demand : Bool) → Files → (tables packets : List ℕ) → Order → Type 0
OrderCanBeDone on_demand files tables packets plain = Unit {0}
OrderCanBeDone on_demand files tables packets (schedule lines) = CanBeDone LeadToEnd files tables packets lines
OrderCanBeDone on_demand files tables packets (changes lines) = ⊥
OrderCanBeDone on_demand files tables packets (in_order lines) = (on_demand ≡ false) × TurnsCanBeDone files tables packets lines
OrderCanBeDone on_demand files tables packets (rounds workers) = on_demand ≡ false

-- **A call of `compile` answered 0. Where all lines of a packets file are in form and each packet names a port of the topology,
-- `trace` of its output answers 0, in each order that can be done.**
abbrev pub TracesAnswer : Type 0
TracesAnswer = (c : CompileCall) (later : Files) (tables packets : List ℕ) → Wrote c (file_of later tables)
    → NamePorts c.p.fields (λ i. ports_of c.t) (file_of later packets)
    → (order : Order) → OrderCanBeDone c.on_demand later tables packets order
    → (hops : Bool) → AnswersZero later (trace tables packets hops order)

-- ---- changes
-- a call whose program is declared like that of the first wrote this
pub record CanFollow (first c : CompileCall) (output : List ℕ) : Type 0 where
  pub wrote : Wrote c output
  pub alike : AreDeclaredAlike c.p first.p

-- **So does `trace --changes`, where the changes file is in form, each file of tables that it names is what a call of `compile`
-- wrote for a program declared like the first, and each packet names a port of the topology that is in force for it.**
abbrev pub ChangesAnswer : Type 0
ChangesAnswer = (call : (name : List ℕ) → CompileCall) (later : Files) (tables packets lines : List ℕ) (said : List Change)
    → Wrote (call tables) (file_of later tables) → ChangesOf (file_of later lines) (Ok said)
    → All (λ (c : Change). CanFollow (call tables) (call c.name) (file_of later c.name)) said
    → NamePorts (call tables).p.fields (λ i. ports_of (call (file_in_force tables said i)).t) (file_of later packets)
    → (hops : Bool) → AnswersZero later (trace tables packets hops (changes lines))
