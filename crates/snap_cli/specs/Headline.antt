-- **What is compiled and then traced is what one big switch does.**
use Rattle.std.specs.Prelude.{◌≡◌, ◌⊎◌, ℕ, Bool, true, false, List, [], ◌∷◌, length, codes, Ok, Some, None, option_map}
use Rattle.std.specs.List.{All}
use Rattle.std.specs.Str.{is_utf8}
use Rattle.std.specs.declared.option.Option.{Option}
use Rattle.snap_core.specs.declared.program.Program.{Program}
use Rattle.snap_core.specs.Arrays.{zero_arrays}
use Rattle.snap_io.specs.Files.{Files, file_of}
use Rattle.snap_names.specs.Spells.{SpellsProgram}
use Rattle.snap_dep.specs.Ranks.{IsRank}
use Rattle.snap_topology.specs.declared.topology.Topology.{Topology}
use Rattle.snap_topology.specs.Spells.{SpellsTopology}
use Rattle.snap_topology.specs.Walks.{IsDiameter, Linked}
use Rattle.snap_rows.specs.declared.tables.Tables.{Tables}
use Rattle.snap_rows.specs.Happenings.{commits}
use Rattle.snap_rows.specs.SingleOwner.{IsSingleOwner}
use Rattle.snap_rows.specs.Network.{Event, Happening, IsPlainRun, Net}
use Rattle.snap_faithful.specs.Agreement.{numbered}
use Rattle.snap_faithful.specs.Faithful.{most_hops}
use Rattle.snap_report.specs.Spelled.{ended, spelled}
use Rattle.snap_runs.specs.declared.frames.Frames.{Frames}
use Rattle.snap_runs.specs.declared.frames.Frames.TheVariants.{Plain, Numbered}
use Rattle.snap_runs.specs.Plain.{entering}
use Rattle.snap_runs.specs.Reports.{IsRunReportBy}
use Rattle.snap_runs.specs.Schedules.{IsSequential, Obeys, lines_of}
use Rattle.snap_refinement.specs.InOrder.{IsSwitchReportIn}
use Rattle.snap_refinement.specs.Laws.{IsHopWithin}
use Rattle.snap_refinement.specs.OneSwitch.{IsSwitchReport, ports_of}
use Rattle.snap_order.specs.Ordered.{Ordered, OrderedHappening}
use Rattle.snap_order.specs.Ordered as turning
use Rattle.snap_order.specs.Rounds.{GoesByRounds}
use Rattle.snap_order.specs.Runs as turn_runs
use Rattle.snap_words.specs.Commands.{Command, Order, changes, command_of, compile, in_order, plain, rounds, schedule, trace}
use Rattle.snap_words.specs.Words.{is_name}
use Rattle.snap_cli.specs.Answers.{Answers}
use Rattle.snap_cli.specs.Compile.{AreSpelled, version_of}
use Rattle.snap_cli.specs.TablesOf.{TablesOf}

-- A call of these words on these files answered 0, and wrote this.
pub record Wrote (files : Files) (words : List (List ℕ)) (output : List ℕ) : Type 0 where
  pub shelf_before : List ℕ → ℕ
  pub shelf_now : List ℕ → ℕ
  pub out_before : ℕ
  pub out_now : ℕ
  pub err_before : ℕ
  pub err_now : ℕ
  pub err_old : Option (List ℕ)
  pub err_new : Option (List ℕ)
  pub answers : Answers words (Some files) 0 shelf_before shelf_now out_before out_now (Some []) (Some output) err_before err_now err_old err_new

-- some words that name this command did
abbrev pub Did : Files → Command → List ℕ → Type 0
Did files command output = (words : List (List ℕ)) × (command_of words ≡ Some command) × Wrote files words output

-- The files of `compile` spell this program and this topology, and all lines of a packets file are in form.
pub record AreGiven (files : Files) (program topology : List ℕ) (packets : List ℕ) (p : Program) (t : Topology) : Type 0 where
  pub the_program : SpellsProgram (file_of files program) p
  pub the_topology : SpellsTopology (file_of files topology) t
  pub whole : (spelled p.fields packets).stop ≡ ended

-- **The text is the report of a run, with hops or without. The report of the same run without hops is what one big switch does; and
-- no copy makes many hops.** Where no hops are told that report is the text itself.
pub record TellsRun (Run : Type 0) (IsReport : Run → (hops : Bool) → List ℕ → Type 0) (IsOneSwitch : Run → List ℕ → Type 0) (IsShort : Run → Type 0) (hops : Bool) (text : List ℕ) : Type 0 where
  pub run : Run
  pub report : IsReport run hops text
  pub plain : List ℕ
  pub plain_report : IsReport run false plain
  pub same : hops ≡ false → plain ≡ text
  pub one_switch : IsOneSwitch run plain
  pub short : IsShort run

-- ---- the run of packets in an order of events
-- the run of packets with `--ordered`: one after the other, or of exactly the events that lines order, to an end
abbrev pub IsRunInOrder : Tables → List (List ℕ) → Option (List (List ℕ)) → Ordered → List OrderedHappening → Type 0
IsRunInOrder t ks None end us = (es : List Event) × turn_runs.IsPlainRun t zero_arrays (entering ks) es end us
IsRunInOrder t ks (Some lines) end us = turn_runs.Obeys t ks lines [] end us × (end.net.flying ≡ [])

-- what happens to these packets in this order, to an end; changes of tables are in `Upgrades`
abbrev pub GoesByOrder : Files → Order → Tables → List (List ℕ) → Net → List Happening → Type 0
GoesByOrder files plain t ks end hs = (es : List Event) × IsPlainRun t zero_arrays (entering ks) es end hs
GoesByOrder files (schedule lines) t ks end hs = Obeys t ks (lines_of (file_of files lines)) [] end hs × (end.flying ≡ [])
GoesByOrder files (changes lines) t ks end hs = ⊥
GoesByOrder files (in_order lines) t ks end hs =
    (s : Ordered) × (us : List OrderedHappening) × IsRunInOrder t ks (option_map (λ name. lines_of (file_of files name)) lines) s us × (end ≡ s.net) × (hs ≡ turning.happenings us)
GoesByOrder files (rounds workers) t ks end hs =
    (s : Ordered) × (us : List OrderedHappening) × ((es : List Event) × GoesByRounds t (entering ks) (turning.begin t zero_arrays) es s us) × (end ≡ s.net) × (hs ≡ turning.happenings us)

-- the run, over the tables of this file
pub record RunByOrder (files : Files) (order : Order) (file : List ℕ) (ks : List (List ℕ)) : Type 0 where
  pub tables : Tables
  pub read : TablesOf file (Ok tables)
  pub end : Net
  pub happenings : List Happening
  pub goes : GoesByOrder files order tables ks end happenings

-- with `--ordered` and by rounds the frames of hops begin with the packet's number
abbrev pub frames_of : Order → Frames
frames_of plain = Plain
frames_of (schedule lines) = Plain
frames_of (changes lines) = Plain
frames_of (in_order lines) = Numbered
frames_of (rounds workers) = Numbered

-- The packets take effect in this order of their numbers: as they come in, one after another or with `--ordered`; and by a schedule
-- as they come in where it is sequential, and as they fork where the tables are single-owner.
abbrev pub TakeEffectIn : Files → Order → Tables → List (List ℕ) → List Happening → (numbers : List ℕ) → Type 0
TakeEffectIn files plain t ks hs numbers = numbers ≡ numbered ks
TakeEffectIn files (schedule lines) t ks hs numbers = (IsSequential t ks (lines_of (file_of files lines)) × (numbers ≡ numbered ks)) ⊎ (IsSingleOwner t × (numbers ≡ commits hs))
TakeEffectIn files (changes lines) t ks hs numbers = ⊥
TakeEffectIn files (in_order lines) t ks hs numbers = numbers ≡ numbered ks
TakeEffectIn files (rounds workers) t ks hs numbers = numbers ≡ numbered ks

-- no copy makes more than (groups + 1) times the greatest distance hops, or with `--on-demand` (2 groups + 1) times
abbrev pub MakesFewHops : Program → Topology → (on_demand : Bool) → List Happening → Type 0
MakesFewHops p t on_demand hs = (groups : List ℕ) (d : ℕ) → IsRank p.body (length p.arrays) groups → IsDiameter (Linked t.links) (length t.switches) d
    → All (IsHopWithin (most_hops (version_of on_demand) (length groups) d)) hs

-- The text tells a run of these packets in this order, over the tables of this file; and one big switch does the same with the packets in
-- the order in which they take effect.
abbrev pub TellsByOrder : Files → Order → (file : List ℕ) → Program → Topology → (on_demand : Bool) → List (List ℕ) → (hops : Bool) → (text : List ℕ) → Type 0
TellsByOrder files order file p t on_demand ks hops text =
    TellsRun (RunByOrder files order file ks)
    (λ r told. IsRunReportBy (frames_of order) r.tables told (length ks) r.end r.happenings)
    (λ r report. (numbers : List ℕ) → TakeEffectIn files order r.tables ks r.happenings numbers → IsSwitchReportIn p (ports_of t) ks numbers report)
    (λ r. MakesFewHops p t on_demand r.happenings) hops text

-- **A call of `compile` answered 0, and a call of `trace` with its output as the file of tables answered 0, in this order and with
-- hops or without. Then so it is with what the second wrote.**
abbrev pub TracesByOrder : Order → Type 0
TracesByOrder order = (files later : Files) (program topology placement tables packets : List ℕ) (on_demand hops : Bool) (compiled report : List ℕ)
    → Did files (compile program topology placement on_demand) compiled
    → file_of later tables ≡ compiled → Did later (trace tables packets hops order) report
    → (p : Program) × (t : Topology) × AreGiven files program topology (file_of later packets) p t
    × TellsByOrder later order (file_of later tables) p t on_demand (spelled p.fields (file_of later packets)).packets hops report

-- ---- the report without hops, in each order
-- what one big switch does with the packets of a file, for the program and at the ports of the topology that the files of `compile` spell
abbrev pub TellsOneSwitch : Files → (program topology : List ℕ) → (packets text : List ℕ) → Type 0
TellsOneSwitch files program topology packets text =
    (p : Program) × (t : Topology) × AreGiven files program topology packets p t × IsSwitchReport p (ports_of t) (spelled p.fields packets).packets text

-- **A call of `compile` answered 0, and a call of `trace` with its output as the file of tables answered 0. Then what the
-- second wrote is what one big switch does.**
abbrev pub TracesAsOneSwitch : Type 0
TracesAsOneSwitch = (files later : Files) (program topology placement tables packets : List ℕ) (on_demand : Bool) (compiled report : List ℕ)
    → Did files (compile program topology placement on_demand) compiled
    → file_of later tables ≡ compiled → Did later (trace tables packets false plain) report
    → TellsOneSwitch files program topology (file_of later packets) report

-- the words of a call of `compile`, and of one of `trace` without options
abbrev pub compile_words : (on_demand : Bool) → (program topology placement : List ℕ) → List (List ℕ)
compile_words false program topology placement = codes "compile" ∷ program ∷ topology ∷ placement ∷ []
compile_words true program topology placement = codes "compile" ∷ codes "--on-demand" ∷ program ∷ topology ∷ placement ∷ []

abbrev pub trace_words : (tables packets : List ℕ) → List (List ℕ)
trace_words tables packets = codes "trace" ∷ tables ∷ packets ∷ []

-- a word that can name a file: it is UTF-8 and not empty, and doesn't begin with `-`
abbrev pub CanName : List ℕ → Type 0
CanName word = (is_utf8 word ≡ true) × (is_name word ≡ true)

-- **By the words of both calls: `compile` answered 0, and `trace` with its output as the file of tables answered 0. Then what the
-- second wrote is what one big switch does.**
abbrev pub CallsTraceAsOneSwitch : Type 0
CallsTraceAsOneSwitch = (files later : Files) (program topology placement tables packets : List ℕ) (on_demand : Bool) (compiled report : List ℕ)
    → CanName program → CanName topology → CanName placement → CanName tables → CanName packets
    → Wrote files (compile_words on_demand program topology placement) compiled
    → file_of later tables ≡ compiled → Wrote later (trace_words tables packets) report
    → TellsOneSwitch files program topology (file_of later packets) report

-- the schedule is sequential for these packets, in the network of the tables of a file
abbrev pub IsSequentialFor : Files → (tables lines : List ℕ) → List (List ℕ) → Type 0
IsSequentialFor files tables lines ks = (t : Tables) → TablesOf (file_of files tables) (Ok t) → IsSequential t ks (lines_of (file_of files lines))

-- **So it is with a schedule that injects each packet with no copy in flight.**
abbrev pub SchedulesTraceAsOneSwitch : Type 0
SchedulesTraceAsOneSwitch = (files later : Files) (program topology placement tables packets lines : List ℕ) (on_demand : Bool) (compiled report : List ℕ)
    → Did files (compile program topology placement on_demand) compiled
    → file_of later tables ≡ compiled → Did later (trace tables packets false (schedule lines)) report
    → (p : Program) × (t : Topology) × AreGiven files program topology (file_of later packets) p t
    × (IsSequentialFor later tables lines (spelled p.fields (file_of later packets)).packets → IsSwitchReport p (ports_of t) (spelled p.fields (file_of later packets)).packets report)

-- **So it is with `--ordered`, in the order of each schedule that can be done to an end, whatever packets overlap.**
abbrev pub TurnsTraceAsOneSwitch : Type 0
TurnsTraceAsOneSwitch = (files later : Files) (program topology placement tables packets : List ℕ) (on_demand : Bool) (lines : Option (List ℕ)) (compiled report : List ℕ)
    → Did files (compile program topology placement on_demand) compiled
    → file_of later tables ≡ compiled → Did later (trace tables packets false (in_order lines)) report
    → TellsOneSwitch files program topology (file_of later packets) report

-- **What it writes is, byte for byte, what `trace` of the same tables and packets writes without `--ordered`, one packet after the other.**
abbrev pub TurnsTraceAsPlain : Type 0
TurnsTraceAsPlain = (files later : Files) (program topology placement tables packets : List ℕ) (on_demand : Bool) (lines : Option (List ℕ)) (compiled report other : List ℕ)
    → Did files (compile program topology placement on_demand) compiled
    → file_of later tables ≡ compiled → Did later (trace tables packets false (in_order lines)) report → Did later (trace tables packets false plain) other
    → report ≡ other

-- **So it is with `--ordered --workers`, for every number of workers.**
abbrev pub RoundsTraceAsOneSwitch : Type 0
RoundsTraceAsOneSwitch = (files later : Files) (program topology placement tables packets : List ℕ) (on_demand : Bool) (workers : ℕ) (compiled report : List ℕ)
    → Did files (compile program topology placement on_demand) compiled
    → file_of later tables ≡ compiled → Did later (trace tables packets false (rounds workers)) report
    → TellsOneSwitch files program topology (file_of later packets) report

-- **What it writes is, byte for byte, what `trace` of the same tables and packets writes without `--ordered`, one packet after the other.**
abbrev pub RoundsTraceAsPlain : Type 0
RoundsTraceAsPlain = (files later : Files) (program topology placement tables packets : List ℕ) (on_demand : Bool) (workers : ℕ) (compiled report other : List ℕ)
    → Did files (compile program topology placement on_demand) compiled
    → file_of later tables ≡ compiled → Did later (trace tables packets false (rounds workers)) report → Did later (trace tables packets false plain) other
    → report ≡ other

-- **With hops too, and whatever the tables, different numbers of workers write the same.**
abbrev pub RoundsTraceAlike : Type 0
RoundsTraceAlike = (later : Files) (tables packets : List ℕ) (hops : Bool) (workers others : ℕ) (report other : List ℕ)
    → Did later (trace tables packets hops (rounds workers)) report → Did later (trace tables packets hops (rounds others)) other
    → report ≡ other

-- ---- all arrays that a packet meets at one switch
-- the placement that the files of `compile` spell puts all arrays at one switch
abbrev pub StandAtOne : Files → (program topology placement : List ℕ) → Type 0
StandAtOne files program topology placement = (p : Program) (t : Topology) (places : List ℕ) → AreSpelled files program topology placement p t places → (w : ℕ) × All (λ x. x ≡ w) places

-- the tables of a file are single-owner
abbrev pub AreSingleOwner : Files → (tables : List ℕ) → Type 0
AreSingleOwner files tables = (t : Tables) → TablesOf (file_of files tables) (Ok t) → IsSingleOwner t

-- The text tells the run of exactly the events that the lines order; and one big switch does the same with the packets in the order in
-- which they fork in it.
abbrev pub TellsForks : Files → Files → (program topology tables packets lines : List ℕ) → (on_demand hops : Bool) → (text : List ℕ) → Type 0
TellsForks files later program topology tables packets lines on_demand hops text =
    (p : Program) × (t : Topology) × AreGiven files program topology (file_of later packets) p t
    × (told : TellsByOrder later (schedule lines) (file_of later tables) p t on_demand (spelled p.fields (file_of later packets)).packets hops text)
    × IsSwitchReportIn p (ports_of t) (spelled p.fields (file_of later packets)).packets (commits told.run.happenings) told.plain

-- **Where `compile` answered 0 for a placement that puts all arrays at one switch, so it is with each schedule, whatever packets overlap.**
abbrev pub SingleOwnerPlacementsTraceInForkOrder : Type 0
SingleOwnerPlacementsTraceInForkOrder = (files later : Files) (program topology placement tables packets lines : List ℕ) (on_demand hops : Bool) (compiled report : List ℕ)
    → Did files (compile program topology placement on_demand) compiled → StandAtOne files program topology placement
    → file_of later tables ≡ compiled → Did later (trace tables packets hops (schedule lines)) report
    → TellsForks files later program topology tables packets lines on_demand hops report

-- **So it is where the tables that it reads are such.**
abbrev pub SingleOwnerTablesTraceInForkOrder : Type 0
SingleOwnerTablesTraceInForkOrder = (files later : Files) (program topology placement tables packets lines : List ℕ) (on_demand hops : Bool) (compiled report : List ℕ)
    → Did files (compile program topology placement on_demand) compiled
    → file_of later tables ≡ compiled → AreSingleOwner later tables → Did later (trace tables packets hops (schedule lines)) report
    → TellsForks files later program topology tables packets lines on_demand hops report
