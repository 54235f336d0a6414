-- What is compiled for programs of one shape, and then traced with changes of tables, is what one big switch does whose program changes.
use Rattle.std.proofs.Common.{◌≡◌, ℕ, Bool, true, false, List, [], ◌∷◌, Some, Result, Ok, Err, refl, sym, ◌∙◌, ap, subst, inl, inr}
use Rattle.std.specs.Prelude.{nat_le, if◌then◌else◌}
use Rattle.snap_runs.specs.declared.change.ChangesFault.{ChangesFault}
use Rattle.snap_runs.specs.Changing.{HaveShapeOf, IsChangedReport, IsRising}
use Rattle.snap_runs.specs.ChangedFiles.{EndsAsRead}
use Rattle.snap_refinement.specs.ChangeLaws.{AreFaithfulTo, IsFaithfulTo, SaidChangesRise, TurnsReportWithoutHops, UpgradedRunsAreShort, UpgradedRunsReportOneSwitch}
use Rattle.snap_runs.specs.ChangeLines.{changes_of}
use Rattle.snap_runs.specs.Shapes.{HaveOneShape}
use Rattle.snap_cli.specs.Changes.{ChangesTo, said_changes}
use Rattle.snap_cli.specs.ChangesSteps.{afters, afters_of}
use Rattle.snap_cli.specs.Laws.{ChangesExactly}
use Rattle.snap_cli.specs.Upgrades.{AreGivenUnder, AreOutputsOf, IsOutputFor, UpgradesTraceAsOneSwitch, file_in_force}
use Rattle.snap_cli.proofs.ChangesLemmas.{rising-changes}
use Rattle.snap_cli.proofs.ChangesOnce.{AreRead, changes_read, read_none, read_one}
use Rattle.snap_cli.proofs.SpelledUnder.{spelled_fit, under_whole}
use Rattle.snap_cli.proofs.Traced.{compiled, no_failure, read_tables, refused_apart, run_apart, same_tables}
use Rattle.snap_runs.proofs.ChangesSettling.{shape-same}
use Rattle.snap_refinement.proofs.Report.{force-shape}
use Rattle.snap_cli.proofs.Shared.{All, All-cons, All-head, All-nil, All-tail, AnswersExactly, Change, ChangedTables, changes, ChangesOf, CompilesExactly, count, Did, ended, Ending, Faithful, file_of, Files, in_force, IsPacket, IsRunEnding, Later, Program, ProgramOf, Refusal, refused, RunEnding, Spelled, spelled, spelled_under, SpelledPacketsFit, status_of, Stop, Tables, TablesOf, trace}

-- ---- the tables of the changes
module _ (files : Files) (first : Tables) where
  read_afters : {cs : List Change} {ls : List Later} → AreRead files first cs ls → afters ls ≡ afters_of cs
  read_afters read_none = refl
  read_afters (read_one after is shape rest) = λ i. after i ∷ read_afters rest i

  read_shapes : {cs : List Change} {ls : List Later} → AreRead files first cs ls → HaveShapeOf first ls
  read_shapes read_none = All-nil (λ (x : Later). HaveOneShape x.tables first)
  read_shapes (read_one {l = l} {ls = ls} after is shape rest) = All-cons (λ (x : Later). HaveOneShape x.tables first) l ls shape (read_shapes rest)

  -- what holds of each file's tables holds of those in force, and the file in force
  module _ (Q : List ℕ → Tables → Type 0) (i : ℕ) where
    pub read_in_force : {cs : List Change} {ls : List Later} → AreRead files first cs ls → (P : List ℕ → Type 0) → All (λ (c : Change). P c.name) cs → ((name : List ℕ) → P name → (t : Tables) → TablesOf (file_of files name) (Ok t) → Q name t)
        → (name : List ℕ) (t : Tables) → Q name t → Q (file_in_force name cs i) (in_force t ls i)
    read_in_force read_none P all holds name t here = here
    read_in_force (read_one {c = c} {cs = cs} {l = l} {ls = ls} after is shape rest) P all holds name t here =
        let then_on = read_in_force rest P (All-tail (λ (x : Change). P x.name) c cs all) holds c.name l.tables (holds c.name (All-head (λ (x : Change). P x.name) c cs all) l.tables is) in
        subst (λ n. Q (if nat_le n i then file_in_force c.name cs i else name) (if nat_le l.after i then in_force l.tables ls i else t)) after
        (elim (nat_le l.after i) as (λ b. Q (if b then file_in_force c.name cs i else name) (if b then in_force l.tables ls i else t)) [ true ↦ then_on | false ↦ here ])

-- a file says the changes that its lines do
said_by_lines : (r : Result (List Change) ChangesFault) (cs : List Change) → ◌≡◌ {A = Result (List Change) Refusal} (Ok cs) (said_changes r) → r ≡ Ok cs
said_by_lines (Ok ds) cs e = let same : ds ≡ cs = cc in ap (λ x. Ok x) same
said_by_lines (Err f) cs e = absurd (cc)

said_changes_of : (file : List ℕ) (cs : List Change) → ChangesOf file (Ok cs) → changes_of file ≡ Ok cs
said_changes_of file cs (inl h) = absurd (let e = h.1 in cc)
said_changes_of file cs (inr h) = said_by_lines (changes_of file) cs h.1

-- ---- the run
module _ (files : Files) (first : Tables) (lines : List ℕ) where
  module _ (packets : List ℕ) (hops : Bool) (ending : Ending) (text : List ℕ) (well : 0 ≡ status_of ending) where
    -- a run that ended with status 0 read all packets, and has a report
    abbrev Reported : List Later → Type 0
    Reported ls = ((spelled_under first ls (file_of files packets)).stop ≡ ended) × IsChangedReport first ls hops (spelled_under first ls (file_of files packets)).packets text

    read_whole : (ls : List Later) (run : RunEnding) (ks : List (List ℕ)) (stop : Stop) → EndsAsRead first ls hops ks stop run text → IsRunEnding run ending → (stop ≡ ended) × IsChangedReport first ls hops ks text
    read_whole ls run ks ended h is = (refl, h.1)
    read_whole ls run ks (refused fault) h is = absurd (run_apart fault ending (subst (λ r. IsRunEnding r ending) h.0 is) well)

    reported : ChangesTo files first packets hops lines ending text → (ls : List Later) × ChangedTables files first lines (Ok ls) × Reported ls
    reported (inl h) = absurd (refused_apart h.0 (well ∙ ap status_of h.2))
    reported (inr h) =
        let read = spelled_under first h.0 (file_of files packets) in
        (h.0, h.1, read_whole h.0 h.2.0 read.packets read.stop h.2.1 h.2.2)

-- ---- the whole
-- a program that the source spells, and to which the tables are faithful
pub record HasProgram (source : List ℕ) (t : Tables) : Type 0 where
  pub program : Program
  pub spelled_so : ProgramOf source (Ok program)
  pub faithful : IsFaithfulTo program t

module _ (exactly : AnswersExactly) (compiles : CompilesExactly) (traces : ChangesExactly) (fit : SpelledPacketsFit) (rise : SaidChangesRise) where
  output_has : (source output : List ℕ) → IsOutputFor source output → (t : Tables) → TablesOf output (Ok t) → HasProgram source t
  output_has source output o t read =
      let made = compiled exactly compiles o.files o.program o.topology o.placement o.on_demand output o.did in
      let n : Tables = made.0 in
      let of = made.1 in
      let same : t ≡ n = same_tables output n t made.2 made.3 read in
      record {
        program = of.0;
        spelled_so = subst (λ x. ProgramOf x (Ok of.0)) o.holds of.3.the_program;
        faithful = record { topology = of.1; places = of.2; faithful = subst (Faithful of.0 of.1 of.2) (sym same) of.4.0 };
      }

  -- what was given to a run, and its report
  pub record Ran (source : List ℕ → List ℕ) (later : Files) (tables lines packets : List ℕ) (hops : Bool) (report : List ℕ) : Type 0 where
    pub given : AreGivenUnder source later tables lines packets
    pub faithful : AreFaithfulTo given.programs given.first given.others
    pub shapes : HaveShapeOf given.first given.others
    pub rising : IsRising given.others
    pub fits : All (IsPacket (count given.first.fields)) (spelled (given.programs 0).fields (file_of later packets)).packets
    pub told : IsChangedReport given.first given.others hops (spelled (given.programs 0).fields (file_of later packets)).packets report

  ran : (source : List ℕ → List ℕ) (later : Files) (tables packets lines : List ℕ) (hops : Bool) (report : List ℕ)
      → IsOutputFor (source tables) (file_of later tables) → AreOutputsOf source later lines → Did later (trace tables packets hops (changes lines)) report → Ran source later tables lines packets hops report
  ran source later tables packets lines hops report output outputs d =
      let t = read_tables exactly later tables packets report hops (changes lines) d in
      let first : Tables = t.0 in
      let file = file_of later packets in
      let r = no_failure (traces d.0 later tables packets lines hops first 0 d.2.shelf_before d.2.shelf_now d.2.out_before d.2.out_now (Some []) (Some report) d.2.err_before d.2.err_now d.2.err_old d.2.err_new d.1 t.1 d.2.answers) in
      let end = reported later first lines packets hops r.0 r.1 r.3.status_is r.2 in
      let others : List Later = end.0 in
      let read = changes_read later first lines others end.1 in
      let shapes = read_shapes later first read.2 in
      let has : (i : ℕ) → HasProgram (source (file_in_force tables read.0 i)) (in_force first others i) = λ i.
      read_in_force later first (λ name u. HasProgram (source name) u) i read.2 (λ name. IsOutputFor (source name) (file_of later name)) (outputs read.0 read.1)
      (λ name o u is. output_has (source name) (file_of later name) o u is) tables first (output_has (source tables) (file_of later tables) output first t.1) in
      let fields : first.fields ≡ (has 0).program.fields = sym (force-shape first first others (shape-same first) shapes 0).fields ∙ (has 0).faithful.faithful.shape.fields in
      let same : spelled_under first others file ≡ spelled (has 0).program.fields file = under_whole first others file end.2.0 ∙ ap (λ fs. spelled fs file) fields in
      record {
        given = record {
          said = read.0;
          the_said = read.1;
          first = first;
          the_first = t.1;
          others = others;
          the_others = end.1;
          programs = λ i. (has i).program;
          the_programs = λ i. (has i).spelled_so;
          whole = ap (λ (s : Spelled). s.stop) (sym same) ∙ end.2.0;
        };
        faithful = λ i. (has i).faithful;
        shapes = shapes;
        rising = rising-changes others read.0 (read_afters later first read.2) (rise (file_of later lines) read.0 (said_changes_of (file_of later lines) read.0 read.1));
        fits = subst (λ fs. All (IsPacket (count first.fields)) (spelled fs file).packets) fields (spelled_fit fit first file);
        told = subst (λ (s : Spelled). IsChangedReport first others hops s.packets report) same (subst (IsChangedReport first others hops (spelled_under first others file).packets) (sym r.3.out) end.2.1);
      }

  pub upgrades_as_one_switch : TurnsReportWithoutHops → UpgradedRunsReportOneSwitch → UpgradedRunsAreShort → UpgradesTraceAsOneSwitch
  upgrades_as_one_switch without reports short source later tables packets lines hops report output outputs d =
      let x = ran source later tables packets lines hops report output outputs d in
      let g = x.given in
      let ks = (spelled (g.programs 0).fields (file_of later packets)).packets in
      let r = x.told.ran in
      let bare = without r.end r.state r.turns hops report x.told.report in (
        g,
        record {
          run = r;
          report = x.told.report;
          plain = bare.0;
          plain_report = bare.1;
          same = bare.2;
          one_switch = reports g.programs g.first g.others x.faithful x.shapes x.rising ks x.fits bare.0 (record { ran = r; report = bare.1 });
          short = short g.programs g.first g.others x.faithful x.shapes x.rising ks x.fits r.end r.left r.state r.turns r.run;
        },
      )
