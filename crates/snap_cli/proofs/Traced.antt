-- What is compiled and then traced is what one big switch does.
use Rattle.std.proofs.Common.{◌≡◌, ◌⊎◌, ℕ, Bool, List, [], Some, Ok, Err, refl, sym, ◌∙◌, ap, subst, inl, inr, ⊎_elim, arith}
use Rattle.snap_report.specs.declared.fault.TraceFault.TheVariants as run
use Rattle.snap_tables.specs.Text.{text as tables_text}
use Rattle.snap_cli.specs.declared.refusal.Refusal.TheVariants.{Undefined}
use Rattle.snap_cli.specs.Compile.{IsCompiled, version_of}
use Rattle.snap_cli.specs.Headline.{AreGiven}
use Rattle.snap_cli.specs.Laws.{TracesAs}
use Rattle.snap_cli.proofs.Shared.{All, AnswersExactly, Appends, Command, compile, CompilesExactly, count, Did, ended, Ending, Ends, Faithful, file_of, Files, IsDue, IsExact, IsFailure, IsPacket, IsPacketOf, IsPlainReport, IsRead, IsReadBack, IsRunEnding, Limit, Order, Packets, plain, Program, Refusal, Spelled, spelled, spelled_for, SpelledForIsSpelled, SpelledPacketsFit, status_of, Tables, TablesOf, Topology, trace, TraceFault, TracesExactly, VersionOne}
use Rattle.snap_cli.proofs.SpelledSources.{SpellsProgram-ProgramOf, SpellsTopology-TopologyOf}

-- ---- status 0
pub refused_apart : (e : Refusal) → 0 ≡ status_of (Err e) → ⊥
refused_apart VersionOne h = omega (arith, h)
refused_apart e h = omega (arith, h)

ended_well : (e : Ending) → 0 ≡ status_of e → e ≡ Ok tt
ended_well (Ok u) h = refl
ended_well (Err e) h = absurd (refused_apart e h)

pub no_failure : {X : Type 0} → IsFailure 0 ⊎ X → X
no_failure (inr x) = x
no_failure (inl h) = absurd (grind (arith, h))

pub run_apart : (fault : TraceFault) (e : Ending) → IsRunEnding (Err fault) e → 0 ≡ status_of e → ⊥
run_apart (run.Limit which count) e is h = refused_apart (Limit which count) (h ∙ ap status_of is)
run_apart (run.Packets line) e is h = refused_apart (Packets line) (h ∙ ap status_of is)
run_apart (run.Undefined packet) e is h = refused_apart (Undefined packet) (h ∙ ap status_of is)
run_apart fault e is h = is

-- a text of tables that is read back is no other's
pub same_tables : (file : List ℕ) (n u : Tables) → IsReadBack n → file ≡ tables_text n → TablesOf file (Ok u) → u ≡ n
same_tables file n u back is (inl h) = absurd (let e = h.1 in cc)
same_tables file n u back is (inr h) = ⊎_elim (λ e. cc) (λ e. absurd (cc)) (back (Ok u) (subst (λ b. IsRead b (Ok u)) is h.1))

-- a plain run that ended with status 0 read all packets, and has a report
whole_report : (t : Tables) (hops : Bool) (read : Spelled) (report : List ℕ) → TracesAs t hops read 0 (Some []) (Some report) → (read.stop ≡ ended) × IsPlainReport t hops read.packets report
whole_report t hops read report (inl h) = (h.1, subst (IsPlainReport t hops read.packets) (sym h.2.2) h.2.1)
whole_report t hops read report (inr h) = absurd (run_apart h.0 h.1 h.3 h.4)

pub plain_ran : TracesExactly → (later : Files) (tables packets : List ℕ) (hops : Bool) (report : List ℕ) → Did later (trace tables packets hops plain) report → (t : Tables) → TablesOf (file_of later tables) (Ok t)
    → ((spelled_for t (file_of later packets)).stop ≡ ended) × IsPlainReport t hops (spelled_for t (file_of later packets)).packets report
plain_ran traces later tables packets hops report d t read =
    whole_report t hops (spelled_for t (file_of later packets)) report
    (no_failure (traces d.0 later tables packets hops t 0 d.2.shelf_before d.2.shelf_now d.2.out_before d.2.out_now (Some []) (Some report) d.2.err_before d.2.err_now d.2.err_old d.2.err_new d.1 read d.2.answers))

-- the bytes that a call with status 0 wrote are the text
module _ (exactly : AnswersExactly) where
  ends_well : (files : Files) (command : Command) (output : List ℕ) → Did files command output → Ends files command (Ok tt)
  ends_well files command output d =
      by (no_failure (exactly d.0 files command 0 d.2.shelf_before d.2.shelf_now d.2.out_before d.2.out_now (Some []) (Some output) d.2.err_before d.2.err_now d.2.err_old d.2.err_new d.1 d.2.answers))
    where
      by : (ending : Ending) × (text : List ℕ) × IsDue files command ending text × IsExact ending text 0 (Some []) (Some output) d.2.err_before d.2.err_now d.2.err_old d.2.err_new → Ends files command (Ok tt)
      by (ending, text, due, exact) = subst (Ends files command) (ended_well ending exact.status_is) due.ends

  -- ---- what compile wrote
  pub compiled : CompilesExactly → (files : Files) (program topology placement : List ℕ) (on_demand : Bool) (output : List ℕ) → Did files (compile program topology placement on_demand) output → IsCompiled files program topology placement on_demand output
  compiled compiles files program topology placement on_demand output d =
      let t = (ends_well files (compile program topology placement on_demand) output d).1 in
      let of = t.1 in
      by (no_failure (compiles d.0 files program topology placement on_demand of.0 of.1 of.2 0 d.2.shelf_before d.2.shelf_now d.2.out_before d.2.out_now (Some []) (Some output) d.2.err_before d.2.err_now d.2.err_old d.2.err_new d.1 of.3 d.2.answers))
    where
      by : {A B C D : Type 0} → (A × B × ((text : List ℕ) × IsCompiled files program topology placement on_demand text × Appends (Some []) (Some output) text)) ⊎ (◌≡◌ {A = ℕ} 0 10 × C × D) → IsCompiled files program topology placement on_demand output
      by (inl h) = subst (IsCompiled files program topology placement on_demand) (sym h.2.2) h.2.1
      by (inr h) = absurd (let e = h.0 in omega (arith, e))

  -- ---- what trace ran
  pub read_tables : (later : Files) (tables packets report : List ℕ) (hops : Bool) (order : Order) → Did later (trace tables packets hops order) report → (t : Tables) × TablesOf (file_of later tables) (Ok t)
  read_tables later tables packets report hops order d = by (ends_well later (trace tables packets hops order) report d)
    where
      by : Ends later (trace tables packets hops order) (Ok tt) → (t : Tables) × TablesOf (file_of later tables) (Ok t)
      by (inl h) = absurd (let e = h.2 in cc)
      by (inr h) = (h.0, h.1)

  module _ (compiles : CompilesExactly) (fit : SpelledPacketsFit) (whole : SpelledForIsSpelled) where
    -- the run of faithful tables that was told, of which this holds
    pub record Told (files : Files) (program topology file packets : List ℕ) (on_demand : Bool) (Holds : Tables → List (List ℕ) → Type 0) : Type 0 where
      pub p : Program
      pub t : Topology
      pub places : List ℕ
      pub n : Tables
      pub read : TablesOf file (Ok n)
      pub faithful : Faithful p t places n
      pub version : n.version ≡ version_of on_demand
      pub given : AreGiven files program topology packets p t
      pub fits : All (IsPacketOf p) (spelled p.fields packets).packets
      pub holds : Holds n (spelled p.fields packets).packets

    pub told : (Holds : Tables → List (List ℕ) → Type 0) (files later : Files) (program topology placement tables packets : List ℕ) (on_demand hops : Bool) (order : Order) (output report : List ℕ)
        → Did files (compile program topology placement on_demand) output → file_of later tables ≡ output → Did later (trace tables packets hops order) report
        → ((t : Tables) → TablesOf (file_of later tables) (Ok t) → ((spelled_for t (file_of later packets)).stop ≡ ended) × Holds t (spelled_for t (file_of later packets)).packets)
        → Told files program topology (file_of later tables) (file_of later packets) on_demand Holds
    told Holds files later program topology placement tables packets on_demand hops order output report c is d ran =
        let made = compiled compiles files program topology placement on_demand output c in
        let n : Tables = made.0 in
        let of = made.1 in
        let p : Program = of.0 in
        let file = file_of later packets in
        let u = read_tables later tables packets report hops order d in
        let same : u.0 ≡ n = same_tables (file_of later tables) n u.0 made.2 (is ∙ made.3) u.1 in
        let read_so = subst (λ x. TablesOf (file_of later tables) (Ok x)) same u.1 in
        let r = ran n read_so in
        let fields : n.fields ≡ p.fields = of.4.0.shape.fields in
        let read : spelled_for n file ≡ spelled p.fields file = whole n file r.0 ∙ ap (λ fs. spelled fs file) fields in
        record {
          p = p;
          t = of.1;
          places = of.2;
          n = n;
          read = read_so;
          faithful = of.4.0;
          version = of.4.1;
          given = record { the_program = SpellsProgram-ProgramOf (file_of files program) p of.3.the_program; the_topology = SpellsTopology-TopologyOf (file_of files topology) of.1 of.3.the_topology; whole = ap (λ (s : Spelled). s.stop) (sym read) ∙ r.0 };
          fits = subst (λ fs. All (IsPacket (count fs)) (spelled p.fields file).packets) fields (subst (λ (s : Spelled). All (IsPacket (count n.fields)) s.packets) read (fit n file));
          holds = subst (λ (s : Spelled). Holds n s.packets) read r.1;
        }
