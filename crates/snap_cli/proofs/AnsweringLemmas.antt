-- `trace` of what `compile` wrote answers 0.
use Rattle.std.proofs.Common.{◌≡◌, ◌⊎◌, ◌≤◌, ℕ, Bool, true, false, List, [], ◌∷◌, Option, Some, Result, Ok, Err, get_or, length, map, refl, sym, ap, subst, ◌∙◌, inl, inr, ⊎_elim, arith, is_some}
use Rattle.std.specs.Prelude.{◌==◌, None}
use Rattle.std.specs.List.{Contains}
use Rattle.std.proofs.lemmas.Bool.{eq-eqb}
use Rattle.std.proofs.lemmas.List.Folds.{list_any_at}
use Rattle.std.proofs.lemmas.Option.{slice_get-get_or}
use Rattle.snap_core.specs.declared.ports.PortAt.{PortAt}
use Rattle.snap_core.specs.declared.program.Field.{Field}
use Rattle.snap_core.specs.Ports.{port_in}
use Rattle.snap_rows.proofs.Ports.{port_is_found}
use Rattle.snap_tables.specs.Text.{text as tables_text}
use Rattle.snap_report.specs.PacketLines.{said_by}
use Rattle.snap_runs.specs.Plain.{ArePlainBlocks, EndsAs}
use Rattle.snap_runs.specs.Reports.{array_names}
use Rattle.snap_runs.specs.ChangedFiles.{EndsAsRead}
use Rattle.snap_runs.specs.Shapes.{HaveOneShape}
use Rattle.snap_order.specs.Runs as turns
use Rattle.snap_cli.specs.Answering.{AnswersZero, CanFollow, ChangesAnswer, CompileCall, NamePorts, NoDeviceFailed, OrderCanBeDone, TracesAnswer, TurnsCanBeDone, Wrote}
use Rattle.snap_cli.specs.Causes.{HasCauses}
use Rattle.snap_cli.specs.Changes.{ChangesTo, LaterOf, RefusesLater, before}
use Rattle.snap_cli.specs.Compile.{version_of}
use Rattle.snap_cli.specs.Upgrades.{file_in_force}
use Rattle.snap_cli.specs.InOrder.{TurnsTo}
use Rattle.snap_cli.specs.Trace.{EndsTrace, NetworkRunsTo}
use Rattle.snap_cli.proofs.ChangesOnce.{AreRead, changes_read, said_once}
use Rattle.snap_cli.proofs.ChangesTraced.{read_in_force}
use Rattle.snap_cli.proofs.DueStatus.{due-status}
use Rattle.snap_runs.proofs.OneSchedule.{ended_or_refused}
use Rattle.snap_order.proofs.OneSchedule.{ended_or_refused as ended_or_refused_in_order}
use Rattle.snap_cli.proofs.Shared.{All, All-head, All-tail, AnswersExactly, Change, ChangedTables, changes, ChangesOf, Command, CompilesExactly, ended, Ending, Ends, EndsBySchedule, file_of, Files, HasScheduleReport, in_force, in_order, IsFailure, IsWellFormed, IsPlainReport, IsRead, IsReadBack, IsRunEnding, Later, lines_of, option_map, Order, plain, ports_of, Refusal, refused, RefusesScheduleLine, rounds, RoundsTo, RunEnding, schedule, slice_get, slice_index, Spelled, spelled, spelled_for, spelled_under, SpellsOneProgram, status_of, Stop, Tables, TablesOf, trace, Write}
use Rattle.snap_cli.proofs.OneTables.{answered, told}
use Rattle.snap_cli.proofs.OneTopology.{topology_once}
use Rattle.snap_cli.proofs.SameCore.{same_fields, same_names}
use Rattle.snap_cli.proofs.SpelledUnder.{IsKnown, spelled_known, under_known}
use Rattle.snap_cli.proofs.TopLemmas.{unread}
use Rattle.snap_cli.proofs.Traced.{compiled}

-- ---- devices
unwritten : (refusal : Refusal) → status_of (Err refusal) ≡ 3 → refusal ≡ Write
unwritten Write e = refl
unwritten refusal e = absurd (cc)

no_device : (shelf_before shelf_now : List ℕ → ℕ) (out_before out_now : ℕ) (ending : Ending) → HasCauses shelf_before shelf_now out_before out_now ending → NoDeviceFailed shelf_before shelf_now out_before out_now
    → IsFailure (status_of ending) ⊎ (status_of ending ≡ 0) → (status_of ending ≡ 0) ⊎ (status_of ending ≡ 14)
no_device shelf_before shelf_now out_before out_now (Ok u) causes none h = inl refl
no_device shelf_before shelf_now out_before out_now (Err refusal) causes none (inl (inl two)) = let named = unread refusal two in absurd (none.shelf named.0 (causes.read named.0 named.1))
no_device shelf_before shelf_now out_before out_now (Err refusal) causes none (inl (inr (inl three))) = absurd (none.out (causes.write (ap (λ r. Err r) (unwritten refusal three))))
no_device shelf_before shelf_now out_before out_now (Err refusal) causes none (inl (inr (inr memory))) = inr memory
no_device shelf_before shelf_now out_before out_now (Err refusal) causes none (inr well) = inl well

-- a command that deserves no other ending than to go well
answers_zero : AnswersExactly → (files : Files) (command : Command) → ((e : Ending) → Ends files command e → e ≡ Ok tt) → AnswersZero files command
answers_zero exactly files command well words status sb sn ob on oo on' eb en eo en' said answers none =
    subst (λ s. (s ≡ 0) ⊎ (s ≡ 14)) (sym answers.status_is)
    (no_device sb sn ob on answers.ending answers.causes none
    (subst (λ s. IsFailure s ⊎ (s ≡ 0)) answers.status_is
    (due-status (λ s. s ≡ 0) files command (λ e ends. ap status_of (well e ends)) status oo on' eb en eo en' (exactly words files command status sb sn ob on oo on' eb en eo en' said answers))))

-- ---- tables that were written
-- of a text that is read back nothing else is told
only_read : (n : Tables) (file : List ℕ) → IsReadBack n → file ≡ tables_text n → length file ≤ 67108864 → (r : Result Tables Refusal) → TablesOf file r → r ≡ Ok n
only_read n file back is short r (inl long) = absurd (let e = long.0 in omega (arith, e, short))
only_read n file back is short r (inr spells) =
    let x = answered file r spells.1 in
    x.3 ∙ ⊎_elim (λ same. ap told same) (λ memory. absurd (x.2 memory)) (back x.0 (subst (λ b. IsRead b x.0) is x.1))

-- the file is read as these tables, which are those of what the call was given
record IsFileOf (c : CompileCall) (file : List ℕ) (n : Tables) : Type 0 where
  only : (r : Result Tables Refusal) → TablesOf file r → r ≡ Ok n
  form : IsWellFormed n
  version : n.version ≡ version_of c.on_demand
  fields : n.fields ≡ c.p.fields
  names : array_names n ≡ c.p.arrays
  ports : n.ports ≡ c.t.ports

module _ (spells : SpellsOneProgram) (exactly : AnswersExactly) (compiles : CompilesExactly) where
  written : (c : CompileCall) (file : List ℕ) → Wrote c file → (n : Tables) × IsFileOf c file n
  written c file wrote =
      let made = compiled exactly compiles c.files c.program c.topology c.placement c.on_demand file wrote.did in
      let of = made.1 in
      let core = spells (file_of c.files c.program) (Ok of.0) (Ok c.p) of.3.the_program c.the_program in
      let topology : of.1 ≡ c.t = topology_once (file_of c.files c.topology) (Ok of.1) (Ok c.t) of.3.the_topology c.the_topology in
      let shape = of.4.0.shape in (
        made.0,
        record {
          only = only_read made.0 file made.2 made.3 wrote.short;
          form = shape.form;
          version = of.4.1;
          fields = shape.fields ∙ same_fields of.0 c.p core;
          names = shape.names ∙ same_names of.0 c.p core;
          ports = shape.ports ∙ (λ i. (topology i).ports);
        },
      )

-- the command ends as the run of these tables does
ran : (c : CompileCall) (later : Files) (tables packets : List ℕ) (hops : Bool) (order : Order) (n : Tables) → IsFileOf c (file_of later tables) n → (e : Ending) → EndsTrace later tables packets hops order e
    → TablesOf (file_of later tables) (Ok n) × ((text : List ℕ) × NetworkRunsTo later n packets hops order e text)
ran c later tables packets hops order n of e (inl (refusal, why, same)) = absurd (let x = of.only (Err refusal) why in cc)
ran c later tables packets hops order n of e (inr (u, read, (text, run))) =
    let same : u ≡ n = (let x = of.only (Ok u) read in cc) in
    (subst (λ x. TablesOf (file_of later tables) (Ok x)) same read, (text, subst (λ x. NetworkRunsTo later x packets hops order e text) same run))

-- ---- packets
has_port : (ps : List PortAt) (n : ℕ) → Contains (map (λ (x : PortAt). x.port) ps) n → is_some (port_in ps n) ≡ true
has_port ps n there = sym (port_is_found ps n) ∙ list_any_at (λ port. port == n) (map (λ (x : PortAt). x.port) ps) there.0 n there.1 (eq-eqb _ n there.2)

module _ (fields : List Field) (packets : List ℕ) where
  abbrev here : List (List ℕ)
  here = (spelled fields packets).packets

  -- tables of these ports, or those in force, take each packet that names one
  taken_whole : (n : Tables) (ports : List PortAt) → n.fields ≡ fields → n.ports ≡ ports → NamePorts fields (λ i. map (λ (x : PortAt). x.port) ports) packets → (spelled_for n packets).stop ≡ ended
  taken_whole n ports same at names =
      let known : All (IsKnown n.ports) here = λ i d within.
      let k = get_or here i d in subst (λ ps. IsKnown ps k) (sym at) (has_port ports (slice_index k 0) (names.named i k (slice_get-get_or here i d within))) in
      let all : All (IsKnown n.ports) (spelled n.fields packets).packets = subst (λ fs. All (IsKnown n.ports) (spelled fs packets).packets) (sym same) known in
      ap (λ (s : Spelled). s.stop) (spelled_known n (said_by n.fields) packets 1000000 1 0 all) ∙ ap (λ fs. (spelled fs packets).stop) same ∙ names.form

  taken_under : (first : Tables) (later : List Later) (ports : ℕ → List PortAt) → first.fields ≡ fields → ((i : ℕ) → (in_force first later i).ports ≡ ports i)
      → NamePorts fields (λ i. map (λ (x : PortAt). x.port) (ports i)) packets → (spelled_under first later packets).stop ≡ ended
  taken_under first later ports same at names =
      let known : (i : ℕ) (k : List ℕ) → slice_get here i ≡ Some k → IsKnown (in_force first later i).ports k = λ i k is.
      subst (λ ps. IsKnown ps k) (sym (at i)) (has_port (ports i) (slice_index k 0) (names.named i k is)) in
      let all = subst (λ fs. (i : ℕ) (k : List ℕ) → slice_get (spelled fs packets).packets i ≡ Some k → IsKnown (in_force first later i).ports k) (sym same) known in
      ap (λ (s : Spelled). s.stop) (under_known first later packets all) ∙ ap (λ fs. (spelled fs packets).stop) same ∙ names.form

-- ---- runs
-- a run over a file that is read to its end ends well
ends_well : (Blocks Report : List (List ℕ) → List ℕ → Type 0) (ks : List (List ℕ)) (stop : Stop) (run : RunEnding) (ending : Ending) (text : List ℕ) → stop ≡ ended → EndsAs Blocks Report ks stop run text → IsRunEnding run ending → ending ≡ Ok tt
ends_well Blocks Report ks ended run ending text at h ends = subst (λ r. IsRunEnding r ending) h.0 ends
ends_well Blocks Report ks (refused fault) run ending text at h ends = absurd (cc)

module _ (n : Tables) (file : List ℕ) (whole : (spelled_for n file).stop ≡ ended) (ending : Ending) (text : List ℕ) where
  -- so does that of a schedule of which no line is refused
  schedule_well : (lines : List ℕ) (Reports : List ℕ → Type 0) (Refuses : ℕ → Type 0) → length lines ≤ 67108864 → ((line : ℕ) → Refuses line → ⊥) → EndsBySchedule n file lines Reports Refuses ending text → ending ≡ Ok tt
  schedule_well lines Reports Refuses short none (inl h) = h.0
  schedule_well lines Reports Refuses short none (inr (empty, inl h)) = absurd (let e : refused h.0 ≡ ended = sym h.1 ∙ whole in cc)
  schedule_well lines Reports Refuses short none (inr (empty, inr (inl h))) = absurd (let long = h.1 in omega (arith, long, short))
  schedule_well lines Reports Refuses short none (inr (empty, inr (inr h))) = absurd (none h.0 h.1)

  rounds_well : (hops : Bool) → RoundsTo n hops file ending text → ending ≡ Ok tt
  rounds_well hops (inl h) = h.0
  rounds_well hops (inr h) = absurd (let e : refused h.1.0 ≡ ended = sym h.1.1 ∙ whole in cc)

-- tables without `--on-demand` are of version 2
in_order_two : (on_demand : Bool) (version : ℕ) → version ≡ version_of on_demand → on_demand ≡ false → version ≡ 1 → ⊥
in_order_two on_demand version is without one = let two : version ≡ 2 = is ∙ ap version_of without in omega (arith, one, two)

module _ (later : Files) (tables packets : List ℕ) (on_demand hops : Bool) (n : Tables) (form : IsWellFormed n) (version : n.version ≡ version_of on_demand)
    (is : TablesOf (file_of later tables) (Ok n)) (whole : (spelled_for n (file_of later packets)).stop ≡ ended) (ending : Ending) (text : List ℕ) where
  abbrev file : List ℕ
  file = file_of later packets

  abbrev ks : List (List ℕ)
  ks = (spelled_for n file).packets

  turns_well : (lines : Option (List ℕ)) → TurnsCanBeDone later tables packets lines → TurnsTo n hops file (option_map (file_of later) lines) ending text → ending ≡ Ok tt
  turns_well None can h = ends_well (turns.ArePlainBlocks n hops) (turns.IsPlainReport n hops) ks (spelled_for n file).stop h.0 ending text whole h.1 h.2
  turns_well (Some lines) can h =
      let done = can.lead n is in
      schedule_well n file whole ending text (file_of later lines) (turns.HasScheduleReport n hops file (file_of later lines)) (turns.RefusesScheduleLine n file (file_of later lines)) can.short
      (λ line stuck. ended_or_refused_in_order n form ks (lines_of (file_of later lines)) done.0 done.1 done.2 done.3 line stuck.1) h

  ran_well : (order : Order) → OrderCanBeDone on_demand later tables packets order → NetworkRunsTo later n packets hops order ending text → ending ≡ Ok tt
  ran_well plain can h = ends_well (ArePlainBlocks n hops) (IsPlainReport n hops) ks (spelled_for n file).stop h.0 ending text whole h.1 h.2
  ran_well (schedule lines) can h =
      let done = can.lead n is in
      schedule_well n file whole ending text (file_of later lines) (HasScheduleReport n hops file (file_of later lines)) (RefusesScheduleLine n file (file_of later lines)) can.short
      (λ line stuck. ended_or_refused n form ks (lines_of (file_of later lines)) done.0 done.1 done.2 done.3 line stuck.1) h
  ran_well (changes lines) can h = absurd can
  ran_well (in_order lines) can (inl h) = absurd (in_order_two on_demand n.version version can.0 h.0)
  ran_well (in_order lines) can (inr h) = turns_well lines can.1 h.1
  ran_well (rounds workers) can (inl h) = absurd (in_order_two on_demand n.version version can h.0)
  ran_well (rounds workers) can (inr h) = rounds_well n file whole ending text hops h.1

changed_well : (first : Tables) (later : List Later) (hops : Bool) (ks : List (List ℕ)) (stop : Stop) (run : RunEnding) (ending : Ending) (text : List ℕ) → stop ≡ ended → EndsAsRead first later hops ks stop run text → IsRunEnding run ending → ending ≡ Ok tt
changed_well first later hops ks ended run ending text at h ends = subst (λ r. IsRunEnding r ending) h.0 ends
changed_well first later hops ks (refused fault) run ending text at h ends = absurd (cc)

-- ---- the command
module _ (spells : SpellsOneProgram) (exactly : AnswersExactly) (compiles : CompilesExactly) where
  pub traces_answer : TracesAnswer
  traces_answer c later tables packets wrote names order can hops =
      let n = written spells exactly compiles c (file_of later tables) wrote in
      let whole = taken_whole c.p.fields (file_of later packets) n.0 c.t.ports n.1.fields n.1.ports names in
      answers_zero exactly later (trace tables packets hops order)
      (λ e ends. let run = ran c later tables packets hops order n.0 n.1 e ends in ran_well later tables packets c.on_demand hops n.0 n.1.form n.1.version run.0 whole e run.1.0 order can run.1.1)

  module _ (call : List ℕ → CompileCall) (later : Files) (tables : List ℕ) (first : Tables) (of : IsFileOf (call tables) (file_of later tables) first) where
    abbrev Follows : (name : List ℕ) → Type 0
    Follows name = CanFollow (call tables) (call name) (file_of later name)

    abbrev AllFollow : List Change → Type 0
    AllFollow cs = All (λ (c : Change). Follows c.name) cs

    -- the tables of a change have the shape of the first, and the ports of the topology
    follows : (name : List ℕ) → Follows name → (t : Tables) → TablesOf (file_of later name) (Ok t) → HaveOneShape t first × (t.ports ≡ (call name).t.ports)
    follows name can t read =
        let n = written spells exactly compiles (call name) (file_of later name) can.wrote in
        let same : t ≡ n.0 = (let e = n.1.only (Ok t) read in cc) in (
          record {
            fields = ap (λ (x : Tables). x.fields) same ∙ n.1.fields ∙ can.alike.fields ∙ sym of.fields;
            names = ap (λ (x : Tables). array_names x) same ∙ n.1.names ∙ can.alike.arrays ∙ sym of.names;
          },
          ap (λ (x : Tables). x.ports) same ∙ n.1.ports,
        )

    not_refused : (c : Change) → Follows c.name → (e : Refusal) → RefusesLater later first c e → ⊥
    not_refused c can e (inl why) = absurd (let x = (written spells exactly compiles (call c.name) (file_of later c.name) can.wrote).1.only (Err e) why in cc)
    not_refused c can e (inr (t, read, apart, is)) = apart (follows c.name can t read).0

    later_well : (cs : List Change) → AllFollow cs → (r : Result (List Later) Refusal) → LaterOf later first cs r → (ls : List Later) × (r ≡ Ok ls)
    later_well [] all r h = ([], h)
    later_well (c ∷ cs) all r (inl h) = absurd (not_refused c (All-head (λ (x : Change). Follows x.name) c cs all) h.0 h.1)
    later_well (c ∷ cs) all r (inr (l, is, (others, rest, same))) =
        let on = later_well cs (All-tail (λ (x : Change). Follows x.name) c cs all) others rest in
        (l ∷ on.0, same ∙ ap (before (l ∷ [])) on.1)

    module _ (lines : List ℕ) (said : List Change) (says : ChangesOf (file_of later lines) (Ok said)) (all : AllFollow said) where
      is_said : (cs : List Change) → ChangesOf (file_of later lines) (Ok cs) → cs ≡ said
      is_said cs also = let e = said_once (file_of later lines) (Ok cs) (Ok said) also says in cc

      tables_well : (e : Refusal) → ChangedTables later first lines (Err e) → ⊥
      tables_well e (inl h) = let x = said_once (file_of later lines) (Ok said) (Err h.0) says h.1 in absurd (cc)
      tables_well e (inr h) = let x = (later_well said all (Err e) (subst (λ cs. LaterOf later first cs (Err e)) (is_said h.0 h.1) h.2)).1 in absurd (cc)

      changes_well : (packets : List ℕ) → NamePorts (call tables).p.fields (λ i. ports_of (call (file_in_force tables said i)).t) (file_of later packets) → (hops : Bool) (e : Ending) (text : List ℕ)
          → ChangesTo later first packets hops lines e text → e ≡ Ok tt
      changes_well packets names hops e text (inl h) = absurd (tables_well h.0 h.1)
      changes_well packets names hops e text (inr h) =
          let known = changes_read later first lines h.0 h.1 in
          let was = subst (λ cs. AreRead later first cs h.0) (is_said known.0 known.1) known.2 in
          let ports : (i : ℕ) → (in_force first h.0 i).ports ≡ (call (file_in_force tables said i)).t.ports = λ i.
          read_in_force later first (λ name t. t.ports ≡ (call name).t.ports) i was Follows all (λ name can t is. (follows name can t is).1) tables first of.ports in
          let read = spelled_under first h.0 (file_of later packets) in
          changed_well first h.0 hops read.packets read.stop h.2.0 e text
          (taken_under (call tables).p.fields (file_of later packets) first h.0 (λ i. (call (file_in_force tables said i)).t.ports) of.fields ports names) h.2.1 h.2.2

  pub changes_answer : ChangesAnswer
  changes_answer call later tables packets lines said wrote says all names hops =
      let n = written spells exactly compiles (call tables) (file_of later tables) wrote in
      answers_zero exactly later (trace tables packets hops (changes lines))
      (λ e ends. let run = ran (call tables) later tables packets hops (changes lines) n.0 n.1 e ends in changes_well call later tables n.0 n.1 lines said says all packets names hops e run.1.0 run.1.1)
