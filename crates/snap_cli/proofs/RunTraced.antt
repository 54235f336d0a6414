-- What is compiled and then traced is what one big switch does, in each order of events, with hops or without.
use Rattle.std.proofs.Common.{◌≡◌, ◌⊎◌, ℕ, Bool, false, List, [], length, Option, Some, None, Ok, refl, sym, subst, ◌∙◌, inl, inr}
use Rattle.snap_rows.specs.Happenings.{commits}
use Rattle.snap_rows.specs.SingleOwner.{IsSingleOwner}
use Rattle.snap_rows.specs.Network.{Happening}
use Rattle.snap_faithful.specs.Agreement.{numbered}
use Rattle.snap_faithful.specs.Faithful.{most_hops}
use Rattle.snap_runs.specs.Laws.{SequentialSchedulesRunSequentially, RunsReportWithoutHops, SchedulesKeepOrder}
use Rattle.snap_runs.specs.Reports.{IsRunReportBy}
use Rattle.snap_runs.specs.Schedules.{IsSequential, IsScheduleReport}
use Rattle.snap_refinement.specs.InOrder.{IsSwitchReportIn, SingleOwnerRunsReportInForkOrder, TheReportIsInOrder}
use Rattle.snap_refinement.specs.Laws.{SequentialRunsReportOneSwitch, IsHopWithin, PlainRunsAreShort, PlainRunsReportOneSwitch, RunsAreShort}
use Rattle.snap_refinement.specs.OneSwitch.{IsSwitchReport}
use Rattle.snap_order.specs.OneRounds.{RoundsRunToEnds}
use Rattle.snap_order.specs.OneSwitch.{PlainRunsInOrderReportOneSwitch, RunsByRoundsReportOneSwitch, SchedulesInOrderReportOneSwitch}
use Rattle.snap_order.specs.Ordered.{happenings}
use Rattle.snap_order.specs.Rounds.{IsRoundReport}
use Rattle.snap_order.specs.ShortTurns.{PlainRunsInOrderAreShort, RunsInOrderAreShort}
use Rattle.snap_cli.specs.Compile.{version_of}
use Rattle.snap_cli.specs.Headline.{MakesFewHops, RunByOrder, TakeEffectIn, TellsByOrder, TracesByOrder, frames_of}
use Rattle.snap_cli.specs.Laws.{RoundsExactly, SchedulesExactly, TurnsExactly}
use Rattle.snap_cli.proofs.Shared.{All, AnswersExactly, CompilesExactly, ended, Faithful, file_of, Files, in_order, IsPacketOf, IsPlainReport, lines_of, option_map, Order, plain, ports_of, Program, rounds, schedule, spelled, SpelledForIsSpelled, SpelledPacketsFit, Tables, TablesOf, Topology, TracesExactly}
use Rattle.snap_cli.proofs.InOrderTraced.{IsTurnsReport, in_order_ran}
use Rattle.snap_cli.proofs.RoundsTraced.{rounds_ran}
use Rattle.snap_cli.proofs.ScheduleTraced.{scheduled}
use Rattle.snap_cli.proofs.Traced.{plain_ran, told}

module _ (without : RunsReportWithoutHops) (in_order_is : TheReportIsInOrder) where
  -- a run is told by its report
  tells : (files : Files) (order : Order) (file : List ℕ) (p : Program) (topology : Topology) (on_demand : Bool) (ks : List (List ℕ)) (hops : Bool) (text : List ℕ) (r : RunByOrder files order file ks)
      → IsRunReportBy (frames_of order) r.tables hops (length ks) r.end r.happenings text
      → ((report : List ℕ) → IsRunReportBy (frames_of order) r.tables false (length ks) r.end r.happenings report
      → (numbers : List ℕ) → TakeEffectIn files order r.tables ks r.happenings numbers → IsSwitchReportIn p (ports_of topology) ks numbers report)
      → MakesFewHops p topology on_demand r.happenings → TellsByOrder files order file p topology on_demand ks hops text
  tells files order file p topology on_demand ks hops text r report one short =
      let bare = without (frames_of order) r.tables hops (length ks) r.end r.happenings text report in
      record { run = r; report = report; plain = bare.0; plain_report = bare.1; same = bare.2; one_switch = one bare.0 bare.1; short = short }

  -- the bound of tables of this version is that of the words
  few_hops : (on_demand : Bool) (version groups d : ℕ) (hs : List Happening) → version ≡ version_of on_demand → All (IsHopWithin (most_hops version groups d)) hs → All (IsHopWithin (most_hops (version_of on_demand) groups d)) hs
  few_hops on_demand version groups d hs is short = subst (λ v. All (IsHopWithin (most_hops v groups d)) hs) is short

  -- in the order of the packets' numbers
  as_injected : (p : Program) (ports : List ℕ) (ks : List (List ℕ)) (text : List ℕ) → IsSwitchReport p ports ks text → (numbers : List ℕ) → numbers ≡ numbered ks → IsSwitchReportIn p ports ks numbers text
  as_injected p ports ks text one numbers is = subst (λ l. IsSwitchReportIn p ports ks l text) (sym is) (in_order_is p ports ks text one)

  module _ (exactly : AnswersExactly) (compiles : CompilesExactly) (fit : SpelledPacketsFit) (whole : SpelledForIsSpelled) where
    -- ---- one packet after another
    pub plain_traces : TracesExactly → PlainRunsReportOneSwitch → PlainRunsAreShort → TracesByOrder plain
    plain_traces traces one short files later program topology placement tables packets on_demand hops output report c is d =
        let x = told exactly compiles fit whole (λ n ks. IsPlainReport n hops ks report) files later program topology placement tables packets on_demand hops plain output report c is d
        (plain_ran traces later tables packets hops report d) in
        let ks = (spelled x.p.fields (file_of later packets)).packets in
        let r = x.holds in (
          x.p,
          x.t,
          x.given,
          tells later plain (file_of later tables) x.p x.t on_demand ks hops report
              (record { tables = x.n; read = x.read; end = r.end; happenings = r.happenings; goes = (r.events, r.run) }) r.report
              (λ text told. as_injected x.p (ports_of x.t) ks text
              (one x.p x.t x.places x.n x.faithful ks x.fits text (record { events = r.events; end = r.end; happenings = r.happenings; run = r.run; report = told })))
              (λ groups most rank greatest. few_hops on_demand x.n.version (length groups) most r.happenings x.version
              (short x.p x.t x.places x.n x.faithful groups most rank greatest ks x.fits r.events r.end r.happenings r.run)),
        )

    -- ---- by a schedule
    module _ (keeps : SchedulesKeepOrder) (sequentially : SequentialSchedulesRunSequentially) (sequential_one : SequentialRunsReportOneSwitch) (single_owner_one : SingleOwnerRunsReportInForkOrder) where
      by_schedule : (lines : List (List ℕ)) (p : Program) (topology : Topology) (places : List ℕ) (n : Tables) → Faithful p topology places n → (ks : List (List ℕ)) → All (IsPacketOf p) ks
          → (text : List ℕ) (r : IsScheduleReport n false ks lines text) → (numbers : List ℕ)
          → (IsSequential n ks lines × (numbers ≡ numbered ks)) ⊎ (IsSingleOwner n × (numbers ≡ commits r.happenings)) → IsSwitchReportIn p (ports_of topology) ks numbers text
      by_schedule lines p topology places n faithful ks fits text r numbers (inl (sequential, is)) =
          as_injected p (ports_of topology) ks text
          (sequential_one p topology places n faithful ks fits r.obeys.events r.state r.happenings (keeps lines ks r.obeys.events r.obeys.spells) (sequentially n ks lines [] r.state r.happenings sequential r.obeys) r.ended text r.report) numbers is
      by_schedule lines p topology places n faithful ks fits text r numbers (inr (single_owner, is)) =
          subst (λ l. IsSwitchReportIn p (ports_of topology) ks l text) (sym is)
          (single_owner_one p topology places n faithful single_owner ks fits r.obeys.events r.state r.happenings (keeps lines ks r.obeys.events r.obeys.spells) r.obeys.run r.ended text r.report)

      pub schedule_traces : SchedulesExactly → RunsAreShort → (lines : List ℕ) → TracesByOrder (schedule lines)
      schedule_traces schedules short lines files later program topology placement tables packets on_demand hops output report c is d =
          let x = told exactly compiles fit whole (λ n ks. IsScheduleReport n hops ks (lines_of (file_of later lines)) report) files later program topology placement tables packets on_demand hops (schedule lines) output report c is d
          (scheduled schedules later tables packets lines hops report d) in
          let ks = (spelled x.p.fields (file_of later packets)).packets in
          let r = x.holds in (
            x.p,
            x.t,
            x.given,
            tells later (schedule lines) (file_of later tables) x.p x.t on_demand ks hops report
                (record { tables = x.n; read = x.read; end = r.state; happenings = r.happenings; goes = (r.obeys, r.ended) }) r.report
                (λ text told. by_schedule (lines_of (file_of later lines)) x.p x.t x.places x.n x.faithful ks x.fits text (record { state = r.state; happenings = r.happenings; obeys = r.obeys; ended = r.ended; report = told }))
                (λ groups most rank greatest. few_hops on_demand x.n.version (length groups) most r.happenings x.version
                (short x.p x.t x.places x.n x.faithful groups most rank greatest ks x.fits r.obeys.events r.state r.happenings (keeps (lines_of (file_of later lines)) ks r.obeys.events r.obeys.spells) r.obeys.run)),
          )

    -- ---- in order
    module _ (one : PlainRunsInOrderReportOneSwitch) (lines_one : SchedulesInOrderReportOneSwitch) (keeps : SchedulesKeepOrder) (short : RunsInOrderAreShort) (plain_short : PlainRunsInOrderAreShort) where
      tells_turns : (later : Files) (lines : Option (List ℕ)) (on_demand hops : Bool) (file : List ℕ) (p : Program) (topology : Topology) (places : List ℕ) (n : Tables) → Faithful p topology places n → n.version ≡ 2 → 2 ≡ version_of on_demand → TablesOf file (Ok n)
          → (ks : List (List ℕ)) → All (IsPacketOf p) ks → (report : List ℕ) → IsTurnsReport n hops (option_map (file_of later) lines) ks report → TellsByOrder later (in_order lines) file p topology on_demand ks hops report
      tells_turns later None on_demand hops file p topology places n faithful two is read ks fits report r =
          tells later (in_order None) file p topology on_demand ks hops report
          (record { tables = n; read = read; end = r.end.net; happenings = happenings r.turns; goes = (r.end, r.turns, (r.events, r.run), refl, refl) }) r.report
          (λ text told. as_injected p (ports_of topology) ks text
          (one p topology places n faithful two ks fits text (record { events = r.events; end = r.end; turns = r.turns; run = r.run; report = told })))
          (λ groups most rank greatest. few_hops on_demand 2 (length groups) most (happenings r.turns) is (plain_short p topology places n faithful two groups most rank greatest ks fits r.events r.end r.turns r.run))
      tells_turns later (Some name) on_demand hops file p topology places n faithful two is read ks fits report r =
          let lines = lines_of (file_of later name) in
          tells later (in_order (Some name)) file p topology on_demand ks hops report
          (record { tables = n; read = read; end = r.state.net; happenings = happenings r.turns; goes = (r.state, r.turns, (r.obeys, r.ended), refl, refl) }) r.report
          (λ text told. as_injected p (ports_of topology) ks text
          (lines_one p topology places n faithful two ks fits lines text (record { state = r.state; turns = r.turns; obeys = r.obeys; ended = r.ended; report = told })))
          (λ groups most rank greatest. few_hops on_demand 2 (length groups) most (happenings r.turns) is
          (short p topology places n faithful two groups most rank greatest ks fits r.obeys.events r.state r.turns (keeps lines ks r.obeys.events r.obeys.spells) r.obeys.run))

      pub turn_traces : TurnsExactly → (lines : Option (List ℕ)) → TracesByOrder (in_order lines)
      turn_traces turns lines files later program topology placement tables packets on_demand hops output report c is d =
          let x = told exactly compiles fit whole (λ n ks. (n.version ≡ 2) × IsTurnsReport n hops (option_map (file_of later) lines) ks report) files later program topology placement tables packets on_demand hops (in_order lines) output report c is d
          (in_order_ran turns later tables packets lines hops report d) in (
            x.p,
            x.t,
            x.given,
            tells_turns later lines on_demand hops (file_of later tables) x.p x.t x.places x.n x.faithful x.holds.0 (sym x.holds.0 ∙ x.version) x.read (spelled x.p.fields (file_of later packets)).packets x.fits report x.holds.1,
          )

    -- ---- by rounds
    pub round_traces : RoundsExactly → RunsByRoundsReportOneSwitch → RoundsRunToEnds → RunsInOrderAreShort → (workers : ℕ) → TracesByOrder (rounds workers)
    round_traces by_rounds one ends short workers files later program topology placement tables packets on_demand hops output report c is d =
        let x = told exactly compiles fit whole (λ n ks. (n.version ≡ 2) × IsRoundReport n hops ks report) files later program topology placement tables packets on_demand hops (rounds workers) output report c is d
        (rounds_ran by_rounds later tables packets workers hops report d) in
        let ks = (spelled x.p.fields (file_of later packets)).packets in
        let two = x.holds.0 in
        let r = x.holds.1 in
        let to_end = ends x.n ks r.events r.end r.turns r.run in (
          x.p,
          x.t,
          x.given,
          tells later (rounds workers) (file_of later tables) x.p x.t on_demand ks hops report
              (record { tables = x.n; read = x.read; end = r.end.net; happenings = happenings r.turns; goes = (r.end, r.turns, (r.events, r.run), refl, refl) }) r.report
              (λ text told. as_injected x.p (ports_of x.t) ks text
              (one x.p x.t x.places x.n x.faithful two ks x.fits text (record { events = r.events; end = r.end; turns = r.turns; run = r.run; report = told })))
              (λ groups most rank greatest. few_hops on_demand 2 (length groups) most (happenings r.turns) (sym two ∙ x.version)
              (short x.p x.t x.places x.n x.faithful two groups most rank greatest ks x.fits r.events r.end r.turns to_end.packets to_end.run)),
        )
