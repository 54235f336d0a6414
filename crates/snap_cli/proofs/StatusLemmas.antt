-- The statuses of refusals and of endings.
use Rattle.std.proofs.Common.{◌≡◌, ◌⊎◌, ◌||◌, ◌==◌, ℕ, Bool, true, false, List, [], ◌∷◌, Option, Some, None, Result, Ok, Err, IfErr, IfSome, IsErrOf, inl, inr, refl, sym, subst}
use Rattle.std.proofs.lemmas.Bool.{and_parts, eqb-true}
use Rattle.std.specs.Global.{Vec}
use Rattle.std.specs.List.{list_all, list_any}
use Rattle.snap_runs.specs.declared.change.ChangesFault.{ChangesFault}
use Rattle.snap_runs.specs.declared.change.ChangesFault.TheVariants as change
use Rattle.snap_runs.specs.ChangeLines.{changes_of}
use Rattle.snap_placement.specs.declared.placement.PlaceFault.{PlaceFault}
use Rattle.snap_placement.specs.declared.placement.PlaceFault.TheVariants as place
use Rattle.snap_topology.specs.declared.table.RouteFault.{RouteFault}
use Rattle.snap_topology.specs.declared.table.RouteFault.TheVariants as route
use Rattle.snap_rows.specs.declared.tables.Tables.{Tables as Made}
use Rattle.snap_runs.specs.declared.schedule.ScheduleFault.TheVariants as lined
use Rattle.snap_placement.specs.declared.demand.DemandFault.{DemandFault}
use Rattle.snap_placement.specs.declared.demand.DemandFault.TheVariants as seek
use Rattle.snap_topology.specs.declared.topology.TopoFault.{TopoFault}
use Rattle.snap_topology.specs.declared.topology.TopoFault.TheVariants as topo
use Rattle.snap_report.specs.declared.fault.TraceFault.TheVariants as run
use Rattle.snap_cli.specs.Changes.{said_changes}
use Rattle.snap_cli.specs.ChangesSteps.{ReadsChanges}
use Rattle.snap_cli.specs.Check.{MeetsCheck}
use Rattle.snap_cli.specs.CompileSteps.{Compiles}
use Rattle.snap_cli.specs.Demo.{MeetsSummary}
use Rattle.snap_cli.specs.Deps.{MeetsText}
use Rattle.snap_cli.specs.Equal.{MeetsEqual}
use Rattle.snap_cli.specs.Place.{refusal_of_demand}
use Rattle.snap_cli.specs.PlaceSteps.{Places}
use Rattle.snap_cli.specs.PlacementOf.{SpellsPlacement, refusal_of_placement}
use Rattle.snap_cli.specs.RoutesSteps.{MeetsTopology, Writes, refusal_of_routes, refusal_of_topology}
use Rattle.snap_cli.specs.RunSteps.{refusal_of_schedule}
use Rattle.snap_cli.specs.Statuses.{CanAnswer, EndsWith, IsOneOf, RefusesWith, statuses_of_trace}
use Rattle.snap_cli.specs.Steps.{SpellsProgram, refusal_of_run}
use Rattle.snap_cli.specs.TraceSteps.{ReadsTables}
use Rattle.snap_cli.proofs.Shared.{Bor, Change, Command, Ending, EndsJudged, NoMemory, plain, Program, Race, Read, ReadChange, Refusal, routes_text, schedule, ScheduleFault, status_of, Table, Topology, TraceFault}

-- ---- lists
-- all of these are among those
abbrev pub are_among : (some more : List ℕ) → Bool
are_among some more = list_all (λ x. list_any (λ s. s == x) more) some

wider_by : (some more : List ℕ) (status x : ℕ) (b : Bool) → (x == status) ≡ b → (b || list_any (λ s. s == status) some) ≡ true
    → list_any (λ s. s == x) more ≡ true → (IsOneOf some status → IsOneOf more status) → IsOneOf more status
wider_by some more status x true same is here rest = subst (λ n. list_any (λ s. s == n) more ≡ true) (eqb-true x status same) here
wider_by some more status x false same is here rest = rest is

-- a status of some list is one of a list that has all of them
pub wider : (some more : List ℕ) (status : ℕ) → are_among some more ≡ true → IsOneOf some status → IsOneOf more status
wider [] more status all is = absurd (cc)
wider (x ∷ some) more status all is =
    let both = and_parts (list_any (λ s. s == x) more) (are_among some more) all in
    wider_by some more status x (x == status) refl is both.0 (wider some more status both.1)

pub refuses-more : (some more : List ℕ) (e : Refusal) → are_among (14 ∷ some) (14 ∷ more) ≡ true → RefusesWith some e → RefusesWith more e
refuses-more some more e all h = wider (14 ∷ some) (14 ∷ more) (status_of (Err e)) all h

pub any-refuses-more : {T : Type 0} (some more : List ℕ) (r : Result T Refusal) → are_among (14 ∷ some) (14 ∷ more) ≡ true → IfErr r (RefusesWith some) → IfErr r (RefusesWith more)
any-refuses-more some more (Ok t) all h = tt
any-refuses-more some more (Err e) all h = refuses-more some more e all h

pub ends-refused : (some more : List ℕ) (e : Refusal) → are_among (14 ∷ some) (0 ∷ 3 ∷ 14 ∷ more) ≡ true → RefusesWith some e → EndsWith more (Err e)
ends-refused some more e all h = wider (14 ∷ some) (0 ∷ 3 ∷ 14 ∷ more) (status_of (Err e)) all h

pub ends-more : (some more : List ℕ) (ending : Ending) → are_among (0 ∷ 3 ∷ 14 ∷ some) (0 ∷ 3 ∷ 14 ∷ more) ≡ true → EndsWith some ending → EndsWith more ending
ends-more some more ending all h = wider (0 ∷ 3 ∷ 14 ∷ some) (0 ∷ 3 ∷ 14 ∷ more) (status_of ending) all h

-- ---- refusals of steps that read
pub of-program : (text : List ℕ) (r : Result Program Refusal) → SpellsProgram text r → IfErr r (RefusesWith (2 ∷ 4 ∷ 5 ∷ 6 ∷ []))
of-program text (Err NoMemory) h = refl
of-program text r h = search

pub of-topology : (fault : TopoFault) → RefusesWith (2 ∷ 6 ∷ 7 ∷ []) (refusal_of_topology fault)
of-topology topo.NoMemory = refl
of-topology fault = refl

pub of-routes : (switches : List (List ℕ)) (fault : RouteFault) → RefusesWith (2 ∷ 6 ∷ 7 ∷ 8 ∷ []) (refusal_of_routes switches fault)
of-routes switches (route.Unreachable a b) = refl
of-routes switches route.NoMemory = refl

of-demand : (arrays : List (List ℕ)) (fault : DemandFault) → RefusesWith (2 ∷ 6 ∷ 19 ∷ []) (refusal_of_demand arrays fault)
of-demand arrays seek.NoMemory = refl
of-demand arrays fault = refl

pub of-places : (p : Program) (t : Topology) (table : Table) (text : List ℕ) (r : Result (Vec ℕ) Refusal) → Places p t table text r → IfErr r (RefusesWith (2 ∷ 6 ∷ 19 ∷ []))
of-places p t table text (Ok made) h = tt
of-places p t table text (Err NoMemory) h = refl
of-places p t table text (Err (Read name)) h = absurd h
of-places p t table text (Err (ReadChange name)) h = absurd h
of-places p t table text (Err e) h = subst (RefusesWith (2 ∷ 6 ∷ 19 ∷ [])) (sym h.is) (of-demand p.arrays h.fault)

of-placement : (arrays : List (List ℕ)) (fault : PlaceFault) → RefusesWith (2 ∷ 6 ∷ 9 ∷ 10 ∷ []) (refusal_of_placement arrays fault)
of-placement arrays place.NoMemory = refl
of-placement arrays fault = refl

-- a program that was read races
of-judged : (p : Program) (e : Refusal) → EndsJudged p (Err e) → RefusesWith (2 ∷ 6 ∷ 9 ∷ 10 ∷ []) e
of-judged p (Race told) h = refl
of-judged p e h = absurd h

of-no_tables : (p : Program) (t : Topology) (text : List ℕ) (e : Refusal)
    → SpellsPlacement p t text (Err e) ⊎ ((places : List ℕ) × SpellsPlacement p t text (Ok places) × EndsJudged p (Err e)) → RefusesWith (2 ∷ 6 ∷ 9 ∷ 10 ∷ []) e
of-no_tables p t text e (inl h) = subst (RefusesWith (2 ∷ 6 ∷ 9 ∷ 10 ∷ [])) (sym h.2) (of-placement p.arrays h.0)
of-no_tables p t text e (inr h) = of-judged p e h.2

pub of-compiles : (p : Program) (t : Topology) (text : List ℕ) (on_demand : Bool) (r : Result Made Refusal) → Compiles p t text on_demand r → IfErr r (RefusesWith (2 ∷ 6 ∷ 9 ∷ 10 ∷ []))
of-compiles p t text on_demand (Ok made) h = tt
of-compiles p t text on_demand (Err NoMemory) h = refl
of-compiles p t text on_demand (Err (Read name)) h = absurd h
of-compiles p t text on_demand (Err (ReadChange name)) h = absurd h
of-compiles p t text on_demand (Err e) h = of-no_tables p t text e h

pub of-tables : (text : List ℕ) (r : Result Made Refusal) → ReadsTables text r → IfErr r (RefusesWith (2 ∷ 6 ∷ 11 ∷ []))
of-tables text (Err NoMemory) h = refl
of-tables text r h = search

of-change : (said : Result (List Change) ChangesFault) → IfErr (said_changes said) (RefusesWith (2 ∷ 6 ∷ 20 ∷ []))
of-change (Ok changes) = tt
of-change (Err change.NoMemory) = refl
of-change (Err fault) = refl

pub of-changes : (text : List ℕ) (r : Result (Vec Change) Refusal) → ReadsChanges text r → IfErr r (RefusesWith (2 ∷ 6 ∷ 20 ∷ []))
of-changes text (Ok changes) h = tt
of-changes text (Err NoMemory) h = refl
of-changes text (Err (Read name)) h = absurd h
of-changes text (Err (ReadChange name)) h = absurd h
of-changes text (Err e) h = subst (λ r. IfErr r (RefusesWith (2 ∷ 6 ∷ 20 ∷ []))) h (of-change (changes_of text))

-- ---- endings of runs
pub of-run : (packets : Bor (List ℕ)) (fault : TraceFault) → EndsWith (2 ∷ 6 ∷ 12 ∷ 15 ∷ []) (Err (refusal_of_run packets fault))
of-run packets run.NoMemory = refl
of-run packets fault = refl

-- evaluation is no part of a run of tables
pub of-traced : (packets : Bor (List ℕ)) (fault : TraceFault) → ((packet : ℕ) → IsErrOf {T = Unit {0}} (Err fault) (run.Undefined packet) → ⊥)
    → EndsWith (statuses_of_trace plain) (Err (refusal_of_run packets fault))
of-traced packets (run.Undefined packet) defined = absurd (defined packet refl)
of-traced packets fault defined = refl

pub of-scheduled : (packets lines : Bor (List ℕ)) (fault : ScheduleFault) → ((packet : ℕ) → IsErrOf {T = Unit {0}} (Err fault) (lined.Packets (run.Undefined packet)) → ⊥)
    → EndsWith (statuses_of_trace (schedule lines.now)) (Err (refusal_of_schedule packets lines fault))
of-scheduled packets lines (lined.Packets (run.Undefined packet)) defined = absurd (defined packet refl)
of-scheduled packets lines fault defined = refl

-- ---- endings of steps that write
pub ends-text : (p : Program) (ending : Ending) (old new : Option (List ℕ)) → MeetsText p ending old new → EndsWith (2 ∷ 4 ∷ 5 ∷ 6 ∷ []) ending
ends-text p (Err NoMemory) old new h = refl
ends-text p ending old new h = search

pub ends-check : (p : Program) (ending : Ending) (old new : Option (List ℕ)) → MeetsCheck p ending old new → EndsWith (2 ∷ 4 ∷ 5 ∷ 6 ∷ 10 ∷ []) ending
ends-check p (Err NoMemory) old new h = refl
ends-check p ending old new h = search

pub ends-equal : (p q : Program) (ending : Ending) (old new : Option (List ℕ)) → MeetsEqual p q ending old new → EndsWith (2 ∷ 4 ∷ 5 ∷ 6 ∷ 10 ∷ 17 ∷ 18 ∷ []) ending
ends-equal p q (Err NoMemory) old new h = refl
ends-equal p q ending old new h = search

pub ends-written : (text : List ℕ) (more : List ℕ) (ending : Ending) (old new : Option (List ℕ)) → Writes text ending old new → EndsWith more ending
ends-written text more (Err NoMemory) old new h = refl
ends-written text more ending old new h = search

pub ends-routes : (t : Topology) (ending : Ending) (old new : Option (List ℕ)) → MeetsTopology t ending old new → EndsWith (2 ∷ 6 ∷ 7 ∷ 8 ∷ []) ending
ends-routes t ending old new (inl (table, are, written)) = ends-written (routes_text t.switches table) (2 ∷ 6 ∷ 7 ∷ 8 ∷ []) ending old new written
ends-routes t ending old new (inr (inl apart)) = subst (EndsWith (2 ∷ 6 ∷ 7 ∷ 8 ∷ [])) (sym apart.is) refl
ends-routes t ending old new (inr (inr short)) = subst (EndsWith (2 ∷ 6 ∷ 7 ∷ 8 ∷ [])) (sym short.0) refl

pub ends-summary : (switches : ℕ) (ending : Ending) (old new : Option (List ℕ)) → MeetsSummary switches ending old new → EndsWith [] ending
ends-summary switches (Err NoMemory) old new h = refl
ends-summary switches ending old new h = search

-- ---- the top call
-- memory may be short whatever the words say
pub any-short : (said : Option Command) → IfSome said (λ command. CanAnswer command 14)
any-short None = tt
any-short (Some command) = refl
