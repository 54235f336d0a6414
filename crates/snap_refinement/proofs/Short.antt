-- Copies of faithful tables make few hops.
use Rattle.std.proofs.Common.{◌≡◌, ℕ, ◌+◌, ◌≤◌, List, [], ◌∷◌, ◌++◌, length, take, drop, sym, subst}
use Rattle.std.specs.List.{All}
use Rattle.std.proofs.lemmas.List.Elements.{All-nil, All-cons, All-head, All-tail, All-append}
use Rattle.snap_core.proofs.Elements.{All-back}
use Rattle.snap_core.specs.declared.program.Program.{Program}
use Rattle.snap_core.specs.Arrays.{Arrays, zero_arrays}
use Rattle.snap_dep.specs.Ranks.{IsRank}
use Rattle.snap_topology.specs.declared.topology.Topology.{Topology}
use Rattle.snap_topology.specs.Walks.{IsDiameter, Linked}
use Rattle.snap_rows.specs.declared.tables.Tables.{Tables}
use Rattle.snap_rows.specs.Actions.{Action, Forward, Deliver, Fork}
use Rattle.snap_rows.specs.Network.{Copy, Event, Inject, Step, Happening, IsPlainRun, Leads, inject, step, happening, stepped, Net, Run, Runs, done, on, packets_of}
use Rattle.snap_rows.proofs.Rows.{All-get}
use Rattle.snap_rows.proofs.Runs.{sequential-run, runs-then}
use Rattle.snap_faithful.specs.Faithful.{Faithful, IsPacketOf, IsStoreOf, IsWithin, most_hops}
use Rattle.snap_runs.specs.Plain.{entering}
use Rattle.snap_refinement.specs.Laws.{IsHopWithin}
use Rattle.snap_refinement.proofs.Entered.{IsOfProgram, no_numbers, entering-fits, all_enter}

module _ (p : Program) where
  -- an event that lets a packet in lets one of the program in
  abbrev Fits : Event → Type 0
  Fits (Inject port k) = IsPacketOf p k
  Fits (Step i) = Unit {0}

  events_fit : (es : List Event) → All (IsOfProgram p) (packets_of es) → All Fits es
  events_fit [] all = All-nil Fits
  events_fit (Inject port k ∷ es) all = All-cons Fits (Inject port k) es (All-head (IsOfProgram p) (port, k) (packets_of es) all) (events_fit es (All-tail (IsOfProgram p) (port, k) (packets_of es) all))
  events_fit (Step i ∷ es) all = All-cons Fits (Step i) es tt (events_fit es all)

  packets_fit : (es : List Event) → All Fits es → All (IsOfProgram p) (packets_of es)
  packets_fit [] all = All-nil (IsOfProgram p)
  packets_fit (Inject port k ∷ es) all = All-cons (IsOfProgram p) (port, k) (packets_of es) (All-head Fits (Inject port k) es all) (packets_fit es (All-tail Fits (Inject port k) es all))
  packets_fit (Step i ∷ es) all = packets_fit es (All-tail Fits (Step i) es all)

module _ (most : ℕ) where
  abbrev IsNear : Copy → Type 0
  IsNear c = (c.hops ≤ most) × (c.steps ≤ most + 2)

  -- what happens in one step, where all copies before and after it have made few hops
  one_hop : {t : Tables} {s s' : Net} {e : Event} {h : List Happening} → All IsNear s.flying → All IsNear s'.flying → Leads t s e s' h → All (IsHopWithin most) h
  one_hop before after (inject own names) = All-nil (IsHopWithin most)
  one_hop {s = s} before after (step {i = i} {c = c} {m = m} {a = a} found does) = All-cons (IsHopWithin most) (happening c a) [] (by a after) (All-nil (IsHopWithin most))
    where
      here : c.hops ≤ most
      here = (All-get IsNear s.flying i c before found).0

      by : (a : Action) → All IsNear (stepped s i c m a).flying → IsHopWithin most (happening c a)
      by (Forward to head) near =
          let moved : Copy = record c { at = to; head = head; hops = c.hops + 1; steps = c.steps + 1 } in
          (All-head IsNear moved (drop (i + 1) s.flying) (All-back IsNear (take i s.flying) (moved ∷ drop (i + 1) s.flying) near)).0
      by (Deliver port) near = here
      by (Fork copies lost) near = here

module _ (p : Program) (topology : Topology) (places : List ℕ) (t : Tables) (faithful : Faithful p topology places t)
    (order : List ℕ) (d : ℕ) (rank : IsRank p.body (length p.arrays) order) (greatest : IsDiameter (Linked topology.links) (length topology.switches) d) (m : Arrays) (store : IsStoreOf p m) where
  abbrev most : ℕ
  most = most_hops t.version (length order) d

  within : (es : List Event) (s : Net) (hs : List Happening) → All (Fits p) es → Run t m es s hs → IsWithin most s hs
  within es s hs fits run = faithful.hop_bound order d rank greatest m es s hs store (all_enter t p (packets_fit p es fits) run) run

  -- after some events have led here
  from_here : {s s' : Net} {es : List Event} {hs : List Happening} (first : List Event) (happened : List Happening) → All (Fits p) first → All (Fits p) es → Run t m first s happened → Runs t s es s' hs → All (IsHopWithin most) hs
  from_here first happened fits later run done = All-nil (IsHopWithin most)
  from_here first happened fits later run (on {s = s} {s' = s1} {e = e} {es = es} {h = h} {hs = hs} leads onward) =
      let more : Run t m (first ++ e ∷ []) s1 (happened ++ h) = runs-then e s1 h run leads in
      let all : All (Fits p) (first ++ e ∷ []) = All-append (Fits p) first (e ∷ []) fits (All-cons (Fits p) e [] (All-head (Fits p) e es later) (All-nil (Fits p))) in
      All-append (IsHopWithin most) h hs
      (one_hop most (within first s happened fits run).flying (within (first ++ e ∷ []) s1 (happened ++ h) all more).flying leads)
      (from_here (first ++ e ∷ []) (happened ++ h) all (All-tail (Fits p) e es later) more onward)

  -- from each store
  pub short_from : (es : List Event) (s : Net) (hs : List Happening) → All (IsOfProgram p) (packets_of es) → Run t m es s hs → All (IsHopWithin (most_hops t.version (length order) d)) hs
  short_from es s hs fits run = from_here [] [] (All-nil (Fits p)) (events_fit p es fits) done run

module _ (p : Program) (topology : Topology) (places : List ℕ) (t : Tables) (faithful : Faithful p topology places t)
    (order : List ℕ) (d : ℕ) (rank : IsRank p.body (length p.arrays) order) (greatest : IsDiameter (Linked topology.links) (length topology.switches) d) where
  pub short_runs : (ks : List (List ℕ)) → All (IsPacketOf p) ks → (es : List Event) (s : Net) (hs : List Happening) → packets_of es ≡ entering ks → Run t zero_arrays es s hs → All (IsHopWithin (most_hops t.version (length order) d)) hs
  short_runs ks packets es s hs enter run =
      short_from p topology places t faithful order d rank greatest zero_arrays (no_numbers p) es s hs (subst (All (IsOfProgram p)) (sym enter) (entering-fits p ks packets)) run

  pub short_plain : (ks : List (List ℕ)) → All (IsPacketOf p) ks → (es : List Event) (s : Net) (hs : List Happening) → IsPlainRun t zero_arrays (entering ks) es s hs → All (IsHopWithin (most_hops t.version (length order) d)) hs
  short_plain ks packets es s hs plain = short_runs ks packets es s hs plain.packets (sequential-run plain.run)
