-- Copies of runs in order make few hops.
use Rattle.std.proofs.Common.{◌≡◌, ℕ, ◌+◌, ◌*◌, ◌≤◌, List, [], ◌∷◌, ◌++◌, length, take, drop, sym, subst, append_assoc}
use Rattle.std.specs.List.{All}
use Rattle.std.proofs.lemmas.List.Elements.{All-nil, All-cons, All-head, All-tail, All-append}
use Rattle.snap_core.proofs.Elements.{All-back}
use Rattle.snap_core.specs.declared.program.Program.{Program}
use Rattle.snap_core.specs.Arrays.{zero_arrays}
use Rattle.snap_dep.specs.Ranks.{IsRank}
use Rattle.snap_topology.specs.declared.topology.Topology.{Topology}
use Rattle.snap_topology.specs.Walks.{IsDiameter, Linked}
use Rattle.snap_rows.specs.declared.tables.Tables.{Tables}
use Rattle.snap_rows.specs.Actions.{Action, Forward, Deliver, Fork}
use Rattle.snap_rows.specs.declared.head.Head.TheVariants.{Visit}
use Rattle.snap_rows.specs.Network.{Copy, Event, Inject, Step, done, on, happening, moved, packets_of}
use Rattle.snap_rows.proofs.Rows.{All-get}
use Rattle.snap_rows.proofs.Runs.{sequential-run, runs-then}
use Rattle.snap_faithful.specs.Faithful.{AllCanEnter, CanEnter, Faithful}
use Rattle.snap_faithful.specs.InOrder.{Becomes, SentOn, Waiting, Forks}
use Rattle.snap_refinement.specs.Laws.{IsHopWithin}
use Rattle.snap_refinement.proofs.Entered.{IsOfProgram, entering-fits, no_numbers}
use Rattle.snap_order.specs.Ordered.{LeadsInOrder, Ordered, OrderedRun, RunsInOrder, OrderedHappening, happenings, injects, left_by, moves, turn_of, visits, waits}
use Rattle.snap_order.specs.ShortTurns.{PlainRunsInOrderAreShort, RunsInOrderAreShort}
use Rattle.snap_order.proofs.Keeping.{keeps_order}
use Rattle.snap_order.proofs.OneSwitch.{all_enter}
use Rattle.snap_order.proofs.Overlap.{happenings_more}

-- the packets of some first events are among all
enter_first : (P : ℕ × List ℕ → Type 0) (first rest : List Event) → All P (packets_of (first ++ rest)) → All P (packets_of first)
enter_first P [] rest all = All-nil P
enter_first P (Inject port k ∷ first) rest all =
    All-cons P (port, k) (packets_of first) (All-head P (port, k) (packets_of (first ++ rest)) all) (enter_first P first rest (All-tail P (port, k) (packets_of (first ++ rest)) all))
enter_first P (Step i ∷ first) rest all = enter_first P first rest all

module _ (most : ℕ) where
  abbrev IsNear : Copy → Type 0
  IsNear c = c.hops ≤ most

  -- a copy that is sent on has made one hop more
  behind_moved : (before after : List Copy) (c : Copy) (a : Action) → c.hops ≤ most → All IsNear (before ++ (moved c a ++ after)) → IsHopWithin most (happening c a)
  behind_moved before after c (Forward to head) here near =
      let one : Copy = record c { at = to; head = head; hops = c.hops + 1; steps = c.steps + 1 } in
      All-head IsNear one after (All-back IsNear before (one ∷ after) near)
  behind_moved before after c (Deliver port) here near = here
  behind_moved before after c (Fork copies lost) here near = here

  -- what happens in one turn, where all copies before and after it have made few hops
  one_turn : {t : Tables} {s s' : Ordered} {e : Event} {us : List OrderedHappening} → All IsNear s.net.flying → All IsNear s'.net.flying → LeadsInOrder t s e s' us → All (IsHopWithin most) (happenings us)
  one_turn before after (injects own names) = All-nil (IsHopWithin most)
  one_turn {s = s} before after (moves {i = i} {c = c} {a = a} found none does) =
      All-cons (IsHopWithin most) (happening c a) [] (behind_moved (take i s.net.flying) (drop (i + 1) s.net.flying) c a (All-get IsNear s.net.flying i c before found) after) (All-nil (IsHopWithin most))
  one_turn {s = s} before after (visits {i = i} {c = c} {b = b} found at turn takes) = by b after
    where
      here : c.hops ≤ most
      here = All-get IsNear s.net.flying i c before found

      by : (b : Becomes) → All IsNear (take i s.net.flying ++ (left_by c b ++ drop (i + 1) s.net.flying)) → All (IsHopWithin most) (happenings (turn_of c b ∷ []))
      by (SentOn to r n) near = All-cons (IsHopWithin most) _ [] (behind_moved (take i s.net.flying) (drop (i + 1) s.net.flying) c (Forward to (Visit r n)) here near) (All-nil (IsHopWithin most))
      by (Waiting r n) near = All-nil (IsHopWithin most)
      by (Forks copies lost) near = All-cons (IsHopWithin most) _ [] (behind_moved (take i s.net.flying) (drop (i + 1) s.net.flying) c (Fork copies lost) here near) (All-nil (IsHopWithin most))
  one_turn before after (waits found at early) = All-nil (IsHopWithin most)

module _ (p : Program) (topology : Topology) (places : List ℕ) (t : Tables) (faithful : Faithful p topology places t) (version : t.version ≡ 2)
    (order : List ℕ) (d : ℕ) (rank : IsRank p.body (length p.arrays) order) (greatest : IsDiameter (Linked topology.links) (length topology.switches) d) where
  abbrev most : ℕ
  most = (length order + 1) * d

  near : (es : List Event) (s : Ordered) (us : List OrderedHappening) → AllCanEnter p t (packets_of es) → OrderedRun t zero_arrays es s us → All (IsNear most) s.net.flying
  near es s us enter run = ((keeps_order p topology places t faithful version).hops order d rank greatest zero_arrays es s us (record { store = no_numbers p; packets = enter; run = run })).0

  -- after some events have led here
  from_here : {s s' : Ordered} {es : List Event} {us : List OrderedHappening} (first : List Event) (turned : List OrderedHappening) → AllCanEnter p t (packets_of (first ++ es)) → OrderedRun t zero_arrays first s turned → RunsInOrder t s es s' us
      → All (IsHopWithin most) (happenings us)
  from_here first turned enter run done = All-nil (IsHopWithin most)
  from_here first turned enter run (on {s = s} {s' = s1} {e = e} {es = es} {h = u} {hs = us} leads onward) =
      let more : OrderedRun t zero_arrays (first ++ e ∷ []) s1 (turned ++ u) = runs-then e s1 u run leads in
      let enters : AllCanEnter p t (packets_of ((first ++ e ∷ []) ++ es)) = subst (λ l. AllCanEnter p t (packets_of l)) (sym (append_assoc first (e ∷ []) es)) enter in
      subst (All (IsHopWithin most)) (sym (happenings_more u us))
      (All-append (IsHopWithin most) (happenings u) (happenings us)
      (one_turn most (near first s turned (enter_first (CanEnter p t) first (e ∷ es) enter) run) (near (first ++ e ∷ []) s1 (turned ++ u) (enter_first (CanEnter p t) (first ++ e ∷ []) es enters) more) leads)
      (from_here (first ++ e ∷ []) (turned ++ u) enters more onward))

pub short_turns : RunsInOrderAreShort
short_turns p topology places t faithful version order d rank greatest ks packets es s us enter run =
    let fits = subst (All (IsOfProgram p)) (sym enter) (entering-fits p ks packets) in
    from_here p topology places t faithful version order d rank greatest [] [] (all_enter t p fits run) done run

pub short_plain_turns : PlainRunsInOrderAreShort
short_plain_turns p topology places t faithful version order d rank greatest ks packets es s us plain =
    short_turns p topology places t faithful version order d rank greatest ks packets es s us plain.packets (sequential-run plain.run)
