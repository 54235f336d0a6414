-- The report of the run in order of a schedule.
use Rattle.std.proofs.Common.{◌≡◌, ℕ, ◌+◌, Bool, List, [], ◌∷◌, length, refl, subst, arith}
use Rattle.snap_core.specs.Arrays.{zero_arrays}
use Rattle.snap_rows.specs.declared.tables.Tables.{Tables}
use Rattle.snap_rows.specs.Network.{Event, packets_of}
use Rattle.snap_runs.specs.Runner.{PlaysLines}
use Rattle.snap_runs.proofs.Played.{obeys-count}
use Rattle.snap_order.specs.declared.play.OrderedPlay.{OrderedPlay}
use Rattle.snap_order.specs.Ordered.{Ordered, OrderedHappening, LeadsInOrder, begin, happenings, injects, moves, visits, waits}
use Rattle.snap_order.specs.Playing.{Plays, left_in}
use Rattle.snap_order.specs.Reports.{IsRunReport}
use Rattle.snap_order.specs.Runs.{IsScheduleReport, Obeys}

leads_count : (t : Tables) (s s' : Ordered) (e : Event) (u : List OrderedHappening) → LeadsInOrder t s e s' u → s'.net.injected ≡ s.net.injected + length (packets_of (e ∷ []))
leads_count t s s' e u (injects at first) = refl
leads_count t s s' e u (moves is none handles) = omega arith
leads_count t s s' e u (visits is before turn takes) = omega arith
leads_count t s s' e u (waits is before early) = omega arith

pub schedule_report : (t : Tables) (hops : Bool) (ks lines : List (List ℕ)) (v : OrderedPlay) (text : List ℕ) (p : PlaysLines (λ (o : Ordered). o.net) LeadsInOrder (λ t'. begin t' zero_arrays) Plays left_in t hops ks lines v) → left_in v ≡ [] → p.state.net.flying ≡ []
    → IsRunReport t hops p.state.net.injected p.state.net (happenings p.told) text → IsScheduleReport t hops ks lines text
schedule_report t hops ks lines v text p left rests report =
    let obeys = subst (λ l. Obeys t ks lines l p.state p.told) left p.obeys in
    record {
      state = p.state;
      turns = p.told;
      obeys = obeys;
      ended = rests;
      report = subst (λ n. IsRunReport t hops n p.state.net (happenings p.told) text) (obeys-count (λ (o : Ordered). o.net) (LeadsInOrder t) (leads_count t) refl obeys) report;
    }
