-- No packet is stuck, whatever is injected and done.
use Rattle.std.proofs.Common.{◌≡◌, ◌≢◌, ℕ, zero, suc, ◌<◌, List, [], ◌∷◌, ◌++◌, Some, refl, ap, arith}
use Rattle.std.specs.Prelude.{slice_get}
use Rattle.std.specs.List.{All}
use Rattle.std.proofs.lemmas.List.Elements.{All-nil}
use Rattle.snap_core.specs.Arrays.{Arrays}
use Rattle.snap_rows.specs.declared.tables.Tables.{Tables}
use Rattle.snap_rows.specs.Network.{Copy, Event, Inject, Step, done, on, happening}
use Rattle.snap_rows.proofs.Runs.{runs-keep}
use Rattle.snap_rows.proofs.Rows.{All-get}
use Rattle.snap_faithful.proofs.Nodes.{IsTwo}
use Rattle.snap_order.specs.Ordered.{Ordered, OrderedHappening, Happens, Waits, LeadsInOrder, OrderedRun, begin, moves, turn_of, visits, waits}
use Rattle.snap_order.specs.Progress.{CanEnd, CanGoOn, CanStep, RunsInOrderCanEnd, SomeCopyGoesOn, StepsInOrderCanBeMade}
use Rattle.snap_order.specs.Rounding.{KeepsPace}
use Rattle.snap_order.proofs.Able.{can_step, no_wait, visits_on}
use Rattle.snap_order.proofs.Placed.{Placed, inject_placed, step_placed}
use Rattle.snap_order.proofs.Standing.{inject_pace, pace_first, step_pace}
use Rattle.snap_order.proofs.Toiling.{CanGo, go_waits, some_goes, step_falls, toil_of}

-- copies are in their places, and none is left behind
record Keeps (t : Tables) (s : Ordered) : Type 0 where
  placed : All (Placed t) s.net.flying
  pace : KeepsPace t s

module _ (t : Tables) (two : IsTwo t) where
  -- ---- wherever it runs
  keeps : {s s' : Ordered} {us : List OrderedHappening} (e : Event) → LeadsInOrder t s e s' us → Keeps t s → Keeps t s'
  keeps (Inject port k) leads kept = record { placed = inject_placed t two leads kept.placed; pace = inject_pace leads kept.pace }
  keeps (Step i) leads kept = record { placed = step_placed t two leads kept.placed; pace = step_pace t two leads kept.placed kept.pace }

  reached : (m : Arrays) (es : List Event) (s : Ordered) (us : List OrderedHappening) → OrderedRun t m es s us → Keeps t s
  reached m es s us run = runs-keep (Keeps t) run (λ s s' e us leads kept. keeps e leads kept) (record { placed = All-nil (Placed t); pace = pace_first t (begin t m) refl refl (λ q. refl) })

  -- ---- steps
  each : (s : Ordered) → Keeps t s → (i : ℕ) (c : Copy) → slice_get s.net.flying i ≡ Some c → CanStep t s i
  each s kept i c is = can_step t two s i c is (All-get (Placed t) s.net.flying i c kept.placed is)

  goes : {s s' : Ordered} {i : ℕ} {us : List OrderedHappening} (go : CanGo t two s i) → LeadsInOrder t s (Step i) s' us → (r : ℕ) → us ≡ Waits go.copy r ∷ [] → ⊥
  goes go (moves {c = c} {a = a} is none does) r e = no_wait (Happens (happening c a)) go.copy r refl e
  goes go (visits {c = c} {b = b} is before now taking) r e = no_wait (turn_of c b) go.copy r (visits_on c b) e
  goes go (waits {c = c} {r = q} {n = n} is before early) r e = go_waits t two go (record { same = refl; copy = c; is = is; rank = q; node = n; before = before; early = early })

  some : (s : Ordered) → Keeps t s → s.net.flying ≢ [] → CanGoOn t s
  some s kept any = by s.net.flying refl
    where
      by : (cs : List Copy) → s.net.flying ≡ cs → CanGoOn t s
      by [] e = absurd (any e)
      by (c ∷ cs) e =
          let go = some_goes t two s kept.pace c (ap (λ l. slice_get l 0) e) in
          let step = each s kept go.0 go.1.copy go.1.is in
          record { place = go.0; copy = go.1.copy; is = go.1.is; step = step; goes = goes go.1 step.leads }

  -- ---- to an end
  ends : (n : ℕ) (s : Ordered) → toil_of t s.net.flying < n → Keeps t s → CanEnd t s
  ends zero s less kept = absurd (omega (arith, less))
  ends (suc n) s less kept = by s.net.flying refl (ends n)
    where
      by : (cs : List Copy) → s.net.flying ≡ cs → ((s' : Ordered) → toil_of t s'.net.flying < n → Keeps t s' → CanEnd t s') → CanEnd t s
      by [] e rest = record { events = []; steps = refl; end = s; turns = []; run = done; ended = e }
      by (c ∷ cs) e rest =
          let go = some_goes t two s kept.pace c (ap (λ l. slice_get l 0) e) in
          let step = each s kept go.0 go.1.copy go.1.is in
          let lighter = step_falls t two go.1 step.leads kept.placed in
          let more = rest step.state (omega (arith, lighter, less)) (keeps (Step go.0) step.leads kept) in
          record { events = Step go.0 ∷ more.events; steps = more.steps; end = more.end; turns = step.turns ++ more.turns; run = on step.leads more.run; ended = more.ended }

  can_end : (s : Ordered) → Keeps t s → CanEnd t s
  can_end s kept = ends (suc (toil_of t s.net.flying)) s (omega arith) kept

pub steps_in_order : StepsInOrderCanBeMade
steps_in_order t valid form version m es s us run = let two : IsTwo t = record { form = form; valid = valid; version = version } in each t two s (reached t two m es s us run)

pub some_copy_goes_on : SomeCopyGoesOn
some_copy_goes_on t valid form version m es s us run = let two : IsTwo t = record { form = form; valid = valid; version = version } in some t two s (reached t two m es s us run)

pub runs_in_order_can_end : RunsInOrderCanEnd
runs_in_order_can_end t valid form version m es s us run = let two : IsTwo t = record { form = form; valid = valid; version = version } in can_end t two s (reached t two m es s us run)
