-- Plain schedules come to their ends.
use Rattle.std.proofs.Common.{◌≡◌, ℕ, zero, suc, ◌+◌, ◌<◌, ◌≤◌, List, [], ◌∷◌, ◌++◌, drop, Option, Some, None, refl, sym, ap, subst, ◌∙◌, arith}
use Rattle.std.specs.Prelude.{slice_get, IsSome}
use Rattle.std.specs.List.{All}
use Rattle.std.proofs.lemmas.Bool.{false≢true}
use Rattle.std.proofs.lemmas.List.Elements.{All-nil, All-cons, All-head, All-tail, All-map}
use Rattle.snap_core.specs.Arrays.{Arrays}
use Rattle.snap_rows.specs.declared.tables.Tables.{Tables}
use Rattle.snap_rows.specs.declared.head.Head.TheVariants.{Walk, Out}
use Rattle.snap_rows.specs.Actions.{Action, Forward, Deliver, Fork}
use Rattle.snap_rows.specs.declared.head.Sent.{Sent}
use Rattle.snap_rows.specs.Entries.{port_at, next}
use Rattle.snap_rows.specs.Form.{IsWellFormed, switch_count}
use Rattle.snap_rows.specs.Rules.{IsValid}
use Rattle.snap_rows.specs.declared.tables.Rule.TheVariants.{Loop}
use Rattle.snap_rows.specs.Ways.{Way, here, on}
use Rattle.snap_rows.specs.Home.{AtHome}
use Rattle.snap_rows.specs.Steps.{Arrives}
use Rattle.snap_rows.specs.Handles.{Handles, delivers, carries}
use Rattle.snap_rows.specs.Network.{Copy, Net, Event, Inject, Step, Happening, inject, step, injected, stepped, moved, happening, RunsSequentially, rests, injects, steps, packets_of, StepsFirst, IsPlainRun, start}
use Rattle.snap_rows.specs.Bound.{left, most_hops}
use Rattle.snap_rows.specs.Progress.{CanBeInjected, PlainRunsEnd}
use Rattle.snap_rows.proofs.Able.{able}
use Rattle.snap_rows.proofs.Arrives.{way_to, arrives}
use Rattle.snap_rows.proofs.Bounded.{Falls, Measures, port_below, port_home}
use Rattle.snap_rows.proofs.Measured.{measures}

-- from a state the plain schedule of these packets comes to its end
record Ends (t : Tables) (ks : List (ℕ × List ℕ)) (s : Net) : Type 0 where
  pub events : List Event
  pub last : Net
  pub happened : List Happening
  pub run : RunsSequentially t s events last happened
  pub packets : packets_of events ≡ ks
  pub first : All StepsFirst events
  pub ended : last.flying ≡ []

-- it does so wherever these copies are in flight
abbrev EndsFrom : Tables → List (ℕ × List ℕ) → List Copy → Type 0
EndsFrom t ks cs = (s : Net) → s.flying ≡ cs → Ends t ks s

-- a step of the first copy
step_first : (t : Tables) (ks : List (ℕ × List ℕ)) (s : Net) (c : Copy) (rest : List Copy) (m : Arrays) (a : Action) → s.flying ≡ c ∷ rest → Handles t c.at c.packet (s.stores c.at) c.head m a → EndsFrom t ks (moved c a ++ rest) → Ends t ks s
step_first t ks s c rest m a is handles then' =
    let e = then' (stepped s 0 c m a) (ap (λ (cs : List Copy). moved c a ++ drop 1 cs) is) in
    record {
      events = Step 0 ∷ e.events;
      last = e.last;
      happened = happening c a ∷ e.happened;
      run = steps (step (ap (λ (cs : List Copy). slice_get cs 0) is) handles) e.run;
      packets = e.packets;
      first = All-cons StepsFirst (Step 0) e.events refl e.first;
      ended = e.ended;
    }

-- ---- copies on their ways to ports
pub record IsOut (t : Tables) (c : Copy) : Type 0 where
  pub at : c.at < switch_count t
  pub port : ℕ
  pub head : c.head ≡ Out port
  pub has : IsSome (port_at t port)

way_ends : (t : Tables) (ks : List (ℕ × List ℕ)) (p x w : ℕ) (ws : List ℕ) → Way t x w ws → port_at t p ≡ Some x → (c : Copy) → c.at ≡ w → c.head ≡ Out p → (rest : List Copy) → EndsFrom t ks rest → EndsFrom t ks (c ∷ rest)
way_ends t ks p x w ws here at c where' head rest then' s is =
    let m = s.stores c.at in
    step_first t ks s c rest m (Deliver p) is
    (subst (λ h. Handles t c.at c.packet m h m (Deliver p)) (sym head) (delivers (at ∙ ap Some (sym where'))))
    then'
way_ends t ks p x w ws (on away way) at c where' head rest then' s is =
    let m = s.stores c.at in
    let a = Forward (next t w x) (Out p) in
    let handles : Handles t c.at c.packet m c.head m a = subst (λ h. Handles t c.at c.packet m h m a) (sym head) (subst (λ v. Handles t v c.packet m (Out p) m a) (sym where') (carries at (λ e. away (sym e)))) in
    step_first t ks s c rest m a is handles (way_ends t ks p x (next t w x) _ way at _ refl refl rest then')

out_ends : (t : Tables) → IsValid t → IsWellFormed t → (ks : List (ℕ × List ℕ)) (c : Copy) → IsOut t c → (rest : List Copy) → EndsFrom t ks rest → EndsFrom t ks (c ∷ rest)
out_ends t valid form ks c out rest then' = by (port_at t out.port) refl out.has
  where
    by : (o : Option ℕ) → port_at t out.port ≡ o → IsSome o → EndsFrom t ks (c ∷ rest)
    by None e some = absurd (false≢true some)
    by (Some x) e some = let way = way_to t (valid Loop) form c.at x out.at (port_below t form out.port x e) in way_ends t ks out.port x c.at way.0 way.1 e c refl out.head rest then'

outs_end : (t : Tables) → IsValid t → IsWellFormed t → (ks : List (ℕ × List ℕ)) (cs : List Copy) → All (IsOut t) cs → (rest : List Copy) → EndsFrom t ks rest → EndsFrom t ks (cs ++ rest)
outs_end t valid form ks [] all rest then' = then'
outs_end t valid form ks (c ∷ cs) all rest then' = out_ends t valid form ks c (All-head (IsOut t) c cs all) (cs ++ rest) (outs_end t valid form ks cs (All-tail (IsOut t) c cs all) rest then')

-- ---- any copy at home
record IsNear (t : Tables) (c : Copy) (most : ℕ) : Type 0 where
  pub at : c.at < switch_count t
  pub home : AtHome t c.at c.head
  pub few : left t c.at c.head ≤ most

one_turn : (t : Tables) → IsValid t → IsWellFormed t → Measures t → (ks : List (ℕ × List ℕ)) (rest : List Copy) → EndsFrom t ks rest → (most : ℕ)
    → ((c : Copy) (b : ℕ) → b + 1 ≤ most → IsNear t c b → EndsFrom t ks (c ∷ rest)) → (c : Copy) → IsNear t c most → EndsFrom t ks (c ∷ rest)
one_turn t valid form measures ks rest then' most later c near s is =
    let m = s.stores c.at in
    let a = able t valid form c.at c.packet m c.head near.home in
    by a.0 a.1 a.2 (arrives t valid form c.at near.at c.packet m c.head a.0 a.1 near.home a.2) (measures.falls c.at near.at c.packet m c.head a.0 a.1 near.home a.2)
  where
    by : (m' : Arrays) (a : Action) → Handles t c.at c.packet (s.stores c.at) c.head m' a → Arrives t c.packet a → Falls t c.at (left t c.at c.head) a → Ends t ks s
    by m' (Forward to head) handles arr f = step_first t ks s c rest m' (Forward to head) is handles
        (later _ (left t to head) (let h : left t to head + 1 ≤ left t c.at c.head = f in let g = near.few in omega arith) (record { at = arr.0; home = arr.1; few = omega arith }))
    by m' (Deliver port) handles arr f = step_first t ks s c rest m' (Deliver port) is handles then'
    by m' (Fork copies lost) handles arr f = step_first t ks s c rest m' (Fork copies lost) is handles
        (outs_end t valid form ks (moved c (Fork copies lost))
        (All-map (IsOut t) (λ (x : Sent). record c { head = Out x.port; packet = x.packet; steps = c.steps + 1 }) copies (λ i d within. record { at = near.at; port = _; head = refl; has = (arr i d within).port }))
        rest then')

copy_ends : (t : Tables) → IsValid t → IsWellFormed t → Measures t → (ks : List (ℕ × List ℕ)) (rest : List Copy) → EndsFrom t ks rest → (most : ℕ) (c : Copy) → IsNear t c most → EndsFrom t ks (c ∷ rest)
copy_ends t valid form measures ks rest then' zero c near = one_turn t valid form measures ks rest then' zero (λ c' b less near'. absurd (let h : b + 1 ≤ 0 = less in omega arith)) c near
copy_ends t valid form measures ks rest then' (suc most) c near = one_turn t valid form measures ks rest then' (suc most)
    (λ c' b less near'. copy_ends t valid form measures ks rest then' most c' (record { at = near'.at; home = near'.home; few = (let h : b + 1 ≤ suc most = less in let g = near'.few in omega arith) }))
    c near

-- ---- all packets
plain_ends : (t : Tables) → IsValid t → IsWellFormed t → Measures t → (ks : List (ℕ × List ℕ)) → All (CanBeInjected t) ks → EndsFrom t ks []
plain_ends t valid form measures [] all s is = record { events = []; last = s; happened = []; run = rests; packets = refl; first = All-nil StepsFirst; ended = is }
plain_ends t valid form measures (p ∷ ks) all s is = by (port_at t p.0) refl can.port (plain_ends t valid form measures ks (All-tail (CanBeInjected t) p ks all))
  where
    can : CanBeInjected t p
    can = All-head (CanBeInjected t) p ks all

    by : (o : Option ℕ) → port_at t p.0 ≡ o → IsSome o → EndsFrom t ks [] → Ends t (p ∷ ks) s
    by None e some rest = absurd (false≢true some)
    by (Some w) e some rest =
        let c : Copy = record { number = s.injected; at = w; head = Walk 0; packet = p.1; hops = 0; steps = 0 } in
        let near : IsNear t c (most_hops t) = record { at = port_below t form p.0 w e; home = port_home t valid p.0 w e; few = measures.starts p.0 w e } in
        let r = copy_ends t valid form measures ks [] rest (most_hops t) c near (injected s w p.0 p.1) (ap (λ (cs : List Copy). cs ++ c ∷ []) is) in
        record {
          events = Inject p.0 p.1 ∷ r.events;
          last = r.last;
          happened = r.happened;
          run = injects is (inject e can.first) r.run;
          packets = ap (λ l. p ∷ l) r.packets;
          first = All-cons StepsFirst (Inject p.0 p.1) r.events tt r.first;
          ended = r.ended;
        }

plain_run : (t : Tables) → IsValid t → IsWellFormed t → Measures t → (m : Arrays) (ks : List (ℕ × List ℕ)) → All (CanBeInjected t) ks → (es : List Event) × (s : Net) × (hs : List Happening) × IsPlainRun t m ks es s hs
plain_run t valid form measures m ks all =
    let r = plain_ends t valid form measures ks all (start t m) refl in
    (r.events, r.last, r.happened, record { packets = r.packets; first = r.first; run = r.run; ended = r.ended })

pub plain_runs_end : PlainRunsEnd
plain_runs_end t valid form = plain_run t valid form (measures t valid form)
