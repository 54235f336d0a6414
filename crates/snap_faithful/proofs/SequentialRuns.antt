-- Sequential runs act as one big switch where each packet alone does.
use Rattle.std.proofs.Common.{◌≡◌, ℕ, zero, suc, ◌+◌, ◌≤◌, ◌⊎◌, inl, inr, List, [], ◌∷◌, ◌++◌, length, Option, Some, refl, sym, ap, subst, ◌∙◌, arith, append_assoc}
use Rattle.std.specs.Prelude.{slice_get}
use Rattle.std.specs.List.{All}
use Rattle.std.proofs.lemmas.List.{append-nil, length-append}
use Rattle.std.proofs.lemmas.List.Elements.{All-head, All-tail}
use Rattle.std.proofs.lemmas.Option.{none-some, slice_get_within}
use Rattle.snap_core.specs.declared.policy.Pol.{Pol}
use Rattle.snap_core.specs.Arrays.{Arrays}
use Rattle.snap_core.specs.Inputs.{IsStore, IsPacket}
use Rattle.snap_core.specs.Packets.{PacketSet}
use Rattle.snap_core.specs.Meaning.{Meaning, eval}
use Rattle.snap_core.specs.Switch.{Switched, one_big_switch}
use Rattle.snap_dep.specs.Locality.{NeverRaces}
use Rattle.snap_rows.specs.declared.tables.Tables.{Tables}
use Rattle.snap_rows.specs.declared.head.Head.TheVariants.{Walk}
use Rattle.snap_rows.specs.Network.{Net, Event, Inject, Step, Happening, Leads, RunsSequentially, rests, injects, steps, inject, step, happening, packets_of}
use Rattle.snap_faithful.specs.Agreement.{CameOut}
use Rattle.snap_faithful.specs.Faithful.{packets_in}
use Rattle.snap_faithful.proofs.Leaving.{IsQuiet, quiet_more, happens_elsewhere, came_still}
use Rattle.snap_faithful.proofs.Holding.{HoldsOf, NetHoldsOf}
use Rattle.snap_faithful.proofs.Trips.{Way, Trip, trip_on, numbers, Ended, ended, begun}
use Rattle.snap_faithful.proofs.Switching.{behind, switched_more, in_pushed, some_eval, KeepsStores}

-- ways of all packets, from the arrays m before each; where one is over, the arrays that have an owner are the outcome's
pub record Ways (p : Pol) (c : ℕ) (t : Tables) (owner : ℕ → Option ℕ) : Type 1 where
  pub way : (k : List ℕ) (m : Arrays) (o : Meaning) → IsStore m → IsPacket c k → eval p m k ≡ Some o → Way t owner k
  pub enters : (k : List ℕ) (m : Arrays) (o : Meaning) (store : IsStore m) (packet : IsPacket c k) (outcome : eval p m k ≡ Some o) (w : ℕ) → (way k m o store packet outcome).Ahead w (Walk 0) m
  pub ends : (k : List ℕ) (m : Arrays) (o : Meaning) (store : IsStore m) (packet : IsPacket c k) (outcome : eval p m k ≡ Some o) (set : PacketSet) (a : Arrays)
      → (way k m o store packet outcome).IsOver set a → (o.packets ≡ set) × ((w : ℕ) → HoldsOf owner w a o.arrays)

-- the packets came out as of one big switch, and the switches hold what it holds
pub record ActedAsOne (p : Pol) (t : Tables) (owner : ℕ → Option ℕ) (m : Arrays) (ks : List (List ℕ)) (s : Net) (hs : List Happening) : Type 0 where
  pub answer : Switched
  pub switched : one_big_switch p m ks ≡ Some answer
  pub came : (i : ℕ) (set : PacketSet) → slice_get answer.packets i ≡ Some set → CameOut t i set hs
  pub held : NetHoldsOf owner s answer.arrays

module _ (p : Pol) (c : ℕ) (t : Tables) (owner : ℕ → Option ℕ) (never : NeverRaces p c) (ways : Ways p c t owner) (keeps : KeepsStores p c) (m0 : Arrays) where
  -- what the finished packets have become; nothing is told of a number from f on
  record Past (ks : List (List ℕ)) (a : Switched) (f : ℕ) (hs : List Happening) : Type 0 where
    switched : one_big_switch p m0 ks ≡ Some a
    store : IsStore a.arrays
    came : (i : ℕ) (set : PacketSet) → slice_get a.packets i ≡ Some set → CameOut t i set hs
    fresh : (i : ℕ) → f ≤ i → IsQuiet i hs

  record Idle (ks : List (List ℕ)) (s : Net) (hs : List Happening) : Type 0 where
    answer : Switched
    past : Past ks answer (length answer.packets) hs
    held : NetHoldsOf owner s answer.arrays
    injected : s.injected ≡ length answer.packets
    flying : s.flying ≡ []

  record Busy (ks : List (List ℕ)) (s : Net) (hs : List Happening) : Type 0 where
    before : List (List ℕ)
    k : List ℕ
    answer : Switched
    o : Meaning
    past : Past before answer (suc (length answer.packets)) hs
    packet : IsPacket c k
    outcome : eval p answer.arrays k ≡ Some o
    injected : s.injected ≡ suc (length answer.packets)
    one : Trip t owner k (ways.way k answer.arrays o past.store packet outcome) (length answer.packets) s hs
    all : ks ≡ before ++ k ∷ []

  to_idle : (ks : List (List ℕ)) (s : Net) (hs : List Happening) → Idle ks s hs ⊎ Busy ks s hs → s.flying ≡ [] → Idle ks s hs
  to_idle ks s hs (inl i) none = i
  to_idle ks s hs (inr b) none = record {
    answer = behind b.answer b.o;
    past = record {
      switched = ap (one_big_switch p m0) b.all ∙ switched_more p b.before m0 b.k b.answer b.o b.past.switched b.outcome;
      store = keeps b.answer.arrays b.k b.o b.past.store b.packet b.outcome;
      came = λ i set is. by i set (in_pushed b.answer.packets b.o.packets set i is);
      fresh = λ i low. b.past.fresh i (subst (λ x. x ≤ i) longer low);
    };
    held = λ w q at. end.held w q at ∙ over.1 w q at;
    injected = b.injected ∙ sym longer;
    flying = none;
  }
    where
      end : Ended t owner b.k (ways.way b.k b.answer.arrays b.o b.past.store b.packet b.outcome) (length b.answer.packets) s hs
      end = ended t owner b.k (ways.way b.k b.answer.arrays b.o b.past.store b.packet b.outcome) (length b.answer.packets) s hs none b.one

      over : (b.o.packets ≡ end.set) × ((w : ℕ) → HoldsOf owner w end.arrays b.o.arrays)
      over = ways.ends b.k b.answer.arrays b.o b.past.store b.packet b.outcome end.set end.arrays end.end

      longer : length (b.answer.packets ++ b.o.packets ∷ []) ≡ suc (length b.answer.packets)
      longer = length-append b.answer.packets (b.o.packets ∷ []) ∙ omega arith

      by : (i : ℕ) (set : PacketSet) → (slice_get b.answer.packets i ≡ Some set) ⊎ ((i ≡ length b.answer.packets) × (b.o.packets ≡ set)) → CameOut t i set hs
      by i set (inl old) = b.past.came i set old
      by i set (inr new) = subst (λ y. CameOut t i y hs) (sym over.0 ∙ new.1) (subst (λ j. CameOut t j end.set hs) (sym new.0) end.came)

  begin : (ks : List (List ℕ)) (s s' : Net) (hs h : List Happening) (port : ℕ) (k : List ℕ) → IsPacket c k → Idle ks s hs → Leads t s (Inject port k) s' h → Busy (ks ++ k ∷ []) s' (hs ++ h)
  begin ks s s' hs h port k packet i (inject {w = w} own names) =
      let o = some_eval p i.answer.arrays k (never i.answer.arrays k i.past.store packet) in
      let same : hs ++ [] ≡ hs = append-nil hs in
      record {
        before = ks;
        k = k;
        answer = i.answer;
        o = o.0;
        past = record {
          switched = i.past.switched;
          store = i.past.store;
          came = λ j set is. subst (CameOut t j set) (sym same) (i.past.came j set is);
          fresh = λ j low. subst (IsQuiet j) (sym same) (i.past.fresh j (omega (arith, low)));
        };
        packet = packet;
        outcome = o.1;
        injected = ap (λ x. x + 1) i.injected ∙ omega arith;
        one = begun t owner k (ways.way k i.answer.arrays o.0 i.past.store packet o.1) (length i.answer.packets) s _ hs [] port i.answer.arrays i.flying (λ w at. ways.enters k i.answer.arrays o.0 i.past.store packet o.1 w) i.held i.injected
            (i.past.fresh (length i.answer.packets) (omega arith)) (inject own names);
        all = refl;
      }

  go_on : (ks : List (List ℕ)) (s s' : Net) (hs h : List Happening) (j : ℕ) (b : Busy ks s hs) → Leads t s (Step j) s' h → Busy ks s' (hs ++ h)
  go_on ks s s' hs h j b (step {c = x} {m = m} {a = a} found does) = record {
    before = b.before;
    k = b.k;
    answer = b.answer;
    o = b.o;
    past = record {
      switched = b.past.switched;
      store = b.past.store;
      came = λ i set is. (let l = slice_get_within b.answer.packets i set is in came_still hs (happening x a ∷ []) (happens_elsewhere i x a (λ e. (let f = own in omega (arith, e, f, l)))) (b.past.came i set is));
      fresh = λ i low. quiet_more i hs (happening x a ∷ []) (b.past.fresh i low) (happens_elsewhere i x a (λ e. (let f = own in omega (arith, e, f, low))));
    };
    packet = b.packet;
    outcome = b.outcome;
    injected = b.injected;
    one = trip_on t owner b.k (ways.way b.k b.answer.arrays b.o b.past.store b.packet b.outcome) (length b.answer.packets) j s _ hs (happening x a ∷ []) b.one (step found does);
    all = b.all;
  }
    where
      own : x.number ≡ length b.answer.packets
      own = numbers t owner b.k (ways.way b.k b.answer.arrays b.o b.past.store b.packet b.outcome) (length b.answer.packets) s hs j x b.one found

  stepped_on : (ks : List (List ℕ)) (s s' : Net) (hs h : List Happening) (j : ℕ) → Idle ks s hs ⊎ Busy ks s hs → Leads t s (Step j) s' h → Busy ks s' (hs ++ h)
  stepped_on ks s s' hs h j (inl i) (step {c = x} found does) = absurd (none-some x (subst (λ f. slice_get f j ≡ Some x) i.flying found))
  stepped_on ks s s' hs h j (inr b) leads = go_on ks s s' hs h j b leads

  all_runs : {s s' : Net} {es : List Event} {hs : List Happening} (ks : List (List ℕ)) (gs : List Happening) → All (IsPacket c) (packets_in (packets_of es)) → RunsSequentially t s es s' hs → Idle ks s gs ⊎ Busy ks s gs
      → Idle (ks ++ packets_in (packets_of es)) s' (gs ++ hs) ⊎ Busy (ks ++ packets_in (packets_of es)) s' (gs ++ hs)
  all_runs {s = s} ks gs packets rests state = subst (λ x. Idle x s (gs ++ []) ⊎ Busy x s (gs ++ [])) (sym (append-nil ks)) (subst (λ y. Idle ks s y ⊎ Busy ks s y) (sym (append-nil gs)) state)
  all_runs {s' = s'} ks gs packets (injects {s = s} {s' = s1} {port = port} {k = k} {es = es} {h = h} {hs = hs} e leads rest) state =
      subst (λ y. Idle (ks ++ k ∷ packets_in (packets_of es)) s' y ⊎ Busy (ks ++ k ∷ packets_in (packets_of es)) s' y) (append_assoc gs h hs)
      (subst (λ x. Idle x s' ((gs ++ h) ++ hs) ⊎ Busy x s' ((gs ++ h) ++ hs)) (append_assoc ks (k ∷ []) (packets_in (packets_of es)))
      (all_runs (ks ++ k ∷ []) (gs ++ h) (All-tail (IsPacket c) k (packets_in (packets_of es)) packets) rest
      (inr (begin ks s s1 gs h port k (All-head (IsPacket c) k (packets_in (packets_of es)) packets) (to_idle ks s gs state e) leads))))
  all_runs {s' = s'} ks gs packets (steps {s = s} {s' = s1} {i = j} {es = es} {h = h} {hs = hs} leads rest) state =
      subst (λ y. Idle (ks ++ packets_in (packets_of es)) s' y ⊎ Busy (ks ++ packets_in (packets_of es)) s' y) (append_assoc gs h hs)
      (all_runs ks (gs ++ h) packets rest (inr (stepped_on ks s s1 gs h j state leads)))

  pub sequential_runs : (s : Net) → IsStore m0 → NetHoldsOf owner s m0 → s.injected ≡ zero → s.flying ≡ [] → (es : List Event) (s' : Net) (hs : List Happening) → All (IsPacket c) (packets_in (packets_of es))
      → RunsSequentially t s es s' hs → s'.flying ≡ [] → ActedAsOne p t owner m0 (packets_in (packets_of es)) s' hs
  sequential_runs s store held none_injected none es s' hs packets run last =
      let start : Idle [] s [] = record {
        answer = record { packets = []; arrays = m0 };
        past = record { switched = refl; store = store; came = λ i set is. absurd (none-some set is); fresh = λ i low. record { deliveries = refl; losses = refl } };
        held = held;
        injected = none_injected;
        flying = none;
      } in
      let end = to_idle (packets_in (packets_of es)) s' hs (all_runs [] [] packets run (inl start)) last in
      record { answer = end.answer; switched = end.past.switched; came = end.past.came; held = end.held }
