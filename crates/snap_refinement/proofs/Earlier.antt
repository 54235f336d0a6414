-- A run whose packets are numbered from n on does what the same run does with numbers from 0 on.
use Rattle.std.proofs.Common.{◌≡◌, ℕ, zero, suc, ◌+◌, List, [], ◌∷◌, ◌++◌, Some, map, take, drop, length, refl, sym, ap, subst, ◌∙◌, arith, ⊎_elim}
use Rattle.std.specs.Prelude.{slice_get, ◌==◌, if◌then◌else◌}
use Rattle.std.specs.List.{All}
use Rattle.std.proofs.lemmas.Bool.{cases_eq, eq-eqb, ne_eqb}
use Rattle.std.proofs.lemmas.List.{map-append, take-map, drop-map}
use Rattle.std.proofs.lemmas.List.Elements.{All-nil, All-cons, All-head, All-tail}
use Rattle.std.proofs.lemmas.Option.{none-some, same_Some}
use Rattle.std.specs.List.Sorted.{IsPermutation}
use Rattle.snap_core.specs.Arrays.{Arrays}
use Rattle.snap_core.specs.Packets.{PacketSet}
use Rattle.snap_rows.specs.declared.tables.Tables.{Tables}
use Rattle.snap_rows.specs.Actions.{Action, Forward, Deliver, Fork}
use Rattle.snap_rows.specs.declared.head.Head.TheVariants.{Out, Walk}
use Rattle.snap_rows.specs.declared.head.Sent.{Sent}
use Rattle.snap_rows.specs.Handles.{Handles}
use Rattle.snap_rows.specs.Happenings.{deliveries_of, losses_of}
use Rattle.snap_rows.specs.Network.{Copy, Net, Event, Inject, Step, Happening, Crossed, Delivered, Forked, Leads, inject, step, RunsSequentially, rests, injects, steps, happening, injected, moved, packets_of, stepped}
use Rattle.snap_rows.proofs.Runs.{sequential-run, runs-count}
use Rattle.snap_faithful.specs.Agreement.{CameOut, sent_of}
use Rattle.snap_runs.proofs.Played.{leads-count}
use Rattle.snap_refinement.specs.Laws.{IsHopWithin}

pub counts : (t : Tables) {s s' : Net} {es : List Event} {hs : List Happening} → RunsSequentially t s es s' hs → s'.injected ≡ s.injected + length (packets_of es)
counts t run = runs-count (λ (s : Net). s) (Leads t) (leads-count t) (sequential-run run)

module _ (n : ℕ) where
  abbrev pub later_copy : Copy → Copy
  later_copy c = record c { number = c.number + n }

  abbrev pub later_net : Net → Net
  later_net s = record s { injected = s.injected + n; flying = map later_copy s.flying }

  abbrev pub later_happening : Happening → Happening
  later_happening (Crossed c to head) = Crossed (later_copy c) to head
  later_happening (Delivered c port) = Delivered (later_copy c) port
  later_happening (Forked c copies lost) = Forked (later_copy c) copies lost

  -- ---- one event
  moved-later : (c : Copy) (a : Action) → moved (later_copy c) a ≡ map later_copy (moved c a)
  moved-later c (Forward to head) = refl
  moved-later c (Deliver port) = refl
  moved-later c (Fork copies lost) = by copies
    where
      by : (xs : List Sent) → map (λ (x : Sent). record (later_copy c) { head = Out x.port; packet = x.packet; steps = c.steps + 1 }) xs ≡ map later_copy (map (λ (x : Sent). record c { head = Out x.port; packet = x.packet; steps = c.steps + 1 }) xs)
      by [] = refl
      by (x ∷ xs) = ap (λ l. record (later_copy c) { head = Out x.port; packet = x.packet; steps = c.steps + 1 } ∷ l) (by xs)

  happening-later : (c : Copy) (a : Action) → happening (later_copy c) a ≡ later_happening (happening c a)
  happening-later c (Forward to head) = refl
  happening-later c (Deliver port) = refl
  happening-later c (Fork copies lost) = refl

  picked : (cs : List Copy) (i : ℕ) (c : Copy) → slice_get (map later_copy cs) i ≡ Some c → (c0 : Copy) × (slice_get cs i ≡ Some c0) × (later_copy c0 ≡ c)
  picked [] i c is = absurd (none-some c is)
  picked (x ∷ xs) zero c is = (x, refl, same_Some _ c is)
  picked (x ∷ xs) (suc i) c is = picked xs i c is

  injected-later : (s : Net) (w port : ℕ) (k : List ℕ) → injected (later_net s) w port k ≡ later_net (injected s w port k)
  injected-later s w port k =
      let c : Copy = record { number = s.injected; at = w; head = Walk 0; packet = k; hops = 0; steps = 0 } in
      let e : s.injected + n + 1 ≡ s.injected + 1 + n = omega arith in
      λ i. record s { injected = e i; flying = sym (map-append later_copy s.flying (c ∷ [])) i }

  stepped-later : (s : Net) (i : ℕ) (c : Copy) (m : Arrays) (a : Action) → stepped (later_net s) i (later_copy c) m a ≡ later_net (stepped s i c m a)
  stepped-later s i c m a =
      let here : List Copy = take i s.flying in
      let there : List Copy = drop (i + 1) s.flying in
      let flying : take i (map later_copy s.flying) ++ (moved (later_copy c) a ++ drop (i + 1) (map later_copy s.flying)) ≡ map later_copy (here ++ (moved c a ++ there)) =
      (λ j. take-map later_copy i s.flying j ++ (moved-later c a j ++ drop-map later_copy (i + 1) s.flying j))
      ∙ ap (λ l. map later_copy here ++ l) (sym (map-append later_copy (moved c a) there))
      ∙ sym (map-append later_copy here (moved c a ++ there)) in
      λ j. record (later_net (stepped s i c m a)) { flying = flying j }

  -- ---- runs
  pub record Earlier (t : Tables) (s : Net) (es : List Event) (s' : Net) (hs : List Happening) : Type 0 where
    pub end : Net
    pub happenings : List Happening
    pub run : RunsSequentially t s es end happenings
    pub is : s' ≡ later_net end
    pub happen : hs ≡ map later_happening happenings

  pub none_flies : (cs : List Copy) → map later_copy cs ≡ [] → cs ≡ []
  none_flies [] e = refl
  none_flies (c ∷ cs) e = absurd (cc)

  module _ (t : Tables) where
    by_inject : {s s' s'' : Net} {port : ℕ} {k : List ℕ} {es : List Event} {h hs : List Happening} (s0 : Net) → s ≡ later_net s0 → s.flying ≡ [] → Leads t s (Inject port k) s' h
        → ((s1 : Net) → s' ≡ later_net s1 → Earlier t s1 es s'' hs) → Earlier t s0 (Inject port k ∷ es) s'' (h ++ hs)
    by_inject {s} {s'} {s''} {port} {k} {es} {h} {hs} s0 e still (inject {w = w} own names) on =
        let next = on (injected s0 w port k) ((λ j. injected (e j) w port k) ∙ injected-later s0 w port k) in
        let none : s0.flying ≡ [] = none_flies s0.flying (sym (ap (λ (x : Net). x.flying) e) ∙ still) in
        record { end = next.end; happenings = next.happenings; run = injects none (inject own names) next.run; is = next.is; happen = next.happen }

    by_step : {s s' s'' : Net} {i : ℕ} {es : List Event} {h hs : List Happening} (s0 : Net) → s ≡ later_net s0 → Leads t s (Step i) s' h
        → ((s1 : Net) → s' ≡ later_net s1 → Earlier t s1 es s'' hs) → Earlier t s0 (Step i ∷ es) s'' (h ++ hs)
    by_step {s} {s'} {s''} {i} {es} {h} {hs} s0 e (step {c = c} {m = m} {a = a} is handles) on =
        let c0 = picked s0.flying i c (sym (ap (λ (x : Net). slice_get x.flying i) e) ∙ is) in
        let here : Handles t c0.0.at c0.0.packet (s0.stores c0.0.at) c0.0.head m a =
        subst (λ (x : Net). Handles t c0.0.at c0.0.packet (x.stores c0.0.at) c0.0.head m a) e
        (subst (λ (x : Copy). Handles t x.at x.packet (s.stores x.at) x.head m a) (sym c0.2) handles) in
        let next = on (stepped s0 i c0.0 m a) ((λ j. stepped (e j) i (sym c0.2 j) m a) ∙ stepped-later s0 i c0.0 m a) in
        record {
          end = next.end;
          happenings = happening c0.0 a ∷ next.happenings;
          run = steps (step c0.1 here) next.run;
          is = next.is;
          happen = λ j. (ap (λ (x : Copy). happening x a) (sym c0.2) ∙ happening-later c0.0 a) j ∷ next.happen j;
        }

    pub earlier : {s s' : Net} {es : List Event} {hs : List Happening} → RunsSequentially t s es s' hs → (s0 : Net) → s ≡ later_net s0 → Earlier t s0 es s' hs
    earlier rests s0 e = record { end = s0; happenings = []; run = rests; is = e; happen = refl }
    earlier (injects still leads on) s0 e = by_inject s0 e still leads (λ s1 e1. earlier on s1 e1)
    earlier (steps leads on) s0 e = by_step s0 e leads (λ s1 e1. earlier on s1 e1)

  -- ---- what happened
  same_test : (m : ℕ) → (m + n == n) ≡ (m == 0)
  same_test m = ⊎_elim (λ e. eq-eqb (m + n) n (let z : m ≡ 0 = e in omega (arith, z)) ∙ sym (eq-eqb m 0 e))
      (λ e. ne_eqb (m + n) n (λ x. e (omega (arith, x))) ∙ sym (ne_eqb m 0 e)) (cases_eq m 0)

  same_deliveries : (hs : List Happening) → deliveries_of n (map later_happening hs) ≡ deliveries_of 0 hs
  same_deliveries [] = refl
  same_deliveries (Delivered c port ∷ hs) = λ i. if same_test c.number i then (record { port = port; packet = c.packet } ∷ same_deliveries hs i) else same_deliveries hs i
  same_deliveries (Crossed c to head ∷ hs) = same_deliveries hs
  same_deliveries (Forked c copies lost ∷ hs) = same_deliveries hs

  same_losses : (hs : List Happening) → losses_of n (map later_happening hs) ≡ losses_of 0 hs
  same_losses [] = refl
  same_losses (Delivered c port ∷ hs) = same_losses hs
  same_losses (Crossed c to head ∷ hs) = same_losses hs
  same_losses (Forked c copies lost ∷ hs) = λ i. if same_test c.number i then (lost ∷ same_losses hs i) else same_losses hs i

  pub came-later : (t : Tables) (set : PacketSet) (hs : List Happening) → CameOut t 0 set hs → CameOut t n set (map later_happening hs)
  came-later t set hs came = record {
    ports = subst (λ xs. IsPermutation xs (sent_of t set)) (sym (same_deliveries hs)) came.ports;
    loss = same_losses hs ∙ came.loss;
  }

  short_later : (most : ℕ) (h : Happening) → IsHopWithin most h → IsHopWithin most (later_happening h)
  short_later most (Crossed c to head) near = near
  short_later most (Delivered c port) near = near
  short_later most (Forked c copies lost) near = near

  pub all_short-later : (most : ℕ) (hs : List Happening) → All (IsHopWithin most) hs → All (IsHopWithin most) (map later_happening hs)
  all_short-later most [] all = All-nil (IsHopWithin most)
  all_short-later most (h ∷ hs) all =
      All-cons (IsHopWithin most) (later_happening h) (map later_happening hs) (short_later most h (All-head (IsHopWithin most) h hs all)) (all_short-later most hs (All-tail (IsHopWithin most) h hs all))
