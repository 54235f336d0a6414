-- The network: stores at switches, copies in flight, and runs of events.
use Rattle.std.specs.Prelude.{◌≡◌, ℕ, ◌+◌, false, ◌==◌, Some, List, [], ◌∷◌, ◌++◌, map, length, take, drop, slice_get, slice_index, unwrap_or, option_map, if◌then◌else◌}
use Rattle.std.specs.List.{All}
use Rattle.snap_core.specs.Arrays.{Arrays}
use Rattle.snap_rows.specs.declared.tables.Tables.{Tables}
use Rattle.snap_rows.specs.declared.head.Head.{Head}
use Rattle.snap_rows.specs.declared.head.Head.TheVariants.{Walk, Out}
use Rattle.snap_rows.specs.declared.head.Sent.{Sent}
use Rattle.snap_rows.specs.Entries.{port_at, owner_of}
use Rattle.snap_rows.specs.Actions.{Action, Forward, Deliver, Fork}
use Rattle.snap_rows.specs.Handles.{Handles}

-- a copy in flight, with the packet that it comes from, and the hops and steps that it has made
pub record Copy : Type 0 where
  pub number : ℕ
  pub at : ℕ
  pub head : Head
  pub packet : List ℕ
  pub hops : ℕ
  pub steps : ℕ

pub record Net : Type 0 where
  pub stores : ℕ → Arrays
  pub injected : ℕ
  pub flying : List Copy

pub data Event : Type 0 where
  Inject : ℕ → List ℕ → Event
  Step : ℕ → Event

-- what happens to a copy, which is given as it is before its step
pub data Happening : Type 0 where
  -- it crosses a link to this switch with this head
  Crossed : Copy → ℕ → Head → Happening
  -- it is delivered at this port
  Delivered : Copy → ℕ → Happening
  -- so many copies take its place, and so many are lost
  Forked : Copy → ℕ → ℕ → Happening

-- each switch holds its own arrays as m has them, and nothing has been injected
abbrev pub start : Tables → Arrays → Net
start t m = record {
  stores = λ w p. if unwrap_or (option_map (λ o. o == w) (owner_of t p.var)) false then m p else 0;
  injected = 0;
  flying = [];
}

abbrev pub injected : Net → ℕ → ℕ → List ℕ → Net
injected s w port k = record s {
  injected = s.injected + 1;
  flying = s.flying ++ record { number = s.injected; at = w; head = Walk 0; packet = k; hops = 0; steps = 0 } ∷ [];
}

-- what stands in the place of a copy after its step
abbrev pub moved : Copy → Action → List Copy
moved c (Forward to head) = record c { at = to; head = head; hops = c.hops + 1; steps = c.steps + 1 } ∷ []
moved c (Deliver port) = []
moved c (Fork copies lost) = map (λ (x : Sent). record c { head = Out x.port; packet = x.packet; steps = c.steps + 1 }) copies

abbrev pub happening : Copy → Action → Happening
happening c (Forward to head) = Crossed c to head
happening c (Deliver port) = Delivered c port
happening c (Fork copies lost) = Forked c (length copies) lost

abbrev pub stepped : Net → ℕ → Copy → Arrays → Action → Net
stepped s i c m a = record s {
  stores = λ w. if w == c.at then m else s.stores w;
  flying = take i s.flying ++ (moved c a ++ drop (i + 1) s.flying);
}

-- the event can be done, and leads from s to s'; an injection is no happening
pub data Leads (t : Tables) (s : Net) : Event → Net → List Happening → Type 0 where
  inject : {port w : ℕ} {k : List ℕ} → port_at t port ≡ Some w → slice_index k 0 ≡ port → Leads t s (Inject port k) (injected s w port k) []
  step : {i : ℕ} {c : Copy} {m : Arrays} {a : Action} → slice_get s.flying i ≡ Some c → Handles t c.at c.packet (s.stores c.at) c.head m a
      → Leads t s (Step i) (stepped s i c m a) (happening c a ∷ [])

-- the events lead from s to s', where each leads as it says here
pub data RunsBy {S E L : Type 0} (leads : S → E → S → List L → Type 0) : S → List E → S → List L → Type 0 where
  done : {s : S} → RunsBy leads s [] s []
  on : {s s' s'' : S} {e : E} {es : List E} {h hs : List L}
      → leads s e s' h → RunsBy leads s' es s'' hs → RunsBy leads s (e ∷ es) s'' (h ++ hs)

-- so they do in the network
abbrev pub Runs : Tables → Net → List Event → Net → List Happening → Type 0
Runs t s es s' hs = RunsBy (Leads t) s es s' hs

abbrev pub Run : Tables → Arrays → List Event → Net → List Happening → Type 0
Run t m es s hs = Runs t (start t m) es s hs

-- the events lead from s to s', and each injection comes with no copy in flight
pub data RunsSequentiallyBy {S L : Type 0} (net : S → Net) (leads : S → Event → S → List L → Type 0) : S → List Event → S → List L → Type 0 where
  rests : {s : S} → RunsSequentiallyBy net leads s [] s []
  injects : {s s' s'' : S} {port : ℕ} {k : List ℕ} {es : List Event} {h hs : List L} → (net s).flying ≡ [] → leads s (Inject port k) s' h
      → RunsSequentiallyBy net leads s' es s'' hs → RunsSequentiallyBy net leads s (Inject port k ∷ es) s'' (h ++ hs)
  steps : {s s' s'' : S} {i : ℕ} {es : List Event} {h hs : List L} → leads s (Step i) s' h
      → RunsSequentiallyBy net leads s' es s'' hs → RunsSequentiallyBy net leads s (Step i ∷ es) s'' (h ++ hs)

abbrev pub RunsSequentially : Tables → Net → List Event → Net → List Happening → Type 0
RunsSequentially t s es s' hs = RunsSequentiallyBy (λ (n : Net). n) (Leads t) s es s' hs

-- the packets that are injected, each with its port
abbrev pub packets_of : List Event → List (ℕ × List ℕ)
packets_of [] = []
packets_of (Inject port k ∷ es) = (port, k) ∷ packets_of es
packets_of (Step i ∷ es) = packets_of es

-- a step is of the first copy
abbrev pub StepsFirst : Event → Type 0
StepsFirst (Inject port k) = Unit {0}
StepsFirst (Step i) = i ≡ 0

-- a run of the plain schedule of these packets: each is injected once the one before has finished, and each step is of the first copy
pub record IsPlainRunBy {S L : Type 0} (net : S → Net) (leads : S → Event → S → List L → Type 0)
    (begin : S) (ks : List (ℕ × List ℕ)) (es : List Event) (s : S) (hs : List L) : Type 0 where
  pub packets : packets_of es ≡ ks
  pub first : All StepsFirst es
  pub run : RunsSequentiallyBy net leads begin es s hs
  pub ended : (net s).flying ≡ []

abbrev pub IsPlainRun : Tables → Arrays → List (ℕ × List ℕ) → List Event → Net → List Happening → Type 0
IsPlainRun t m ks es s hs = IsPlainRunBy (λ (n : Net). n) (Leads t) (start t m) ks es s hs

-- each variable as at the switch of its array
abbrev pub global_store : Tables → Net → Arrays
global_store t s p = unwrap_or (option_map (λ w. s.stores w p) (owner_of t p.var)) 0
