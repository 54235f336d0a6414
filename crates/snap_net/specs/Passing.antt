-- How a packet passes through the network: it comes in, and then its copies make their steps, the first one at a time, until
-- each is delivered.
use Rattle.std.specs.Prelude.{◌≡◌, ℕ, ◌+◌, true, Some, List, [], ◌∷◌, ◌++◌, map, sum}
use Rattle.std.specs.List.{All}
use Rattle.snap_core.specs.Arrays.{Arrays}
use Rattle.snap_core.specs.Cells.{Kept}
use Rattle.snap_rows.specs.Actions.{Action}
use Rattle.snap_rows.specs.declared.head.Fate.{Fate}
use Rattle.snap_rows.specs.declared.head.Fate.TheVariants as fate
use Rattle.snap_rows.specs.declared.head.Head.{Head}
use Rattle.snap_rows.specs.declared.head.Head.TheVariants.{Walk, Out, Visit}
use Rattle.snap_rows.specs.declared.head.Sent.{Sent}
use Rattle.snap_rows.specs.declared.tables.Tables.{Tables}
use Rattle.snap_rows.specs.Entries.{Parts, next, port_at}
use Rattle.snap_rows.specs.Handles.{Handles}
use Rattle.snap_rows.specs.Happenings.{deliveries_of, losses_of, number_of}
use Rattle.snap_rows.specs.Network.{Net, Event, Inject, Happening, Crossed, Delivered, Forked, RunsSequentially, StepsFirst, packets_of}
use Rattle.snap_rows.specs.Stepping.{IsSpread, Steps}
use Rattle.snap_rows.specs.Ways.{Way}
use Rattle.snap_net.specs.declared.flying.Flying.{Flying}
use Rattle.snap_net.specs.declared.passing.Passed.{Passed}
use Rattle.snap_net.specs.declared.passing.Passed.TheVariants.{Alone, Parted}
use Rattle.snap_net.specs.Moves.{Changed}
use Rattle.snap_net.specs.Shown.{NetView, Represents, store_of}
use Rattle.snap_net.specs.Travels.{Crosses, Hears}

-- ---- what is told
-- those of these happenings that cross links
abbrev pub crossings : List Happening → List Happening
crossings [] = []
crossings (Crossed c to head ∷ hs) = Crossed c to head ∷ crossings hs
crossings (Delivered c port ∷ hs) = crossings hs
crossings (Forked c copies lost ∷ hs) = crossings hs

-- these packets of packet i were delivered, in this order, and so many were lost; nothing happened to another packet
pub record IsTold (i : ℕ) (sent : List (List ℕ)) (lost : ℕ) (hs : List Happening) : Type 0 where
  pub happen : All (λ h. number_of h ≡ i) hs
  pub sent_is : map (λ (x : Sent). x.packet) (deliveries_of i hs) ≡ sent
  pub lost_is : sum (losses_of i hs) ≡ lost

-- the same, and the links that were crossed were told to one who saw others before
pub record IsHeard {V : Type 0} (saw : V → List Happening → V → Type 0) (i : ℕ)
    (old new : V) (sent : List (List ℕ)) (lost : ℕ) (hs : List Happening) : Type 0 where
  pub told : IsTold i sent lost hs
  pub heard : Hears saw old new (crossings hs)

-- the packets that went out, where the packet now is k, and how many were lost
abbrev pub sent_in : List ℕ → Passed → List (List ℕ)
sent_in k Alone = k ∷ []
sent_in k (Parted copies lost) = map (λ (x : Sent). x.packet) copies.items

abbrev pub lost_in : Passed → ℕ
lost_in Alone = 0
lost_in (Parted copies lost) = lost

-- what went out of packet i, which now is k, was told
abbrev pub HearsSent : {V : Type 0} → (saw : V → List Happening → V → Type 0)
    → (i : ℕ) → (old new : V) → List ℕ → Passed → List Happening → Type 0
HearsSent saw i old new k passed hs = IsHeard saw i old new (sent_in k passed) (lost_in passed) hs

-- ---- steps
-- n packets were injected, and these copies are in flight
abbrev pub held : Tables → ℕ → List Kept → List Flying → NetView
held t n stores flying = record { tables = t; stores = stores; injected = n; flying = flying }

-- a copy of packet number i that has come in at switch w
abbrev pub entering : ℕ → ℕ → List ℕ → Flying
entering i w k = record { number = i; at = w; head = Walk 0; packet = k }

-- switch w makes the step of a copy, which does this
pub record StepsAt (t : Tables) (w : ℕ) (k : List ℕ) (h : Head) (old new : List Kept) (a : Action) : Type 0 where
  pub arrays : Arrays
  pub handles : Handles t w k (store_of old w) h arrays a
  pub changed : Changed old new w arrays

-- the same, of which this becomes
pub record StepsSo (t : Tables) (w : ℕ) (k : List ℕ) (h : Head) (old new : List Kept) (f : Fate) : Type 0 where
  pub arrays : Arrays
  pub steps : Steps t w k (λ r. true) (store_of old w) h arrays f
  pub changed : Changed old new w arrays

-- the copy neither stays nor waits for a visit
abbrev pub IsPlain : Fate → Type 0
IsPlain (fate.Stay r n) = ⊥
IsPlain (fate.Wait r) = ⊥
IsPlain _ = Unit {0}

-- a step crosses no link, and the copy doesn't stay
abbrev pub EndsPassing : Fate → Type 0
EndsPassing (fate.Seek x h) = ⊥
EndsPassing (fate.Deliver p) = Unit {0}
EndsPassing (fate.Fork outs) = Unit {0}
EndsPassing (fate.Stay r n) = ⊥
EndsPassing (fate.Wait r) = ⊥

-- the switch at which a copy next does more than to cross a link, after a step at w that sends it towards x with this head
abbrev pub reached : Tables → (w x : ℕ) → Head → ℕ
reached t w x (Out p) = x
reached t w x (Visit r n) = x
reached t w x _ = next t w x

-- steps of the first copy lead from s to s', and this happens
pub record Goes (t : Tables) (s : Net) (hs : List Happening) (s' : Net) : Type 0 where
  pub events : List Event
  pub no_packets : packets_of events ≡ []
  pub first : All StepsFirst events
  pub run : RunsSequentially t s events s' hs

-- from each state with the first stores and copies, where n packets were injected, such steps lead to one with the others, and this is told
abbrev pub Comes : Tables → ℕ → (old : List Kept) (from : List Flying) (new : List Kept) (to : List Flying)
    → (List Happening → Type 0) → Type 0
Comes t n old from new to told = (s : Net) → Represents (held t n old from) s
    → (s' : Net) × (hs : List Happening) × Goes t s hs s' × Represents (held t n new to) s' × told hs

-- copy c alone comes to switch w, and its step there changes the stores to the new ones, and this becomes of it
abbrev pub LandsWith : Tables → (old : List Kept) → Flying → (new : List Kept) → (w : ℕ) → Fate → (List Happening → Type 0) → Type 0
LandsWith t old c new w f told = (mid : List Kept) × (h : Head)
    × Comes t (c.number + 1) old (c ∷ []) mid (record c { at = w; head = h } ∷ []) told × StepsSo t w c.packet h mid new f

-- the same, where the links that it crosses were told
abbrev pub FliesTo : {V : Type 0} → (saw : V → List Happening → V → Type 0)
    → Tables → Flying → (a b : V) → (old new : List Kept) → (w : ℕ) → Fate → Type 0
FliesTo saw t c a b old new w f = LandsWith t old c new w f (IsHeard saw c.number a b [] 0)

-- packet k of number i, which came in at switch w, is parted and sent out until no copy is left, and this is told
abbrev pub PassesThrough : Tables → (i w : ℕ) → List ℕ → (old new : List Kept) → (List Happening → Type 0) → Type 0
PassesThrough t i w k old new told = Comes t (i + 1) old (entering i w k ∷ []) new [] told

-- copies of packet i cross these links on their ways from switch w to their ports, one copy after another
pub data GoOut (t : Tables) (i w : ℕ) : List Sent → List Happening → Type 0 where
  none : GoOut t i w [] []
  next_one : {x : Sent} {xs : List Sent} {v : ℕ} {ws : List ℕ} {hs gs : List Happening}
      → port_at t x.port ≡ Some v → Way t v w ws → Crosses i (Out x.port) x.packet w ws hs → GoOut t i w xs gs
      → GoOut t i w (x ∷ xs) (hs ++ gs)

-- these packets are sent and so many lost of what outs make of packet k of number i at switch w, and the links that they cross were told
pub record PartsInto {V : Type 0} (t : Tables) (i w : ℕ) (os : List Parts) (k : List ℕ)
    (saw : V → List Happening → V → Type 0) (old new : V) (sent : List (List ℕ)) (lost : ℕ) : Type 0 where
  pub copies : List Sent
  pub spread : IsSpread t os k copies lost
  pub sent_is : map (λ (x : Sent). x.packet) copies ≡ sent
  pub heard : (gs : List Happening) → GoOut t i w copies gs → Hears saw old new gs

-- ---- a packet
-- the packet was injected at the port, and then each step was of the first copy, until none was left
pub record PassesTo (port : ℕ) (k : List ℕ) (old new : NetView) (told : List Happening → Type 0) (s : Net) : Type 0 where
  pub state : Net
  pub events : List Event
  pub happenings : List Happening
  pub no_packets : packets_of events ≡ []
  pub first : All StepsFirst events
  pub run : RunsSequentially old.tables s (Inject port k ∷ events) state happenings
  pub rests : state.flying ≡ []
  pub injected : state.injected ≡ s.injected + 1
  pub shows : Represents new state
  pub tells : told happenings

-- so it passes from each state that was shown with nothing in flight
abbrev pub Passes : (port : ℕ) → List ℕ → (old new : NetView) → (List Happening → Type 0) → Type 0
Passes port k old new told = (s : Net) → Represents old s → PassesTo port k old new told s
