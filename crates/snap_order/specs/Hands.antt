-- What a worker has in a round, and the steps that it makes of the copies at its switches.
use Rattle.std.specs.Prelude.{◌≡◌, ◌≢◌, ℕ, Bool, true, false, ◌+◌, ◌<◌, ◌≤◌, ◌/◌, ◌%◌, Some, List, [], ◌∷◌, ◌++◌, filter, get_or, length, map, nat_eq, slice_get, take, drop}
use Rattle.std.specs.List.{All, flat_map}
use Rattle.snap_core.specs.Arrays.{Arrays}
use Rattle.snap_core.specs.Cells.{Kept}
use Rattle.snap_rows.specs.declared.tables.Tables.{Tables}
use Rattle.snap_rows.specs.Entries.{rank_at}
use Rattle.snap_rows.specs.Form.{IsWellFormed, comps, switch_count}
use Rattle.snap_rows.specs.Home.{AtHome}
use Rattle.snap_rows.specs.Rules.{IsValid}
use Rattle.snap_rows.specs.Network.{Copy, Event, Step}
use Rattle.snap_net.specs.declared.flying.Flying.{Flying}
use Rattle.snap_net.specs.Shown.{flown, store_of}
use Rattle.snap_order.specs.declared.hand.Stepped.{Stepped}
use Rattle.snap_net.specs.declared.happened.Moved.{Moved}
use Rattle.snap_order.specs.Ordered.{Ordered, OrderedHappening, LeadsInOrder}
use Rattle.snap_order.specs.Rounds.{TakesFrom}
use Rattle.snap_order.specs.Shown.{told_of}

-- tables of version 2 that keep all rules
pub record IsTwo (t : Tables) : Type 0 where
  pub form : IsWellFormed t
  pub valid : IsValid t
  pub version : t.version ≡ 2

-- the arrays of switches, and how many packets ranks have handled
pub record SwitchState : Type 0 where
  pub stores : ℕ → Arrays
  pub counts : List ℕ

-- the part of a worker that has the store of switch w in the place w / workers
abbrev pub part_of : (workers : ℕ) → List Kept → List ℕ → SwitchState
part_of workers stores counts = record { stores = λ w. store_of stores (w / workers); counts = counts }

-- a copy is in its place
pub record InPlace (t : Tables) (c : Flying) : Type 0 where
  pub at : c.at < switch_count t
  pub packet : length c.packet ≡ comps t
  pub home : AtHome t c.at c.head

-- the step that copy i of a state makes, which leaves its switch these arrays and numbers, and these copies in its place
pub record StepsTo (t : Tables) (c : Flying) (arrays : Arrays) (counts : List ℕ)
    (left : List Flying) (told : Moved) (s : Ordered) (i : ℕ) : Type 0 where
  pub state : Ordered
  pub turn : OrderedHappening
  pub leads : LeadsInOrder t s (Step i) state (turn ∷ [])
  pub told_is : told ≡ told_of turn
  pub here : state.net.stores c.at ≡ arrays
  pub away : (w : ℕ) → w ≢ c.at → state.net.stores w ≡ s.net.stores w
  pub counted : (r : ℕ) → rank_at t r ≡ Some c.at → state.handled r ≡ get_or counts r 0
  pub others : (r : ℕ) → rank_at t r ≢ Some c.at → state.handled r ≡ s.handled r
  pub copies : List Copy
  pub flying : state.net.flying ≡ take i s.net.flying ++ (copies ++ drop (i + 1) s.net.flying)
  pub left_is : map flown copies ≡ left
  pub injected : state.net.injected ≡ s.net.injected

-- At its switch a copy steps so in every state that has there such arrays and numbers, and these are those after it.
pub record StepsHere (t : Tables) (c : Flying) (arrays : Arrays) (counts : List ℕ)
    (arrays' : Arrays) (counts' : List ℕ) (left : List Flying) (told : Moved) : Type 0 where
  pub others : (r : ℕ) → rank_at t r ≢ Some c.at → get_or counts' r 0 ≡ get_or counts r 0
  pub long : length counts' ≡ length counts
  pub placed : All (InPlace t) left
  pub steps : (s : Ordered) (i : ℕ) (x : Copy) → slice_get s.net.flying i ≡ Some x → flown x ≡ c
      → s.net.stores c.at ≡ arrays → ((r : ℕ) → rank_at t r ≡ Some c.at → s.handled r ≡ get_or counts r 0)
      → StepsTo t c arrays' counts' left told s i

-- so it steps at a worker, whose other switches keep their arrays
pub record StepsIn (t : Tables) (workers : ℕ) (c : Flying) (old new : SwitchState) (left : List Flying) (told : Moved) : Type 0 where
  pub here : StepsHere t c (old.stores c.at) old.counts (new.stores c.at) new.counts left told
  pub away : (w : ℕ) → w % workers ≡ c.at % workers → w ≢ c.at → new.stores w ≡ old.stores w

-- the same of a step that gave this
abbrev pub StepsBy : Tables → (workers : ℕ) → Flying → (old new : SwitchState) → Stepped → Type 0
StepsBy t workers c old new x = StepsIn t workers c old new x.left.items x.moved

-- copies step one after another
pub data Works (t : Tables) (workers : ℕ) : SwitchState → List Flying → SwitchState → List Stepped → Type 0 where
  idles : {p : SwitchState} → Works t workers p [] p []
  works : {p q r : SwitchState} {c : Flying} {cs : List Flying} {x : Stepped} {xs : List Stepped}
      → StepsIn t workers c p q x.left.items x.moved → Works t workers q cs r xs → Works t workers p (c ∷ cs) r (x ∷ xs)

-- the copies at switches whose numbers have this remainder
abbrev pub share : (workers rest : ℕ) → List Flying → List Flying
share workers rest cs = filter (λ (c : Flying). nat_eq (c.at % workers) rest) cs

-- what the workers' steps gave, in the order of the copies: that of a copy is the next of its switch's worker
pub data Woven (workers : ℕ) : List Flying → (ℕ → List Stepped) → List Stepped → Type 0 where
  over : {queues : ℕ → List Stepped} → Woven workers [] queues []
  next : {c : Flying} {cs : List Flying} {queues later : ℕ → List Stepped} {x : Stepped} {xs : List Stepped}
      → queues (c.at % workers) ≡ x ∷ later (c.at % workers) → ((j : ℕ) → j ≢ c.at % workers → later j ≡ queues j)
      → Woven workers cs later xs → Woven workers (c ∷ cs) queues (x ∷ xs)

-- the state has what the workers have at their switches; of some workers nothing is said
pub record Agrees (t : Tables) (workers : ℕ) (busy : ℕ → Bool) (parts : ℕ → SwitchState) (s : Ordered) : Type 0 where
  pub stores : (w : ℕ) → busy (w % workers) ≡ true → s.net.stores w ≡ (parts (w % workers)).stores w
  pub handled : (r w : ℕ) → rank_at t r ≡ Some w → busy (w % workers) ≡ true → s.handled r ≡ get_or (parts (w % workers)).counts r 0

-- the copies from place i on have made their steps, and all else is as it was
pub record WeavesTo (t : Tables) (workers : ℕ) (busy : ℕ → Bool) (ends : ℕ → SwitchState) (xs : List Stepped) (s : Ordered) (i : ℕ) : Type 0 where
  pub state : Ordered
  pub events : List Event
  pub turns : List OrderedHappening
  pub round : TakesFrom t i s events state turns
  pub told : map (λ (x : Stepped). x.moved) xs ≡ map told_of turns
  pub flying : map flown state.net.flying ≡ map flown (take i s.net.flying) ++ flat_map (λ (x : Stepped). x.left.items) xs
  pub injected : state.net.injected ≡ s.net.injected
  pub agrees : Agrees t workers busy ends state
  pub away : (w : ℕ) → busy (w % workers) ≡ false → state.net.stores w ≡ s.net.stores w
  pub others : (r : ℕ) → ((w : ℕ) → rank_at t r ≡ Some w → busy (w % workers) ≡ false) → state.handled r ≡ s.handled r

-- **what workers make of the copies at their own switches, put in the order of the copies, is a round**
abbrev pub SharesMakeARound : Type 0
SharesMakeARound = (t : Tables) (workers : ℕ) → 0 < workers → (busy : ℕ → Bool) (parts ends : ℕ → SwitchState)
    (cs : List Flying) (queues : ℕ → List Stepped) (xs : List Stepped) → Woven workers cs queues xs
    → (s : Ordered) (i : ℕ) → map flown (drop i s.net.flying) ≡ cs → i ≤ length s.net.flying
    → ((k : ℕ) → k < workers → Works t workers (parts k) (share workers k cs) (ends k) (queues k)) → Agrees t workers busy parts s
    → All (λ (c : Flying). busy (c.at % workers) ≡ true) cs → WeavesTo t workers busy ends xs s i
