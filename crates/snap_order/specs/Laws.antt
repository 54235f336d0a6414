-- What one big switch is for an ordered network: laws of faithful tables of version 2 under any overlap.
use Rattle.std.specs.Prelude.{◌≡◌, ℕ, ◌+◌, ◌*◌, ◌<◌, ◌≤◌, Some, List, [], ◌∷◌, take, length, slice_get}
use Rattle.std.specs.List.{All}
use Rattle.snap_core.specs.declared.place.Place.{Place}
use Rattle.snap_core.specs.declared.program.Program.{Program}
use Rattle.snap_core.specs.Arrays.{Arrays}
use Rattle.snap_core.specs.Switch.{Switched, one_big_switch}
use Rattle.snap_dep.specs.Ranks.{IsRank}
use Rattle.snap_topology.specs.Walks.{Linked, IsDiameter}
use Rattle.snap_topology.specs.declared.topology.Topology.{Topology}
use Rattle.snap_rows.specs.declared.tables.Tables.{Tables}
use Rattle.snap_rows.specs.declared.head.Head.TheVariants.{Out}
use Rattle.snap_rows.specs.Entries.{rank_of}
use Rattle.snap_rows.specs.Network.{Copy, Event, Step, Happening, Crossed, Delivered, Forked, packets_of, global_store}
use Rattle.snap_faithful.specs.Faithful.{Faithful, IsStoreOf, AllCanEnter, packets_in, AgreesAsInjected}
use Rattle.snap_order.specs.Ordered.{Ordered, OrderedHappening, Waits, AwaitsVisit, LeadsInOrder, OrderedRun, happenings}

-- the events lead in order from a store of the program, over packets that can be injected
pub record Overlaps (p : Program) (t : Tables) (m : Arrays) (es : List Event) (s : Ordered) (us : List OrderedHappening) : Type 0 where
  pub store : IsStoreOf p m
  pub packets : AllCanEnter p t (packets_of es)
  pub run : OrderedRun t m es s us

-- after every list of events each array is as one big switch leaves it after the packets that its rank has handled
abbrev pub ArraysAreInOrder : Program → Tables → Type 0
ArraysAreInOrder p t = (m : Arrays) (es : List Event) (s : Ordered) (us : List OrderedHappening) → Overlaps p t m es s us
    → (q : Place) → (end : Switched)
    × (one_big_switch p.body m (take (s.handled (rank_of t q.var)) (packets_in (packets_of es))) ≡ Some end)
    × (global_store t s.net q ≡ end.arrays q)

-- every run to an end agrees with one big switch over the packets in the order of their injection
abbrev pub EndedRunsAgree : Program → Tables → Type 0
EndedRunsAgree p t = (m : Arrays) (es : List Event) (s : Ordered) (us : List OrderedHappening) → Overlaps p t m es s us
    → s.net.flying ≡ [] → AgreesAsInjected p t m (packets_of es) s.net (happenings us)

-- after every list of events each copy, in flight or delivered, has made at most (groups + 1) times the diameter hops
abbrev pub IsDeliveredWithin : ℕ → Happening → Type 0
IsDeliveredWithin most (Delivered c port) = c.hops ≤ most
IsDeliveredWithin most (Crossed c to head) = Unit {0}
IsDeliveredWithin most (Forked c copies lost) = Unit {0}

abbrev pub HopsAreFew : Program → Topology → Tables → Type 0
HopsAreFew p topology t = (order : List ℕ) (d : ℕ) → IsRank p.body (length p.arrays) order
    → IsDiameter (Linked topology.links) (length topology.switches) d
    → (m : Arrays) (es : List Event) (s : Ordered) (us : List OrderedHappening) → Overlaps p t m es s us
    → All (λ (c : Copy). c.hops ≤ (length order + 1) * d) s.net.flying × All (IsDeliveredWithin ((length order + 1) * d)) (happenings us)

-- a step waits, and then changes nothing, exactly where the copy is before a visit of a rank that has handled fewer packets
-- than came before it
pub record IsBehind (t : Tables) (s : Ordered) (c : Copy) : Type 0 where
  pub rank : ℕ
  pub number : ℕ
  pub before : AwaitsVisit t s.net c rank number
  pub fewer : s.handled rank < c.number

abbrev pub WaitsWhereBehind : Program → Tables → Type 0
WaitsWhereBehind p t = (m : Arrays) (es : List Event) (s : Ordered) (us : List OrderedHappening) → Overlaps p t m es s us
    → (i : ℕ) (c : Copy) (s' : Ordered) (vs : List OrderedHappening) → slice_get s.net.flying i ≡ Some c → LeadsInOrder t s (Step i) s' vs
    → (IsBehind t s c → (r : ℕ) × (vs ≡ Waits c r ∷ [])) × ((r : ℕ) → vs ≡ Waits c r ∷ [] → IsBehind t s c × (s' ≡ s))

-- the copy that hasn't forked and has the least number doesn't wait
abbrev pub HasForked : Copy → Type 0
HasForked c = (port : ℕ) × (c.head ≡ Out port)

abbrev pub IsLeast : Ordered → Copy → Type 0
IsLeast s c = (i : ℕ) (x : Copy) → slice_get s.net.flying i ≡ Some x → ¬ HasForked x → c.number ≤ x.number

abbrev pub LeastGoesOn : Program → Tables → Type 0
LeastGoesOn p t = (m : Arrays) (es : List Event) (s : Ordered) (us : List OrderedHappening) → Overlaps p t m es s us
    → (i : ℕ) (c : Copy) (s' : Ordered) (vs : List OrderedHappening) → slice_get s.net.flying i ≡ Some c
    → IsLeast s c → LeadsInOrder t s (Step i) s' vs → (r : ℕ) → ¬ (vs ≡ Waits c r ∷ [])

-- **overlap in order**: what faithful tables of version 2 promise
pub record KeepsOrder (p : Program) (topology : Topology) (t : Tables) : Type 0 where
  pub arrays : ArraysAreInOrder p t
  pub ended : EndedRunsAgree p t
  pub hops : HopsAreFew p topology t
  pub waits : WaitsWhereBehind p t
  pub least : LeastGoesOn p t

abbrev pub FaithfulKeepsOrder : Type 0
FaithfulKeepsOrder = (p : Program) (topology : Topology) (places : List ℕ) (t : Tables)
    → Faithful p topology places t → t.version ≡ 2 → KeepsOrder p topology t
