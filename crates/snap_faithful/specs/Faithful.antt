-- Tables that make the whole network behave as one big switch.
use Rattle.std.specs.Prelude.{◌≡◌, ◌≢◌, ℕ, ◌+◌, ◌*◌, ◌<◌, ◌≤◌, ◌==◌, Bool, Some, List, [], map, length, if◌then◌else◌}
use Rattle.std.specs.List.{All}
use Rattle.snap_core.specs.declared.policy.Test.{Test}
use Rattle.snap_core.specs.declared.program.Program.{Program}
use Rattle.snap_core.specs.Arrays.{Arrays}
use Rattle.snap_core.specs.Fields.{count}
use Rattle.snap_core.specs.Inputs.{IsStore, IsPacket, IsZeroFrom, IsInput}
use Rattle.snap_core.specs.Switch.{Switched, one_big_switch}
use Rattle.snap_core.specs.Tests.{passes}
use Rattle.snap_dep.specs.Ranks.{IsRank, IsRankIn}
use Rattle.snap_topology.specs.declared.topology.Topology.{Topology}
use Rattle.snap_topology.specs.Walks.{Linked, IsNext, IsDiameter}
use Rattle.snap_rows.specs.declared.tables.ArrayAt.{ArrayAt}
use Rattle.snap_rows.specs.declared.tables.Tables.{Tables}
use Rattle.snap_rows.specs.declared.tables.Row.{Row}
use Rattle.snap_rows.specs.declared.tables.Row.TheVariants.{Field, State}
use Rattle.snap_rows.specs.Entries.{node_of, rank_of, next}
use Rattle.snap_rows.specs.Form.{IsWellFormed}
use Rattle.snap_rows.specs.Rules.{IsValid}
use Rattle.snap_rows.specs.SingleOwner.{IsSingleOwner}
use Rattle.snap_rows.specs.Handles.{is_test}
use Rattle.snap_rows.specs.Progress.{CanBeInjected}
use Rattle.snap_rows.specs.Network.{Net, Copy, Event, Happening, Crossed, Delivered, Forked, Run, RunsSequentially, IsPlainRun, packets_of, start}
use Rattle.snap_rows.specs.Happenings.{commits}
use Rattle.snap_faithful.specs.Agreement.{Agrees, numbered}
use Rattle.snap_faithful.specs.Visits.{Comes}

-- a store over the program's variables, and a packet of its components
pub record IsStoreOf (p : Program) (m : Arrays) : Type 0 where
  pub numbers : IsStore m
  pub only : IsZeroFrom (length p.arrays) m

abbrev pub IsPacketOf : Program → List ℕ → Type 0
IsPacketOf p k = IsPacket (count p.fields) k

-- the packet is the program's, and can be injected at the port
pub record CanEnter (p : Program) (t : Tables) (e : ℕ × List ℕ) : Type 0 where
  pub packet : IsPacketOf p e.1
  pub injected : CanBeInjected t e

abbrev pub AllCanEnter : Program → Tables → List (ℕ × List ℕ) → Type 0
AllCanEnter p t ks = All (CanEnter p t) ks

-- packets without the ports at which they are injected
abbrev pub packets_in : List (ℕ × List ℕ) → List (List ℕ)
packets_in ks = map (λ e. e.1) ks

-- the run agrees with one big switch over the packets in the order of their injection
abbrev pub AgreesAsInjected : Program → Tables → Arrays → List (ℕ × List ℕ) → Net → List Happening → Type 0
AgreesAsInjected p t m ks s hs = Agrees p t m (packets_in ks) (numbered (packets_in ks)) s hs

-- ---- the seven parts
-- 1: the tables are valid, and those of the program, the topology and the placement; their next hops are as defined, and in
-- version 2 so are their ranks
pub record HasShape (p : Program) (topology : Topology) (places : List ℕ) (t : Tables) : Type 0 where
  pub form : IsWellFormed t
  pub valid : IsValid t
  pub fields : t.fields ≡ p.fields
  pub names : map (λ (a : ArrayAt). a.name) t.arrays ≡ p.arrays
  pub owners : map (λ (a : ArrayAt). a.at) t.arrays ≡ places
  pub ranks : t.version ≡ 2 → (order : List ℕ) → IsRank p.body (length p.arrays) order → IsRankIn p.body (length p.arrays) order (rank_of t)
  pub switches : t.switches ≡ topology.switches
  pub links : t.links ≡ topology.links
  pub ports : t.ports ≡ topology.ports
  pub hops : (a b : ℕ) → a < length topology.switches → b < length topology.switches
      → a ≢ b → IsNext (Linked topology.links) a b (next t a b)

-- 2: one big switch is defined on every list of packets from every store, and leaves a store
abbrev pub IsDefined : Program → Type 0
IsDefined p = (m : Arrays) (ks : List (List ℕ)) → IsStoreOf p m → All (IsPacketOf p) ks
    → (end : Switched) × (one_big_switch p.body m ks ≡ Some end) × IsStoreOf p end.arrays

-- 3: the plain schedule of every list of packets can be run to its end, and agrees
abbrev pub PlainRunsAgree : Program → Tables → Type 0
PlainRunsAgree p t = (m : Arrays) (ks : List (ℕ × List ℕ)) → IsStoreOf p m → AllCanEnter p t ks
    → (es : List Event) × (s : Net) × (hs : List Happening) × IsPlainRun t m ks es s hs × AgreesAsInjected p t m ks s hs

-- 4: so does every run to an end in which each packet is injected when none is in flight
abbrev pub SequentialRunsAgree : Program → Tables → Type 0
SequentialRunsAgree p t = (m : Arrays) (es : List Event) (s : Net) (hs : List Happening) → IsStoreOf p m → AllCanEnter p t (packets_of es)
    → RunsSequentially t (start t m) es s hs → s.flying ≡ [] → AgreesAsInjected p t m (packets_of es) s hs

-- 5: where all arrays stand at one switch so does every run to an end, in the order of the forks
abbrev pub SingleOwnerRunsAgree : Program → Tables → Type 0
SingleOwnerRunsAgree p t = IsSingleOwner t → (m : Arrays) (es : List Event) (s : Net) (hs : List Happening)
    → IsStoreOf p m → AllCanEnter p t (packets_of es)
    → Run t m es s hs → s.flying ≡ [] → Agrees p t m (packets_in (packets_of es)) (commits hs) s hs

-- 6: after every list of events each copy, in flight or delivered, has made at most so many hops, and two more own steps. A
-- happening has the copy before its step
abbrev pub IsDeliveredWithin : ℕ → Happening → Type 0
IsDeliveredWithin most (Delivered c port) = (c.hops ≤ most) × (c.steps + 1 ≤ most + 2)
IsDeliveredWithin most (Crossed c to head) = Unit {0}
IsDeliveredWithin most (Forked c copies lost) = Unit {0}

pub record IsWithin (most : ℕ) (s : Net) (hs : List Happening) : Type 0 where
  pub flying : All (λ (c : Copy). (c.hops ≤ most) × (c.steps ≤ most + 2)) s.flying
  pub delivered : All (IsDeliveredWithin most) hs

-- the bound, for so many groups and this diameter: in version 2 a packet walks to each group's switch and then to its port; in
-- version 1 it may walk to
-- each group's switch twice, for tests and for a stage
abbrev pub most_hops : (version groups diameter : ℕ) → ℕ
most_hops version groups d = if version == 1 then (2 * groups + 1) * d else (groups + 1) * d

abbrev pub HopsAreBounded : Program → Topology → Tables → Type 0
HopsAreBounded p topology t = (order : List ℕ) (d : ℕ) → IsRank p.body (length p.arrays) order
    → IsDiameter (Linked topology.links) (length topology.switches) d
    → (m : Arrays) (es : List Event) (s : Net) (hs : List Happening) → IsStoreOf p m → AllCanEnter p t (packets_of es) → Run t m es s hs
    → IsWithin (most_hops t.version (length order) d) s hs

-- 7: some store and packet come from number 0 to this one, and go this way there
pub record IsMet (p : Program) (t : Tables) (n : ℕ) (test : Test) (way : Bool) : Type 0 where
  pub m : Arrays
  pub k : List ℕ
  pub input : IsInput (count p.fields) (length p.arrays) m k
  pub comes : Comes t k is_test m 0 n
  pub goes : passes test m k ≡ way

-- both ways of a test are met, and differ
pub record IsTestUsed (p : Program) (t : Tables) (n : ℕ) (test : Test) (y z : ℕ) : Type 0 where
  pub met : (way : Bool) → IsMet p t n test way
  pub differ : y ≢ z

abbrev pub IsUsed : Program → Tables → ℕ → Row → Type 0
IsUsed p t n (Field test y z) = IsTestUsed p t n test y z
IsUsed p t n (State test y z) = IsTestUsed p t n test y z
IsUsed p t n _ = Unit {0}

-- live: each way of each test is met; reduced: no two numbers have equal nodes, and no test leads to one number on both ways
pub record IsLiveAndReduced (p : Program) (t : Tables) : Type 0 where
  pub used : (n : ℕ) (b : Row) → node_of t n ≡ Some b → IsUsed p t n b
  pub one : (i j : ℕ) (b : Row) → node_of t i ≡ Some b → node_of t j ≡ Some b → i ≡ j

-- **the tables are faithful**
pub record Faithful (p : Program) (topology : Topology) (places : List ℕ) (t : Tables) : Type 0 where
  pub shape : HasShape p topology places t
  pub defined : IsDefined p
  pub plain_runs : PlainRunsAgree p t
  pub sequential_runs : SequentialRunsAgree p t
  pub single_owner_runs : SingleOwnerRunsAgree p t
  pub hop_bound : HopsAreBounded p topology t
  pub live_and_reduced : IsLiveAndReduced p t
