-- Visits in order: a packet makes its visit of a rank only after all packets before it have made theirs.
use Rattle.std.specs.Prelude.{◌≡◌, ◌≢◌, ℕ, ◌+◌, ◌<◌, ◌==◌, Some, List, if◌then◌else◌}
use Rattle.snap_core.specs.declared.place.Place.{Place}
use Rattle.snap_core.specs.declared.program.Program.{Program}
use Rattle.snap_core.specs.declared.policy.Update.{Update}
use Rattle.snap_core.specs.Arrays.{Arrays, updates}
use Rattle.snap_core.specs.Meaning.{Meaning, eval}
use Rattle.snap_core.specs.Tests.{results}
use Rattle.snap_topology.specs.declared.topology.Topology.{Topology}
use Rattle.snap_rows.specs.declared.tables.Tables.{Tables}
use Rattle.snap_rows.specs.declared.tables.Row.TheVariants.{Last}
use Rattle.snap_rows.specs.declared.head.Sent.{Sent}
use Rattle.snap_rows.specs.Entries.{Parts, row_at, next, rank_at, rank_of, ranks}
use Rattle.snap_rows.specs.Handles.{Visits}
use Rattle.snap_faithful.specs.Agreement.{sent_of, lost_of}
use Rattle.snap_faithful.specs.Faithful.{Faithful, IsStoreOf, CanEnter}
use Rattle.snap_faithful.specs.Visits.{Enters, Chained}

-- the arrays of the variable's rank stand at the switch
abbrev pub StandsAt : Tables → ℕ → ℕ → Type 0
StandsAt t w v = rank_at t (rank_of t v) ≡ Some w

-- where a copy is after its visits: sent on to a switch, waiting where it is, or forked
pub data Becomes : Type 0 where
  SentOn : ℕ → ℕ → ℕ → Becomes
  Waiting : ℕ → ℕ → Becomes
  Forks : List Sent → ℕ → Becomes

-- one more packet has been handled at rank r
abbrev pub handled_more : (ℕ → ℕ) → ℕ → ℕ → ℕ
handled_more h r j = if j == r then h j + 1 else h j

-- packet i, with the components k, at number n for its visit of rank r: the switch's arrays and the numbers handled, before and after
pub data TakesTurns (t : Tables) (w : ℕ) (k : List ℕ) (i : ℕ) : Arrays → (ℕ → ℕ) → ℕ → ℕ → Arrays → (ℕ → ℕ) → Becomes → Type 0 where
  seeks : {s : Arrays} {h : ℕ → ℕ} {r n x : ℕ} → rank_at t r ≡ Some x → x ≢ w → TakesTurns t w k i s h r n s h (SentOn (next t w x) r n)
  waits : {s : Arrays} {h : ℕ → ℕ} {r n : ℕ} → rank_at t r ≡ Some w → h r ≢ i → TakesTurns t w k i s h r n s h (Waiting r n)
  visits : {s s' : Arrays} {h h' : ℕ → ℕ} {r n v : ℕ} {us : List Update} {b : Becomes}
      → rank_at t r ≡ Some w → h r ≡ i → Visits t w k s r n v us → r + 1 < ranks t
      → TakesTurns t w k i (updates s us k) (handled_more h r) (r + 1) v s' h' b → TakesTurns t w k i s h r n s' h' b
  concludes : {s : Arrays} {h : ℕ → ℕ} {r n v : ℕ} {us ups : List Update} {os : List Parts}
      → rank_at t r ≡ Some w → h r ≡ i → Visits t w k s r n v us → r + 1 ≡ ranks t
      → row_at t w v ≡ Some (Last ups os)
      → TakesTurns t w k i s h r n (updates s us k) (handled_more h r) (Forks (sent_of t (results os k)) (lost_of t (results os k)))

-- each array is as after the packets that its rank has handled; m i is the store before packet i
abbrev pub HoldsInOrder : Tables → (ℕ → Arrays) → ℕ → Arrays → (ℕ → ℕ) → Type 0
HoldsInOrder t m w s h = (q : Place) → StandsAt t w q.var → s q ≡ m (h (rank_of t q.var)) q

-- a copy of the packet with the store m before it stands where its chain does, or has forked as the outcome says
abbrev pub IsOnItsChain : Tables → List ℕ → Arrays → Meaning → ℕ → Becomes → Type 0
IsOnItsChain t k m o n (SentOn to r v) = Chained t k m n r v
IsOnItsChain t k m o n (Waiting r v) = Chained t k m n r v
IsOnItsChain t k m o n (Forks copies number) = (copies ≡ sent_of t o.packets) × (number ≡ lost_of t o.packets)

-- one step in order over faithful tables of version 2 keeps all this, whatever packets the other ranks have handled
abbrev pub FaithfulTurnsKeep : Type 0
FaithfulTurnsKeep =
    (p : Program) (topology : Topology) (places : List ℕ) (t : Tables) → Faithful p topology places t → t.version ≡ 2
    → (m : ℕ → Arrays) (i port : ℕ) (k : List ℕ) (o : Meaning) → IsStoreOf p (m i)
    → CanEnter p t (port, k) → eval p.body (m i) k ≡ Some o → ((q : Place) → o.arrays q ≡ m (i + 1) q)
    → (first : ℕ) → Enters t k (m i) first
    → (w r v : ℕ) (s s' : Arrays) (h h' : ℕ → ℕ) (b : Becomes)
    → Chained t k (m i) first r v → HoldsInOrder t m w s h → TakesTurns t w k i s h r v s' h' b
    → HoldsInOrder t m w s' h' × IsOnItsChain t k (m i) o first b × ((q : Place) → (StandsAt t w q.var → ⊥) → s' q ≡ s q)
