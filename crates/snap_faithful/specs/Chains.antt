-- What faithful tables do with a packet, and those of version 2 rank by rank.
use Rattle.std.specs.Prelude.{◌≡◌, ℕ, ◌<◌, Some, List}
use Rattle.snap_core.specs.declared.place.Place.{Place}
use Rattle.snap_core.specs.declared.program.Program.{Program}
use Rattle.snap_core.specs.declared.policy.Update.{Update}
use Rattle.snap_core.specs.Arrays.{Arrays, updates}
use Rattle.snap_core.specs.Meaning.{Meaning, eval}
use Rattle.snap_core.specs.Tests.{results}
use Rattle.snap_topology.specs.declared.topology.Topology.{Topology}
use Rattle.snap_rows.specs.declared.tables.Tables.{Tables}
use Rattle.snap_rows.specs.declared.tables.Row.TheVariants.{Last}
use Rattle.snap_rows.specs.Entries.{Parts, row_at, rank_at, rank_of, ranks}
use Rattle.snap_rows.specs.Form.{IsWellFormed}
use Rattle.snap_rows.specs.Rules.{IsValid}
use Rattle.snap_rows.specs.Home.{IsVisitAtHome}
use Rattle.snap_rows.specs.Handles.{Follows, Visits, is_field}
use Rattle.snap_faithful.specs.Agreement.{sent_of, lost_of}
use Rattle.snap_faithful.specs.Faithful.{Faithful, IsStoreOf, IsPacketOf, CanEnter}
use Rattle.snap_faithful.specs.Visits.{Enters, Chained}

-- the chain of a packet's visits, each by the arrays m at its own rank, ends at a leaf; each visit leaves its rank as the
-- outcome has it, and the leaf's copies are the outcome's
pub record Chain (t : Tables) (k : List ℕ) (m : Arrays) (o : Meaning) : Type 0 where
  pub first : ℕ
  pub last : ℕ
  pub at : ℕ
  pub ups : List Update
  pub outs : List Parts
  pub enters : Enters t k m first
  pub chained : Chained t k m first (ranks t) last
  pub leaf : row_at t at last ≡ Some (Last ups outs)
  pub leaves : (w r v x : ℕ) (us : List Update) → Chained t k m first r v → rank_at t r ≡ Some w → Visits t w k m r v x us
      → (q : Place) → rank_of t q.var ≡ r → updates m us k q ≡ o.arrays q
  pub forks : (w v : ℕ) (us : List Update) (os : List Parts) → Chained t k m first (ranks t) v → row_at t w v ≡ Some (Last us os)
      → (sent_of t (results os k) ≡ sent_of t o.packets) × (lost_of t (results os k) ≡ lost_of t o.packets)

-- so it is for each packet that can be injected, from each store of the program
abbrev pub FaithfulChains : Type 0
FaithfulChains = (p : Program) (topology : Topology) (places : List ℕ) (t : Tables) → Faithful p topology places t → t.version ≡ 2
    → (m : Arrays) (port : ℕ) (k : List ℕ) (o : Meaning) → IsStoreOf p m → CanEnter p t (port, k) → eval p.body m k ≡ Some o → Chain t k m o

-- evaluation is defined, and leaves a store of the program
abbrev pub FaithfulKeepsStores : Type 0
FaithfulKeepsStores = (p : Program) (topology : Topology) (places : List ℕ) (t : Tables) → Faithful p topology places t
    → (m : Arrays) (k : List ℕ) → IsStoreOf p m → IsPacketOf p k → (o : Meaning) × (eval p.body m k ≡ Some o) × IsStoreOf p o.arrays

-- a visit's number and updates are determined, and so is where a chain comes
abbrev pub VisitsAreOne : Type 0
VisitsAreOne = (t : Tables) (w : ℕ) (k : List ℕ) (m : Arrays) (r n v x : ℕ) (us vs : List Update)
    → Visits t w k m r n v us → Visits t w k m r n x vs → (v ≡ x) × (us ≡ vs)

abbrev pub ChainsAreOne : Type 0
ChainsAreOne = (t : Tables) (k : List ℕ) (m : Arrays) (n r v x : ℕ) → Chained t k m n r v → Chained t k m n r x → v ≡ x

-- field rows lead on by the packet alone
abbrev pub FieldsGoAlike : Type 0
FieldsGoAlike = (t : Tables) → IsWellFormed t → (w : ℕ) (k : List ℕ) (m s : Arrays) (n v : ℕ)
    → Follows t w k is_field m n v → Follows t w k is_field s n v

-- the next visit of a chain is at home
abbrev pub ChainsAreAtHome : Type 0
ChainsAreAtHome = (t : Tables) → IsWellFormed t → IsValid t → t.version ≡ 2
    → (k : List ℕ) (m : Arrays) (n r v : ℕ) → Enters t k m n → Chained t k m n r v → r < ranks t → IsVisitAtHome t r v
