-- What makes tables of version 1 faithful.
use Rattle.std.specs.Prelude.{◌≡◌, ℕ, ◌<◌, ◌≤◌, Some, List, [], ◌∷◌, ◌++◌, length, IfSome}
use Rattle.snap_core.specs.declared.place.Place.{Place}
use Rattle.snap_core.specs.declared.policy.Pol.{Pol}
use Rattle.snap_core.specs.declared.policy.Test.{Test}
use Rattle.snap_core.specs.declared.policy.Update.{Update}
use Rattle.snap_core.specs.declared.program.Program.{Program}
use Rattle.snap_core.specs.Arrays.{Arrays, updates}
use Rattle.snap_core.specs.Fields.{count}
use Rattle.snap_core.specs.Fits.{PolFits}
use Rattle.snap_core.specs.Inputs.{IsStore, IsPacket}
use Rattle.snap_core.specs.Laws.{PutsSmall}
use Rattle.snap_core.specs.Meaning.{Meaning, eval}
use Rattle.snap_core.specs.Tests.{results}
use Rattle.snap_dep.specs.Locality.{NeverRaces}
use Rattle.snap_dep.specs.Ranks.{IsRank}
use Rattle.snap_topology.specs.declared.topology.Topology.{Topology}
use Rattle.snap_topology.specs.Form as topo
use Rattle.snap_topology.specs.Tables.{Table, AreRoutes}
use Rattle.snap_rows.specs.declared.tables.Tables.{Tables}
use Rattle.snap_rows.specs.declared.tables.Row.{Row}
use Rattle.snap_rows.specs.declared.tables.Row.TheVariants.{Field, State, Leaf}
use Rattle.snap_rows.specs.declared.tables.Stage.{Stage as LeafStage}
use Rattle.snap_rows.specs.Entries.{Parts, node_of, owner_of, var_of}
use Rattle.snap_rows.specs.Handles.{is_test}
use Rattle.snap_faithful.specs.Faithful.{Faithful, HasShape, IsLiveAndReduced}
use Rattle.snap_faithful.specs.Visits.{Comes}

-- the updates of a leaf's stages, in order
abbrev pub all_ups : List LeafStage → List Update
all_ups [] = []
all_ups (s ∷ ss) = s.ups ++ all_ups ss

-- the leaf to which a store and a packet walk from number 0 gives the outcome of the policy
abbrev pub HasStagedMeaning : Pol → ℕ → Tables → Type 0
HasStagedMeaning p comps t = (m : Arrays) (k : List ℕ) → IsStore m → IsPacket comps k
    → (n : ℕ) (ss : List LeafStage) (outs : List Parts) → Comes t k is_test m 0 n → node_of t n ≡ Some (Leaf ss outs)
    → (o : Meaning) → eval p m k ≡ Some o → (o.packets ≡ results outs k) × ((q : Place) → o.arrays q ≡ updates m (all_ups ss) k q)

-- what may come after a state row of rank r: a leaf, or a state row of at least this rank
abbrev pub MayCome : (ℕ → ℕ) → ℕ → Row → Type 0
MayCome rank r (Field test y z) = ⊥
MayCome rank r (State test y z) = r ≤ rank (var_of test)
MayCome rank r _ = Unit {0}

-- ranks of variables by which the tables' state rows and stages go: there are so many, a rank's arrays stand at one switch,
-- state rows never fall
-- in rank, and a leaf has at most a stage for each rank
pub record GoesByRank (t : Tables) (groups : ℕ) (rank : ℕ → ℕ) : Type 0 where
  pub below : (v w : ℕ) → owner_of t v ≡ Some w → rank v < groups
  pub order : (n y z : ℕ) (test : Test) → node_of t n ≡ Some (State test y z)
      → IfSome (node_of t y) (MayCome rank (rank (var_of test))) × IfSome (node_of t z) (MayCome rank (rank (var_of test)))
  pub together : (u v w x : ℕ) → owner_of t u ≡ Some w → owner_of t v ≡ Some x → rank u ≡ rank v → w ≡ x
  pub stages : (n : ℕ) (ss : List LeafStage) (os : List Parts) → node_of t n ≡ Some (Leaf ss os) → length ss ≤ groups

-- six facts of tables of version 1
pub record StagedFacts (p : Program) (topology : Topology) (places : List ℕ) (routes : Table) (t : Tables) : Type 0 where
  pub fits : PolFits (count p.fields) (length p.arrays) p.body
  pub well_formed : topo.IsWellFormed topology
  pub paths : AreRoutes topology routes
  pub shape : HasShape p topology places t
  pub version : t.version ≡ 1
  pub meaning : HasStagedMeaning p.body (count p.fields) t
  pub ranked : (order : List ℕ) → IsRank p.body (length p.arrays) order → (rank : ℕ → ℕ) × GoesByRank t (length order) rank
  pub never : NeverRaces p.body (count p.fields)
  pub small : PutsSmall p.body
  pub live_and_reduced : IsLiveAndReduced p t

abbrev pub StagedFactsMakeFaithful : Type 0
StagedFactsMakeFaithful = (p : Program) (topology : Topology) (places : List ℕ) (routes : Table) (t : Tables)
    → StagedFacts p topology places routes t → Faithful p topology places t
