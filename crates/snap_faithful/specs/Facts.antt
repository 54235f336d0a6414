-- What makes tables of version 2 faithful.
use Rattle.std.specs.Prelude.{◌≡◌, ℕ, Some, List, length}
use Rattle.snap_core.specs.declared.place.Place.{Place}
use Rattle.snap_core.specs.declared.policy.Pol.{Pol}
use Rattle.snap_core.specs.declared.policy.Update.{Update}
use Rattle.snap_core.specs.declared.program.Program.{Program}
use Rattle.snap_core.specs.Arrays.{Arrays, updates}
use Rattle.snap_core.specs.Fields.{count}
use Rattle.snap_core.specs.Fits.{PolFits}
use Rattle.snap_core.specs.Inputs.{IsStore, IsPacket}
use Rattle.snap_core.specs.Laws.{PutsSmall}
use Rattle.snap_core.specs.Meaning.{Meaning, eval}
use Rattle.snap_core.specs.Tests.{results}
use Rattle.snap_dep.specs.Locality.{NeverRaces}
use Rattle.snap_topology.specs.declared.topology.Topology.{Topology}
use Rattle.snap_topology.specs.Form.{IsWellFormed}
use Rattle.snap_topology.specs.Tables.{Table, AreRoutes}
use Rattle.snap_rows.specs.declared.tables.Tables.{Tables}
use Rattle.snap_rows.specs.declared.tables.Row.TheVariants.{Last}
use Rattle.snap_rows.specs.Entries.{Parts, node_of}
use Rattle.snap_rows.specs.Handles.{is_test}
use Rattle.snap_faithful.specs.Faithful.{Faithful, HasShape, IsLiveAndReduced}
use Rattle.snap_faithful.specs.Visits.{Comes}

-- the leaf to which a store and a packet walk from number 0 gives the outcome of the policy
abbrev pub HasMeaning : Pol → ℕ → Tables → Type 0
HasMeaning p comps t = (m : Arrays) (k : List ℕ) → IsStore m → IsPacket comps k
    → (n : ℕ) (ups : List Update) (outs : List Parts) → Comes t k is_test m 0 n → node_of t n ≡ Some (Last ups outs)
    → (o : Meaning) → eval p m k ≡ Some o → (o.packets ≡ results outs k) × ((q : Place) → o.arrays q ≡ updates m ups k q)

-- a program within its bounds, a topology with its routes, and five facts: tables of version 2 have the shape for these, they
-- mean the program,
-- which never races, its numbers have 64 bits, and the tables are live and reduced
pub record Facts (p : Program) (topology : Topology) (places : List ℕ) (routes : Table) (t : Tables) : Type 0 where
  pub fits : PolFits (count p.fields) (length p.arrays) p.body
  pub well_formed : IsWellFormed topology
  pub paths : AreRoutes topology routes
  pub shape : HasShape p topology places t
  pub version : t.version ≡ 2
  pub meaning : HasMeaning p.body (count p.fields) t
  pub never : NeverRaces p.body (count p.fields)
  pub small : PutsSmall p.body
  pub live_and_reduced : IsLiveAndReduced p t

abbrev pub FactsMakeFaithful : Type 0
FactsMakeFaithful = (p : Program) (topology : Topology) (places : List ℕ) (routes : Table) (t : Tables)
    → Facts p topology places routes t → Faithful p topology places t
