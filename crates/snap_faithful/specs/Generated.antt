-- Tables as they are generated from a diagram.
use Rattle.std.specs.Prelude.{◌≡◌, ◌≢◌, ℕ, ◌<◌, Bool, true, Option, Some, List, length, map, slice_get, slice_index, option_map, option_and_then}
use Rattle.snap_core.specs.declared.program.Program.{Program}
use Rattle.snap_core.specs.Fields.{count}
use Rattle.snap_core.specs.Inputs.{IsInput}
use Rattle.snap_core.specs.Fits.{PolFits}
use Rattle.snap_core.specs.Laws.{PutsSmall}
use Rattle.snap_dep.specs.Locality.{NeverRaces}
use Rattle.snap_dep.specs.Ranks.{IsRank, IsRankIn}
use Rattle.snap_topology.specs.declared.topology.Topology.{Topology}
use Rattle.snap_topology.specs.Form as topo
use Rattle.snap_topology.specs.Tables.{Table, AreRoutes, next_of}
use Rattle.snap_diagrams.specs.declared.node.Node.{Node}
use Rattle.snap_diagrams.specs.Arena.{IsArena}
use Rattle.snap_diagrams.specs.declared.leaf.Leaf.{Leaf}
use Rattle.snap_diagrams.specs.Bounds.{IsIn}
use Rattle.snap_diagrams.specs.Diagrams.{diagram}
use Rattle.snap_diagrams.specs.Order.{IsOrdered}
use Rattle.snap_diagrams.specs.Pruned.{IsLive}
use Rattle.snap_rows.specs.declared.tables.ArrayAt.{ArrayAt}
use Rattle.snap_rows.specs.declared.tables.Hop.{Hop}
use Rattle.snap_rows.specs.declared.tables.Tables.{Tables}
use Rattle.snap_rows.specs.declared.tables.Row.{Row}
use Rattle.snap_rows.specs.Entries.{next}
use Rattle.snap_rows.specs.Form.{IsWellFormed}
use Rattle.snap_faithful.specs.Faithful.{Faithful}
use Rattle.snap_faithful.specs.Planned.{IsFront, ArePlanned}
use Rattle.snap_faithful.specs.Shown.{row_of, IsNumbering, IsOutcomeOf, HasBareLeaves}

-- the nodes by their numbers
abbrev pub numbered_nodes : List (Node Leaf) → List ℕ → (ℕ → ℕ) → ℕ → Option Row
numbered_nodes ns ids number i = option_and_then (λ d. option_map (row_of number) (slice_get ns d)) (slice_get ids i)

-- a program in form that never races, a topology in form with its routes, and a place below the count of switches for each
-- variable, tied ones together
pub record AreInputs (p : Program) (t : Topology) (places : List ℕ) (routes : Table) (ranks : List ℕ) : Type 0 where
  pub fits : PolFits (count p.fields) (length p.arrays) p.body
  pub small : PutsSmall p.body
  pub never : NeverRaces p.body (count p.fields)
  pub well_formed : topo.IsWellFormed t
  pub paths : AreRoutes t routes
  pub as_many : length ranks ≡ length p.arrays
  pub ranked : (order : List ℕ) → IsRank p.body (length p.arrays) order → IsRankIn p.body (length p.arrays) order (slice_index ranks)
  pub together : (v w : ℕ) → v < length p.arrays → w < length p.arrays
      → slice_index ranks v ≡ slice_index ranks w → slice_index places v ≡ slice_index places w

-- the diagram of the program, in order and within bounds, live, and with bare leaves
pub record IsBareDiagram (p : Program) (ranks : List ℕ) (ns : List (Node Leaf)) (root : ℕ) : Type 0 where
  pub arena : IsArena ns
  pub ordered : IsOrdered ranks (diagram ns root)
  pub bounds : IsIn (record { comps = count p.fields; arrays = length p.arrays }) (diagram ns root)
  pub outcome : IsOutcomeOf p (diagram ns root)
  pub live : IsLive (IsInput (count p.fields) (length p.arrays)) (diagram ns root)
  pub bare : HasBareLeaves (diagram ns root)

-- what is written of them: the lists, a hop for each pair, and the planned rows
pub record IsWritten (p : Program) (t : Topology) (places : List ℕ) (routes : Table)
    (ranks : List ℕ) (nodes : ℕ → Option Row) (front : ℕ → Bool) (n : Tables) : Type 0 where
  pub form : IsWellFormed n
  pub version : n.version ≡ 2
  pub fields : n.fields ≡ p.fields
  pub names : map (λ (a : ArrayAt). a.name) n.arrays ≡ p.arrays
  pub owners : map (λ (a : ArrayAt). a.at) n.arrays ≡ places
  pub array_ranks : map (λ (a : ArrayAt). a.rank) n.arrays ≡ ranks
  pub switches : n.switches ≡ t.switches
  pub links : n.links ≡ t.links
  pub ports : n.ports ≡ t.ports
  pub hops : (a b : ℕ) → a < length t.switches → b < length t.switches → a ≢ b → next n a b ≡ next_of routes a b
  pub hop_once : (i : ℕ) (h : Hop) → slice_get n.hops i ≡ Some h → (next n h.from h.target ≡ h.next) × (h.from ≢ h.target)
  pub rows : ArePlanned n nodes front
  pub is_front : (i : ℕ) → IsFront nodes i → front i ≡ true
  pub front_is : (i : ℕ) → front i ≡ true → IsFront nodes i

-- written tables are faithful
abbrev pub WrittenIsFaithful : Type 0
WrittenIsFaithful = (p : Program) (t : Topology) (places : List ℕ) (routes : Table) (ranks : List ℕ)
    (ns : List (Node Leaf)) (root : ℕ) (ids : List ℕ) (number : ℕ → ℕ) (front : ℕ → Bool) (n : Tables)
    → AreInputs p t places routes ranks → IsBareDiagram p ranks ns root → IsNumbering ns root ids number
    → IsWritten p t places routes ranks (numbered_nodes ns ids number) front n → Faithful p t places n
