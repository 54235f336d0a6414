-- Tables on demand as they are written from a diagram.
use Rattle.std.specs.Prelude.{◌≡◌, ◌≢◌, ℕ, ◌<◌, ◌≤◌, Option, Some, List, [], ◌∷◌, length, map, slice_get, slice_index}
use Rattle.snap_core.specs.declared.policy.Update.{Update}
use Rattle.snap_core.specs.declared.program.Program.{Program}
use Rattle.snap_topology.specs.declared.topology.Topology.{Topology}
use Rattle.snap_topology.specs.Tables.{Table, next_of}
use Rattle.snap_diagrams.specs.declared.node.Node.{Node}
use Rattle.snap_diagrams.specs.declared.leaf.Leaf.{Leaf}
use Rattle.snap_rows.specs.declared.tables.ArrayAt.{ArrayAt}
use Rattle.snap_rows.specs.declared.tables.Hop.{Hop}
use Rattle.snap_rows.specs.declared.tables.Tables.{Tables}
use Rattle.snap_rows.specs.declared.tables.Row.{Row}
use Rattle.snap_rows.specs.declared.tables.Row.TheVariants.{Last}
use Rattle.snap_rows.specs.Entries.{Parts, next}
use Rattle.snap_rows.specs.Form.{IsWellFormed}
use Rattle.snap_faithful.specs.Faithful.{Faithful}
use Rattle.snap_faithful.specs.Shown.{IsNumbering}
use Rattle.snap_faithful.specs.Generated.{numbered_nodes, AreInputs, IsBareDiagram}
use Rattle.snap_faithful.specs.OnDemand.{AreOnDemand}

-- the ranks of updates are at least r and never fall, and they are of the program's variables
abbrev pub RisesFrom : List ℕ → ℕ → ℕ → List Update → Type 0
RisesFrom ranks arrays r [] = Unit {0}
RisesFrom ranks arrays r (u ∷ us) = (r ≤ slice_index ranks u.var) × (u.var < arrays) × RisesFrom ranks arrays (slice_index ranks u.var) us

-- the leaves are tidied
abbrev pub HasRisingLeaves : List ℕ → ℕ → (ℕ → Option Row) → Type 0
HasRisingLeaves ranks arrays nodes = (i : ℕ) (us : List Update) (os : List Parts) → nodes i ≡ Some (Last us os) → RisesFrom ranks arrays 0 us

-- the lists, a hop for each pair, and the rows on demand
pub record IsWrittenOnDemand (p : Program) (t : Topology) (places : List ℕ)
    (routes : Table) (nodes : ℕ → Option Row) (n : Tables) : Type 0 where
  pub form : IsWellFormed n
  pub version : n.version ≡ 1
  pub fields : n.fields ≡ p.fields
  pub names : map (λ (a : ArrayAt). a.name) n.arrays ≡ p.arrays
  pub owners : map (λ (a : ArrayAt). a.at) n.arrays ≡ places
  pub switches : n.switches ≡ t.switches
  pub links : n.links ≡ t.links
  pub ports : n.ports ≡ t.ports
  pub hops : (a b : ℕ) → a < length t.switches → b < length t.switches → a ≢ b → next n a b ≡ next_of routes a b
  pub hop_once : (i : ℕ) (h : Hop) → slice_get n.hops i ≡ Some h → (next n h.from h.target ≡ h.next) × (h.from ≢ h.target)
  pub rows : AreOnDemand n nodes

-- tables that are written on demand are faithful
abbrev pub WrittenOnDemandIsFaithful : Type 0
WrittenOnDemandIsFaithful = (p : Program) (t : Topology) (places : List ℕ) (routes : Table)
    (ranks : List ℕ) (ns : List (Node Leaf)) (root : ℕ) (ids : List ℕ) (number : ℕ → ℕ) (n : Tables)
    → AreInputs p t places routes ranks → IsBareDiagram p ranks ns root → IsNumbering ns root ids number
    → HasRisingLeaves ranks (length p.arrays) (numbered_nodes ns ids number)
    → IsWrittenOnDemand p t places routes (numbered_nodes ns ids number) n → Faithful p t places n
