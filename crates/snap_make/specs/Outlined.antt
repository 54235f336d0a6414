-- Tables but for their rows.
use Rattle.std.specs.Prelude.{◌≡◌, ◌==◌, ℕ, List, length, map, take, if◌then◌else◌}
use Rattle.snap_core.specs.declared.program.Program.{Program}
use Rattle.snap_topology.specs.declared.topology.Topology.{Topology}
use Rattle.snap_topology.specs.Tables.{Table}
use Rattle.snap_rows.specs.declared.tables.ArrayAt.{ArrayAt}
use Rattle.snap_rows.specs.declared.tables.Tables.{Tables}
use Rattle.snap_make.specs.Pairs.{at_switches, hop_entry, hop_for}

-- a rank as it stands in the tables: version 1 tells none
abbrev pub written_rank : (version rank : ℕ) → ℕ
written_rank v r = if v == 1 then 0 else r

-- the first n arrays, each with its name, switch and rank
pub record AreArrays (version : ℕ) (names : List (List ℕ)) (places ranks : List ℕ) (n : ℕ) (arrays : List ArrayAt) : Type 0 where
  pub named : map (λ (a : ArrayAt). a.name) arrays ≡ take n names
  pub placed : map (λ (a : ArrayAt). a.at) arrays ≡ take n places
  pub ranked : map (λ (a : ArrayAt). a.rank) arrays ≡ map (written_rank version) (take n ranks)

-- tables of this version: the lists of a program, its placement and ranks, and a topology with its routes
pub record IsOutline (number : ℕ) (p : Program) (t : Topology) (places : List ℕ) (routes : Table) (ranks : List ℕ) (n : Tables) : Type 0 where
  pub version : n.version ≡ number
  pub fields : n.fields ≡ p.fields
  pub arrays : AreArrays number p.arrays places ranks (length p.arrays) n.arrays
  pub switches : n.switches ≡ t.switches
  pub links : n.links ≡ t.links
  pub ports : n.ports ≡ t.ports
  pub hops : map hop_entry n.hops ≡ at_switches (hop_for routes) (length t.switches) (length t.switches)
