-- What `routes` deserves on its file.
use Rattle.std.specs.Prelude.{◌≡◌, ◌⊎◌, ◌==◌, if◌then◌else◌, ℕ, List, [], ◌∷◌, ◌++◌, length, codes, decimal, Ok, Err}
use Rattle.std.specs.List.{concat, flat_map, range_with_len}
use Rattle.snap_io.specs.Files.{Files, file_of}
use Rattle.snap_topology.specs.declared.topology.Topology.{Topology}
use Rattle.snap_topology.specs.Tables.{Table, AreRoutes, IsUnreachable, distance_of, next_of}
use Rattle.snap_cli.specs.declared.refusal.Refusal.{Refusal}
use Rattle.snap_cli.specs.declared.refusal.Refusal.TheVariants.{Unreachable}
use Rattle.snap_cli.specs.Refusals.{Ending}
use Rattle.snap_cli.specs.TopologyOf.{TopologyOf}
use Rattle.snap_runs.specs.Tallies.{name_in}

-- `route A B DISTANCE NEXT`
abbrev pub route_line : List (List ℕ) → Table → (a b : ℕ) → List ℕ
route_line names table a b =
    concat (codes "route " ∷ name_in names a ∷ codes " " ∷ name_in names b ∷ codes " " ∷ decimal (distance_of table a b)
    ∷ codes " " ∷ name_in names (next_of table a b) ∷ codes "\n" ∷ [])

-- the line of two switches, where they are different
abbrev pub line_between : List (List ℕ) → Table → (a b : ℕ) → List ℕ
line_between names table a b = if a == b then [] else route_line names table a b

abbrev pub lines_from : List (List ℕ) → Table → (a : ℕ) → List ℕ
lines_from names table a = flat_map (line_between names table a) (range_with_len 0 (length names))

-- the diameter and the last line
abbrev pub end_text : (diameter : ℕ) → List ℕ
end_text diameter = concat (codes "diameter " ∷ decimal diameter ∷ codes "\nend\n" ∷ [])

-- a line for each ordered pair of different switches, in the order of their numbers, and the end
abbrev pub routes_text : List (List ℕ) → Table → List ℕ
routes_text names table = flat_map (lines_from names table) (range_with_len 0 (length names)) ++ end_text table.diameter

-- the file spells a topology whose routes have this text
abbrev pub IsTextOf : List ℕ → List ℕ → Type 0
IsTextOf file text = (t : Topology) × (table : Table) × TopologyOf file (Ok t) × AreRoutes t table × (text ≡ routes_text t.switches table)

-- the file spells no topology for this reason, or one with two switches that no walk joins, of which these are the least
abbrev pub HasNoRoutes : List ℕ → Refusal → Type 0
HasNoRoutes file (Unreachable switches a b) = (t : Topology) × TopologyOf file (Ok t) × IsUnreachable t a b × (switches ≡ t.switches)
HasNoRoutes file refusal = TopologyOf file (Err refusal)

-- how the command ends where no device fails and memory is there
abbrev pub EndsRoutes : Files → (topology : List ℕ) → Ending → Type 0
EndsRoutes files topology (Ok u) = (text : List ℕ) × IsTextOf (file_of files topology) text
EndsRoutes files topology (Err refusal) = HasNoRoutes (file_of files topology) refusal

-- the text that has gone out then: nothing where there are no routes
abbrev pub IsRoutesText : Files → (topology : List ℕ) → List ℕ → Type 0
IsRoutesText files topology text =
    ((refusal : Refusal) × HasNoRoutes (file_of files topology) refusal × (text ≡ []))
    ⊎ IsTextOf (file_of files topology) text

-- of this text some first bytes may have gone out where memory is short
abbrev pub MayPrecedeRoutes : Files → (topology : List ℕ) → List ℕ → Type 0
MayPrecedeRoutes files topology text = (text ≡ []) ⊎ IsTextOf (file_of files topology) text
