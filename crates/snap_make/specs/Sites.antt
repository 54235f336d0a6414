-- What stands at a switch, and which rows it has.
use Rattle.std.specs.Prelude.{◌≡◌, ℕ, Bool, false, ◌&&◌, ◌==◌, nat_le, Option, Some, None, List, slice_index, slice_index_or, if◌then◌else◌}
use Rattle.snap_core.specs.declared.policy.Test.TheVariants.{Value, Equal, State as StateTest}
use Rattle.snap_diagrams.specs.declared.node.Node.{Node}
use Rattle.snap_diagrams.specs.declared.node.Node.TheVariants as node
use Rattle.snap_diagrams.specs.declared.leaf.Leaf.{Leaf}
use Rattle.snap_rows.specs.declared.tables.Row.{Row}
use Rattle.snap_rows.specs.declared.tables.Tables.{Tables}
use Rattle.snap_rows.specs.Entries.{rank_of, ranks}
use Rattle.snap_faithful.specs.Planned.{has_port, has_ports, holds, row_for}
use Rattle.snap_faithful.specs.Generated.{numbered_nodes}
use Rattle.snap_make.specs.declared.sites.Site.{Site}

-- the rank, if any, is at most q
abbrev pub is_within : Option ℕ → ℕ → Bool
is_within None q = false
is_within (Some r) q = nat_le r q

-- packets come to the switch for visits of this rank or a greater one
abbrev pub is_visited : Tables → ℕ → ℕ → Bool
is_visited t w q = has_ports t && holds t w q

-- the switch has rows of leaves
abbrev pub has_leaves : Tables → ℕ → Bool
has_leaves t w = if ranks t == 0 then has_port t w else is_visited t w (ranks t)

-- what is told of a switch
pub record IsSite (t : Tables) (s : Site) : Type 0 where
  pub port : s.port ≡ has_port t s.at
  pub least : (q : ℕ) → is_within s.least q ≡ is_visited t s.at q
  pub leaves : s.leaves ≡ has_leaves t s.at

-- a number with this node has it as its row at the switch
abbrev pub due : Tables → ℕ → Node Leaf → Bool
due t w (node.Leaf l) = has_leaves t w
due t w (node.Ask (Value c n) y z) = has_port t w
due t w (node.Ask (Equal a b n) y z) = has_port t w
due t w (node.Ask (StateTest v ix x) y z) = is_visited t w (rank_of t v)

-- the row of a switch and number
abbrev pub planned : Tables → List (Node Leaf) → List ℕ → List ℕ → List Bool → ℕ → ℕ → Option Row
planned t ns ids numbers marks w n = row_for t w (slice_index_or marks n false) (numbered_nodes ns ids (slice_index numbers) n)
