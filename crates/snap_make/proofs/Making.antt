-- What is made of a whole diagram is faithful.
use Rattle.std.proofs.Common.{◌≡◌, ℕ, Bool, List, map, length, Some}
use Rattle.std.specs.Prelude.{slice_get, slice_index}
use Rattle.snap_core.specs.declared.program.Program.{Program}
use Rattle.snap_core.specs.Laws.{PutsSmall}
use Rattle.snap_core.specs.Programs as programs
use Rattle.snap_dep.specs.Ranks.{Grouping, IsGrouping}
use Rattle.snap_topology.specs.declared.topology.Topology.{Topology}
use Rattle.snap_topology.specs.Form as topo
use Rattle.snap_topology.specs.Tables.{Table, AreRoutes}
use Rattle.snap_placement.specs.Answer.{GivesSwitches}
use Rattle.snap_diagrams.specs.declared.node.Node.{Node}
use Rattle.snap_diagrams.specs.Arena.{IsArena}
use Rattle.snap_diagrams.specs.declared.leaf.Leaf.{Leaf}
use Rattle.snap_diagrams.specs.Diagrams.{diagram}
use Rattle.snap_build.specs.Whole.{IsWhole}
use Rattle.snap_rows.specs.declared.tables.RowAt.{RowAt}
use Rattle.snap_rows.specs.declared.tables.Tables.{Tables}
use Rattle.snap_faithful.specs.Faithful.{Faithful}
use Rattle.snap_faithful.specs.Generated.{numbered_nodes}
use Rattle.snap_faithful.specs.Shown.{IsNumbering}
use Rattle.snap_faithful.specs.Tidied.{Tidies}
use Rattle.snap_make.specs.Outlined.{IsOutline}
use Rattle.snap_make.specs.Fronts.{AreMarked}
use Rattle.snap_make.specs.Known.{IsKnown}
use Rattle.snap_make.specs.Pairs.{at_switches, row_entry}
use Rattle.snap_make.specs.Shares.{AreRows}
use Rattle.snap_make.specs.Sites.{planned}
use Rattle.snap_make.specs.Tidy.{IsTidy}
use Rattle.snap_make.proofs.Given.{IsReady, ranks_below, ready}
use Rattle.snap_make.proofs.Made.{made_with}
use Rattle.snap_make.proofs.Sharing.{planned_are}
use Rattle.snap_make.proofs.Whole.{built, leaves_known, never_races}

module _ (p : Program) (t : Topology) (places : List ℕ) (routes : Table) (g : Grouping) (old : List (Node Leaf)) (old_root : ℕ)
    (form : programs.IsWellFormed p) (small : PutsSmall p.body) (groups : IsGrouping p.body (length p.arrays) g) (whole : IsWhole p g old old_root)
    (topology : topo.IsWellFormed t) (paths : AreRoutes t routes) (switches : GivesSwitches p t places) where
  pub given : IsReady p t places routes g
  given = ready p g form groups t places routes small (never_races p g old old_root whole) topology paths switches

  pub all_made : (known : (d : ℕ) (n : Node Leaf) → slice_get old d ≡ Some n → IsKnown n) (ns : List (Node Leaf)) (root : ℕ) (ids numbers : List ℕ) (marks : List Bool) (n : Tables) (r : List RowAt)
      → IsArena ns → Tidies g.ranks (length g.order) (diagram old old_root) (diagram ns root) → IsNumbering ns root ids (slice_index numbers)
      → AreMarked (numbered_nodes ns ids (slice_index numbers)) (length ids) (length ids) marks → IsOutline 2 p t places routes g.ranks n
      → map row_entry r ≡ at_switches (planned n ns ids numbers marks) (length n.switches) (length ids) → Faithful p t places (record n { rows = r })
  all_made known ns root ids numbers marks n r arena tidies num marked outline rows =
      made_with p t places routes g (diagram old old_root) ns root ids numbers marks n r given
      (built p g old old_root whole groups.count (ranks_below p g form groups) (leaves_known old whole.arena known old_root whole.below))
      arena tidies num marked outline rows

-- and so are the rows of a tidied diagram
pub rows_made : (p : Program) (t : Topology) (places : List ℕ) (routes : Table) (g : Grouping) (ns : List (Node Leaf)) (root : ℕ)
    → programs.IsWellFormed p → PutsSmall p.body → IsGrouping p.body (length p.arrays) g → topo.IsWellFormed t → AreRoutes t routes → GivesSwitches p t places → IsTidy p g ns root
    → (n : Tables) (rows : List RowAt) → IsOutline 2 p t places routes g.ranks n → IsArena ns → AreRows n ns root rows → Faithful p t places (record n { rows = rows })
rows_made p t places routes g ns root form small groups topology paths switches tidy n rows outline arena are =
    all_made p t places routes g tidy.old tidy.old_root form small groups tidy.whole topology paths switches tidy.known ns root are.ids are.numbers are.shares_are.marks n rows
    arena tidy.tidies are.numbering are.shares_are.marked outline
    (planned_are ns are.ids are.numbers (record { root = root; numbering = are.numbering; wide = are.wide }) are.bodies are.bodies_are n are.shares_are.marks (length n.switches) rows are.shares_are.are)
