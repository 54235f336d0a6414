-- What is made on demand of a whole diagram is faithful.
use Rattle.std.proofs.Common.{◌≡◌, ℕ, Bool, true, false, cond, List, map, length, Option, Some, None, refl, ap, subst, ◌∙◌}
use Rattle.std.specs.Prelude.{nat_eq, option_map, slice_get, slice_index, if◌then◌else◌}
use Rattle.std.specs.List.{range_with_len}
use Rattle.std.proofs.lemmas.List.{length-map}
use Rattle.std.proofs.lemmas.Option.{slice_get-map}
use Rattle.snap_core.specs.declared.program.Program.{Program}
use Rattle.snap_core.specs.Laws.{PutsSmall}
use Rattle.snap_core.specs.Programs as programs
use Rattle.snap_dep.specs.Ranks.{Grouping, IsGrouping}
use Rattle.snap_topology.specs.declared.topology.Topology.{Topology}
use Rattle.snap_topology.specs.Form as topo
use Rattle.snap_topology.specs.Tables.{Table, AreRoutes}
use Rattle.snap_placement.specs.Answer.{GivesSwitches}
use Rattle.snap_diagrams.specs.declared.node.Node.{Node}
use Rattle.snap_diagrams.specs.Arena.{IsArena}
use Rattle.snap_diagrams.specs.declared.leaf.Leaf.{Leaf}
use Rattle.snap_diagrams.specs.Diagrams.{diagram}
use Rattle.snap_rows.specs.declared.tables.Row.{Row}
use Rattle.snap_rows.specs.declared.tables.Row.TheVariants as row
use Rattle.snap_rows.specs.declared.tables.RowAt.{RowAt}
use Rattle.snap_rows.specs.declared.tables.Tables.{Tables}
use Rattle.snap_rows.specs.Entries.{var_of}
use Rattle.snap_faithful.specs.Generated.{numbered_nodes}
use Rattle.snap_make.specs.declared.switches.Switches.{Switches}
use Rattle.snap_make.specs.Demands.{AreDemanded, IsSetting, has_pair}
use Rattle.snap_faithful.specs.Faithful.{Faithful}
use Rattle.snap_faithful.specs.OnDemand.{place_of, row_on, staged}
use Rattle.snap_faithful.proofs.Reframing.{wanted_with, closed_with}
use Rattle.snap_make.proofs.Turning.{ended}
use Rattle.snap_make.specs.Demanded.{AreNumberedRows, CanBeNumbered, body_on, demanded}
use Rattle.snap_make.specs.Outlined.{IsOutline}
use Rattle.snap_make.specs.Fronts.{IsNumbered}
use Rattle.snap_make.specs.Pairs.{at_switches, row_entry}
use Rattle.snap_make.specs.Shares.{body_of}
use Rattle.snap_make.specs.Tidy.{IsTidy}
use Rattle.snap_make.proofs.Demanding as demanding
use Rattle.snap_make.proofs.Demanding.{wanted_row, made_on_demand}
use Rattle.snap_make.proofs.Given.{IsReady, ranks_below}
use Rattle.snap_make.proofs.Making.{given}
use Rattle.snap_make.proofs.Noded.{node_low}
use Rattle.snap_make.proofs.Sharing.{as_many, numbered_is}
use Rattle.snap_make.proofs.Whole.{IsBuilt, built, leaves_known}

-- ---- what stands in a row is the row of its switch
module _ (place : ℕ → ℕ) (w : ℕ) where
  share_said : (c : Row) → body_on place w (staged place c) ≡ row_on place w c
  share_said (row.Field test y z) = refl
  share_said (row.State test y z) = by (nat_eq (place (var_of test)) w)
    where
      by : (b : Bool) → cond b (row.State test y z) (row.Go (place (var_of test))) ≡ cond b (row.State test y z) (row.Go (place (var_of test)))
      by true = refl
      by false = refl
  share_said (row.Go x) = refl
  share_said (row.Leaf ss os) = refl
  share_said row.Stop = refl
  share_said (row.Last us os) = refl

  staged_said : (o : Option Row) → option_map (body_on place w) (option_map (staged place) o) ≡ option_map (row_on place w) o
  staged_said None = refl
  staged_said (Some c) = ap Some (share_said c)

demanded_is : (t : Tables) (marks : List Switches) (nodes : List Row) (w i : ℕ) → demanded t (map (staged (place_of t)) nodes) marks w i ≡ wanted_row t (slice_get nodes) (has_pair marks) w i
demanded_is t marks nodes w i =
    ap (λ o. if has_pair marks w i then o else None)
    (ap (option_map (body_on (place_of t) w)) (slice_get-map (staged (place_of t)) nodes i) ∙ staged_said (place_of t) w (slice_get nodes i))

module _ (p : Program) (t : Topology) (places : List ℕ) (routes : Table) (g : Grouping) (ns : List (Node Leaf)) (root : ℕ)
    (form : programs.IsWellFormed p) (small : PutsSmall p.body) (groups : IsGrouping p.body (length p.arrays) g) (topology : topo.IsWellFormed t) (paths : AreRoutes t routes) (switches : GivesSwitches p t places)
    (tidy : IsTidy p g ns root) (n : Tables) (outline : IsOutline 1 p t places routes g.ranks n) where
  ready : IsReady p t places routes g
  ready = given p t places routes g tidy.old tidy.old_root form small groups tidy.whole topology paths switches

  whole : IsBuilt p g (diagram tidy.old tidy.old_root)
  whole = built p g tidy.old tidy.old_root tidy.whole groups.count (ranks_below p g form groups) (leaves_known tidy.old tidy.whole.arena tidy.known tidy.old_root tidy.whole.below)

  pub setting : IsSetting n routes
  setting = demanding.setting p t places routes g n ready outline

  pub can_be_numbered : CanBeNumbered n ns root
  can_be_numbered arena ids number num = demanding.has_nodes p t places routes g n ready outline (diagram tidy.old tidy.old_root) ns root whole arena tidy.tidies ids number num

  module _ (rows : List RowAt) (arena : IsArena ns) (numbered : AreNumberedRows n ns root rows) where
    abbrev listed : List Row
    listed = map (body_of ns numbered.ids numbered.numbers) (range_with_len 0 (length numbered.ids))

    abbrev nodes : ℕ → Option Row
    nodes = numbered_nodes ns numbered.ids (slice_index numbered.numbers)

    abbrev marks : List Switches
    marks = numbered.rows_are.marks

    is_numbered : IsNumbered ns numbered.ids numbered.numbers
    is_numbered = record { root = root; numbering = numbered.numbering; wide = numbered.wide }

    listed_is : (i : ℕ) → slice_get listed i ≡ nodes i
    listed_is i = numbered_is ns numbered.ids numbered.numbers is_numbered listed refl i

    listed_many : length listed ≡ length numbered.ids
    listed_many = as_many ns numbered.ids numbered.numbers is_numbered listed refl

    marked : AreDemanded n nodes (length numbered.ids) (length numbered.ids) marks
    marked =
        subst (λ many. AreDemanded n nodes many many marks) listed_many
        (subst (λ (f : ℕ → Option Row). AreDemanded n f (length listed) (length listed) marks) (λ j i. listed_is i j) numbered.rows_are.marked)

    rows_are : map row_entry rows ≡ at_switches (wanted_row n nodes (has_pair marks)) (length n.switches) (length numbered.ids)
    rows_are =
        numbered.rows_are.are
        ∙ ap (λ bs. at_switches (demanded n bs marks) (length n.switches) (length bs)) numbered.rows_are.bodies_are
        ∙ ap (at_switches (demanded n (map (staged (place_of n)) listed) marks) (length n.switches)) (length-map listed (staged (place_of n)) ∙ listed_many)
        ∙ (λ j. at_switches (λ w i. (demanded_is n marks listed w i ∙ ap (λ o. if has_pair marks w i then option_map (row_on (place_of n) w) o else None) (listed_is i)) j) (length n.switches) (length numbered.ids))

    pub demanded_made : Faithful p t places (record n { rows = rows })
    demanded_made =
        made_on_demand p t places routes g (diagram tidy.old tidy.old_root) ns root numbered.ids numbered.numbers (has_pair marks) (record n { rows = rows }) ready whole arena tidy.tidies numbered.numbering numbered.wide
        (record { version = outline.version; fields = outline.fields; arrays = outline.arrays; switches = outline.switches; links = outline.links; ports = outline.ports; hops = outline.hops })
        marked.low
        (λ w i m. wanted_with n rows nodes (marked.sound w i m))
        (closed_with n rows nodes (has_pair marks)
        (ended n routes setting nodes (length numbered.ids) marks (λ i b e. node_low p g (diagram tidy.old tidy.old_root) ns root whole arena tidy.tidies numbered.ids numbered.numbers numbered.numbering i b e) marked))
        rows_are
