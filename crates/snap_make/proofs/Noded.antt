-- What a tidied diagram gives, whatever the version of its tables.
use Rattle.std.proofs.Common.{◌≡◌, ℕ, ◌<◌, ◌≤◌, ⊎_elim, false, List, length, Some, sym, subst, ◌∙◌, arith}
use Rattle.std.specs.Prelude.{slice_get, slice_index, nat_eq}
use Rattle.std.specs.List.{All}
use Rattle.std.specs.List.Sorted.{IsNonDecreasingBy}
use Rattle.std.proofs.lemmas.Bool.{eq-eqb, cases_lt, false≢true}
use Rattle.std.proofs.lemmas.Option.{slice_get_within}
use Rattle.snap_core.specs.declared.policy.Op.{Op}
use Rattle.snap_core.specs.declared.policy.Op.TheVariants.{Put, Add}
use Rattle.snap_core.specs.declared.policy.Test.TheVariants.{Value, Equal, State as StateTest}
use Rattle.snap_core.specs.declared.policy.Update.{Update}
use Rattle.snap_core.specs.declared.program.Program.{Program}
use Rattle.snap_core.specs.Fields.{count}
use Rattle.snap_core.specs.Fits.{IndexFits, OpFits}
use Rattle.snap_core.specs.Tests.{OutFits, TermFits}
use Rattle.snap_dep.specs.Ranks.{Grouping}
use Rattle.snap_diagrams.specs.declared.node.Node.{Node}
use Rattle.snap_diagrams.specs.declared.node.Node.TheVariants as node
use Rattle.snap_diagrams.specs.Arena.{IsArena}
use Rattle.snap_diagrams.specs.declared.leaf.Leaf.{Leaf}
use Rattle.snap_diagrams.specs.declared.leaf.Leaf.TheVariants.{Race, Go as Goes}
use Rattle.snap_diagrams.specs.Bounds.{UpdateIn}
use Rattle.snap_diagrams.specs.Diagrams.{Diagram, diagram, IsNodeOf}
use Rattle.snap_build.specs.Whole.{sizes_of}
use Rattle.snap_rows.specs.declared.tables.Tables.{Tables}
use Rattle.snap_rows.specs.declared.tables.Row.{Row}
use Rattle.snap_rows.specs.declared.tables.Row.TheVariants as row
use Rattle.snap_rows.specs.Entries.{Parts}
use Rattle.snap_rows.specs.Form.{IsRowWellFormed, IsOpWellFormed, IsUpdateWellFormed, IsPartsWellFormed, AreOutsWellFormed, comps, array_count}
use Rattle.snap_faithful.specs.Leaves.{is_still}
use Rattle.snap_faithful.specs.Tidied.{Tidies}
use Rattle.snap_faithful.specs.Shown.{row_of, IsNumbering, Leads, here, yes_way, no_way}
use Rattle.snap_faithful.specs.Generated.{IsBareDiagram, numbered_nodes}
use Rattle.snap_faithful.proofs.Tidying.{tidying_keeps}
use Rattle.snap_faithful.proofs.Generating.{of_node, shape}
use Rattle.snap_make.proofs.Formed.{PartsFormed, GoFormed, IsFormed, formed, formed_in}
use Rattle.snap_make.proofs.Whole.{IsBuilt}

-- a node is in form for either version, and the ranks of a leaf's updates never fall
abbrev pub IsNodeWellFormed : Tables → List ℕ → Row → Type 0
IsNodeWellFormed n ranks (row.Last us os) = All (IsUpdateWellFormed n) us × IsNonDecreasingBy (λ (u : Update). slice_index ranks u.var) us × AreOutsWellFormed n os
IsNodeWellFormed n ranks b = IsRowWellFormed n b

module _ (p : Program) (g : Grouping) (d : Diagram) (ns : List (Node Leaf)) (root : ℕ) (built : IsBuilt p g d) (arena : IsArena ns) (tidies : Tidies g.ranks (length g.order) d (diagram ns root)) where
  root_formed : IsFormed (sizes_of p) g.ranks (diagram ns root)
  root_formed = formed (sizes_of p) g.ranks (length g.order) tidies built.bounds built.leaves

  pub bare : IsBareDiagram p g.ranks ns root
  bare = let keeps = tidying_keeps g.ranks (length g.order) d (diagram ns root) tidies in record {
    arena = arena;
    ordered = keeps.order g.ranks built.ordered;
    bounds = formed_in (sizes_of p) g.ranks (diagram ns root) root_formed;
    outcome = keeps.outcome p built.leaves built.outcome;
    live = keeps.live p built.live;
    bare = keeps.bare built.leaves;
  }

  module _ (ids numbers : List ℕ) (num : IsNumbering ns root ids (slice_index numbers)) where
    shape_of : (x : ℕ) (b : Node Leaf) → slice_get ns x ≡ Some b → IsNodeOf ns x b
    shape_of x b e = shape p g.ranks ns root ids (slice_index numbers) bare num x b e

    below_formed : {x : ℕ} → Leads ns root x → IsFormed (sizes_of p) g.ranks (diagram ns x)
    below_formed here = root_formed
    below_formed (yes_way {d = x} {y = y} {z = z} {t = c} chain is) = (subst (IsFormed (sizes_of p) g.ranks) (shape_of x (node.Ask c y z) is).0 (below_formed chain)).1
    below_formed (no_way {d = x} {y = y} {z = z} {t = c} chain is) = (subst (IsFormed (sizes_of p) g.ranks) (shape_of x (node.Ask c y z) is).0 (below_formed chain)).2

    -- a number with a node is one of the numbers
    pub node_low : (i : ℕ) (b : Row) → numbered_nodes ns ids (slice_index numbers) i ≡ Some b → i < length ids
    node_low i b e = let o = of_node p g.ranks ns root ids (slice_index numbers) bare num i b e in slice_get_within ids i o.id o.at

    module _ (n : Tables) (fields : comps n ≡ count p.fields) (as_many : array_count n ≡ length p.arrays) where
      op_form : (op : Op) → is_still op ≡ false → IsOpWellFormed op
      op_form (Put a) e = tt
      op_form (Add x) e = by x e
        where
          by : (x : ℕ) → nat_eq x 0 ≡ false → 1 ≤ x
          by x e = ⊎_elim (λ z. absurd (false≢true (sym e ∙ eq-eqb x 0 (omega (arith, z))))) (λ l. l) (cases_lt x 1)

      update_form : (u : Update) → UpdateIn (sizes_of p) u → is_still u.op ≡ false → IsUpdateWellFormed n u
      update_form u h moves = record {
        fits = record { var = subst (λ s. u.var < s) (sym as_many) h.var; index = subst (λ c. IndexFits c u.index) (sym fields) h.index.atoms; op = subst (λ c. OpFits c u.op) (sym fields) h.op };
        index = (h.index.some, h.index.few);
        op = op_form u.op moves;
      }

      parts_form : (o : Parts) → PartsFormed (count p.fields) o → IsPartsWellFormed n o
      parts_form o h = record { fits = subst (λ c. OutFits c o) (sym fields) h.fits; rising = h.rising; changes = h.changes }

      node_form : (x : ℕ) (b : Node Leaf) → slice_get ns x ≡ Some b → IsFormed (sizes_of p) g.ranks (diagram ns x) → IsNodeWellFormed n g.ranks (row_of (slice_index numbers) b)
      node_form x (node.Leaf Race) e h = absurd (subst (IsFormed (sizes_of p) g.ranks) (shape_of x (node.Leaf Race) e) h)
      node_form x (node.Leaf (Goes l)) e h =
          let f : GoFormed (sizes_of p) g.ranks l = subst (IsFormed (sizes_of p) g.ranks) (shape_of x (node.Leaf (Goes l)) e) h in (
            (λ i d k. update_form _ (f.ups i d k) (f.moves i d k)),
            f.ranks_rise,
            record { each = λ i d k. parts_form _ (f.outs i d k); rising = f.outs_rise },
          )
      node_form x (node.Ask (Value c v) y z) e h =
          let f = subst (IsFormed (sizes_of p) g.ranks) (shape_of x (node.Ask (Value c v) y z) e).0 h in (subst (λ s. c < s) (sym fields) f.0.0, tt)
      node_form x (node.Ask (Equal a b v) y z) e h =
          let f = subst (IsFormed (sizes_of p) g.ranks) (shape_of x (node.Ask (Equal a b v) y z) e).0 h in
          let l : a < b = f.0.0 in let r : b < count p.fields = f.0.1 in
          ((subst (λ s. a < s) (sym fields) (omega (arith, l, r)), subst (λ s. b < s) (sym fields) r), l)
      node_form x (node.Ask (StateTest v ix u) y z) e h =
          let f = subst (IsFormed (sizes_of p) g.ranks) (shape_of x (node.Ask (StateTest v ix u) y z) e).0 h in
          ((subst (λ c. IndexFits c ix) (sym fields) f.0.1.atoms, subst (λ c. TermFits c u) (sym fields) f.0.2), (subst (λ s. v < s) (sym as_many) f.0.0, (f.0.1.some, f.0.1.few)))

      -- the node of each number is in form
      pub node_well_formed : (i : ℕ) (b : Row) → numbered_nodes ns ids (slice_index numbers) i ≡ Some b → IsNodeWellFormed n g.ranks b
      node_well_formed i b e =
          let o = of_node p g.ranks ns root ids (slice_index numbers) bare num i b e in
          subst (IsNodeWellFormed n g.ranks) (sym o.row) (node_form o.id o.node o.is (below_formed (num.reached i o.id o.at)))
