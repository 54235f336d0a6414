-- A program's diagram never races, and its leaves are leaves of its groups.
use Rattle.std.proofs.Common.{◌≡◌, ◌≢◌, ℕ, zero, suc, ◌<◌, List, length, Option, Some, None, refl, sym, ap, subst, ◌∙◌, arith}
use Rattle.std.specs.Prelude.{slice_get}
use Rattle.std.specs.List.{All}
use Rattle.std.proofs.lemmas.Option.{none-some, same_Some}
use Rattle.snap_core.specs.declared.program.Program.{Program}
use Rattle.snap_core.specs.Arrays.{Arrays}
use Rattle.snap_core.specs.Fields.{count}
use Rattle.snap_core.specs.Inputs.{IsInput}
use Rattle.snap_core.specs.Meaning.{Meaning}
use Rattle.snap_dep.specs.Locality.{NeverRaces}
use Rattle.snap_dep.specs.Ranks.{Grouping}
use Rattle.snap_diagrams.specs.declared.node.Node.{Node}
use Rattle.snap_diagrams.specs.declared.node.Node.TheVariants as node
use Rattle.snap_diagrams.specs.Arena.{IsArena}
use Rattle.snap_diagrams.specs.declared.leaf.Leaf.{Leaf}
use Rattle.snap_diagrams.specs.declared.leaf.Leaf.TheVariants.{Race, Go as Goes}
use Rattle.snap_diagrams.specs.Bounds.{Sizes, IsIn}
use Rattle.snap_diagrams.specs.Diagrams.{Diagram, Only, Asks, diagram, walk, IsNodeOf}
use Rattle.snap_diagrams.specs.Leaves.{answer_of, outcome_of}
use Rattle.snap_diagrams.specs.Order.{IsOrdered}
use Rattle.snap_diagrams.specs.Pruned.{IsLive}
use Rattle.snap_diagrams.proofs.Shared as shared
use Rattle.snap_build.specs.Races.{IsGoing, HasNoRace}
use Rattle.snap_build.specs.Whole.{IsWhole, sizes_of}
use Rattle.snap_build.proofs.Racing.{going}
use Rattle.snap_rows.proofs.Own.{past}
use Rattle.snap_faithful.specs.Shown.{IsOutcomeOf, LeafGives}
use Rattle.snap_faithful.specs.Tidied.{HasLeavesOf}
use Rattle.snap_make.specs.Known.{LeafKnown, IsKnown}

-- ---- leaves are known
abbrev pub LeavesKnown : Diagram → Type 0
LeavesKnown (Only l) = LeafKnown l
LeavesKnown (Asks t y n) = LeavesKnown y × LeavesKnown n

module _ (ns : List (Node Leaf)) (arena : IsArena ns) (known : (d : ℕ) (n : Node Leaf) → slice_get ns d ≡ Some n → IsKnown n) where
  all_known : (fuel d : ℕ) → d < fuel → d < length ns → LeavesKnown (diagram ns d)
  all_known zero d l low = absurd (omega (arith, l))
  all_known (suc f) d l low = by (slice_get ns d) refl (λ e l' low'. all_known f e l' low')
    where
      of : (n : Node Leaf) → slice_get ns d ≡ Some n → IsNodeOf ns d n → ((e : ℕ) → e < f → e < length ns → LeavesKnown (diagram ns e)) → LeavesKnown (diagram ns d)
      of (node.Leaf x) e shape rest = subst LeavesKnown (sym shape) (known d (node.Leaf x) e)
      of (node.Ask t y z) e shape rest =
          let a = shape.1 in let b = shape.2 in
          subst LeavesKnown (sym shape.0) (rest y (omega (arith, a, l)) (omega (arith, a, low)), rest z (omega (arith, b, l)) (omega (arith, b, low)))

      by : (o : Option (Node Leaf)) → slice_get ns d ≡ o → ((e : ℕ) → e < f → e < length ns → LeavesKnown (diagram ns e)) → LeavesKnown (diagram ns d)
      by None e rest = absurd (past ns d low e)
      by (Some n) e rest = of n e (shared.node_of ns d n e (arena.lower d n e)) rest

  pub leaves_known : (d : ℕ) → d < length ns → LeavesKnown (diagram ns d)
  leaves_known d low = all_known (suc d) d (omega arith) low

-- ---- no race

some_outcome : (l : Leaf) (m : Arrays) (k : List ℕ) → IsGoing l → outcome_of (answer_of l k) m ≢ None
some_outcome Race m k h e = h
some_outcome (Goes g) m k h e = none-some _ (sym e)

gives : (l : Leaf) (m : Arrays) (k : List ℕ) (o : Meaning) → outcome_of (answer_of l k) m ≡ Some o → LeafGives l m k o
gives Race m k o e = absurd (none-some o e)
gives (Goes g) m k o e = let same = same_Some _ o e in (sym (ap (λ (x : Meaning). x.packets) same), λ q. sym (ap (λ (x : Meaning). x.arrays q) same))

-- ---- leaves of groups
leaves_of : (s : Sizes) (ranks : List ℕ) (n : ℕ) → length ranks ≡ s.arrays → All (λ r. r < n) ranks → (d : Diagram) → IsIn s d → LeavesKnown d → HasNoRace d → HasLeavesOf ranks n d
leaves_of s ranks n many below (Only Race) inside known none = none
leaves_of s ranks n many below (Only (Goes g)) inside known none =
    ((λ i d l. (below _ 0 (let v = (inside.1 i d l).var in omega (arith, v, many)), known.0 i d l)), known.1)
leaves_of s ranks n many below (Asks t y z) inside known none =
    (leaves_of s ranks n many below y inside.1 known.0 none.0, leaves_of s ranks n many below z inside.2 known.1 none.1)

-- the diagram of the program, in order and within bounds, live, and with leaves of its groups
pub record IsBuilt (p : Program) (g : Grouping) (d : Diagram) : Type 0 where
  pub ordered : IsOrdered g.ranks d
  pub bounds : IsIn (sizes_of p) d
  pub outcome : IsOutcomeOf p d
  pub live : IsLive (IsInput (count p.fields) (length p.arrays)) d
  pub leaves : HasLeavesOf g.ranks (length g.order) d

module _ (p : Program) (g : Grouping) (ns : List (Node Leaf)) (root : ℕ) (whole : IsWhole p g ns root) where
  pub never_races : NeverRaces p.body (count p.fields)
  never_races m k store packet none =
      some_outcome (walk (diagram ns root) m k) m k (going (diagram ns root) whole.race_free m k) (whole.outcome m k store packet ∙ none)

  pub built : length g.ranks ≡ length p.arrays → All (λ r. r < length g.order) g.ranks → LeavesKnown (diagram ns root) → IsBuilt p g (diagram ns root)
  built many below known = record {
    ordered = whole.ordered;
    bounds = whole.bounds;
    outcome = λ m k o store packet e. gives (walk (diagram ns root) m k) m k o (whole.outcome m k store packet ∙ e);
    live = whole.live;
    leaves = leaves_of (sizes_of p) g.ranks (length g.order) many below (diagram ns root) whole.bounds known whole.race_free;
  }
