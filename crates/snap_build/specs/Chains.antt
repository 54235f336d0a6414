-- Chains of predicates: any of the parts, or all of them.
use Rattle.std.specs.Prelude.{◌≡◌, ℕ, ◌<◌, Bool, ◌&&◌, ◌||◌, not, List, [], ◌∷◌, All, bit_or, length, if◌then◌else◌}
use Rattle.snap_core.specs.declared.policy.Pred.{Pred, size-Pred}
use Rattle.snap_core.specs.Arrays.{Arrays}
use Rattle.snap_core.specs.Meaning.{truth, vars_of}
use Rattle.snap_dep.specs.Ranks.{Grouping}
use Rattle.snap_context.specs.View.{View}
use Rattle.snap_diagrams.specs.declared.node.Node.{Node}
use Rattle.snap_diagrams.specs.declared.leaf.Leaf.{Leaf}
use Rattle.snap_diagrams.specs.Bounds.{Sizes}
use Rattle.snap_diagrams.specs.Contexts.{Under}
use Rattle.snap_diagrams.specs.Picks.{IsWellFormedDiagram}
use Rattle.snap_compose.specs.Predicates.{holds, reads}
use Rattle.snap_build.specs.declared.chains.Link.{Link}
use Rattle.snap_build.specs.Parts.{IsTold, PredIn}

-- any of two, or both
abbrev pub joined : Bool → Bool → Bool → Bool
joined any a b = if any then a || b else a && b

-- whether any of the links holds, or all do
abbrev pub holding : Bool → List (Node Leaf) → List Link → Arrays → List ℕ → Bool
holding any ns [] m k = not any
holding any ns (l ∷ ls) m k = joined any (holds ns l.diagram m k) (holding any ns ls m k)

-- what they read
abbrev pub reading : List (Node Leaf) → List Link → Arrays → List ℕ → ℕ
reading ns [] m k = 0
reading ns (l ∷ ls) m k = bit_or (reads ns l.diagram m k) (reading ns ls m k)

-- the link passes the packet where P is true, and reads R
pub record IsLinkOf (g : Grouping) (v : View) (P : Arrays → List ℕ → Bool)
    (R : Arrays → List ℕ → ℕ) (ns : List (Node Leaf)) (l : Link) : Type 0 where
  pub diagram : IsWellFormedDiagram g v ns l.diagram
  pub last : IsWellFormedDiagram g v ns l.last
  pub told : IsTold v P R ns l.diagram

-- the link is of a predicate
abbrev pub IsLink : Grouping → View → List (Node Leaf) → Link → Type 0
IsLink g v ns l = IsLinkOf g v (holds ns l.diagram) (reads ns l.diagram) ns l

-- the link is of this predicate
abbrev pub IsTrueLink : Grouping → View → Pred → List (Node Leaf) → Link → Type 0
IsTrueLink g v x ns l = IsLinkOf g v (truth x) (λ m k. vars_of x) ns l

-- the links of a predicate: any of them, or all, say what it does
pub record AreLinks (any : Bool) (g : Grouping) (v : View) (x : Pred) (ns : List (Node Leaf)) (ls : List Link) : Type 0 where
  pub some : 0 < length ls
  pub links : All (IsLink g v ns) ls
  pub holds : Under v (λ m k. holding any ns ls m k ≡ truth x m k)
  pub reads : Under v (λ m k. reading ns ls m k ≡ vars_of x)

-- the predicate is any of two smaller ones, or both
pub record IsSplit (any : Bool) (x l r : Pred) : Type 0 where
  pub left : size-Pred l < size-Pred x
  pub right : size-Pred r < size-Pred x
  pub fits : (s : Sizes) → PredIn s x → PredIn s l × PredIn s r
  pub truth : (m : Arrays) (k : List ℕ) → truth x m k ≡ joined any (truth l m k) (truth r m k)
  pub arrays : vars_of x ≡ bit_or (vars_of l) (vars_of r)
