-- Diagrams of predicates stay so.
use Rattle.std.proofs.Common.{ℕ, ◌<◌, List, length, sym, subst}
use Rattle.snap_diagrams.specs.declared.node.Node.{Node}
use Rattle.snap_diagrams.specs.Arena.{ExtendsArena}
use Rattle.snap_diagrams.specs.declared.leaf.Leaf.{Leaf}
use Rattle.snap_diagrams.specs.Diagrams.{walk}
use Rattle.snap_diagrams.proofs.Shared.{kept}
use Rattle.snap_compose.specs.Predicates.{IsPredicateLeaf, IsPredicate}

pub predicate_kept : (old new : List (Node Leaf)) (d : ℕ) → ExtendsArena old new → d < length old → IsPredicate old d → IsPredicate new d
predicate_kept old new d g h p m k = subst (λ x. IsPredicateLeaf (walk x m k)) (sym (kept old new d g h)) (p m k)
