-- Two diagrams that are compared under a context, by what is looked up before and what is remembered.
use Rattle.std.specs.Prelude.{◌≡◌, ℕ, ◌<◌, ◌≤◌, List, [], length}
use Rattle.snap_context.specs.View.{View}
use Rattle.snap_diagrams.specs.declared.node.Node.{Node}
use Rattle.snap_diagrams.specs.declared.leaf.Leaf.{Leaf}
use Rattle.snap_diagrams.specs.Diagrams.{diagram}
use Rattle.snap_equal.specs.declared.sure.Memos.{Memos}
use Rattle.snap_equal.specs.declared.sure.ComparisonPlan.{ComparisonPlan}
use Rattle.snap_equal.specs.Inputs.{IsComparable, space}
use Rattle.snap_equal.specs.Leaves.{AreRemembered}

pub record AreAsked (ctx : View) (arrays : ℕ) (plan : ComparisonPlan) (ns os : List (Node Leaf)) (x y : ℕ) (kept : Memos) : Type 0 where
  pub few : arrays ≤ 64
  pub plain : plan.plain.facts ≡ []
  pub comps : length plan.plain.classes ≡ length ctx.classes
  pub first : x < length ns
  pub second : y < length os
  pub left : IsComparable (space ctx arrays) (diagram ns x)
  pub right : IsComparable (space ctx arrays) (diagram os y)
  pub memos : AreRemembered (length ctx.classes) ns os kept
