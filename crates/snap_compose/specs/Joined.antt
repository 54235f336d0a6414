-- What two leaves become, and what two diagrams do, side by side.
use Rattle.std.specs.Prelude.{◌≡◌, ◌⊎◌, ℕ, List, [], ◌∷◌, ◌++◌, bit_or, if◌then◌else◌}
use Rattle.std.specs.List.{filter}
use Rattle.snap_core.specs.declared.policy.Test.{Test}
use Rattle.snap_core.specs.declared.policy.Update.{Update}
use Rattle.snap_core.specs.Arrays.{Arrays, has}
use Rattle.snap_core.specs.declared.policy.Atom.{Atom}
use Rattle.snap_diagrams.specs.declared.leaf.Go.{Go}
use Rattle.snap_diagrams.specs.declared.leaf.Leaf.{Leaf}
use Rattle.snap_diagrams.specs.declared.leaf.Leaf.TheVariants.{Race, Go as Goes}
use Rattle.snap_compose.specs.Beside.{logs_clash}
use Rattle.snap_compose.specs.United.{united}
use Rattle.snap_diagrams.specs.Diagrams.{Diagram, Only, walk}
use Rattle.snap_diagrams.specs.Order.{Above, NotBelow}
use Rattle.snap_diagrams.specs.Bounds.{Sizes, TestIn}
use Rattle.snap_diagrams.specs.Picks.{IsDiagram, StartsWith}
use Rattle.snap_compose.specs.declared.leaves.How.{How}
use Rattle.snap_compose.specs.declared.leaves.How.TheVariants.{Beside, AndBoth, OrEither, Logged}
use Rattle.snap_compose.specs.declared.joining.Start.{Start}
use Rattle.snap_compose.specs.declared.joining.Start.TheVariants.{Leaves, First}

-- the updates of the variables of a set
abbrev pub only : ℕ → List Update → List Update
only w us = filter (λ u. has w u.var) us

-- two leaves side by side
abbrev pub beside_leaf : Leaf → Leaf → Leaf
beside_leaf Race y = Race
beside_leaf (Goes x) Race = Race
beside_leaf (Goes x) (Goes y) =
    if logs_clash x.reads x.writes y.reads y.writes then Race else
    Goes (record {
      outs = united x.outs y.outs;
      ups = only x.writes x.ups ++ only y.writes y.ups;
      reads = bit_or x.reads y.reads;
      writes = bit_or x.writes y.writes;
    })

-- a predicate's packets: those of both, or of either
abbrev pub both_outs : List (List (ℕ × Atom)) → List (List (ℕ × Atom)) → List (List (ℕ × Atom))
both_outs [] ys = []
both_outs (x ∷ xs) ys = ys

abbrev pub either_outs : List (List (ℕ × Atom)) → List (List (ℕ × Atom)) → List (List (ℕ × Atom))
either_outs [] ys = ys
either_outs (x ∷ xs) ys = x ∷ xs

abbrev pub pred_leaf : List (List (ℕ × Atom)) → Go → Go → Leaf
pred_leaf outs x y = Goes (record { outs = outs; ups = []; reads = bit_or x.reads y.reads; writes = 0 })

abbrev pub both_leaf : Leaf → Leaf → Leaf
both_leaf Race y = Race
both_leaf (Goes x) Race = Race
both_leaf (Goes x) (Goes y) = pred_leaf (both_outs x.outs y.outs) x y

abbrev pub either_leaf : Leaf → Leaf → Leaf
either_leaf Race y = Race
either_leaf (Goes x) Race = Race
either_leaf (Goes x) (Goes y) = pred_leaf (either_outs x.outs y.outs) x y

-- the second, with the reads of the first
abbrev pub logged_leaf : Leaf → Leaf → Leaf
logged_leaf Race y = Race
logged_leaf (Goes x) Race = Race
logged_leaf (Goes x) (Goes y) = Goes (record { outs = y.outs; ups = y.ups; reads = bit_or x.reads y.reads; writes = y.writes })

abbrev pub combined : How → Leaf → Leaf → Leaf
combined Beside x y = beside_leaf x y
combined AndBoth x y = both_leaf x y
combined OrEither x y = either_leaf x y
combined Logged x y = logged_leaf x y

-- r goes to the two leaves' combination
pub record IsJoined (ranks : List ℕ) (s : Sizes) (how : How) (a b r : Diagram) : Type 0 where
  pub walks : (m : Arrays) (k : List ℕ) → walk r m k ≡ combined how (walk a m k) (walk b m k)
  pub keeps : IsDiagram ranks s r
  pub above : (low : Test) → Above ranks low a → Above ranks low b → Above ranks low r

-- two leaves, and their combination
pub record AreLeaves (how : How) (a b : Diagram) (l : Leaf) : Type 0 where
  pub left : Leaf
  pub right : Leaf
  pub first : a ≡ Only left
  pub second : b ≡ Only right
  pub is : l ≡ combined how left right

-- the least first test of two diagrams
pub record IsFirst (ranks : List ℕ) (s : Sizes) (a b : Diagram) (u : Test) : Type 0 where
  pub first : NotBelow ranks u a
  pub second : NotBelow ranks u b
  pub is_in : TestIn s u
  pub starts : StartsWith u a ⊎ StartsWith u b

abbrev pub IsStart : How → List ℕ → Sizes → Diagram → Diagram → Start → Type 0
IsStart how ranks s a b (Leaves l) = AreLeaves how a b l
IsStart how ranks s a b (First u) = IsFirst ranks s a b u
