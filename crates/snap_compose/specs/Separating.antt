-- One out more at each leaf.
use Rattle.std.specs.Prelude.{◌≡◌, ℕ, zero, suc, Option, Some, None, Bool, true, false, ◌==◌, ◌&&◌, ◌||◌, List, [], ◌∷◌, option_map}
use Rattle.snap_dep.specs.Ranks.{Grouping}
use Rattle.snap_core.specs.declared.policy.Atom.{Atom}
use Rattle.snap_core.specs.Arrays.{Arrays, value_of}
use Rattle.snap_core.specs.Tests.{results_from}
use Rattle.snap_context.specs.View.{View}
use Rattle.snap_diagrams.specs.declared.leaf.Go.{Go}
use Rattle.snap_diagrams.specs.declared.leaf.Leaf.{Leaf}
use Rattle.snap_diagrams.specs.declared.leaf.Leaf.TheVariants.{Race, Go as Goes}
use Rattle.snap_diagrams.specs.Diagrams.{Diagram, walk}
use Rattle.snap_diagrams.specs.Leaves.{Answer, answer_of}
use Rattle.snap_diagrams.specs.Picks.{IsDiagram, sizes}
use Rattle.snap_compose.specs.PulledBack.{atom_after}
use Rattle.snap_compose.specs.Substituted.{OnStores}
use Rattle.snap_compose.specs.Sequence.{IsSettledLeaf}

-- two outs give equal numbers at the first components
abbrev pub equal_below : List (ℕ × Atom) → List (ℕ × Atom) → ℕ → Arrays → List ℕ → Bool
equal_below a b zero m k = true
equal_below a b (suc n) m k = (value_of (atom_after a n) k == value_of (atom_after b n) k) && equal_below a b n m k

-- an out gives the packet of one of others
abbrev pub any_equal : ℕ → List (ℕ × Atom) → List (List (ℕ × Atom)) → Arrays → List ℕ → Bool
any_equal comps out [] m k = false
any_equal comps out (o ∷ os) m k = equal_below out o comps m k || any_equal comps out os m k

-- an answer with the packets of more outs
abbrev pub more_outs : List (List (ℕ × Atom)) → List ℕ → Answer → Answer
more_outs os k a = record { packets = results_from a.packets os k; reads = a.reads; writes = a.writes; change = a.change }

-- r answers as d with more outs, and is settled where d is
pub record IsWider (groups : Grouping) (v : View) (os : List (List (ℕ × Atom))) (d r : Diagram) : Type 0 where
  pub answers : OnStores v (λ m k. answer_of (walk r m k) k ≡ option_map (more_outs os k) (answer_of (walk d m k) k))
  pub settled : OnStores v (λ m k. IsSettledLeaf (walk d m k) k → IsSettledLeaf (walk r m k) k)
  pub keeps : IsDiagram groups.ranks (sizes groups v) r

-- what a leaf does, unless two parts race there
abbrev pub IsGoOf : Leaf → Option Go → Type 0
IsGoOf l None = l ≡ Race
IsGoOf l (Some g) = l ≡ Goes g
