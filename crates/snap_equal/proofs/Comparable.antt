-- Diagrams within bounds that never race can be compared.
use Rattle.std.proofs.Common.{◌≡◌, ℕ, List, length, arith}
use Rattle.std.proofs.lemmas.Bool.{false≢true}
use Rattle.snap_core.specs.declared.policy.Test.{Test}
use Rattle.snap_core.specs.declared.policy.Test.TheVariants.{Value, Equal, State}
use Rattle.snap_core.specs.declared.policy.Update.{Update}
use Rattle.snap_context.specs.View.{View}
use Rattle.snap_diagrams.specs.declared.leaf.Leaf.TheVariants.{Race, Go as Goes}
use Rattle.snap_diagrams.specs.Bounds.{Sizes, TestIn, UpdateIn, IsIn}
use Rattle.snap_diagrams.specs.Diagrams.{Diagram, Only, Asks, diagram}
use Rattle.snap_diagrams.specs.declared.node.Node.{Node}
use Rattle.snap_diagrams.specs.declared.leaf.Leaf.{Leaf}
use Rattle.snap_build.specs.Races.{HasNoRace}
use Rattle.snap_equal.specs.Inputs.{Space, IsUpdate, IsTest, IsComparable, space}
use Rattle.snap_equal.specs.Same.{CanBeCompared}

abbrev pub space_of : Sizes → Space
space_of s = record { comps = s.comps; arrays = s.arrays }

test_is : (s : Sizes) (t : Test) → TestIn s t → IsTest (space_of s) t
test_is s (Value c n) h = record { fits = h.0; short = omega arith; var = λ e. absurd (false≢true e) }
test_is s (Equal l r p) h = record { fits = (let a = h.0 in let b = h.1 in omega (arith, a, b), h.1); short = omega arith; var = λ e. absurd (false≢true e) }
test_is s (State v ix u) h = record { fits = (h.1.atoms, h.2); short = h.1.few; var = λ e. h.0 }

update_is : (s : Sizes) (u : Update) → UpdateIn s u → IsUpdate s.comps u
update_is s u h = record { index = h.index.atoms; short = h.index.few; op = h.op }

pub comparable : (s : Sizes) (d : Diagram) → IsIn s d → HasNoRace d → IsComparable (space_of s) d
comparable s (Only Race) h n = n
comparable s (Only (Goes g)) h n = (h.0, λ i e l. update_is s _ (h.1 i e l), λ i e l. (h.1 i e l).var)
comparable s (Asks t y n) h c = (test_is s t h.0, comparable s y h.1 c.0, comparable s n h.2 c.1)

pub comparable_under : (v : View) (comps arrays : ℕ) (ns : List (Node Leaf)) (d : ℕ) → length v.classes ≡ comps → CanBeCompared comps arrays ns d → IsComparable (space v arrays) (diagram ns d)
comparable_under v comps arrays ns d e h = rw e h.fits
