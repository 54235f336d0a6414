-- The order of tests, and diagrams whose tests rise.
use Rattle.std.specs.Prelude.{◌≡◌, ◌≢◌, ℕ, List, [], ◌∷◌, ◌<◌, ◌++◌, slice_index}
use Rattle.std.specs.Ordering.{nat_cmp}
use Rattle.std.specs.Cmp.Lexicographic.{slice_cmp}
use Rattle.std.specs.declared.cmp.Ordering.{Ordering}
use Rattle.std.specs.declared.cmp.Ordering.TheVariants.{Less, Greater}
use Rattle.snap_core.specs.declared.policy.Test.{Test}
use Rattle.snap_core.specs.declared.policy.Test.TheVariants.{Value, Equal, State}
use Rattle.snap_core.specs.Terms.{term_code}
use Rattle.snap_diagrams.specs.Codes.{index_code}
use Rattle.snap_diagrams.specs.Diagrams.{Diagram, Only, Asks}

-- kind, then for a state test its variable's rank, then the parts
abbrev pub key : List ℕ → Test → List ℕ
key ranks (Value c n) = 0 ∷ c ∷ n ∷ []
key ranks (Equal l r p) = 1 ∷ l ∷ r ∷ p ∷ []
key ranks (State v ix t) = 2 ∷ slice_index ranks v ∷ v ∷ index_code ix ++ term_code t

abbrev pub test_cmp : List ℕ → Test → Test → Ordering
test_cmp ranks t u = slice_cmp nat_cmp (key ranks t) (key ranks u)

-- the diagram's first test is above t
abbrev pub Above : List ℕ → Test → Diagram → Type 0
Above ranks t (Only l) = Unit {0}
Above ranks t (Asks u y n) = test_cmp ranks t u ≡ Less

-- the diagram's first test is not below t
abbrev pub NotBelow : List ℕ → Test → Diagram → Type 0
NotBelow ranks t (Only l) = Unit {0}
NotBelow ranks t (Asks u y n) = test_cmp ranks t u ≢ Greater

-- tests rise strictly on each path
abbrev pub IsOrdered : List ℕ → Diagram → Type 0
IsOrdered ranks (Only l) = Unit {0}
IsOrdered ranks (Asks t y n) = Above ranks t y × Above ranks t n × IsOrdered ranks y × IsOrdered ranks n

-- the variable has a rank
abbrev pub IsRanked : ℕ → Test → Type 0
IsRanked n (Value c x) = Unit {0}
IsRanked n (Equal l r p) = Unit {0}
IsRanked n (State v ix t) = v < n
