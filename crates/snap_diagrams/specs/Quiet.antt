-- Diagrams in which nothing can be dead: they test components for numbers, and places for numbers or one term, and no place can
-- turn out to be another.
use Rattle.std.specs.Prelude.{◌≡◌, ℕ, ◌<◌, ◌^◌, Bool, true, false, Option, Some, None, List, slice_get}
use Rattle.std.specs.declared.cmp.Ordering.TheVariants.{Less}
use Rattle.std.specs.List.{All}
use Rattle.snap_core.specs.declared.policy.Atom.{Atom}
use Rattle.snap_core.specs.declared.policy.Atom.TheVariants.{Num as Number, Comp}
use Rattle.snap_core.specs.declared.policy.Term.{Term}
use Rattle.snap_core.specs.declared.policy.Test.{Test}
use Rattle.snap_core.specs.declared.policy.Test.TheVariants.{Value, Equal, State}
use Rattle.snap_core.specs.Arrays.{has}
use Rattle.snap_context.specs.declared.fact.Fact.{Fact}
use Rattle.snap_core.specs.Ranges.{AtomInRange, TermInRange}
use Rattle.snap_diagrams.specs.declared.survey.Seen.{Seen}
use Rattle.snap_diagrams.specs.declared.survey.Seen.TheVariants.{Few, Many}
use Rattle.snap_diagrams.specs.declared.survey.Survey.{Survey}
use Rattle.snap_diagrams.specs.declared.node.Node.{Node}
use Rattle.snap_diagrams.specs.declared.leaf.Leaf.{Leaf}
use Rattle.snap_diagrams.specs.Diagrams.{Diagram, Only, Asks}
use Rattle.snap_diagrams.specs.Order.{test_cmp}
use Rattle.snap_diagrams.specs.Reached.{AreNoted}
use Rattle.snap_core.specs.Terms.{IsNumber}
use Rattle.snap_diagrams.specs.Spots.{SpotsApart, IsAt}

-- no two places of an array turn out to be one
abbrev pub SeenClear : ℕ → Seen → Type 0
SeenClear values (Few spots) = SpotsApart values spots.items
SeenClear values Many = Unit {0}

abbrev pub IsClear : Survey → Type 0
IsClear s = All (SeenClear s.values) s.arrays.items

-- an atom that no test of a component's number gives a number
abbrev pub AtomIsFree : Survey → Atom → Type 0
AtomIsFree s (Number n) = Unit {0}
AtomIsFree s (Comp c) = has s.values c ≡ false

-- one of the places of the array, tested for the term, or an index of free atoms, tested for a number
abbrev pub IndexIsFine : Survey → Option Seen → List Atom → Term → Type 0
IndexIsFine s (Some (Few spots)) ix t = IsAt spots.items ix t
IndexIsFine s (Some Many) ix t = All (AtomIsFree s) ix × IsNumber t
IndexIsFine s None ix t = ⊥

-- a test of a number, or of the one term that its place is tested for
abbrev pub IsFine : Survey → Test → Type 0
IsFine s (Value c n) = (n < 2 ^ 64) × (has s.values c ≡ true)
IsFine s (Equal l r p) = ⊥
IsFine s (State v ix t) = TermInRange t × All AtomInRange ix × IndexIsFine s (slice_get s.arrays.items v) ix t

-- tests of one component, or of one place
abbrev pub SameSubject : Test → Test → Type 0
SameSubject (Value c n) (Value d o) = c ≡ d
SameSubject (State v ix t) (State w iy u) = (v ≡ w) × (ix ≡ iy)
SameSubject t u = ⊥

-- the diagram begins with another subject
abbrev pub BeginsElsewhere : Test → Diagram → Type 0
BeginsElsewhere t (Only l) = Unit {0}
BeginsElsewhere t (Asks u y n) = ¬ (SameSubject t u)

abbrev pub IsQuiet : Survey → Diagram → Type 0
IsQuiet s (Only l) = Unit {0}
IsQuiet s (Asks t y n) = IsFine s t × BeginsElsewhere t y × IsQuiet s y × IsQuiet s n

-- a fact that is fine, on a test before t, and on another subject if it passes
abbrev pub StandsBefore : List ℕ → Survey → Test → Fact → Type 0
StandsBefore ranks s t f = IsFine s f.test × (test_cmp ranks f.test t ≡ Less) × (f.yes ≡ true → ¬ (SameSubject f.test t))

-- marks of quiet diagrams, by the places of their numbers
pub record IsMarked (s : Survey) (ns : List (Node Leaf)) (ids : List ℕ) (marks : List Bool) : Type 0 where
  pub clear : IsClear s
  pub quiet : AreNoted (λ b d. b ≡ true → IsQuiet s d) ns ids marks
