-- Diagrams that test places alone, and facts that leave them as they are.
use Rattle.std.specs.Prelude.{◌≡◌, ◌⊎◌, ℕ, ◌<◌, ◌≤◌, Bool, true, false, List, length}
use Rattle.std.specs.declared.cmp.Ordering.TheVariants.{Less}
use Rattle.std.specs.List.{All}
use Rattle.snap_core.specs.declared.policy.Atom.{Atom}
use Rattle.snap_core.specs.declared.policy.Atom.TheVariants.{Num as Number, Comp}
use Rattle.snap_core.specs.declared.policy.Term.{Term}
use Rattle.snap_core.specs.declared.policy.Term.TheVariants.{Num, Plus}
use Rattle.snap_core.specs.declared.policy.Test.{Test}
use Rattle.snap_core.specs.declared.policy.Test.TheVariants.{Value, Equal, State}
use Rattle.snap_core.specs.Arrays.{has}
use Rattle.snap_context.specs.declared.fact.Fact.{Fact}
use Rattle.snap_context.specs.Classes.{atom_class, class_of, is_state, var_of}
use Rattle.snap_context.specs.Known.{IsAmong, TermOver}
use Rattle.snap_diagrams.specs.declared.node.Node.{Node}
use Rattle.snap_diagrams.specs.declared.leaf.Leaf.{Leaf}
use Rattle.snap_diagrams.specs.declared.places.Spelling.{Spelling}
use Rattle.snap_diagrams.specs.Diagrams.{Diagram, Only, Asks}
use Rattle.snap_diagrams.specs.Order.{test_cmp}
use Rattle.snap_diagrams.specs.Quiet.{SameSubject, BeginsElsewhere}
use Rattle.snap_diagrams.specs.Reached.{AreNoted}

-- ---- how places are spelled
abbrev pub AtomIsWithin : Spelling → Atom → Type 0
AtomIsWithin s (Number n) = (s.low ≤ n) × (n ≤ s.high)
AtomIsWithin s (Comp c) = Unit {0}

abbrev pub IsWithin : Spelling → Test → Type 0
IsWithin s (Value c n) = ⊥
IsWithin s (Equal l r p) = ⊥
IsWithin s (State v ix t) = All (AtomIsWithin s) ix × TermOver s.terms t

-- each test is of a place, spelled so, and of another one than the test behind it where it passes
abbrev pub AsksPlaces : Spelling → Diagram → Type 0
AsksPlaces s (Only l) = Unit {0}
AsksPlaces s (Asks t y n) = IsWithin s t × BeginsElsewhere t y × AsksPlaces s y × AsksPlaces s n

-- marks of such diagrams, by the places of their numbers
abbrev pub ArePlaced : Spelling → List (Node Leaf) → List ℕ → List Bool → Type 0
ArePlaced s = AreNoted (λ b d. b ≡ true → AsksPlaces s d)

-- ---- components that aren't their own classes: they are bound
-- no component of the set has the atom's class, unless it is the atom
abbrev pub IsAlone : List Term → ℕ → Atom → Type 0
IsAlone cl bound a = (d : ℕ) → d < length cl → has bound d ≡ true → class_of cl d ≡ atom_class cl a → a ≡ Comp d

-- a number, a component that is its own class, or one of the set
abbrev pub IsKept : List Term → ℕ → Atom → Type 0
IsKept cl bound (Number n) = Unit {0}
IsKept cl bound (Comp c) = (class_of cl c ≡ Plus c 0) ⊎ (has bound c ≡ true)

abbrev pub AreKept : List Term → ℕ → ℕ → Type 0
AreKept cl comps bound = (c : ℕ) → c < length cl → has comps c ≡ true → IsKept cl bound (Comp c)

-- spelled otherwise than an atom like it, it has another class
abbrev pub AtomIsOwn : List Term → ℕ → Atom → Type 0
AtomIsOwn cl bound a = IsAlone cl bound a × IsKept cl bound a

abbrev pub TermIsOwn : List Term → Term → Type 0
TermIsOwn cl (Num n) = Unit {0}
TermIsOwn cl (Plus c p) = class_of cl c ≡ Plus c 0

abbrev pub IsOwn : List Term → ℕ → Test → Type 0
IsOwn cl bound (Value c n) = ⊥
IsOwn cl bound (Equal l r p) = ⊥
IsOwn cl bound (State v ix t) = All (AtomIsOwn cl bound) ix × TermIsOwn cl t

-- no number of an index
abbrev pub IsOutside : Spelling → Term → Type 0
IsOutside s (Num n) = (n < s.low) ⊎ (s.high < n)
IsOutside s (Plus r p) = Unit {0}

-- a component of the first set has no class of another of the second, and one of the second is spelled by itself alone
abbrev pub IsApart : List Term → ℕ → ℕ → Spelling → ℕ → Type 0
IsApart cl comps bound s c = (has comps c ≡ true → IsAlone cl bound (Comp c))
    × (has bound c ≡ true → IsOutside s (class_of cl c) × (has s.terms c ≡ false))

abbrev pub AreApart : List Term → ℕ → ℕ → Spelling → Type 0
AreApart cl comps bound s = (c : ℕ) → c < length cl → IsApart cl comps bound s c

-- ---- facts
-- a fact on a test before t, and on another subject if it passes
abbrev pub ComesBefore : List ℕ → Test → Fact → Type 0
ComesBefore ranks t f = (test_cmp ranks f.test t ≡ Less) × (f.yes ≡ true → ¬ (SameSubject f.test t))

-- if it is on an array of the set, its place is spelled as no other, and it comes before t
abbrev pub StandsAside : List ℕ → List Term → ℕ → ℕ → Test → Fact → Type 0
StandsAside ranks cl bound arrays t f = is_state f.test ≡ true
    → IsAmong arrays (var_of f.test) → IsOwn cl bound f.test × ComesBefore ranks t f
