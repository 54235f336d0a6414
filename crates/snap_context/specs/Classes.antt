-- Classes of components, and the rules that they keep beside facts.
use Rattle.std.specs.Prelude.{◌≡◌, ◌≢◌, ℕ, ◌+◌, ◌%◌, ◌^◌, ◌<◌, ◌≤◌, Bool, true, false, List, [], length, map, slice_index_or, All}
use Rattle.snap_core.specs.declared.policy.Atom.{Atom}
use Rattle.snap_core.specs.declared.policy.Atom.TheVariants.{Num as Number, Comp}
use Rattle.snap_core.specs.declared.policy.Term.{Term}
use Rattle.snap_core.specs.declared.policy.Term.TheVariants.{Num, Plus}
use Rattle.snap_core.specs.declared.policy.Test.{Test}
use Rattle.snap_core.specs.declared.policy.Test.TheVariants.{Value, Equal, State}
use Rattle.snap_core.specs.Tests.{term_value}
use Rattle.snap_context.specs.declared.fact.Fact.{Fact}

-- the sum of two numbers of 64 bits
abbrev pub wrap : ℕ → ℕ → ℕ
wrap x y = (x + y) % 2 ^ 64

-- a term with an offset more
abbrev pub shift : Term → ℕ → Term
shift (Num n) by = Num (wrap n by)
shift (Plus c p) by = Plus c (wrap p by)

-- the class of a component: a number, or a root with an offset
abbrev pub class_of : List Term → ℕ → Term
class_of cl c = slice_index_or cl c (Plus c 0)

-- a term by the classes
abbrev pub normal : List Term → Term → Term
normal cl (Num n) = Num n
normal cl (Plus c p) = shift (class_of cl c) p

abbrev pub atom_class : List Term → Atom → Term
atom_class cl (Number n) = Num n
atom_class cl (Comp c) = class_of cl c

-- terms, atoms and tests over so many components, with numbers of 64 bits
abbrev pub IsTerm : ℕ → Term → Type 0
IsTerm comps (Num n) = n < 2 ^ 64
IsTerm comps (Plus c p) = (c < comps) × (p < 2 ^ 64)

abbrev pub IsAtom : ℕ → Atom → Type 0
IsAtom comps (Number n) = n < 2 ^ 64
IsAtom comps (Comp c) = c < comps

abbrev pub IsTest : ℕ → Test → Type 0
IsTest comps (Value c n) = (c < comps) × (n < 2 ^ 64)
IsTest comps (Equal l r p) = (l < comps) × (r < comps) × (p < 2 ^ 64)
IsTest comps (State v ix t) = (length ix ≤ 8) × All (IsAtom comps) ix × IsTerm comps t

-- the parts of a state test
abbrev pub is_state : Test → Bool
is_state (Value c n) = false
is_state (Equal l r p) = false
is_state (State v ix t) = true

abbrev pub var_of : Test → ℕ
var_of (Value c n) = 0
var_of (Equal l r p) = 0
var_of (State v ix t) = v

abbrev pub index_of : Test → List Atom
index_of (Value c n) = []
index_of (Equal l r p) = []
index_of (State v ix t) = ix

-- the two terms that a value or equal test compares, and the term of a state test
abbrev pub left_of : Test → Term
left_of (Value c n) = Plus c 0
left_of (Equal l r p) = Plus l 0
left_of (State v ix t) = t

abbrev pub right_of : Test → Term
right_of (Value c n) = Num n
right_of (Equal l r p) = Plus r p
right_of (State v ix t) = t

-- a number, or an offset from a root, whose own class is itself
abbrev pub IsClass : List Term → Term → Type 0
IsClass cl (Num n) = n < 2 ^ 64
IsClass cl (Plus r p) = (r < length cl) × (p < 2 ^ 64) × (class_of cl r ≡ Plus r 0)

-- the answer says whether the terms are equal
abbrev pub Says : Bool → Term → Term → Type 0
Says true a b = a ≡ b
Says false a b = a ≢ b

-- two state tests of one place, as far as the classes tell
pub record SamePlace (cl : List Term) (f g : Test) : Type 0 where
  pub first : is_state f ≡ true
  pub second : is_state g ≡ true
  pub var : var_of f ≡ var_of g
  pub index : map (atom_class cl) (index_of f) ≡ map (atom_class cl) (index_of g)

-- a value or equal fact says whether its two terms have one class
abbrev pub FactRule : List Term → Fact → Type 0
FactRule cl f = is_state f.test ≡ false → Says f.yes (normal cl (left_of f.test)) (normal cl (right_of f.test))

-- where one fact says what a place holds, each fact on that place agrees
abbrev pub PairRule : List Term → Fact → Fact → Type 0
PairRule cl f g = f.yes ≡ true → SamePlace cl f.test g.test → Says g.yes (normal cl (left_of f.test)) (normal cl (left_of g.test))

-- the rules of a context
pub record Rules (facts : List Fact) (cl : List Term) : Type 0 where
  pub tests : All (λ f. IsTest (length cl) f.test) facts
  pub classes : All (IsClass cl) cl
  pub alone : All (FactRule cl) facts
  pub paired : All (λ f. All (PairRule cl f) facts) facts

-- each component of the packet is as its class says
abbrev pub Fits : List Term → List ℕ → Type 0
Fits cl k = (c : ℕ) → c < length cl → term_value (class_of cl c) k ≡ term_value (Plus c 0) k
