-- What is known about some components and arrays: the classes of the components, and the facts that bear on them.
use Rattle.std.specs.Prelude.{◌≡◌, ◌⊎◌, ◌↔◌, ℕ, ◌+◌, ◌-◌, ◌^◌, ◌<◌, ◌==◌, nat_lt, ◌&&◌, not, Bool, true, false, if◌then◌else◌, List, [], ◌∷◌, ◌++◌, length, map, Option, None, Some, All}
use Rattle.std.specs.Global.{Vec}
use Rattle.std.specs.List.{Contains}
use Rattle.snap_core.specs.declared.policy.Atom.{Atom}
use Rattle.snap_core.specs.declared.policy.Atom.TheVariants.{Num as Number, Comp}
use Rattle.snap_core.specs.declared.policy.Term.{Term}
use Rattle.snap_core.specs.declared.policy.Term.TheVariants.{Num, Plus}
use Rattle.snap_core.specs.declared.policy.Test.{Test}
use Rattle.snap_core.specs.declared.policy.Test.TheVariants.{Value, Equal, State}
use Rattle.snap_core.specs.Arrays.{has}
use Rattle.snap_core.specs.Terms.{term_code}
use Rattle.snap_context.specs.declared.fact.Fact.{Fact}
use Rattle.snap_context.specs.Classes.{wrap, class_of, normal, atom_class, is_state, var_of, index_of, left_of, right_of}
use Rattle.snap_context.specs.View.{View, IsContext}

-- ---- tests about components and arrays
-- the number is in a set, as far as one of 64 bits can tell
abbrev pub IsAmong : ℕ → ℕ → Type 0
IsAmong set n = n < 64 → has set n ≡ true

abbrev pub AtomOver : ℕ → Atom → Type 0
AtomOver comps (Number n) = Unit {0}
AtomOver comps (Comp c) = IsAmong comps c

abbrev pub TermOver : ℕ → Term → Type 0
TermOver comps (Num n) = Unit {0}
TermOver comps (Plus c p) = IsAmong comps c

-- a test about no components and arrays but those of two sets
abbrev pub TestOver : ℕ → ℕ → Test → Type 0
TestOver comps arrays (Value c n) = IsAmong comps c
TestOver comps arrays (Equal l r p) = IsAmong comps l × IsAmong comps r
TestOver comps arrays (State v ix t) = IsAmong arrays v × All (AtomOver comps) ix × TermOver comps t

abbrev pub IsFixed : Atom → Type 0
IsFixed (Number n) = Unit {0}
IsFixed (Comp c) = ⊥

-- ---- facts by the classes
-- two terms that differ, or what a place holds or doesn't
pub data Normal : Type 0 where
  Differ : Term → Term → Normal
  Held : ℕ → List Term → Term → Bool → Normal

-- a class that is a number, or whose root is in a set
abbrev pub within : ℕ → Term → Bool
within roots (Num n) = true
within roots (Plus r p) = has roots r

abbrev pub are_within : ℕ → List Term → Bool
are_within roots [] = true
are_within roots (t ∷ ts) = within roots t && are_within roots ts

-- a class that is a number, or whose root isn't in the set
abbrev pub outside : ℕ → Term → Bool
outside roots (Num n) = true
outside roots (Plus r p) = not (has roots r)

abbrev pub are_outside : ℕ → List Term → Bool
are_outside roots [] = true
are_outside roots (t ∷ ts) = outside roots t && are_outside roots ts

abbrev pub is_number : Term → Bool
is_number (Num n) = true
is_number (Plus r p) = false

abbrev pub are_numbers : List Term → Bool
are_numbers [] = true
are_numbers (t ∷ ts) = is_number t && are_numbers ts

-- the classes of a test's index
abbrev pub spot : List Term → Test → List Term
spot cl t = map (atom_class cl) (index_of t)

-- the classes of a state test's index and its term, all in the set
abbrev pub tied : ℕ → List Term → Term → Bool
tied roots ix t = are_within roots ix && within roots t

-- two terms that differ, by one of their components, the lesser of two, and what it differs from, where the terms
-- alone don't tell that they do
abbrev pub difference : Term → Term → Option Normal
difference (Num x) (Num y) = None
difference (Num x) (Plus d q) = Some (Differ (Plus d 0) (Num (wrap x (2 ^ 64 - q))))
difference (Plus c p) (Num y) = Some (Differ (Plus c 0) (Num (wrap y (2 ^ 64 - p))))
difference (Plus c p) (Plus d q) =
    if c == d then None
    else (if nat_lt c d then Some (Differ (Plus c 0) (Plus d (wrap q (2 ^ 64 - p))))
    else Some (Differ (Plus d 0) (Plus c (wrap p (2 ^ 64 - q)))))

abbrev pub apart_of : ℕ → Bool → Term → Term → Option Normal
apart_of roots true a b = None
apart_of roots false a b = if within roots a && within roots b then difference a b else None

abbrev pub held_of : ℕ → ℕ → List Term → Term → Bool → Option Normal
held_of roots v ix t y = if tied roots ix t then Some (Held v ix t y) else None

-- a fact by the classes, where it isn't told by them, its roots are in the set, and its array isn't settled
abbrev pub known : List Term → ℕ → ℕ → Test → Bool → Option Normal
known cl roots settled t y =
    if is_state t then (if has settled (var_of t) then None else held_of roots (var_of t) (spot cl t) (normal cl (left_of t)) y)
    else apart_of roots y (normal cl (left_of t)) (normal cl (right_of t))

abbrev pub with_some : Option Normal → List Normal → List Normal
with_some None ns = ns
with_some (Some n) ns = n ∷ ns

abbrev pub all_known : List Term → ℕ → ℕ → List Fact → List Normal
all_known cl roots settled [] = []
all_known cl roots settled (f ∷ fs) = with_some (known cl roots settled f.test f.yes) (all_known cl roots settled fs)

-- ---- as lists of numbers
-- a 2 ends an index
abbrev pub spot_key : List Term → List ℕ
spot_key [] = 2 ∷ []
spot_key (t ∷ ts) = term_code t ++ spot_key ts

abbrev pub normal_key : Normal → List ℕ
normal_key (Differ a b) = 0 ∷ term_code a ++ term_code b
normal_key (Held v ix t y) = 1 ∷ v ∷ spot_key ix ++ (term_code t ++ (if y then 1 else 0) ∷ [])

abbrev pub some_key : Option Normal → List ℕ
some_key None = []
some_key (Some n) = normal_key n

abbrev pub normals_key : List Normal → List ℕ
normals_key [] = []
normals_key (n ∷ ns) = normal_key n ++ normals_key ns

-- the words of some fact
abbrev pub IsWord : Vec ℕ → Type 0
IsWord w = (n : Normal) × (w.items ≡ normal_key n)

-- words that are those of these facts, in some order, once or more often
pub record HasWords (ws : List (Vec ℕ)) (ns : List Normal) : Type 0 where
  pub each : (n : Normal) → Contains ns n → (w : Vec ℕ) × Contains ws w × (w.items ≡ normal_key n)
  pub only : (w : Vec ℕ) → Contains ws w → (n : Normal) × Contains ns n × (w.items ≡ normal_key n)

-- two lists of facts are one set
abbrev pub AreSame : List Normal → List Normal → Type 0
AreSame ns os = (n : Normal) → Contains ns n ↔ Contains os n

-- the classes of the components of a set, from the component i on
abbrev pub classes_key : ℕ → ℕ → List Term → List ℕ
classes_key comps i [] = []
classes_key comps i (t ∷ ts) = (if has comps i then term_code t else []) ++ classes_key comps (i + 1) ts

-- ---- sets of roots and arrays that can be taken by themselves
-- none of them in the set, and the index is no number's
abbrev pub loose : ℕ → List Term → Term → Bool
loose roots ix t = not (are_numbers ix) && (are_outside roots ix && outside roots t)

-- a state fact of an array that isn't settled has all of its roots in the set, or none and its index has one
abbrev pub IsRooted : List Term → ℕ → ℕ → Fact → Type 0
IsRooted cl roots settled f = is_state f.test ≡ true → has settled (var_of f.test) ≡ false
    → (tied roots (spot cl f.test) (normal cl (left_of f.test)) ≡ true) ⊎ (loose roots (spot cl f.test) (normal cl (left_of f.test)) ≡ true)

-- it speaks of one place of the array, and of a number
abbrev pub IsAtSpot : List Term → ℕ → List Term → Fact → Type 0
IsAtSpot cl v ix f = is_state f.test ≡ true → var_of f.test ≡ v → (spot cl f.test ≡ ix) × (is_number (normal cl (left_of f.test)) ≡ true)

-- all facts on the array speak of one place, and of numbers
pub record IsSettled (cl : List Term) (facts : List Fact) (v : ℕ) : Type 0 where
  pub index : List Term
  pub all : All (IsAtSpot cl v index) facts

-- the numbers of a key tell what facts and classes do about components and arrays
pub record IsSpelled (v : View) (comps arrays : ℕ) (key : List ℕ) : Type 0 where
  pub roots : ℕ
  pub settled : ℕ
  pub classes : (c : ℕ) → c < length v.classes → has comps c ≡ true → within roots (class_of v.classes c) ≡ true
  pub facts : All (IsRooted v.classes roots settled) v.facts
  pub calm : (a : ℕ) → has settled a ≡ true → (a < 64) × (has arrays a ≡ false) × IsSettled v.classes v.facts a
  pub told : List Normal
  pub same : AreSame told (all_known v.classes roots settled v.facts)
  pub is : key ≡ classes_key comps 0 v.classes ++ normals_key told

-- the same classes by other names: a context still, of the same facts
abbrev pub AreRenamed : List Term → List Term → Type 0
AreRenamed cl new = (length new ≡ length cl)
    × ((facts : List Fact) → IsContext (record { facts = facts; classes = cl }) → IsContext (record { facts = facts; classes = new }))

-- the numbers of a key tell what a context knows about components and arrays, by some names of its classes
pub record IsKnown (v : View) (comps arrays : ℕ) (key : List ℕ) : Type 0 where
  pub classes : List Term
  pub named : AreRenamed v.classes classes
  pub spelled : IsSpelled (record { facts = v.facts; classes = classes }) comps arrays key
