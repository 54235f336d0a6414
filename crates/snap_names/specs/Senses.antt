-- What names, literals and values stand for, or the first naming rule that they break.
use Rattle.std.specs.Prelude.{ℕ, ◌+◌, Bool, true, false, ◌&&◌, ◌==◌, nat_le, if◌then◌else◌, List, [], ◌∷◌, ◌++◌, length, min, slice_get, slice_set, slice_range, Option, None, Some, Result, Ok, Err}
use Rattle.std.specs.Map.{lookup}
use Rattle.std.specs.Str.{bytes_eq}
use Rattle.snap_core.specs.Figures.{number_of, address_of}
use Rattle.snap_core.specs.declared.policy.Atom.{Atom}
use Rattle.snap_core.specs.declared.policy.Atom.TheVariants.{Num, Comp}
pub use Rattle.snap_parse.specs.declared.tree.Span.{Span}
pub use Rattle.snap_parse.specs.declared.tree.Literal.{Literal}
use Rattle.snap_parse.specs.declared.tree.Literal.TheVariants as literals
pub use Rattle.snap_parse.specs.declared.tree.Value.{Value}
use Rattle.snap_parse.specs.declared.tree.Value.TheVariants as values
pub use Rattle.snap_names.specs.declared.scope.Sense.{Sense}
pub use Rattle.snap_names.specs.declared.scope.Sense.TheVariants.{Plain, Split, Array, Constant, Policy}
pub use Rattle.snap_names.specs.declared.fault.NameFault.{NameFault}
pub use Rattle.snap_names.specs.declared.fault.NameFault.TheVariants.{Twice, Unknown, Kind, Arity, Wide, Prefix, Limit, NoMemory}
use Rattle.snap_names.specs.Core.{CoreTest, CorePolicy, field_test, set, seq, host, net, whole_test}

-- the text of a program, and what the names that are declared so far stand for
pub record Words : Type 0 where
  pub text : List ℕ
  pub names : List (List ℕ × Sense)

-- how many atoms each array was first indexed with
abbrev pub Arities : Type 0
Arities = List (Option ℕ)

abbrev pub or_fault : {A : Type 0} → NameFault → Option A → Result A NameFault
or_fault f None = Err f
or_fault f (Some x) = Ok x

-- the first fault of two, the second of which depends on what the first gives
abbrev pub after : {A B : Type 0} → Result A NameFault → (A → Result B NameFault) → Result B NameFault
after (Ok x) f = f x
after (Err e) f = Err e

-- the text of a token
abbrev pub word : List ℕ → Span → List ℕ
word text t = if nat_le t.from t.to && nat_le t.to (length text) then slice_range text t.from t.to else []

abbrev pub sense_of : Words → Span → Result Sense NameFault
sense_of e name = or_fault (Unknown name.from) (lookup (bytes_eq (word e.text name)) e.names)

abbrev pub number_at : List ℕ → Span → Result ℕ NameFault
number_at text t = or_fault (Wide t.from) (number_of (word text t))

-- An address has four parts of value at most 255, so it is never too wide.
abbrev pub address_at : List ℕ → Span → Result ℕ NameFault
address_at text t = or_fault (Wide t.from) (address_of (word text t))

abbrev pub literal : List ℕ → Literal → Result ℕ NameFault
literal text (literals.Number t) = number_at text t
literal text (literals.Address t) = address_at text t
literal text (literals.True t) = Ok 1
literal text (literals.False t) = Ok 0

abbrev pub is_address : Literal → Bool
is_address (literals.Address t) = true
is_address _ = false

abbrev pub literal_from : Literal → ℕ
literal_from (literals.Number t) = t.from
literal_from (literals.Address t) = t.from
literal_from (literals.True t) = t.from
literal_from (literals.False t) = t.from

-- a constant's number; the name stands at `at`
abbrev pub constant_of : ℕ → Sense → Result ℕ NameFault
constant_of at (Constant n b) = Ok n
constant_of at _ = Err (Kind at)

-- what stands behind `=` of a plain field, and behind `+=` and `-=`: a literal or a constant
abbrev pub constant : Words → Value → Result ℕ NameFault
constant e (values.Literal l) = literal e.text l
constant e (values.Prefix a l) = Err (Kind a.from)
constant e (values.Name t) = after (sense_of e t) (constant_of t.from)

-- a constant or a plain field
abbrev pub atom_of : ℕ → Sense → Result Atom NameFault
atom_of at (Constant n b) = Ok (Num n)
atom_of at (Plain c) = Ok (Comp c)
atom_of at _ = Err (Kind at)

-- what stands behind `<-` of a plain field: a literal, a constant or a plain field
abbrev pub field_atom : Words → Value → Result Atom NameFault
field_atom e (values.Literal l) = after (literal e.text l) (λ n. Ok (Num n))
field_atom e (values.Prefix a l) = Err (Kind a.from)
field_atom e (values.Name t) = after (sense_of e t) (atom_of t.from)

-- what stands behind `=` and `<-` of an array: the same, where a prefix is a fault of its own
abbrev pub array_atom : Words → Value → Result Atom NameFault
array_atom e (values.Literal l) = after (literal e.text l) (λ n. Ok (Num n))
array_atom e (values.Prefix a l) = Err (Prefix a.from)
array_atom e (values.Name t) = after (sense_of e t) (atom_of t.from)

-- the atoms of an address' net and host
abbrev pub address_atoms : ℕ → ℕ → Atom × Atom
address_atoms n address = (Num (net n address), Num (host n address))

abbrev pub address_literal : Words → Literal → Result ℕ NameFault
address_literal e (literals.Address t) = address_at e.text t
address_literal e l = Err (Kind (literal_from l))

-- a constant that is an address
abbrev pub address_of_sense : ℕ → Sense → Result ℕ NameFault
address_of_sense at (Constant n true) = Ok n
address_of_sense at _ = Err (Kind at)

-- a constant that is an address, or a split field of the same prefix length
abbrev pub split_of_sense : ℕ → ℕ → Sense → Result (Atom × Atom) NameFault
split_of_sense n at (Constant a true) = Ok (address_atoms n a)
split_of_sense n at (Split a b m) = if m == n then Ok (Comp a, Comp b) else Err (Kind at)
split_of_sense n at _ = Err (Kind at)

-- what stands behind `<-` of a split field of n bits: an address, a constant that is one, or a split field of the same prefix length
abbrev pub split_atoms : Words → ℕ → Value → Result (Atom × Atom) NameFault
split_atoms e n (values.Literal l) = after (address_literal e l) (λ a. Ok (address_atoms n a))
split_atoms e n (values.Prefix a l) = Err (Kind a.from)
split_atoms e n (values.Name t) = after (sense_of e t) (split_of_sense n t.from)

-- what a split field is compared with: an address or a constant that is one
abbrev pub split_address : Words → Value → Result ℕ NameFault
split_address e (values.Literal l) = address_literal e l
split_address e (values.Prefix a l) = Err (Kind a.from)
split_address e (values.Name t) = after (sense_of e t) (address_of_sense t.from)

-- the net of an address, where the text spells the number n
abbrev pub net_if : ℕ → NameFault → Result ℕ NameFault → Option ℕ → Result ℕ NameFault
net_if n f address None = Err f
net_if n f address (Some m) = if m == n then after address (λ a. Ok (net n a)) else Err f

-- the net of a prefix that a split field of n bits is compared with, which has its length
abbrev pub split_net : Words → ℕ → Span → Span → Result ℕ NameFault
split_net e n t l = net_if n (Prefix t.from) (address_at e.text t) (number_of (word e.text l))

-- a test of a split field with the components a and b and a net of n bits
abbrev pub split_test : Words → ℕ → ℕ → ℕ → Value → Result CoreTest NameFault
split_test e a b n (values.Prefix t l) = after (split_net e n t l) (λ x. Ok (field_test a x))
split_test e a b n v = after (split_address e v) (λ x. Ok (whole_test a b n x))

abbrev pub test_of_sense : Words → ℕ → Value → Sense → Result CoreTest NameFault
test_of_sense e at v (Plain c) = after (constant e v) (λ n. Ok (field_test c n))
test_of_sense e at v (Split a b n) = split_test e a b n v
test_of_sense e at v _ = Err (Kind at)

-- `name = value` of a field
abbrev pub field_equals : Words → Span → Value → Result CoreTest NameFault
field_equals e name v = after (sense_of e name) (test_of_sense e name.from v)

abbrev pub set_of_sense : Words → ℕ → Value → Sense → Result CorePolicy NameFault
set_of_sense e at v (Plain c) = after (field_atom e v) (λ x. Ok (set c x))
set_of_sense e at v (Split a b n) = after (split_atoms e n v) (λ x. Ok (seq (set a x.0) (set b x.1)))
set_of_sense e at v _ = Err (Kind at)

-- `name <- value` of a field
abbrev pub field_gets : Words → Span → Value → Result CorePolicy NameFault
field_gets e name v = after (sense_of e name) (set_of_sense e name.from v)

-- how many atoms a value in places gives: a split field two, everything else one
abbrev pub width_of : Result Sense NameFault → ℕ
width_of (Ok (Split a b n)) = 2
width_of _ = 1

abbrev pub value_width : Words → Value → ℕ
value_width e (values.Literal l) = 1
value_width e (values.Prefix a l) = 1
value_width e (values.Name t) = width_of (sense_of e t)

abbrev pub width : Words → List Value → ℕ
width e [] = 0
width e (v ∷ vs) = value_width e v + width e vs

abbrev pub atoms_of_sense : ℕ → Sense → Result (List Atom) NameFault
atoms_of_sense at (Constant n b) = Ok (Num n ∷ [])
atoms_of_sense at (Plain c) = Ok (Comp c ∷ [])
atoms_of_sense at (Split a b n) = Ok (Comp a ∷ Comp b ∷ [])
atoms_of_sense at _ = Err (Kind at)

-- the atoms of a value in places: a literal, a constant or a field
abbrev pub value_atoms : Words → Value → Result (List Atom) NameFault
value_atoms e (values.Literal l) = after (literal e.text l) (λ n. Ok (Num n ∷ []))
value_atoms e (values.Prefix a l) = Err (Prefix a.from)
value_atoms e (values.Name t) = after (sense_of e t) (atoms_of_sense t.from)

-- the atoms of values, behind those of the values before
abbrev pub atoms_behind : Words → List Atom → List Value → Result (List Atom) NameFault
atoms_behind e before [] = Ok before
atoms_behind e before (v ∷ vs) = after (value_atoms e v) (λ es. atoms_behind e (before ++ es) vs)

abbrev pub array_of_sense : ℕ → Sense → Result ℕ NameFault
array_of_sense at (Array v) = Ok v
array_of_sense at _ = Err (Kind at)

-- the arities after an array is indexed with n atoms at `at`
abbrev pub arity_seen : Arities → ℕ → ℕ → ℕ → Option (Option ℕ) → Result Arities NameFault
arity_seen before v n at (Some (Some m)) = if m == n then Ok before else Err (Arity at)
arity_seen before v n at (Some None) = Ok (slice_set before v (Some n))
arity_seen before v n at None = Ok before

-- An array with its index, and the arities behind it. Programs number arrays in 16 bits; one with more is refused.
pub record Place : Type 0 where
  pub var : ℕ
  pub index : List Atom
  pub arities : Arities

abbrev pub place_of : Words → Arities → ℕ → List Value → ℕ → Result Place NameFault
place_of e before at places v =
    after (arity_seen before v (width e places) at (slice_get before v)) (λ arities.
    after (atoms_behind e [] places) (λ index. Ok (record { var = min v 65535; index = index; arities = arities })))

-- `name places`
abbrev pub place : Words → Arities → Span → List Value → Result Place NameFault
place e before name places = after (after (sense_of e name) (array_of_sense name.from)) (place_of e before name.from places)
