-- Which program a tree reads as: a case for each form of a part, without faults and their order.
use Rattle.std.specs.Prelude.{◌≡◌, ℕ, ◌-◌, ◌%◌, ◌^◌, ◌≤◌, Bool, true, false, List, [], ◌∷◌, ◌++◌, length, slice_get, Option, None, Some, bytes_eq}
use Rattle.std.specs.List.{list_any}
use Rattle.std.specs.Map.{lookup}
use Rattle.snap_core.specs.Figures.{number_of, address_of}
use Rattle.snap_core.specs.Fields.{count}
use Rattle.snap_names.specs.Core.{Atom, Num, Comp, Op, Put, Add, CorePolicy, id_test, drop_test, field_test, state_test, not_test, and_test, or_test, filter, set, change, par, seq, choice, atomic, core_policy, nodes, weight, net, host, whole_test}
use Rattle.snap_names.specs.Declarations.{Program}
use Rattle.snap_parse.specs.Tree.{PolicyTree, policy_begin, policy_more, SequenceTree, sequence_begin, sequence_more, ChoiceTree, if_tree, plain_tree, EitherTree, either_begin, either_more, BothTree, both_begin, both_more, SingleTree, not_tree, id_tree, drop_tree, group_tree, atomic_tree, name_tree, test_tree, set_tree, bare_tree, array_test_tree, array_set_tree, up_tree, down_tree, array_add_tree, array_sub_tree, DeclTree, field_tree, array_tree, const_tree, let_tree, SourceTree}
use Rattle.snap_names.specs.Senses.{Span, Literal, Value, Sense, Plain, Split, Array, Constant, Policy, word, is_address}
use Rattle.snap_names.specs.Spells.{Scope, senses, before_text, is_known}

-- the name was declared as this
abbrev pub Means : Scope → Span → Sense → Type 0
Means e name s = lookup (bytes_eq (word e.text name)) e.names ≡ Some s

-- the number of a literal
abbrev pub number : List ℕ → Literal → Option ℕ
number text (Literal.Number t) = number_of (word text t)
number text (Literal.Address t) = address_of (word text t)
number text (Literal.True t) = Some 1
number text (Literal.False t) = Some 0

-- an address, or a constant that is one
pub data IsAddress (e : Scope) : Value → ℕ → Type 0 where
  address : {t : Span} {a : ℕ} → address_of (word e.text t) ≡ Some a → IsAddress e (Value.Literal (Literal.Address t)) a
  constant_address : {t : Span} {a : ℕ} → Means e t (Constant a true) → IsAddress e (Value.Name t) a

-- the atoms of a value: two of a split field, and one of all else
pub data HasAtoms (e : Scope) : Value → List Atom → Type 0 where
  literal : {l : Literal} {n : ℕ} → number e.text l ≡ Some n → HasAtoms e (Value.Literal l) (Num n ∷ [])
  constant : {t : Span} {n : ℕ} {b : Bool} → Means e t (Constant n b) → HasAtoms e (Value.Name t) (Num n ∷ [])
  component : {t : Span} {c : ℕ} → Means e t (Plain c) → HasAtoms e (Value.Name t) (Comp c ∷ [])
  components : {t : Span} {a b n : ℕ} → Means e t (Split a b n) → HasAtoms e (Value.Name t) (Comp a ∷ Comp b ∷ [])

-- the atoms of places, in order
pub data HaveAtoms (e : Scope) : List Value → List Atom → Type 0 where
  no_place : HaveAtoms e [] []
  next_place : {v : Value} {vs : List Value} {xs ys : List Atom} → HasAtoms e v xs → HaveAtoms e vs ys → HaveAtoms e (v ∷ vs) (xs ++ ys)

-- an array, and an index of as many atoms as it has everywhere
pub record IsPlace (e : Scope) (name : Span) (places : List Value) (var : ℕ) (index : List Atom) : Type 0 where
  pub array : Means e name (Array var)
  pub have : HaveAtoms e places index
  pub size : length index ≡ e.atoms var

-- `name places` with an operation
abbrev pub Changes : Scope → Span → List Value → Op → CorePolicy → Type 0
Changes e name vs o p = (var : ℕ) × (index : List Atom) × IsPlace e name vs var index × (p ≡ change (record { var = var; index = index; op = o }))

mutual
  -- sequences joined by `+`
  pub data IsPolicy (e : Scope) : PolicyTree → CorePolicy → Type 0 where
    sequence : {at : ℕ} {s : SequenceTree} {p : CorePolicy} → IsSequence e s p → IsPolicy e (policy_more (policy_begin at) s) p
    plus : {t : PolicyTree} {s : SequenceTree} {p q : CorePolicy} → IsPolicy e t p → IsSequence e s q → IsPolicy e (policy_more t s) (par p q)

  -- choices joined by `;`
  pub data IsSequence (e : Scope) : SequenceTree → CorePolicy → Type 0 where
    choose : {at : ℕ} {c : ChoiceTree} {p : CorePolicy} → IsChoice e c p → IsSequence e (sequence_more (sequence_begin at) c) p
    semicolon : {s : SequenceTree} {c : ChoiceTree} {p q : CorePolicy} → IsSequence e s p → IsChoice e c q → IsSequence e (sequence_more s c) (seq p q)

  pub data IsChoice (e : Scope) : ChoiceTree → CorePolicy → Type 0 where
    if_then : {at : ℕ} {t : EitherTree} {y : PolicyTree} {n : ChoiceTree} {x : _} {p q : CorePolicy} → IsEither e t (filter x) → IsPolicy e y p → IsChoice e n q → IsChoice e (if_tree at t y n) (choice x p q)
    no_choice : {t : EitherTree} {p : CorePolicy} → IsEither e t p → IsChoice e (plain_tree t) p

  -- predicates joined by `|`, or one part
  pub data IsEither (e : Scope) : EitherTree → CorePolicy → Type 0 where
    both : {at : ℕ} {b : BothTree} {p : CorePolicy} → IsBoth e b p → IsEither e (either_more (either_begin at) b) p
    or : {t : EitherTree} {b : BothTree} {x y : _} → IsEither e t (filter x) → IsBoth e b (filter y) → IsEither e (either_more t b) (filter (or_test x y))

  -- predicates joined by `&`, or one part
  pub data IsBoth (e : Scope) : BothTree → CorePolicy → Type 0 where
    single : {at : ℕ} {s : SingleTree} {p : CorePolicy} → IsSingle e s p → IsBoth e (both_more (both_begin at) s) p
    and : {t : BothTree} {s : SingleTree} {x y : _} → IsBoth e t (filter x) → IsSingle e s (filter y) → IsBoth e (both_more t s) (filter (and_test x y))

  pub data IsSingle (e : Scope) : SingleTree → CorePolicy → Type 0 where
    negation : {at : ℕ} {s : SingleTree} {x : _} → IsSingle e s (filter x) → IsSingle e (not_tree at s) (filter (not_test x))
    identity : {at : ℕ} → IsSingle e (id_tree at) (filter id_test)
    drop : {at : ℕ} → IsSingle e (drop_tree at) (filter drop_test)
    group : {at : ℕ} {t : PolicyTree} {p : CorePolicy} → IsPolicy e t p → IsSingle e (group_tree at t) p
    undivided : {at : ℕ} {t : PolicyTree} {p : CorePolicy} → IsPolicy e t p → IsSingle e (atomic_tree at t) (atomic p)
    body : {t : Span} {i : ℕ} {p : CorePolicy} → Means e t (Policy i) → slice_get e.lets i ≡ Some p → IsSingle e (name_tree t) p
    test : {t : Span} {v : Value} {c n : ℕ} → Means e t (Plain c) → HasAtoms e v (Num n ∷ []) → IsSingle e (test_tree t v) (filter (field_test c n))
    test_split : {t : Span} {v : Value} {a b n x : ℕ} → Means e t (Split a b n) → IsAddress e v x → IsSingle e (test_tree t v) (filter (whole_test a b n x))
    test_net : {t u l : Span} {a b n x : ℕ} → Means e t (Split a b n) → address_of (word e.text u) ≡ Some x → number_of (word e.text l) ≡ Some n → IsSingle e (test_tree t (Value.Prefix u l)) (filter (field_test a (net n x)))
    gets : {t : Span} {v : Value} {c : ℕ} {x : Atom} → Means e t (Plain c) → HasAtoms e v (x ∷ []) → IsSingle e (set_tree t v) (set c x)
    gets_address : {t : Span} {v : Value} {a b n x : ℕ} → Means e t (Split a b n) → IsAddress e v x → IsSingle e (set_tree t v) (seq (set a (Num (net n x))) (set b (Num (host n x))))
    gets_split : {t u : Span} {a b c d n : ℕ} → Means e t (Split a b n) → Means e u (Split c d n) → IsSingle e (set_tree t (Value.Name u)) (seq (set a (Comp c)) (set b (Comp d)))
    is_one : {t : Span} {vs : List Value} {var : ℕ} {index : List Atom} → IsPlace e t vs var index → IsSingle e (bare_tree t vs) (filter (state_test var index (Num 1)))
    test_array : {t : Span} {vs : List Value} {v : Value} {var : ℕ} {index : List Atom} {x : Atom} → IsPlace e t vs var index → HasAtoms e v (x ∷ []) → IsSingle e (array_test_tree t vs v) (filter (state_test var index x))
    put : {t : Span} {vs : List Value} {v : Value} {x : Atom} {p : CorePolicy} → HasAtoms e v (x ∷ []) → Changes e t vs (Put x) p → IsSingle e (array_set_tree t vs v) p
    up : {t : Span} {vs : List Value} {p : CorePolicy} → Changes e t vs (Add 1) p → IsSingle e (up_tree t vs) p
    down : {t : Span} {vs : List Value} {p : CorePolicy} → Changes e t vs (Add (2 ^ 64 - 1)) p → IsSingle e (down_tree t vs) p
    add : {t : Span} {vs : List Value} {v : Value} {n : ℕ} {p : CorePolicy} → HasAtoms e v (Num n ∷ []) → Changes e t vs (Add n) p → IsSingle e (array_add_tree t vs v) p
    sub : {t : Span} {vs : List Value} {v : Value} {n : ℕ} {p : CorePolicy} → HasAtoms e v (Num n ∷ []) → Changes e t vs (Add ((2 ^ 64 - n) % 2 ^ 64)) p → IsSingle e (array_sub_tree t vs v) p

-- no length, or one from 1 to 31
pub data IsLength (text : List ℕ) : Option Span → Option ℕ → Type 0 where
  plain : IsLength text None None
  split : {t : Span} {n : ℕ} → number_of (word text t) ≡ Some n → 1 ≤ n → n ≤ 31 → IsLength text (Some t) (Some n)

-- what a declaration declares, and what its names then stand for
pub data Declares (e : Scope) : DeclTree → Scope → List (List ℕ × Sense) → Type 0 where
  field : {at : ℕ} {t : Span} {l : Option Span} {n : Option ℕ} → IsLength e.text l n → Declares e (field_tree at t l) (record e { fields = e.fields ++ record { name = word e.text t; prefix = n } ∷ [] }) (senses (count e.fields) (word e.text t) n)
  array : {at : ℕ} {t : Span} → Declares e (array_tree at t) (record e { arrays = e.arrays ++ word e.text t ∷ [] }) ((word e.text t, Array (length e.arrays)) ∷ [])
  const : {at n : ℕ} {t : Span} {l : Literal} → number e.text l ≡ Some n → Declares e (const_tree at t l) e ((word e.text t, Constant n (is_address l)) ∷ [])
  body_of_let : {at : ℕ} {t : Span} {b : PolicyTree} {p : CorePolicy} → IsPolicy e b p → Declares e (let_tree at t b) (record e { lets = e.lets ++ p ∷ [] }) ((word e.text t, Policy (length e.lets)) ∷ [])

-- declarations, each of names that no one before it declares
pub data DeclaresAll : Scope → List DeclTree → Scope → Type 0 where
  no_more : {e : Scope} → DeclaresAll e [] e
  one_more : {e d f : Scope} {t : DeclTree} {ts : List DeclTree} {names : List (List ℕ × Sense)} → Declares e t d names → list_any (λ x. is_known e.names x.0) names ≡ false → DeclaresAll (record d { names = e.names ++ names }) ts f → DeclaresAll e (t ∷ ts) f

-- The tree of a text reads as this program, which passes no limit.
pub record IsProgramOf (text : List ℕ) (s : SourceTree) (p : Program) : Type 0 where
  pub atoms : ℕ → ℕ
  pub few_atoms : (var : ℕ) → atoms var ≤ 8
  pub scope : Scope
  pub declared : DeclaresAll (before_text text atoms) s.decls scope
  pub fields : p.fields ≡ scope.fields
  pub arrays : p.arrays ≡ scope.arrays
  pub body : IsPolicy scope s.policy (core_policy p.body)
  pub few_components : count p.fields ≤ 64
  pub few_arrays : length p.arrays ≤ 64
  pub few_nodes : nodes (core_policy p.body) ≤ 2000
  pub light : weight (core_policy p.body) ≤ 16777216
