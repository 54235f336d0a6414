-- Which program a text spells: each rule of the grammar, with what each of its forms stands for.
-- A relation of a rule says that the tokens before `rest` have its form, and what they stand for. At most `d` parts are open within
-- them, one in another: each `if`, `!`, `(` and `{` opens one.
use Rattle.std.specs.Prelude.{◌≡◌, ℕ, suc, ◌+◌, ◌-◌, ◌%◌, ◌^◌, ◌≤◌, ◌&&◌, nat_le, if◌then◌else◌, Bool, true, false, List, [], ◌∷◌, ◌++◌, length, codes, slice_get, slice_range, Option, None, Some, is_some}
use Rattle.std.specs.List.{list_any}
use Rattle.std.specs.Map.{lookup}
use Rattle.std.specs.Str.{bytes_eq}
use Rattle.snap_core.specs.Figures.{number_of, address_of}
use Rattle.snap_core.specs.Fields.{count, plain_field}
use Rattle.snap_core.specs.declared.policy.Atom.{Atom}
use Rattle.snap_core.specs.declared.policy.Atom.TheVariants.{Num, Comp}
use Rattle.snap_core.specs.declared.policy.Op.{Op}
use Rattle.snap_core.specs.declared.policy.Op.TheVariants.{Put, Add}
use Rattle.snap_core.specs.declared.program.Field.{Field}
use Rattle.snap_core.specs.declared.program.Program.{Program}
pub use Rattle.snap_lex.specs.declared.Token.{Token}
pub use Rattle.snap_lex.specs.declared.Kind.{Kind}
use Rattle.snap_lex.specs.declared.Kind.TheVariants as kinds
pub use Rattle.snap_lex.specs.declared.Key.{Key}
use Rattle.snap_lex.specs.declared.Key.TheVariants as keys
pub use Rattle.snap_lex.specs.declared.Sign.{Sign}
use Rattle.snap_lex.specs.declared.Sign.TheVariants as signs
use Rattle.snap_lex.specs.Lexemes.{SpellsTokens}
use Rattle.snap_names.specs.declared.scope.Sense.{Sense}
use Rattle.snap_names.specs.declared.scope.Sense.TheVariants.{Plain, Split, Array, Constant, Policy}
use Rattle.snap_names.specs.Core.{CoreTest, CorePolicy, id_test, drop_test, field_test, state_test, not_test, and_test, or_test, filter, set, change, par, seq, choice, atomic, core_policy, nodes, weight, net, host, whole_test}

abbrev pub is_known : List (List ℕ × Sense) → List ℕ → Bool
is_known names name = is_some (lookup (bytes_eq name) names)

-- What is declared before a part of a text, each kind in order; and how many atoms each array is indexed with.
pub record Scope : Type 0 where
  pub text : List ℕ
  pub atoms : ℕ → ℕ
  pub fields : List Field
  pub arrays : List (List ℕ)
  pub lets : List CorePolicy
  pub names : List (List ℕ × Sense)

abbrev pub IsKey : Key → Token → Type 0
IsKey key t = t.kind ≡ kinds.Key key

abbrev pub IsSign : Sign → Token → Type 0
IsSign sign t = t.kind ≡ kinds.Sign sign

-- the bytes of a token
abbrev pub bytes_of : List ℕ → Token → List ℕ
bytes_of text t = if nat_le t.from t.to && nat_le t.to (length text) then slice_range text t.from t.to else []

-- a name that was declared as this
pub record Means (e : Scope) (t : Token) (s : Sense) : Type 0 where
  pub name : t.kind ≡ kinds.Word
  pub declared : lookup (bytes_eq (bytes_of e.text t)) e.names ≡ Some s

-- a number, and whether it is written as an address
pub data IsLiteral (text : List ℕ) (t : Token) : ℕ → Bool → Type 0 where
  number : {n : ℕ} → t.kind ≡ kinds.Number → number_of (bytes_of text t) ≡ Some n → IsLiteral text t n false
  address : {a : ℕ} → t.kind ≡ kinds.Address → address_of (bytes_of text t) ≡ Some a → IsLiteral text t a true
  yes : IsKey keys.True t → IsLiteral text t 1 false
  no : IsKey keys.False t → IsLiteral text t 0 false

-- a literal, or a constant
pub data IsNumber (e : Scope) (t : Token) (n : ℕ) (as_address : Bool) : Type 0 where
  literal : IsLiteral e.text t n as_address → IsNumber e t n as_address
  constant : Means e t (Constant n as_address) → IsNumber e t n as_address

-- the atoms of a value: two of a split field, and one of all else
pub data HasAtoms (e : Scope) (t : Token) : List Atom → Type 0 where
  number : {n : ℕ} {b : Bool} → IsNumber e t n b → HasAtoms e t (Num n ∷ [])
  component : {c : ℕ} → Means e t (Plain c) → HasAtoms e t (Comp c ∷ [])
  components : {a b n : ℕ} → Means e t (Split a b n) → HasAtoms e t (Comp a ∷ Comp b ∷ [])

-- places = "[" value "]" { "[" value "]" }, and their atoms in order
pub data HaveAtoms (e : Scope) : List Token → List Atom → List Token → Type 0 where
  last : {t v u : Token} {rest : List Token} {xs : List Atom} → IsSign signs.OpenSquare t
      → HasAtoms e v xs → IsSign signs.CloseSquare u → HaveAtoms e (t ∷ v ∷ u ∷ rest) xs rest
  next : {t v u : Token} {ts rest : List Token} {xs ys : List Atom} → IsSign signs.OpenSquare t → HasAtoms e v xs
      → IsSign signs.CloseSquare u → HaveAtoms e ts ys rest → HaveAtoms e (t ∷ v ∷ u ∷ ts) (xs ++ ys) rest

-- an array with places, of as many atoms as it has everywhere
pub data IsPlace (e : Scope) : List Token → ℕ → List Atom → List Token → Type 0 where
  place : {t : Token} {ts rest : List Token} {var : ℕ} {index : List Atom} → Means e t (Array var)
      → HaveAtoms e ts index rest → length index ≡ e.atoms var → IsPlace e (t ∷ ts) var index rest

abbrev pub changes : ℕ → List Atom → Op → CorePolicy
changes var index op = change (record { var = var; index = index; op = op })

mutual
  -- policy = sequence { "+" sequence }
  pub data IsPolicy (e : Scope) : ℕ → List Token → CorePolicy → List Token → Type 0 where
    sequence : {d : ℕ} {ts rest : List Token} {p : CorePolicy} → IsSequence e d ts p rest → IsPolicy e d ts p rest
    plus : {d : ℕ} {t : Token} {ts us rest : List Token} {p q : CorePolicy} → IsPolicy e d ts p (t ∷ us)
        → IsSign signs.Plus t → IsSequence e d us q rest → IsPolicy e d ts (par p q) rest

  -- sequence = choice { ";" choice }
  pub data IsSequence (e : Scope) : ℕ → List Token → CorePolicy → List Token → Type 0 where
    choose : {d : ℕ} {ts rest : List Token} {p : CorePolicy} → IsChoice e d ts p rest → IsSequence e d ts p rest
    semicolon : {d : ℕ} {t : Token} {ts us rest : List Token} {p q : CorePolicy} → IsSequence e d ts p (t ∷ us)
        → IsSign signs.Semicolon t → IsChoice e d us q rest → IsSequence e d ts (seq p q) rest

  -- choice = "if" either "then" policy "else" choice | either
  pub data IsChoice (e : Scope) : ℕ → List Token → CorePolicy → List Token → Type 0 where
    if_then : {d : ℕ} {t u v : Token} {ts us vs rest : List Token} {x : CoreTest} {p q : CorePolicy}
        → IsKey keys.If t → IsEither e d ts (filter x) (u ∷ us) → IsKey keys.Then u → IsPolicy e d us p (v ∷ vs)
        → IsKey keys.Else v → IsChoice e d vs q rest → IsChoice e (suc d) (t ∷ ts) (choice x p q) rest
    no_choice : {d : ℕ} {ts rest : List Token} {p : CorePolicy} → IsEither e d ts p rest → IsChoice e d ts p rest

  -- either = both { "|" both }, of predicates where there are more than one
  pub data IsEither (e : Scope) : ℕ → List Token → CorePolicy → List Token → Type 0 where
    both : {d : ℕ} {ts rest : List Token} {p : CorePolicy} → IsBoth e d ts p rest → IsEither e d ts p rest
    or : {d : ℕ} {t : Token} {ts us rest : List Token} {x y : CoreTest} → IsEither e d ts (filter x) (t ∷ us)
        → IsSign signs.Or t → IsBoth e d us (filter y) rest → IsEither e d ts (filter (or_test x y)) rest

  -- both = single { "&" single }, likewise
  pub data IsBoth (e : Scope) : ℕ → List Token → CorePolicy → List Token → Type 0 where
    single : {d : ℕ} {ts rest : List Token} {p : CorePolicy} → IsSingle e d ts p rest → IsBoth e d ts p rest
    and : {d : ℕ} {t : Token} {ts us rest : List Token} {x y : CoreTest} → IsBoth e d ts (filter x) (t ∷ us)
        → IsSign signs.And t → IsSingle e d us (filter y) rest → IsBoth e d ts (filter (and_test x y)) rest

  -- single = "!" single | "id" | "drop" | "(" policy ")" | "atomic" "(" policy ")" | name
  --     | name "=" value | name "=" address "/" number | name "<-" value | name places | name places "=" value
  --     | name places "<-" value | name places "++" | name places "--" | name places "+=" value | name places "-=" value
  pub data IsSingle (e : Scope) : ℕ → List Token → CorePolicy → List Token → Type 0 where
    negation : {d : ℕ} {t : Token} {ts rest : List Token} {x : CoreTest} → IsSign signs.Not t
        → IsSingle e d ts (filter x) rest → IsSingle e (suc d) (t ∷ ts) (filter (not_test x)) rest
    identity : {d : ℕ} {t : Token} {rest : List Token} → IsKey keys.Id t → IsSingle e d (t ∷ rest) (filter id_test) rest
    drop : {d : ℕ} {t : Token} {rest : List Token} → IsKey keys.Drop t → IsSingle e d (t ∷ rest) (filter drop_test) rest
    group : {d : ℕ} {t u : Token} {ts rest : List Token} {p : CorePolicy} → IsSign signs.OpenRound t
        → IsPolicy e d ts p (u ∷ rest) → IsSign signs.CloseRound u → IsSingle e (suc d) (t ∷ ts) p rest
    undivided : {d : ℕ} {t u v : Token} {ts rest : List Token} {p : CorePolicy} → IsKey keys.Atomic t → IsSign signs.OpenRound u
        → IsPolicy e d ts p (v ∷ rest) → IsSign signs.CloseRound v → IsSingle e (suc d) (t ∷ u ∷ ts) (atomic p) rest
    body : {d i : ℕ} {t : Token} {rest : List Token} {p : CorePolicy}
        → Means e t (Policy i) → slice_get e.lets i ≡ Some p → IsSingle e d (t ∷ rest) p rest
    test : {d c n : ℕ} {b : Bool} {t u v : Token} {rest : List Token} → Means e t (Plain c)
        → IsSign signs.Equals u → IsNumber e v n b → IsSingle e d (t ∷ u ∷ v ∷ rest) (filter (field_test c n)) rest
    test_split : {d a b n x : ℕ} {t u v : Token} {rest : List Token} → Means e t (Split a b n)
        → IsSign signs.Equals u → IsNumber e v x true → IsSingle e d (t ∷ u ∷ v ∷ rest) (filter (whole_test a b n x)) rest
    test_net : {d a b n x : ℕ} {t u v w l : Token} {rest : List Token} → Means e t (Split a b n)
        → IsSign signs.Equals u → IsLiteral e.text v x true → IsSign signs.Slash w → l.kind ≡ kinds.Number
        → number_of (bytes_of e.text l) ≡ Some n → IsSingle e d (t ∷ u ∷ v ∷ w ∷ l ∷ rest) (filter (field_test a (net n x))) rest
    gets : {d c : ℕ} {x : Atom} {t u v : Token} {rest : List Token} → Means e t (Plain c)
        → IsSign signs.Arrow u → HasAtoms e v (x ∷ []) → IsSingle e d (t ∷ u ∷ v ∷ rest) (set c x) rest
    gets_address : {d a b n x : ℕ} {t u v : Token} {rest : List Token} → Means e t (Split a b n) → IsSign signs.Arrow u
        → IsNumber e v x true → IsSingle e d (t ∷ u ∷ v ∷ rest) (seq (set a (Num (net n x))) (set b (Num (host n x)))) rest
    gets_split : {d a b f g n : ℕ} {t u v : Token} {rest : List Token} → Means e t (Split a b n) → IsSign signs.Arrow u
        → Means e v (Split f g n) → IsSingle e d (t ∷ u ∷ v ∷ rest) (seq (set a (Comp f)) (set b (Comp g))) rest
    is_one : {d var : ℕ} {index : List Atom} {ts rest : List Token}
        → IsPlace e ts var index rest → IsSingle e d ts (filter (state_test var index (Num 1))) rest
    test_array : {d var : ℕ} {index : List Atom} {x : Atom} {u v : Token} {ts rest : List Token} → IsPlace e ts var index (u ∷ v ∷ rest)
        → IsSign signs.Equals u → HasAtoms e v (x ∷ []) → IsSingle e d ts (filter (state_test var index x)) rest
    puts : {d var : ℕ} {index : List Atom} {x : Atom} {u v : Token} {ts rest : List Token} → IsPlace e ts var index (u ∷ v ∷ rest)
        → IsSign signs.Arrow u → HasAtoms e v (x ∷ []) → IsSingle e d ts (changes var index (Put x)) rest
    up : {d var : ℕ} {index : List Atom} {u : Token} {ts rest : List Token}
        → IsPlace e ts var index (u ∷ rest) → IsSign signs.PlusPlus u → IsSingle e d ts (changes var index (Add 1)) rest
    down : {d var : ℕ} {index : List Atom} {u : Token} {ts rest : List Token} → IsPlace e ts var index (u ∷ rest)
        → IsSign signs.MinusMinus u → IsSingle e d ts (changes var index (Add (2 ^ 64 - 1))) rest
    add : {d var n : ℕ} {b : Bool} {index : List Atom} {u v : Token} {ts rest : List Token} → IsPlace e ts var index (u ∷ v ∷ rest)
        → IsSign signs.PlusEquals u → IsNumber e v n b → IsSingle e d ts (changes var index (Add n)) rest
    sub : {d var n : ℕ} {b : Bool} {index : List Atom} {u v : Token} {ts rest : List Token} → IsPlace e ts var index (u ∷ v ∷ rest)
        → IsSign signs.MinusEquals u → IsNumber e v n b → IsSingle e d ts (changes var index (Add ((2 ^ 64 - n) % 2 ^ 64))) rest

-- what the names of a field stand for, whose components begin at c
abbrev pub senses : ℕ → List ℕ → Option ℕ → List (List ℕ × Sense)
senses c name None = (name, Plain c) ∷ []
senses c name (Some n) = (name, Split c (c + 1) n) ∷ (name ++ codes ".net", Plain c) ∷ (name ++ codes ".host", Plain (c + 1)) ∷ []

-- [ "/" number ] ";", and the length from 1 to 31 where there is one
pub data IsLength (text : List ℕ) : List Token → Option ℕ → List Token → Type 0 where
  plain : {t : Token} {rest : List Token} → IsSign signs.Semicolon t → IsLength text (t ∷ rest) None rest
  split : {n : ℕ} {t l u : Token} {rest : List Token} → IsSign signs.Slash t → l.kind ≡ kinds.Number
      → number_of (bytes_of text l) ≡ Some n → 1 ≤ n → n ≤ 31 → IsSign signs.Semicolon u → IsLength text (t ∷ l ∷ u ∷ rest) (Some n) rest

-- declaration = "field" name [ "/" number ] ";" | "array" name ";" | "const" name "=" literal ";" | "let" name "{" policy "}":
-- what is declared then, and what the new names stand for
pub data Declares (e : Scope) : List Token → Scope → List (List ℕ × Sense) → List Token → Type 0 where
  field : {n : Option ℕ} {t u : Token} {ts rest : List Token} → IsKey keys.Field t → u.kind ≡ kinds.Word
      → IsLength e.text ts n rest
      → Declares e (t ∷ u ∷ ts) (record e { fields = e.fields ++ record { name = bytes_of e.text u; prefix = n } ∷ [] })
      (senses (count e.fields) (bytes_of e.text u) n) rest
  array : {t u v : Token} {rest : List Token} → IsKey keys.Array t → u.kind ≡ kinds.Word → IsSign signs.Semicolon v
      → Declares e (t ∷ u ∷ v ∷ rest) (record e { arrays = e.arrays ++ bytes_of e.text u ∷ [] })
      ((bytes_of e.text u, Array (length e.arrays)) ∷ []) rest
  const : {n : ℕ} {b : Bool} {t u v l w : Token} {rest : List Token} → IsKey keys.Const t → u.kind ≡ kinds.Word → IsSign signs.Equals v
      → IsLiteral e.text l n b → IsSign signs.Semicolon w
      → Declares e (t ∷ u ∷ v ∷ l ∷ w ∷ rest) e ((bytes_of e.text u, Constant n b) ∷ []) rest
  body_of_let : {t u v w : Token} {ts rest : List Token} {p : CorePolicy} → IsKey keys.Let t → u.kind ≡ kinds.Word
      → IsSign signs.OpenCurly v → IsPolicy e 127 ts p (w ∷ rest) → IsSign signs.CloseCurly w
      → Declares e (t ∷ u ∷ v ∷ ts) (record e { lets = e.lets ++ p ∷ [] }) ((bytes_of e.text u, Policy (length e.lets)) ∷ []) rest

-- program = { declaration } policy, each declaration of names that no one before it declares
pub data IsProgram : Scope → List Token → Scope → CorePolicy → Type 0 where
  policy : {e : Scope} {ts : List Token} {p : CorePolicy} → IsPolicy e 128 ts p [] → IsProgram e ts e p
  declaration : {e d f : Scope} {ts rest : List Token} {names : List (List ℕ × Sense)} {p : CorePolicy} → Declares e ts d names rest
      → list_any (λ x. is_known e.names x.0) names ≡ false → IsProgram (record d { names = e.names ++ names }) rest f p → IsProgram e ts f p

-- Two plain fields are declared before the text.
abbrev pub before_text : List ℕ → (ℕ → ℕ) → Scope
before_text text atoms = record {
  text = text;
  atoms = atoms;
  fields = plain_field (codes "inport") ∷ plain_field (codes "outport") ∷ [];
  arrays = [];
  lets = [];
  names = (codes "inport", Plain 0) ∷ (codes "outport", Plain 1) ∷ [];
}

-- **The text has at most 262,144 bytes, and spells tokens that are in the grammar, at most 128 parts deep, and stand for this program,
-- which passes no limit. Each array has one number of atoms, which all its indices have.**
pub record SpellsProgram (text : List ℕ) (p : Program) : Type 0 where
  pub short : length text ≤ 262144
  pub tokens : List Token
  pub spelled : SpellsTokens text tokens
  pub atoms : ℕ → ℕ
  pub few_atoms : (var : ℕ) → atoms var ≤ 8
  pub scope : Scope
  pub read : IsProgram (before_text text atoms) tokens scope (core_policy p.body)
  pub fields : p.fields ≡ scope.fields
  pub arrays : p.arrays ≡ scope.arrays
  pub few_components : count p.fields ≤ 64
  pub few_arrays : length p.arrays ≤ 64
  pub few_nodes : nodes (core_policy p.body) ≤ 2000
  pub light : weight (core_policy p.body) ≤ 16777216
