-- What declarations declare, the reading of a whole tree, and its limits.
use Rattle.std.specs.Prelude.{◌≡◌, ℕ, ◌+◌, Bool, true, false, ◌&&◌, nat_le, nat_lt, if◌then◌else◌, List, [], ◌∷◌, ◌++◌, length, min, max, codes, Option, None, Some, is_some, Result, Ok, Err}
use Rattle.std.specs.List.{list_any}
pub use Rattle.snap_core.specs.declared.program.Field.{Field}
pub use Rattle.snap_core.specs.declared.program.Program.{Program}
pub use Rattle.snap_core.specs.declared.program.Which.{Which}
pub use Rattle.snap_core.specs.declared.program.Which.TheVariants.{Components, Arrays, Atoms, Nodes, Weight}
use Rattle.snap_core.specs.Fields.{count, plain_field}
use Rattle.snap_parse.specs.declared.tree.Span.{Span}
use Rattle.snap_parse.specs.Tree.{DeclTree, field_tree, array_tree, const_tree, let_tree, SourceTree}
use Rattle.snap_names.specs.declared.scope.Sense.{Sense}
use Rattle.snap_names.specs.declared.scope.Sense.TheVariants.{Plain, Split, Array, Constant, Policy}
use Rattle.snap_names.specs.declared.fault.NameFault.{NameFault}
use Rattle.snap_names.specs.declared.fault.NameFault.TheVariants.{Twice, Prefix, Limit}
use Rattle.snap_names.specs.Core.{CorePolicy, core_policy, nodes, weight}
use Rattle.snap_names.specs.Senses.{Arities, after, word, number_at, literal, is_address}
use Rattle.snap_names.specs.Reading.{Env, read_policy}
use Rattle.snap_names.specs.Spells.{is_known}

-- what has been declared, each kind in order
pub record Declared : Type 0 where
  pub fields : List Field
  pub arrays : List (List ℕ)
  pub lets : List CorePolicy
  pub names : List (List ℕ × Sense)
  pub arities : Arities

-- Two plain fields are declared before the text.
abbrev pub ports : Declared
ports = record {
  fields = plain_field (codes "inport") ∷ plain_field (codes "outport") ∷ [];
  arrays = [];
  lets = [];
  names = (codes "inport", Plain 0) ∷ (codes "outport", Plain 1) ∷ [];
  arities = [];
}

abbrev pub env_of : List ℕ → Declared → Env
env_of text d = record { words = record { text = text; names = d.names }; lets = d.lets }

-- the names that a field declares: a split one also those of its components
abbrev pub field_names : List ℕ → Bool → List (List ℕ)
field_names name false = name ∷ []
field_names name true = name ∷ (name ++ codes ".net") ∷ (name ++ codes ".host") ∷ []

-- one of them is known
abbrev pub is_field_known : List (List ℕ × Sense) → List ℕ → Bool → Bool
is_field_known names name is_split = list_any (is_known names) (field_names name is_split)

-- Programs number components in 16 bits; one with more is refused.
abbrev pub short : ℕ → ℕ
short n = min n 65535

-- what the names of a field stand for, where its components begin at c
abbrev pub field_senses : ℕ → List ℕ → Option ℕ → List (List ℕ × Sense)
field_senses c name None = (name, Plain (short c)) ∷ []
field_senses c name (Some n) = (name, Split (short c) (short (c + 1)) n)
    ∷ (name ++ codes ".net", Plain (short c)) ∷ (name ++ codes ".host", Plain (short (c + 1))) ∷ []

-- the names of a new field, whose components begin at c, stand behind those before
abbrev pub AddsField : List (List ℕ × Sense) → List (List ℕ × Sense) → ℕ → List ℕ → Option ℕ → Type 0
AddsField old new c name prefix = is_field_known old name (is_some prefix) ≡ false → new ≡ old ++ field_senses c name prefix

-- the length of a split field's prefix, from 1 to 31
abbrev pub prefix_length : List ℕ → Option Span → Result (Option ℕ) NameFault
prefix_length text None = Ok None
prefix_length text (Some t) = after (number_at text t) (λ n. if nat_le 1 n && nat_le n 31 then Ok (Some n) else Err (Prefix t.from))

abbrev pub with_field : Declared → List ℕ → Option ℕ → Declared
with_field d name prefix = record d
    { fields = d.fields ++ record { name = name; prefix = prefix } ∷ []; names = d.names ++ field_senses (count d.fields) name prefix }

abbrev pub with_array : Declared → List ℕ → Declared
with_array d name = record d
    { arrays = d.arrays ++ name ∷ []; names = d.names ++ (name, Array (length d.arrays)) ∷ []; arities = d.arities ++ None ∷ [] }

abbrev pub with_constant : Declared → List ℕ → ℕ → Bool → Declared
with_constant d name n b = record d { names = d.names ++ (name, Constant n b) ∷ [] }

abbrev pub with_let : Declared → List ℕ → CorePolicy × Arities → Declared
with_let d name x = record d { lets = d.lets ++ x.0 ∷ []; names = d.names ++ (name, Policy (length d.lets)) ∷ []; arities = x.1 }

-- what is declared behind a declaration
abbrev pub declare : List ℕ → Declared → DeclTree → Result Declared NameFault
declare text d (field_tree at t p) =
    if is_field_known d.names (word text t) (is_some p) then Err (Twice t.from)
    else after (prefix_length text p) (λ n. Ok (with_field d (word text t) n))
declare text d (array_tree at t) = if is_known d.names (word text t) then Err (Twice t.from) else Ok (with_array d (word text t))
declare text d (const_tree at t l) =
    if is_known d.names (word text t) then Err (Twice t.from)
    else after (literal text l) (λ n. Ok (with_constant d (word text t) n (is_address l)))
declare text d (let_tree at t p) =
    if is_known d.names (word text t) then Err (Twice t.from)
    else after (read_policy (env_of text d) p d.arities) (λ x. Ok (with_let d (word text t) x))

abbrev pub declare_all : List ℕ → List DeclTree → Declared → Result Declared NameFault
declare_all text [] d = Ok d
declare_all text (t ∷ ts) d = after (declare text d t) (declare_all text ts)

-- a program in the core language, and how many atoms each array is indexed with
pub record CoreProgram : Type 0 where
  pub fields : List Field
  pub arrays : List (List ℕ)
  pub body : CorePolicy

abbrev pub core_program : Program → CoreProgram
core_program p = record { fields = p.fields; arrays = p.arrays; body = core_policy p.body }

-- Counts in faults are given up to this number.
abbrev pub capped : ℕ → ℕ
capped n = min n 4294967295

-- the greatest number of atoms of one index: each index of an array has as many
abbrev pub greatest : Arities → ℕ
greatest [] = 0
greatest (None ∷ ns) = greatest ns
greatest (Some n ∷ ns) = max n (greatest ns)

-- r, unless a count passes its limit
abbrev pub within : {A : Type 0} → Which → ℕ → ℕ → Result A NameFault → Result A NameFault
within which n most r = if nat_lt most n then Err (Limit which (capped n)) else r

-- the program, unless a count passes its limit
abbrev pub limited : Declared → CorePolicy × Arities → Result CoreProgram NameFault
limited d x =
    within Components (count d.fields) 64
    (within Arrays (length d.arrays) 64
    (within Atoms (greatest x.1) 8
    (within Nodes (nodes x.0) 2000
    (within Weight (weight x.0) 16777216
    (Ok (record { fields = d.fields; arrays = d.arrays; body = x.0 }))))))

-- The core program of a tree; or its first broken naming rule; or, where none is broken, the first limit that is passed.
abbrev pub resolved : List ℕ → SourceTree → Result CoreProgram NameFault
resolved text s = after (declare_all text s.decls ports) (λ d. after (read_policy (env_of text d) s.policy d.arities) (limited d))
