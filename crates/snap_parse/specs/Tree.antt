-- The tree of a program, without where it lies in memory.
use Rattle.std.specs.Prelude.{ℕ, List, [], ◌∷◌, Option, map}
use Rattle.snap_lex.specs.declared.Token.{Token}
pub use Rattle.snap_parse.specs.declared.tree.Span.{Span}
pub use Rattle.snap_parse.specs.declared.tree.Literal.{Literal}
pub use Rattle.snap_parse.specs.declared.tree.Value.{Value}
pub use Rattle.snap_parse.specs.declared.tree.Decl.{Decl}
use Rattle.snap_parse.specs.declared.tree.Decl.TheVariants as decls
pub use Rattle.snap_parse.specs.declared.tree.Source.{Source}
pub use Rattle.snap_parse.specs.declared.tree.Policy.{Policy, Policy-F, fold-Policy}
pub use Rattle.snap_parse.specs.declared.tree.Sequence.{Sequence, Sequence-F, fold-Sequence}
pub use Rattle.snap_parse.specs.declared.tree.Choice.{Choice, Choice-F, fold-Choice}
use Rattle.snap_parse.specs.declared.tree.Choice.TheOpen.{If, Plain, Not, Id, Drop, Group, Atomic, Name, Test, Set, Bare, ArrayTest, ArraySet, Up, Down, ArrayAdd, ArraySub}
pub use Rattle.snap_parse.specs.declared.tree.Either.{Either, Either-F, fold-Either}
pub use Rattle.snap_parse.specs.declared.tree.Both.{Both, Both-F, fold-Both}
pub use Rattle.snap_parse.specs.declared.tree.Single.{Single, Single-F, fold-Single}

-- A repeated part is the place of its first token, and the list of its operands, which grows at its end.
mutual
  pub data PolicyTree : Type 0 where
    policy_begin : (at : ℕ) → PolicyTree
    policy_more : PolicyTree → SequenceTree → PolicyTree

  pub data SequenceTree : Type 0 where
    sequence_begin : (at : ℕ) → SequenceTree
    sequence_more : SequenceTree → ChoiceTree → SequenceTree

  pub data ChoiceTree : Type 0 where
    if_tree : (at : ℕ) (test : EitherTree) (met : PolicyTree) (unmet : ChoiceTree) → ChoiceTree
    plain_tree : EitherTree → ChoiceTree

  pub data EitherTree : Type 0 where
    either_begin : (at : ℕ) → EitherTree
    either_more : EitherTree → BothTree → EitherTree

  pub data BothTree : Type 0 where
    both_begin : (at : ℕ) → BothTree
    both_more : BothTree → SingleTree → BothTree

  pub data SingleTree : Type 0 where
    not_tree : (at : ℕ) → SingleTree → SingleTree
    id_tree : (at : ℕ) → SingleTree
    drop_tree : (at : ℕ) → SingleTree
    group_tree : (at : ℕ) → PolicyTree → SingleTree
    atomic_tree : (at : ℕ) → PolicyTree → SingleTree
    name_tree : (name : Span) → SingleTree
    test_tree : (name : Span) (value : Value) → SingleTree
    set_tree : (name : Span) (value : Value) → SingleTree
    bare_tree : (name : Span) (places : List Value) → SingleTree
    array_test_tree : (name : Span) (places : List Value) (value : Value) → SingleTree
    array_set_tree : (name : Span) (places : List Value) (value : Value) → SingleTree
    up_tree : (name : Span) (places : List Value) → SingleTree
    down_tree : (name : Span) (places : List Value) → SingleTree
    array_add_tree : (name : Span) (places : List Value) (value : Value) → SingleTree
    array_sub_tree : (name : Span) (places : List Value) (value : Value) → SingleTree

pub data DeclTree : Type 0 where
  field_tree : (at : ℕ) (name : Span) (prefix : Option Span) → DeclTree
  array_tree : (at : ℕ) (name : Span) → DeclTree
  const_tree : (at : ℕ) (name : Span) (value : Literal) → DeclTree
  let_tree : (at : ℕ) (name : Span) (body : PolicyTree) → DeclTree

pub record SourceTree : Type 0 where
  pub decls : List DeclTree
  pub policy : PolicyTree

-- where a tree's first token begins
abbrev pub single_at : SingleTree → ℕ
single_at (not_tree at s) = at
single_at (id_tree at) = at
single_at (drop_tree at) = at
single_at (group_tree at p) = at
single_at (atomic_tree at p) = at
single_at (name_tree name) = name.from
single_at (test_tree name value) = name.from
single_at (set_tree name value) = name.from
single_at (bare_tree name places) = name.from
single_at (array_test_tree name places value) = name.from
single_at (array_set_tree name places value) = name.from
single_at (up_tree name places) = name.from
single_at (down_tree name places) = name.from
single_at (array_add_tree name places value) = name.from
single_at (array_sub_tree name places value) = name.from

abbrev pub both_at : BothTree → ℕ
both_at (both_begin at) = at
both_at (both_more b s) = both_at b

abbrev pub either_at : EitherTree → ℕ
either_at (either_begin at) = at
either_at (either_more e b) = either_at e

abbrev pub span_of : Token → Span
span_of t = record { from = t.from; to = t.to }

-- with these operands at its end
abbrev pub policy_append : PolicyTree → List SequenceTree → PolicyTree
policy_append p [] = p
policy_append p (s ∷ ss) = policy_append (policy_more p s) ss

abbrev pub sequence_append : SequenceTree → List ChoiceTree → SequenceTree
sequence_append q [] = q
sequence_append q (c ∷ cs) = sequence_append (sequence_more q c) cs

abbrev pub either_append : EitherTree → List BothTree → EitherTree
either_append e [] = e
either_append e (b ∷ bs) = either_append (either_more e b) bs

abbrev pub both_append : BothTree → List SingleTree → BothTree
both_append b [] = b
both_append b (s ∷ ss) = both_append (both_more b s) ss

-- The tree of a node, from the trees of its children.
abbrev pub choice_node : Choice-F ChoiceTree SingleTree BothTree EitherTree PolicyTree SequenceTree → ChoiceTree
choice_node (If at test met unmet) = if_tree at test met.value unmet.value
choice_node (Plain e) = plain_tree e

abbrev pub single_node : Single-F ChoiceTree SingleTree BothTree EitherTree PolicyTree SequenceTree → SingleTree
single_node (Not at part) = not_tree at part.value
single_node (Id at) = id_tree at
single_node (Drop at) = drop_tree at
single_node (Group at body) = group_tree at body.value
single_node (Atomic at body) = atomic_tree at body.value
single_node (Name name) = name_tree name
single_node (Test name value) = test_tree name value
single_node (Set name value) = set_tree name value
single_node (Bare name places) = bare_tree name places.items
single_node (ArrayTest name places value) = array_test_tree name places.items value
single_node (ArraySet name places value) = array_set_tree name places.items value
single_node (Up name places) = up_tree name places.items
single_node (Down name places) = down_tree name places.items
single_node (ArrayAdd name places value) = array_add_tree name places.items value
single_node (ArraySub name places value) = array_sub_tree name places.items value

abbrev pub policy_node : Policy-F ChoiceTree SingleTree BothTree EitherTree PolicyTree SequenceTree → PolicyTree
policy_node p = policy_append (policy_begin p.at) p.parts.items

abbrev pub sequence_node : Sequence-F ChoiceTree SingleTree BothTree EitherTree PolicyTree SequenceTree → SequenceTree
sequence_node s = sequence_append (sequence_begin s.at) s.parts.items

abbrev pub either_node : Either-F ChoiceTree SingleTree BothTree EitherTree PolicyTree SequenceTree → EitherTree
either_node e = either_append (either_begin e.at) e.parts.items

abbrev pub both_node : Both-F ChoiceTree SingleTree BothTree EitherTree PolicyTree SequenceTree → BothTree
both_node b = both_append (both_begin b.at) b.parts.items

unfoldable pub policy_tree : Policy → PolicyTree
policy_tree = fold-Policy ChoiceTree SingleTree BothTree EitherTree PolicyTree SequenceTree choice_node single_node both_node either_node policy_node sequence_node

unfoldable pub sequence_tree : Sequence → SequenceTree
sequence_tree = fold-Sequence ChoiceTree SingleTree BothTree EitherTree PolicyTree SequenceTree choice_node single_node both_node either_node policy_node sequence_node

unfoldable pub choice_tree : Choice → ChoiceTree
choice_tree = fold-Choice ChoiceTree SingleTree BothTree EitherTree PolicyTree SequenceTree choice_node single_node both_node either_node policy_node sequence_node

unfoldable pub either_tree : Either → EitherTree
either_tree = fold-Either ChoiceTree SingleTree BothTree EitherTree PolicyTree SequenceTree choice_node single_node both_node either_node policy_node sequence_node

unfoldable pub both_tree : Both → BothTree
both_tree = fold-Both ChoiceTree SingleTree BothTree EitherTree PolicyTree SequenceTree choice_node single_node both_node either_node policy_node sequence_node

unfoldable pub single_tree : Single → SingleTree
single_tree = fold-Single ChoiceTree SingleTree BothTree EitherTree PolicyTree SequenceTree choice_node single_node both_node either_node policy_node sequence_node

abbrev pub decl_tree : Decl → DeclTree
decl_tree (decls.Field at name prefix) = field_tree at name prefix
decl_tree (decls.Array at name) = array_tree at name
decl_tree (decls.Const at name value) = const_tree at name value
decl_tree (decls.Let at name body) = let_tree at name (policy_tree body)

abbrev pub source_tree : Source → SourceTree
source_tree s = record { decls = map decl_tree s.decls.items; policy = policy_tree s.policy }
