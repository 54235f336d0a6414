-- The parser as a machine that takes one token at a time. What was read and what is still wanted is a
-- stack: what is to be read after a part of each kind.
use Rattle.std.specs.Prelude.{ℕ, zero, suc, List, [], ◌∷◌, ◌++◌, Option, Some, None, Result, Ok, Err, cond, nat_le}
use Rattle.snap_lex.specs.declared.Token.{Token}
use Rattle.snap_lex.specs.declared.Kind.{Kind}
use Rattle.snap_lex.specs.declared.Kind.TheVariants as kinds
use Rattle.snap_lex.specs.declared.Key.TheVariants as keys
use Rattle.snap_lex.specs.declared.Sign.TheVariants as signs
use Rattle.snap_parse.specs.declared.tree.Span.{Span}
use Rattle.snap_parse.specs.declared.tree.Literal.{Literal}
use Rattle.snap_parse.specs.declared.tree.Literal.TheVariants as literals
use Rattle.snap_parse.specs.declared.tree.Value.{Value}
use Rattle.snap_parse.specs.declared.tree.Value.TheVariants as values
pub use Rattle.snap_parse.specs.declared.fault.ParseFault.{ParseFault}
pub use Rattle.snap_parse.specs.declared.fault.ParseFault.TheVariants.{Unexpected, TooDeep}
use Rattle.snap_parse.specs.Kinds.{same_kind}
use Rattle.snap_parse.specs.Tree.{PolicyTree, policy_begin, policy_more, SequenceTree, sequence_begin, sequence_more, ChoiceTree, if_tree, plain_tree, EitherTree, either_begin, either_more, BothTree, both_begin, both_more, SingleTree, not_tree, id_tree, drop_tree, group_tree, atomic_tree, name_tree, test_tree, set_tree, bare_tree, array_test_tree, array_set_tree, up_tree, down_tree, array_add_tree, array_sub_tree, DeclTree, field_tree, array_tree, const_tree, let_tree, SourceTree, span_of}

mutual
  pub data AfterPolicy : Type 0 where
    the_end : (before : List DeclTree) → AfterPolicy
    close_let : (before : List DeclTree) (at : ℕ) (name : Span) → AfterPolicy
    close_round : (make : PolicyTree → SingleTree) → AfterSingle → AfterPolicy
    else_part : (at : ℕ) (test : EitherTree) → AfterChoice → AfterPolicy

  pub data AfterSequence : Type 0 where
    part_of_policy : (before : PolicyTree) → AfterPolicy → AfterSequence

  pub data AfterChoice : Type 0 where
    part_of_sequence : (before : SequenceTree) → AfterSequence → AfterChoice
    end_of_if : (at : ℕ) (test : EitherTree) (met : PolicyTree) → AfterChoice → AfterChoice

  pub data AfterEither : Type 0 where
    then_part : (at : ℕ) → AfterChoice → AfterEither
    end_of_plain : AfterChoice → AfterEither

  pub data AfterBoth : Type 0 where
    part_of_either : (before : EitherTree) → AfterEither → AfterBoth

  pub data AfterSingle : Type 0 where
    part_of_both : (before : BothTree) → AfterBoth → AfterSingle
    end_of_not : (at : ℕ) → AfterSingle → AfterSingle

pub data AfterValue : Type 0 where
  end_of_value : (make : Value → SingleTree) → AfterSingle → AfterValue
  close_place : (name : Span) (before : List Value) → AfterSingle → AfterValue

-- how many constructs are open
abbrev mutual
  pub policy_depth : AfterPolicy → ℕ
  policy_depth (the_end ds) = 0
  policy_depth (close_let ds at name) = 1
  policy_depth (close_round make k) = suc (single_depth k)
  policy_depth (else_part at e k) = suc (choice_depth k)

  pub sequence_depth : AfterSequence → ℕ
  sequence_depth (part_of_policy p k) = policy_depth k

  pub choice_depth : AfterChoice → ℕ
  choice_depth (part_of_sequence q k) = sequence_depth k
  choice_depth (end_of_if at e p k) = suc (choice_depth k)

  pub either_depth : AfterEither → ℕ
  either_depth (then_part at k) = suc (choice_depth k)
  either_depth (end_of_plain k) = choice_depth k

  pub both_depth : AfterBoth → ℕ
  both_depth (part_of_either e k) = either_depth k

  pub single_depth : AfterSingle → ℕ
  single_depth (part_of_both b k) = both_depth k
  single_depth (end_of_not at k) = suc (single_depth k)

abbrev pub value_depth : AfterValue → ℕ
value_depth (end_of_value make k) = single_depth k
value_depth (close_place name vs k) = single_depth k

-- before a part (`at`), and behind one (`past`)
pub data State : Type 0 where
  -- a token of this kind
  wants : Kind → (Token → State) → State
  -- the bracket before a policy
  at_open : Kind → AfterPolicy → State
  at_decl : (before : List DeclTree) → State
  past_field : (before : List DeclTree) (at : ℕ) (name : Span) → State
  at_constant : (before : List DeclTree) (at : ℕ) (name : Span) → State
  at_policy : AfterPolicy → State
  at_sequence : AfterSequence → State
  at_choice : AfterChoice → State
  at_either : AfterEither → State
  at_both : AfterBoth → State
  at_single : AfterSingle → State
  at_value : AfterValue → State
  past_address : (address : Span) → AfterValue → State
  past_value : Value → AfterValue → State
  past_name : (name : Span) → AfterSingle → State
  past_places : (name : Span) (places : List Value) → AfterSingle → State
  past_single : SingleTree → AfterSingle → State
  past_both : BothTree → AfterBoth → State
  past_either : EitherTree → AfterEither → State
  past_choice : ChoiceTree → AfterChoice → State
  past_sequence : SequenceTree → AfterSequence → State
  past_policy : PolicyTree → AfterPolicy → State

-- some token of the kind
abbrev pub token_of : Kind → Token
token_of kind = record { kind = kind; from = 0; to = 0 }

abbrev pub one_less : ℕ → ℕ
one_less zero = 0
one_less (suc n) = n

abbrev pub state_depth : State → ℕ
state_depth (wants kind next) = state_depth (next (token_of kind))
state_depth (at_open kind k) = one_less (policy_depth k)
state_depth (at_decl ds) = 0
state_depth (past_field ds at name) = 0
state_depth (at_constant ds at name) = 0
state_depth (at_policy k) = policy_depth k
state_depth (at_sequence k) = sequence_depth k
state_depth (at_choice k) = choice_depth k
state_depth (at_either k) = either_depth k
state_depth (at_both k) = both_depth k
state_depth (at_single k) = single_depth k
state_depth (at_value k) = value_depth k
state_depth (past_address a k) = value_depth k
state_depth (past_value v k) = value_depth k
state_depth (past_name name k) = single_depth k
state_depth (past_places name vs k) = single_depth k
state_depth (past_single s k) = single_depth k
state_depth (past_both b k) = both_depth k
state_depth (past_either e k) = either_depth k
state_depth (past_choice c k) = choice_depth k
state_depth (past_sequence s k) = sequence_depth k
state_depth (past_policy p k) = policy_depth k

-- what the next token, or the end, leads to
pub data Move : Type 0 where
  go : State → Move
  done : SourceTree → Move
  stuck : Move

abbrev pub front : List Token → Option Token
front [] = None
front (t ∷ ts) = Some t

-- where the next token is of this kind, and elsewhere
abbrev pub on_next : Kind → Option Token → State → Move → Move
on_next kind None met other = other
on_next kind (Some t) met other = cond (same_kind t.kind kind) (go met) other

abbrev mutual
  pub after_policy : AfterPolicy → PolicyTree → Option Token → Move
  after_policy (the_end ds) p None = done (record { decls = ds; policy = p })
  after_policy (the_end ds) p (Some t) = stuck
  after_policy (close_let ds at name) p o = on_next (kinds.Sign signs.CloseCurly) o (at_decl (ds ++ let_tree at name p ∷ [])) stuck
  after_policy (close_round make k) p o = on_next (kinds.Sign signs.CloseRound) o (past_single (make p) k) stuck
  after_policy (else_part at e k) p o = on_next (kinds.Key keys.Else) o (at_choice (end_of_if at e p k)) stuck

  pub after_sequence : AfterSequence → SequenceTree → Option Token → Move
  after_sequence (part_of_policy p k) s o =
      on_next (kinds.Sign signs.Plus) o (at_sequence (part_of_policy (policy_more p s) k)) (after_policy k (policy_more p s) o)

  pub after_choice : AfterChoice → ChoiceTree → Option Token → Move
  after_choice (part_of_sequence q k) c o =
      on_next (kinds.Sign signs.Semicolon) o (at_choice (part_of_sequence (sequence_more q c) k)) (after_sequence k (sequence_more q c) o)
  after_choice (end_of_if at e p k) c o = after_choice k (if_tree at e p c) o

  pub after_either : AfterEither → EitherTree → Option Token → Move
  after_either (then_part at k) e o = on_next (kinds.Key keys.Then) o (at_policy (else_part at e k)) stuck
  after_either (end_of_plain k) e o = after_choice k (plain_tree e) o

  pub after_both : AfterBoth → BothTree → Option Token → Move
  after_both (part_of_either e k) b o =
      on_next (kinds.Sign signs.Or) o (at_both (part_of_either (either_more e b) k)) (after_either k (either_more e b) o)

  pub after_single : AfterSingle → SingleTree → Option Token → Move
  after_single (part_of_both b k) s o =
      on_next (kinds.Sign signs.And) o (at_single (part_of_both (both_more b s) k)) (after_both k (both_more b s) o)
  after_single (end_of_not at k) s o = after_single k (not_tree at s) o

abbrev pub after_value : AfterValue → Value → Option Token → Move
after_value (end_of_value make k) v o = after_single k (make v) o
after_value (close_place name vs k) v o = on_next (kinds.Sign signs.CloseSquare) o (past_places name (vs ++ v ∷ []) k) stuck

abbrev pub after_address : Span → AfterValue → Option Token → Move
after_address a k o =
    on_next (kinds.Sign signs.Slash) o (wants kinds.Number (λ n. past_value (values.Prefix a (span_of n)) k))
    (after_value k (values.Literal (literals.Address a)) o)

-- what may follow a name and its places
abbrev pub placed : Span → List Value → AfterSingle → Option Token → Move
placed name vs k o =
    on_next (kinds.Sign signs.Equals) o (at_value (end_of_value (array_test_tree name vs) k))
    (on_next (kinds.Sign signs.Arrow) o (at_value (end_of_value (array_set_tree name vs) k))
    (on_next (kinds.Sign signs.PlusPlus) o (past_single (up_tree name vs) k)
    (on_next (kinds.Sign signs.MinusMinus) o (past_single (down_tree name vs) k)
    (on_next (kinds.Sign signs.PlusEquals) o (at_value (end_of_value (array_add_tree name vs) k))
    (on_next (kinds.Sign signs.MinusEquals) o (at_value (end_of_value (array_sub_tree name vs) k))
    (after_single k (bare_tree name vs) o))))))

abbrev pub after_places : Span → List Value → AfterSingle → Option Token → Move
after_places name vs k o = on_next (kinds.Sign signs.OpenSquare) o (at_value (close_place name vs k)) (placed name vs k o)

abbrev pub after_name : Span → AfterSingle → Option Token → Move
after_name name k o =
    on_next (kinds.Sign signs.Equals) o (at_value (end_of_value (test_tree name) k))
    (on_next (kinds.Sign signs.Arrow) o (at_value (end_of_value (set_tree name) k))
    (on_next (kinds.Sign signs.OpenSquare) o (at_value (close_place name [] k))
    (after_single k (name_tree name) o)))

abbrev pub literal_of : Kind → Span → Option Literal
literal_of kinds.Number s = Some (literals.Number s)
literal_of kinds.Address s = Some (literals.Address s)
literal_of (kinds.Key keys.True) s = Some (literals.True s)
literal_of (kinds.Key keys.False) s = Some (literals.False s)
literal_of _ s = None

-- what begins with a token of this kind
abbrev pub begin_value : AfterValue → Token → Kind → Move
begin_value k t kinds.Word = go (past_value (values.Name (span_of t)) k)
begin_value k t kinds.Address = go (past_address (span_of t) k)
begin_value k t kinds.Number = go (past_value (values.Literal (literals.Number (span_of t))) k)
begin_value k t (kinds.Key keys.True) = go (past_value (values.Literal (literals.True (span_of t))) k)
begin_value k t (kinds.Key keys.False) = go (past_value (values.Literal (literals.False (span_of t))) k)
begin_value k t _ = stuck

abbrev pub begin_single : AfterSingle → Token → Kind → Move
begin_single k t (kinds.Sign signs.Not) = go (at_single (end_of_not t.from k))
begin_single k t (kinds.Key keys.Id) = go (past_single (id_tree t.from) k)
begin_single k t (kinds.Key keys.Drop) = go (past_single (drop_tree t.from) k)
begin_single k t (kinds.Sign signs.OpenRound) = go (at_policy (close_round (group_tree t.from) k))
begin_single k t (kinds.Key keys.Atomic) = go (at_open (kinds.Sign signs.OpenRound) (close_round (atomic_tree t.from) k))
begin_single k t kinds.Word = go (past_name (span_of t) k)
begin_single k t _ = stuck

abbrev pub begin_both : AfterBoth → Token → Kind → Move
begin_both k t kind = begin_single (part_of_both (both_begin t.from) k) t kind

abbrev pub begin_either : AfterEither → Token → Kind → Move
begin_either k t kind = begin_both (part_of_either (either_begin t.from) k) t kind

abbrev pub begin_choice : AfterChoice → Token → Kind → Move
begin_choice k t (kinds.Key keys.If) = go (at_either (then_part t.from k))
begin_choice k t kind = begin_either (end_of_plain k) t kind

abbrev pub begin_sequence : AfterSequence → Token → Kind → Move
begin_sequence k t kind = begin_choice (part_of_sequence (sequence_begin t.from) k) t kind

abbrev pub begin_policy : AfterPolicy → Token → Kind → Move
begin_policy k t kind = begin_sequence (part_of_policy (policy_begin t.from) k) t kind

-- what stands behind the keyword of a declaration
abbrev pub in_field : List DeclTree → ℕ → State
in_field ds at = wants kinds.Word (λ n. past_field ds at (span_of n))

abbrev pub in_array : List DeclTree → ℕ → State
in_array ds at = wants kinds.Word (λ n. wants (kinds.Sign signs.Semicolon) (λ e. at_decl (ds ++ array_tree at (span_of n) ∷ [])))

abbrev pub in_constant : List DeclTree → ℕ → State
in_constant ds at = wants kinds.Word (λ n. wants (kinds.Sign signs.Equals) (λ e. at_constant ds at (span_of n)))

abbrev pub in_let : List DeclTree → ℕ → State
in_let ds at = wants kinds.Word (λ n. at_open (kinds.Sign signs.OpenCurly) (close_let ds at (span_of n)))

abbrev pub begin_decl : List DeclTree → Token → Kind → Move
begin_decl ds t (kinds.Key keys.Field) = go (in_field ds t.from)
begin_decl ds t (kinds.Key keys.Array) = go (in_array ds t.from)
begin_decl ds t (kinds.Key keys.Const) = go (in_constant ds t.from)
begin_decl ds t (kinds.Key keys.Let) = go (in_let ds t.from)
begin_decl ds t kind = begin_policy (the_end ds) t kind

abbrev pub after_field : List DeclTree → ℕ → Span → Option Token → Move
after_field ds at name o =
    on_next (kinds.Sign signs.Slash) o
    (wants kinds.Number (λ n. wants (kinds.Sign signs.Semicolon) (λ e. at_decl (ds ++ field_tree at name (Some (span_of n)) ∷ []))))
    (on_next (kinds.Sign signs.Semicolon) o (at_decl (ds ++ field_tree at name None ∷ [])) stuck)

abbrev pub on_literal : Option Literal → (Literal → State) → Move
on_literal None next = stuck
on_literal (Some l) next = go (next l)

abbrev pub in_constant_value : List DeclTree → ℕ → Span → Literal → State
in_constant_value ds at name l = wants (kinds.Sign signs.Semicolon) (λ e. at_decl (ds ++ const_tree at name l ∷ []))

abbrev pub with_next : Option Token → (Token → Move) → Move
with_next None f = stuck
with_next (Some t) f = f t

abbrev pub step : State → Option Token → Move
step (wants kind next) o = with_next o (λ t. cond (same_kind t.kind kind) (go (next t)) stuck)
step (at_open kind k) o = on_next kind o (at_policy k) stuck
step (at_decl ds) o = with_next o (λ t. begin_decl ds t t.kind)
step (past_field ds at name) o = after_field ds at name o
step (at_constant ds at name) o = with_next o (λ t. on_literal (literal_of t.kind (span_of t)) (in_constant_value ds at name))
step (at_policy k) o = with_next o (λ t. begin_policy k t t.kind)
step (at_sequence k) o = with_next o (λ t. begin_sequence k t t.kind)
step (at_choice k) o = with_next o (λ t. begin_choice k t t.kind)
step (at_either k) o = with_next o (λ t. begin_either k t t.kind)
step (at_both k) o = with_next o (λ t. begin_both k t t.kind)
step (at_single k) o = with_next o (λ t. begin_single k t t.kind)
step (at_value k) o = with_next o (λ t. begin_value k t t.kind)
step (past_address a k) o = after_address a k o
step (past_value v k) o = after_value k v o
step (past_name name k) o = after_name name k o
step (past_places name vs k) o = after_places name vs k o
step (past_single s k) o = after_single k s o
step (past_both b k) o = after_both k b o
step (past_either e k) o = after_either k e o
step (past_choice c k) o = after_choice k c o
step (past_sequence s k) o = after_sequence k s o
step (past_policy p k) o = after_policy k p o

-- what a move on these tokens comes to, the text ending at `end`
unfoldable pub follow : ℕ → ℕ → Move → List Token → Result SourceTree ParseFault
follow limit end (go st) [] = Err (Unexpected end)
follow limit end (done p) [] = Ok p
follow limit end stuck [] = Err (Unexpected end)
follow limit end (go st) (t ∷ ts) = cond (nat_le (state_depth st) limit) (follow limit end (step st (front ts)) ts) (Err (TooDeep t.from))
follow limit end (done p) (t ∷ ts) = Err (Unexpected t.from)
follow limit end stuck (t ∷ ts) = Err (Unexpected t.from)

abbrev pub run : ℕ → ℕ → State → List Token → Result SourceTree ParseFault
run limit end st ts = follow limit end (step st (front ts)) ts

-- where the next token begins, or the text ends
abbrev pub place : ℕ → List Token → ℕ
place end [] = end
place end (t ∷ ts) = t.from
