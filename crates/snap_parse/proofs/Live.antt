-- Each state can be completed: there are tokens that do, where one that opens a construct is allowed.
use Rattle.std.proofs.Common.{le_of_lt, length, ℕ, zero, suc, ◌<◌, ◌≤◌, List, [], ◌∷◌, ◌++◌, None, refl, arith}
use Rattle.snap_parse.specs.Kinds.{Token, Kind, Key, Sign}
use Rattle.snap_parse.specs.Tree.{Span, Literal, Value, PolicyTree, policy_begin, policy_more, SequenceTree, sequence_begin, sequence_more, ChoiceTree, if_tree, plain_tree, EitherTree, either_begin, either_more, BothTree, both_begin, both_more, SingleTree, not_tree, id_tree, name_tree, bare_tree, DeclTree, field_tree, const_tree, let_tree, SourceTree}
use Rattle.snap_parse.specs.Grammar.{number_literal, name_value, places_end, IsPolicy, policy, policy_end, IsSequence, sequence, sequence_end, IsChoice, plain_choice, IsEither, either, either_end, IsBoth, both, both_end, id_single, IsProgramRest, last_policy}
use Rattle.snap_parse.specs.Machine.{AfterPolicy, the_end, close_let, close_round, else_part, AfterSequence, part_of_policy, AfterChoice, part_of_sequence, end_of_if, AfterEither, then_part, end_of_plain, AfterBoth, part_of_either, AfterSingle, part_of_both, end_of_not, AfterValue, end_of_value, close_place, policy_depth, sequence_depth, choice_depth, either_depth, both_depth, State, wants, at_open, at_decl, past_field, at_constant, at_policy, at_sequence, at_choice, at_either, at_both, at_single, at_value, past_address, past_value, past_name, past_places, past_single, past_both, past_either, past_choice, past_sequence, past_policy, token_of, one_less, state_depth}
use Rattle.snap_parse.proofs.Completion.{placed_alone, named_alone, PolicyGoesOn, on_end, on_let, on_round, on_else, SequenceGoesOn, on_policy, ChoiceGoesOn, on_sequence, on_end_of_if, EitherGoesOn, on_then, on_plain, BothGoesOn, on_either, SingleGoesOn, on_both, on_end_of_not, ValueGoesOn, on_value, on_place, Completes, from_wants, from_open, from_decl, from_plain_field, from_constant, from_policy, from_sequence, from_choice, from_either, from_both, from_single, from_value, from_address, from_name, from_places, past_a_value, past_a_single, past_a_both, past_an_either, past_a_choice, past_a_sequence, past_a_policy}

abbrev an_id : Token
an_id = token_of (Kind.Key Key.Id)

abbrev an_else : Token
an_else = token_of (Kind.Key Key.Else)

abbrev a_semicolon : Token
a_semicolon = token_of (Kind.Sign Sign.Semicolon)

abbrev id_either : EitherTree
id_either = either_more (either_begin 0) (both_more (both_begin 0) (id_tree 0))

abbrev id_sequence : SequenceTree
id_sequence = sequence_more (sequence_begin 0) (plain_tree id_either)

abbrev id_policy : PolicyTree
id_policy = policy_more (policy_begin 0) id_sequence

abbrev no_span : Span
no_span = record { from = 0; to = 0 }

module _ (limit free : ℕ) where
  is_id_both : (d : ℕ) (ts : List Token) → IsBoth limit free d (an_id ∷ ts) (both_more (both_begin 0) (id_tree 0)) ts
  is_id_both d ts = both (id_single an_id refl) both_end

  is_id_either : (d : ℕ) (ts : List Token) → IsEither limit free d (an_id ∷ ts) id_either ts
  is_id_either d ts = either (is_id_both d ts) either_end

  is_id_choice : (d : ℕ) (ts : List Token) → IsChoice limit free d (an_id ∷ ts) (plain_tree id_either) ts
  is_id_choice d ts = plain_choice (is_id_either d ts)

  is_id_sequence : (d : ℕ) (ts : List Token) → IsSequence limit free d (an_id ∷ ts) id_sequence ts
  is_id_sequence d ts = sequence (is_id_choice d ts) sequence_end

  is_id_policy : (d : ℕ) (ts : List Token) → IsPolicy limit free d (an_id ∷ ts) id_policy ts
  is_id_policy d ts = policy (is_id_sequence d ts) policy_end

  is_id_program : (ds : List DeclTree) → IsProgramRest limit free ds (an_id ∷ []) (record { decls = ds; policy = id_policy })
  is_id_program ds = last_policy (is_id_policy 0 [])

mutual
  end_of_policy : (k : AfterPolicy) (p : PolicyTree) → (ts : List Token) × (r : SourceTree) × ((limit free : ℕ) → PolicyGoesOn limit free k p ts r)
  end_of_policy (the_end ds) p = ([], record { decls = ds; policy = p }, λ limit free. on_end)
  end_of_policy (close_let ds at name) p = (
    token_of (Kind.Sign Sign.CloseCurly) ∷ an_id ∷ [],
    record { decls = ds ++ let_tree at name p ∷ []; policy = id_policy },
    λ limit free. on_let (token_of (Kind.Sign Sign.CloseCurly)) refl (is_id_program limit free (ds ++ let_tree at name p ∷ [])),
  )
  end_of_policy (close_round make k) p =
      let x = end_of_single k (make p) in
      (token_of (Kind.Sign Sign.CloseRound) ∷ x.0, x.1, λ limit free. on_round (token_of (Kind.Sign Sign.CloseRound)) refl (x.2 limit free))
  end_of_policy (else_part at e k) p =
      let x = end_of_choice k (if_tree at e p (plain_tree id_either)) in
      (an_else ∷ an_id ∷ x.0, x.1, λ limit free. on_else an_else refl (is_id_choice limit free (suc (choice_depth k)) x.0) (x.2 limit free))

  end_of_sequence : (k : AfterSequence) (s : SequenceTree) → (ts : List Token) × (r : SourceTree) × ((limit free : ℕ) → SequenceGoesOn limit free k s ts r)
  end_of_sequence (part_of_policy q k) s = let x = end_of_policy k (policy_more q s) in (x.0, x.1, λ limit free. on_policy policy_end (x.2 limit free))

  end_of_choice : (k : AfterChoice) (c : ChoiceTree) → (ts : List Token) × (r : SourceTree) × ((limit free : ℕ) → ChoiceGoesOn limit free k c ts r)
  end_of_choice (part_of_sequence q k) c = let x = end_of_sequence k (sequence_more q c) in (x.0, x.1, λ limit free. on_sequence sequence_end (x.2 limit free))
  end_of_choice (end_of_if at e p k) c = let x = end_of_choice k (if_tree at e p c) in (x.0, x.1, λ limit free. on_end_of_if (x.2 limit free))

  end_of_either : (k : AfterEither) (e : EitherTree) → (ts : List Token) × (r : SourceTree) × ((limit free : ℕ) → EitherGoesOn limit free k e ts r)
  end_of_either (then_part at k) e =
      let x = end_of_choice k (if_tree at e id_policy (plain_tree id_either)) in
      let d = suc (choice_depth k) in (
        token_of (Kind.Key Key.Then) ∷ an_id ∷ an_else ∷ an_id ∷ x.0,
        x.1,
        λ limit free. on_then (token_of (Kind.Key Key.Then)) refl (is_id_policy limit free d _) (on_else an_else refl (is_id_choice limit free d x.0) (x.2 limit free)),
      )
  end_of_either (end_of_plain k) e = let x = end_of_choice k (plain_tree e) in (x.0, x.1, λ limit free. on_plain (x.2 limit free))

  end_of_both : (k : AfterBoth) (b : BothTree) → (ts : List Token) × (r : SourceTree) × ((limit free : ℕ) → BothGoesOn limit free k b ts r)
  end_of_both (part_of_either q k) b = let x = end_of_either k (either_more q b) in (x.0, x.1, λ limit free. on_either either_end (x.2 limit free))

  end_of_single : (k : AfterSingle) (s : SingleTree) → (ts : List Token) × (r : SourceTree) × ((limit free : ℕ) → SingleGoesOn limit free k s ts r)
  end_of_single (part_of_both q k) s = let x = end_of_both k (both_more q s) in (x.0, x.1, λ limit free. on_both both_end (x.2 limit free))
  end_of_single (end_of_not at k) s = let x = end_of_single k (not_tree at s) in (x.0, x.1, λ limit free. on_end_of_not (x.2 limit free))

end_of_a_value : (k : AfterValue) (v : Value) → (ts : List Token) × (r : SourceTree) × ((limit free : ℕ) → ValueGoesOn limit free k v ts r)
end_of_a_value (end_of_value make k) v = let x = end_of_single k (make v) in (x.0, x.1, λ limit free. on_value (x.2 limit free))
end_of_a_value (close_place name vs k) v =
    let x = end_of_single k (bare_tree name (vs ++ v ∷ [])) in
    (token_of (Kind.Sign Sign.CloseSquare) ∷ x.0, x.1, λ limit free. on_place (token_of (Kind.Sign Sign.CloseSquare)) refl places_end placed_alone (x.2 limit free))

one_less-fits : (n limit : ℕ) → one_less n < limit → n ≤ limit
one_less-fits zero limit below = omega arith
one_less-fits (suc n) limit below = omega arith

pub live : (st : State) → (ts : List Token) × (r : SourceTree) × ((limit free : ℕ) → (free < length ts → state_depth st < limit) → Completes limit free st ts r)
live (wants kind next) =
    let x = live (next (token_of kind)) in (
      token_of kind ∷ x.0,
      x.1,
      λ limit free may. from_wants (token_of kind) refl (λ (active : free ≤ length x.0). le_of_lt (may (omega (arith, active)))) (x.2 limit free (λ (active : free < length x.0). may (omega (arith, active)))),
    )
live (at_open kind k) =
    let x = end_of_policy k id_policy in (
      token_of kind ∷ an_id ∷ x.0,
      x.1,
      λ limit free may. from_open (token_of kind) refl (λ (active : free ≤ suc (length x.0)). one_less-fits (policy_depth k) limit (may (omega (arith, active)))) (is_id_policy limit free (policy_depth k) x.0) (x.2 limit free),
    )
live (at_decl ds) = (an_id ∷ [], record { decls = ds; policy = id_policy }, λ limit free may. from_decl (is_id_program limit free ds))
live (past_field ds at name) = (
  a_semicolon ∷ an_id ∷ [],
  record { decls = ds ++ field_tree at name None ∷ []; policy = id_policy },
  λ limit free may. from_plain_field a_semicolon refl (is_id_program limit free (ds ++ field_tree at name None ∷ [])),
)
live (at_constant ds at name) = (
  token_of Kind.Number ∷ a_semicolon ∷ an_id ∷ [],
  record { decls = ds ++ const_tree at name (Literal.Number no_span) ∷ []; policy = id_policy },
  λ limit free may. from_constant a_semicolon (number_literal (token_of Kind.Number) refl) refl (is_id_program limit free (ds ++ const_tree at name (Literal.Number no_span) ∷ [])),
)
live (at_policy k) = let x = end_of_policy k id_policy in (an_id ∷ x.0, x.1, λ limit free may. from_policy (is_id_policy limit free (policy_depth k) x.0) (x.2 limit free))
live (at_sequence k) = let x = end_of_sequence k id_sequence in (an_id ∷ x.0, x.1, λ limit free may. from_sequence (is_id_sequence limit free (sequence_depth k) x.0) (x.2 limit free))
live (at_choice k) = let x = end_of_choice k (plain_tree id_either) in (an_id ∷ x.0, x.1, λ limit free may. from_choice (is_id_choice limit free (choice_depth k) x.0) (x.2 limit free))
live (at_either k) = let x = end_of_either k id_either in (an_id ∷ x.0, x.1, λ limit free may. from_either (is_id_either limit free (either_depth k) x.0) (x.2 limit free))
live (at_both k) = let x = end_of_both k (both_more (both_begin 0) (id_tree 0)) in (an_id ∷ x.0, x.1, λ limit free may. from_both (is_id_both limit free (both_depth k) x.0) (x.2 limit free))
live (at_single k) = let x = end_of_single k (id_tree 0) in (an_id ∷ x.0, x.1, λ limit free may. from_single (id_single an_id refl) (x.2 limit free))
live (at_value k) = let x = end_of_a_value k (Value.Name no_span) in (token_of Kind.Word ∷ x.0, x.1, λ limit free may. from_value (name_value (token_of Kind.Word) refl) (x.2 limit free))
live (past_address address k) = let x = end_of_a_value k (Value.Literal (Literal.Address address)) in (x.0, x.1, λ limit free may. from_address (x.2 limit free))
live (past_value v k) = let x = end_of_a_value k v in (x.0, x.1, λ limit free may. past_a_value (x.2 limit free))
live (past_name name k) = let x = end_of_single k (name_tree name) in (x.0, x.1, λ limit free may. from_name named_alone (x.2 limit free))
live (past_places name vs k) = let x = end_of_single k (bare_tree name vs) in (x.0, x.1, λ limit free may. from_places places_end placed_alone (x.2 limit free))
live (past_single s k) = let x = end_of_single k s in (x.0, x.1, λ limit free may. past_a_single (x.2 limit free))
live (past_both b k) = let x = end_of_both k b in (x.0, x.1, λ limit free may. past_a_both (x.2 limit free))
live (past_either e k) = let x = end_of_either k e in (x.0, x.1, λ limit free may. past_an_either (x.2 limit free))
live (past_choice c k) = let x = end_of_choice k c in (x.0, x.1, λ limit free may. past_a_choice (x.2 limit free))
live (past_sequence s k) = let x = end_of_sequence k s in (x.0, x.1, λ limit free may. past_a_sequence (x.2 limit free))
live (past_policy p k) = let x = end_of_policy k p in (x.0, x.1, λ limit free may. past_a_policy (x.2 limit free))
