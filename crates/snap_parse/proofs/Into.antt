-- A step leads from what completes a state to what completes the next.
use Rattle.std.proofs.Common.{length, ◌≡◌, ℕ, ◌≤◌, List, [], ◌∷◌, ◌++◌, Some, cond, refl, sym, subst, arith}
use Rattle.snap_parse.specs.Kinds.{Token, Kind, Key, Sign}
use Rattle.snap_parse.specs.Tree.{Span, Literal, Value, PolicyTree, policy_begin, policy_more, SequenceTree, sequence_begin, sequence_more, ChoiceTree, if_tree, plain_tree, EitherTree, either_begin, either_more, BothTree, both_begin, both_more, SingleTree, not_tree, name_tree, test_tree, set_tree, bare_tree, array_test_tree, array_set_tree, up_tree, down_tree, array_add_tree, array_sub_tree, DeclTree, field_tree, const_tree, let_tree, SourceTree, span_of}
use Rattle.snap_parse.specs.Grammar.{IsLiteral, number_literal, address_literal, true_literal, false_literal, IsValue, literal_value, prefix_value, name_value, IsPlacesRest, places_end, places_more, places, IsPolicy, policy, policy_end, policy_plus, IsSequence, sequence, sequence_end, sequence_semicolon, IsChoice, if_choice, plain_choice, IsEither, either, either_end, either_or, IsBoth, both, both_end, both_and, IsSingle, not_single, id_single, drop_single, group_single, atomic_single, name_single, test_single, set_single, bare_single, array_test_single, array_set_single, up_single, down_single, array_add_single, array_sub_single, field_decl, split_field_decl, array_decl, const_decl, let_decl, IsProgramRest, last_policy, next_decl}
use Rattle.snap_parse.specs.Machine.{AfterPolicy, the_end, else_part, AfterSequence, part_of_policy, AfterChoice, part_of_sequence, end_of_if, AfterEither, end_of_plain, AfterBoth, part_of_either, AfterSingle, part_of_both, AfterValue, end_of_value, close_place, policy_depth, sequence_depth, choice_depth, either_depth, both_depth, single_depth, value_depth, State, wants, at_decl, at_constant, at_policy, at_sequence, at_choice, at_both, at_single, at_value, past_value, past_places, past_single, state_depth, Move, go, stuck, front, on_next, after_policy, after_sequence, after_choice, after_either, after_both, after_single, after_value, placed, after_places, after_name, literal_of, begin_value, begin_single, begin_both, begin_either, begin_choice, begin_sequence, begin_policy, begin_decl, on_literal, in_constant_value, step}
use Rattle.snap_parse.proofs.Completion.{again, IsPlaced, placed_alone, placed_equals, placed_arrow, placed_up, placed_down, placed_add, placed_sub, IsNamed, named_alone, named_equals, named_arrow, named_places, PolicyGoesOn, on_end, on_let, on_round, on_else, SequenceGoesOn, on_policy, ChoiceGoesOn, on_sequence, on_end_of_if, EitherGoesOn, on_then, on_plain, BothGoesOn, on_either, SingleGoesOn, on_both, on_end_of_not, ValueGoesOn, on_value, on_place, Completes, from_wants, from_open, from_decl, from_plain_field, from_split_field, from_constant, from_policy, from_sequence, from_choice, from_either, from_both, from_single, from_value, from_address, from_prefix, from_name, from_places, past_a_value, past_a_single, past_a_both, past_an_either, past_a_choice, past_a_sequence, past_a_policy, Follows, follows_go, follows_done}
use Rattle.snap_parse.proofs.NextToken.{same_kind-same, Ends, ends_less, ends_kind, NotNext, not_next, not_next_of}

module _ (limit free : ℕ) where
  -- what may stand behind each part
  ends_policy : (k : AfterPolicy) (p : PolicyTree) (ts : List Token) (r : SourceTree) → PolicyGoesOn limit free k p ts r → Ends 6 ts
  ends_policy k p ts r on_end = tt
  ends_policy k p ts r (on_let t is more) = ends_kind 6 t _ is (omega arith)
  ends_policy k p ts r (on_round t is on) = ends_kind 6 t _ is (omega arith)
  ends_policy k p ts r (on_else t is c on) = ends_kind 6 t _ is (omega arith)

  ends_sequence : (k : AfterSequence) (s : SequenceTree) (ts : List Token) (r : SourceTree) → SequenceGoesOn limit free k s ts r → Ends 5 ts
  ends_sequence k s ts r (on_policy policy_end on) = ends_less 5 6 ts (omega arith) (ends_policy _ _ ts r on)
  ends_sequence k s ts r (on_policy (policy_plus t is s2 more) on) = ends_kind 5 t _ is (omega arith)

  ends_choice : (k : AfterChoice) (c : ChoiceTree) (ts : List Token) (r : SourceTree) → ChoiceGoesOn limit free k c ts r → Ends 4 ts
  ends_choice k c ts r (on_sequence sequence_end on) = ends_less 4 5 ts (omega arith) (ends_sequence _ _ ts r on)
  ends_choice k c ts r (on_sequence (sequence_semicolon t is c2 more) on) = ends_kind 4 t _ is (omega arith)
  ends_choice k c ts r (on_end_of_if on) = ends_choice _ _ ts r on

  ends_either : (k : AfterEither) (e : EitherTree) (ts : List Token) (r : SourceTree) → EitherGoesOn limit free k e ts r → Ends 3 ts
  ends_either k e ts r (on_then t is p on) = ends_kind 3 t _ is (omega arith)
  ends_either k e ts r (on_plain on) = ends_less 3 4 ts (omega arith) (ends_choice _ _ ts r on)

  ends_both : (k : AfterBoth) (b : BothTree) (ts : List Token) (r : SourceTree) → BothGoesOn limit free k b ts r → Ends 2 ts
  ends_both k b ts r (on_either either_end on) = ends_less 2 3 ts (omega arith) (ends_either _ _ ts r on)
  ends_both k b ts r (on_either (either_or t is b2 more) on) = ends_kind 2 t _ is (omega arith)

  ends_single : (k : AfterSingle) (s : SingleTree) (ts : List Token) (r : SourceTree) → SingleGoesOn limit free k s ts r → Ends 1 ts
  ends_single k s ts r (on_both both_end on) = ends_less 1 2 ts (omega arith) (ends_both _ _ ts r on)
  ends_single k s ts r (on_both (both_and t is s2 more) on) = ends_kind 1 t _ is (omega arith)
  ends_single k s ts r (on_end_of_not on) = ends_single _ _ ts r on

  ends_value : (k : AfterValue) (v : Value) (ts : List Token) (r : SourceTree) → ValueGoesOn limit free k v ts r → Ends 1 ts
  ends_value k v ts r (on_value on) = ends_single _ _ ts r on
  ends_value k v ts r (on_place t is more pl on) = ends_kind 1 t _ is (omega arith)

  -- the next token's kind decides
  by_kind : (f : Kind → Move) (t : Token) (kind : Kind) (ts : List Token) (r : SourceTree) → t.kind ≡ kind →
      Follows limit free (f kind) (t ∷ ts) r → Follows limit free (f t.kind) (t ∷ ts) r
  by_kind f t kind ts r is h = subst (λ x. Follows limit free (f x) (t ∷ ts) r) (sym is) h

  met : (kind : Kind) (st : State) (other : Move) (t : Token) (ts : List Token) (r : SourceTree) → t.kind ≡ kind →
      (free ≤ length ts → state_depth st ≤ limit) → Completes limit free st ts r → Follows limit free (on_next kind (Some t) st other) (t ∷ ts) r
  met kind st other t ts r is fits on = subst (λ b. Follows limit free (cond b (go st) other) (t ∷ ts) r) (sym (same_kind-same t.kind kind is)) (follows_go fits on)

  skipped : (kind : Kind) (st : State) (other : Move) (ts : List Token) (r : SourceTree) → NotNext kind ts →
      Follows limit free other ts r → Follows limit free (on_next kind (front ts) st other) ts r
  skipped kind st other [] r differs h = h
  skipped kind st other (t ∷ ts) r differs h = subst (λ b. Follows limit free (cond b (go st) other) (t ∷ ts) r) (sym differs) h

  wanted : (kind : Kind) (next : Token → State) (t : Token) (ts : List Token) (r : SourceTree) → t.kind ≡ kind →
      (free ≤ length ts → state_depth (next t) ≤ limit) → Completes limit free (next t) ts r → Follows limit free (step (wants kind next) (Some t)) (t ∷ ts) r
  wanted kind next t ts r is fits on = subst (λ b. Follows limit free (cond b (go (next t)) stuck) (t ∷ ts) r) (sym (same_kind-same t.kind kind is)) (follows_go fits on)

  -- behind the parts of a policy
  into_after_policy : (k : AfterPolicy) (p : PolicyTree) (ts : List Token) (r : SourceTree) → policy_depth k ≤ limit →
      PolicyGoesOn limit free k p ts r → Follows limit free (after_policy k p (front ts)) ts r
  into_after_policy k p ts r fits on_end = follows_done
  into_after_policy k p ts r fits (on_let {ds = ds} {at = at} {name = name} {ts = rest} t is more) =
      met _ (at_decl (ds ++ let_tree at name p ∷ [])) stuck t rest r is (λ active. omega arith) (from_decl more)
  into_after_policy k p ts r fits (on_round {make = make} {k = k'} {ts = rest} t is on) =
      met _ (past_single (make p) k') stuck t rest r is (λ active. omega arith) (past_a_single on)
  into_after_policy k p ts r fits (on_else {at = at} {e = e} {k = k'} {ts = rest} t is c on) =
      met _ (at_choice (end_of_if at e p k')) stuck t rest r is (λ active. fits) (from_choice c (on_end_of_if on))

  into_after_sequence : (k : AfterSequence) (s : SequenceTree) (ts : List Token) (r : SourceTree) → sequence_depth k ≤ limit →
      SequenceGoesOn limit free k s ts r → Follows limit free (after_sequence k s (front ts)) ts r
  into_after_sequence k s ts r fits (on_policy {k = k'} {q = q} policy_end on) =
      skipped (Kind.Sign Sign.Plus) (at_sequence (part_of_policy (policy_more q s) k')) _ ts r (not_next (Kind.Sign Sign.Plus) ts (ends_policy k' _ ts r on)) (into_after_policy k' (policy_more q s) ts r fits on)
  into_after_sequence k s ts r fits (on_policy {k = k'} {q = q} (policy_plus {ts = rest} t is s2 more) on) =
      met _ (at_sequence (part_of_policy (policy_more q s) k')) _ t rest r is (λ active. fits) (from_sequence s2 (on_policy more on))

  into_after_choice : (k : AfterChoice) (c : ChoiceTree) (ts : List Token) (r : SourceTree) → choice_depth k ≤ limit →
      ChoiceGoesOn limit free k c ts r → Follows limit free (after_choice k c (front ts)) ts r
  into_after_choice k c ts r fits (on_sequence {k = k'} {q = q} sequence_end on) =
      skipped (Kind.Sign Sign.Semicolon) (at_choice (part_of_sequence (sequence_more q c) k')) _ ts r (not_next (Kind.Sign Sign.Semicolon) ts (ends_sequence k' _ ts r on)) (into_after_sequence k' (sequence_more q c) ts r fits on)
  into_after_choice k c ts r fits (on_sequence {k = k'} {q = q} (sequence_semicolon {ts = rest} t is c2 more) on) =
      met _ (at_choice (part_of_sequence (sequence_more q c) k')) _ t rest r is (λ active. fits) (from_choice c2 (on_sequence more on))
  into_after_choice k c ts r fits (on_end_of_if {at = at} {e = e} {p = p} {k = k'} on) = into_after_choice k' (if_tree at e p c) ts r (omega arith) on

  into_after_either : (k : AfterEither) (e : EitherTree) (ts : List Token) (r : SourceTree) → either_depth k ≤ limit →
      EitherGoesOn limit free k e ts r → Follows limit free (after_either k e (front ts)) ts r
  into_after_either k e ts r fits (on_then {at = at} {k = k'} {ts = rest} t is p on) =
      met _ (at_policy (else_part at e k')) stuck t rest r is (λ active. fits) (from_policy p on)
  into_after_either k e ts r fits (on_plain {k = k'} on) = into_after_choice k' (plain_tree e) ts r fits on

  into_after_both : (k : AfterBoth) (b : BothTree) (ts : List Token) (r : SourceTree) → both_depth k ≤ limit →
      BothGoesOn limit free k b ts r → Follows limit free (after_both k b (front ts)) ts r
  into_after_both k b ts r fits (on_either {k = k'} {q = q} either_end on) =
      skipped (Kind.Sign Sign.Or) (at_both (part_of_either (either_more q b) k')) _ ts r (not_next (Kind.Sign Sign.Or) ts (ends_either k' _ ts r on)) (into_after_either k' (either_more q b) ts r fits on)
  into_after_both k b ts r fits (on_either {k = k'} {q = q} (either_or {ts = rest} t is b2 more) on) =
      met _ (at_both (part_of_either (either_more q b) k')) _ t rest r is (λ active. fits) (from_both b2 (on_either more on))

  into_after_single : (k : AfterSingle) (s : SingleTree) (ts : List Token) (r : SourceTree) → single_depth k ≤ limit →
      SingleGoesOn limit free k s ts r → Follows limit free (after_single k s (front ts)) ts r
  into_after_single k s ts r fits (on_both {k = k'} {q = q} both_end on) =
      skipped (Kind.Sign Sign.And) (at_single (part_of_both (both_more q s) k')) _ ts r (not_next (Kind.Sign Sign.And) ts (ends_both k' _ ts r on)) (into_after_both k' (both_more q s) ts r fits on)
  into_after_single k s ts r fits (on_both {k = k'} {q = q} (both_and {ts = rest} t is s2 more) on) =
      met _ (at_single (part_of_both (both_more q s) k')) _ t rest r is (λ active. fits) (from_single s2 (on_both more on))
  into_after_single k s ts r fits (on_end_of_not {at = at} {k = k'} on) = into_after_single k' (not_tree at s) ts r (omega arith) on

  -- behind a name
  into_placed : (name : Span) (vs : List Value) (k : AfterSingle) (s : SingleTree) (ts ts' : List Token) (r : SourceTree) → single_depth k ≤ limit →
      IsPlaced name vs ts s ts' → SingleGoesOn limit free k s ts' r → Follows limit free (placed name vs k (front ts)) ts r
  into_placed name vs k s ts ts' r fits placed_alone on =
      let no_sign : Ends 1 ts = ends_single k _ ts r on in
      skipped (Kind.Sign Sign.Equals) (at_value (end_of_value (array_test_tree name vs) k)) _ ts r (not_next (Kind.Sign Sign.Equals) ts no_sign)
      (skipped (Kind.Sign Sign.Arrow) (at_value (end_of_value (array_set_tree name vs) k)) _ ts r (not_next (Kind.Sign Sign.Arrow) ts no_sign)
      (skipped (Kind.Sign Sign.PlusPlus) (past_single (up_tree name vs) k) _ ts r (not_next (Kind.Sign Sign.PlusPlus) ts no_sign)
      (skipped (Kind.Sign Sign.MinusMinus) (past_single (down_tree name vs) k) _ ts r (not_next (Kind.Sign Sign.MinusMinus) ts no_sign)
      (skipped (Kind.Sign Sign.PlusEquals) (at_value (end_of_value (array_add_tree name vs) k)) _ ts r (not_next (Kind.Sign Sign.PlusEquals) ts no_sign)
      (skipped (Kind.Sign Sign.MinusEquals) (at_value (end_of_value (array_sub_tree name vs) k)) _ ts r (not_next (Kind.Sign Sign.MinusEquals) ts no_sign)
      (into_after_single k (bare_tree name vs) ts r fits on))))))
  into_placed name vs k s ts ts' r fits (placed_equals t is v) on = again limit free (placed name vs k) t (Kind.Sign Sign.Equals) _ r is (follows_go (λ active. fits) (from_value v (on_value on)))
  into_placed name vs k s ts ts' r fits (placed_arrow t is v) on = again limit free (placed name vs k) t (Kind.Sign Sign.Arrow) _ r is (follows_go (λ active. fits) (from_value v (on_value on)))
  into_placed name vs k s ts ts' r fits (placed_up t is) on = again limit free (placed name vs k) t (Kind.Sign Sign.PlusPlus) _ r is (follows_go (λ active. fits) (past_a_single on))
  into_placed name vs k s ts ts' r fits (placed_down t is) on = again limit free (placed name vs k) t (Kind.Sign Sign.MinusMinus) _ r is (follows_go (λ active. fits) (past_a_single on))
  into_placed name vs k s ts ts' r fits (placed_add t is v) on = again limit free (placed name vs k) t (Kind.Sign Sign.PlusEquals) _ r is (follows_go (λ active. fits) (from_value v (on_value on)))
  into_placed name vs k s ts ts' r fits (placed_sub t is v) on = again limit free (placed name vs k) t (Kind.Sign Sign.MinusEquals) _ r is (follows_go (λ active. fits) (from_value v (on_value on)))

  placed_no_open : (name : Span) (vs : List Value) (k : AfterSingle) (s : SingleTree) (ts ts' : List Token) (r : SourceTree) →
      IsPlaced name vs ts s ts' → SingleGoesOn limit free k s ts' r → NotNext (Kind.Sign Sign.OpenSquare) ts
  placed_no_open name vs k s ts ts' r placed_alone on = not_next (Kind.Sign Sign.OpenSquare) ts (ends_single k _ ts r on)
  placed_no_open name vs k s ts ts' r (placed_equals t is v) on = not_next_of (Kind.Sign Sign.OpenSquare) (Kind.Sign Sign.Equals) t is refl
  placed_no_open name vs k s ts ts' r (placed_arrow t is v) on = not_next_of (Kind.Sign Sign.OpenSquare) (Kind.Sign Sign.Arrow) t is refl
  placed_no_open name vs k s ts ts' r (placed_up t is) on = not_next_of (Kind.Sign Sign.OpenSquare) (Kind.Sign Sign.PlusPlus) t is refl
  placed_no_open name vs k s ts ts' r (placed_down t is) on = not_next_of (Kind.Sign Sign.OpenSquare) (Kind.Sign Sign.MinusMinus) t is refl
  placed_no_open name vs k s ts ts' r (placed_add t is v) on = not_next_of (Kind.Sign Sign.OpenSquare) (Kind.Sign Sign.PlusEquals) t is refl
  placed_no_open name vs k s ts ts' r (placed_sub t is v) on = not_next_of (Kind.Sign Sign.OpenSquare) (Kind.Sign Sign.MinusEquals) t is refl

  into_places : (name : Span) (vs ws : List Value) (k : AfterSingle) (s : SingleTree) (ts ts1 ts2 : List Token) (r : SourceTree) → single_depth k ≤ limit →
      IsPlacesRest vs ts ws ts1 → IsPlaced name ws ts1 s ts2 → SingleGoesOn limit free k s ts2 r → Follows limit free (after_places name vs k (front ts)) ts r
  into_places name vs ws k s ts ts1 ts2 r fits places_end pl on =
      skipped (Kind.Sign Sign.OpenSquare) (at_value (close_place name vs k)) _ ts r (placed_no_open name vs k s ts ts2 r pl on) (into_placed name vs k s ts ts2 r fits pl on)
  into_places name vs ws k s ts ts1 ts2 r fits (places_more {ts = rest} t t1 is v is1 more) pl on =
      met _ _ _ t rest r is (λ active. fits) (from_value v (on_place t1 is1 more pl on))

  into_name : (name : Span) (k : AfterSingle) (s : SingleTree) (ts ts' : List Token) (r : SourceTree) → single_depth k ≤ limit →
      IsNamed name ts s ts' → SingleGoesOn limit free k s ts' r → Follows limit free (after_name name k (front ts)) ts r
  into_name name k s ts ts' r fits named_alone on =
      let no_sign : Ends 1 ts = ends_single k _ ts r on in
      skipped (Kind.Sign Sign.Equals) (at_value (end_of_value (test_tree name) k)) _ ts r (not_next (Kind.Sign Sign.Equals) ts no_sign)
      (skipped (Kind.Sign Sign.Arrow) (at_value (end_of_value (set_tree name) k)) _ ts r (not_next (Kind.Sign Sign.Arrow) ts no_sign)
      (skipped (Kind.Sign Sign.OpenSquare) (at_value (close_place name [] k)) _ ts r (not_next (Kind.Sign Sign.OpenSquare) ts no_sign)
      (into_after_single k (name_tree name) ts r fits on)))
  into_name name k s ts ts' r fits (named_equals t is v) on = again limit free (after_name name k) t (Kind.Sign Sign.Equals) _ r is (follows_go (λ active. fits) (from_value v (on_value on)))
  into_name name k s ts ts' r fits (named_arrow t is v) on = again limit free (after_name name k) t (Kind.Sign Sign.Arrow) _ r is (follows_go (λ active. fits) (from_value v (on_value on)))
  into_name name k s ts ts' r fits (named_places t t1 is v is1 more pl) on = again limit free (after_name name k) t (Kind.Sign Sign.OpenSquare) _ r is (follows_go (λ active. fits) (from_value v (on_place t1 is1 more pl on)))

  -- values
  into_after_value : (k : AfterValue) (v : Value) (ts : List Token) (r : SourceTree) → value_depth k ≤ limit →
      ValueGoesOn limit free k v ts r → Follows limit free (after_value k v (front ts)) ts r
  into_after_value k v ts r fits (on_value {make = make} {k = k'} on) = into_after_single k' (make v) ts r fits on
  into_after_value k v ts r fits (on_place {name = name} {vs = vs} {k = k'} {ts = rest} t is more pl on) =
      met _ (past_places name (vs ++ v ∷ []) k') stuck t rest r is (λ active. fits) (from_places more pl on)

  into_value : (k : AfterValue) (v : Value) (t : Token) (ts ts' : List Token) (r : SourceTree) → value_depth k ≤ limit →
      IsValue (t ∷ ts) v ts' → ValueGoesOn limit free k v ts' r → Follows limit free (begin_value k t t.kind) (t ∷ ts) r
  into_value k v t ts ts' r fits (literal_value (number_literal same is)) on = by_kind (begin_value k t) t _ ts r is (follows_go (λ active. fits) (past_a_value on))
  into_value k v t ts ts' r fits (literal_value (address_literal same is)) on = by_kind (begin_value k t) t _ ts r is (follows_go (λ active. fits) (from_address on))
  into_value k v t ts ts' r fits (literal_value (true_literal same is)) on = by_kind (begin_value k t) t _ ts r is (follows_go (λ active. fits) (past_a_value on))
  into_value k v t ts ts' r fits (literal_value (false_literal same is)) on = by_kind (begin_value k t) t _ ts r is (follows_go (λ active. fits) (past_a_value on))
  into_value k v t ts ts' r fits (prefix_value same t1 t2 is is1 is2) on = by_kind (begin_value k t) t _ ts r is (follows_go (λ active. fits) (from_prefix t1 t2 is1 is2 on))
  into_value k v t ts ts' r fits (name_value same is) on = by_kind (begin_value k t) t _ ts r is (follows_go (λ active. fits) (past_a_value on))

  no_literal : (l : Literal) (ts : List Token) → IsLiteral [] l ts → ⊥
  no_literal l ts h = elim h [ ]

  into_value_front : (k : AfterValue) (v : Value) (ts ts' : List Token) (r : SourceTree) → value_depth k ≤ limit →
      IsValue ts v ts' → ValueGoesOn limit free k v ts' r → Follows limit free (step (at_value k) (front ts)) ts r
  into_value_front k v [] ts' r fits (literal_value l) on = absurd (no_literal _ ts' l)
  into_value_front k v (t ∷ ts) ts' r fits value on = into_value k v t ts ts' r fits value on

  -- the beginnings of parts
  into_single : (k : AfterSingle) (s : SingleTree) (t : Token) (ts ts' : List Token) (r : SourceTree) → single_depth k ≤ limit →
      IsSingle limit free (single_depth k) (t ∷ ts) s ts' → SingleGoesOn limit free k s ts' r → Follows limit free (begin_single k t t.kind) (t ∷ ts) r
  into_single k s t ts ts' r fits (not_single same is below inner) on =
      by_kind (begin_single k t) t _ ts r is (follows_go (λ active. omega (arith, below active)) (from_single inner (on_end_of_not on)))
  into_single k s t ts ts' r fits (id_single same is) on = by_kind (begin_single k t) t _ ts r is (follows_go (λ active. fits) (past_a_single on))
  into_single k s t ts ts' r fits (drop_single same is) on = by_kind (begin_single k t) t _ ts r is (follows_go (λ active. fits) (past_a_single on))
  into_single k s t ts ts' r fits (group_single same t1 is below p is1) on =
      by_kind (begin_single k t) t _ ts r is (follows_go (λ active. omega (arith, below active)) (from_policy p (on_round t1 is1 on)))
  into_single k s t ts ts' r fits (atomic_single same t1 t2 is is1 below p is2) on =
      by_kind (begin_single k t) t _ ts r is (follows_go (λ active. fits) (from_open t1 is1 (λ active. omega (arith, below active)) p (on_round t2 is2 on)))
  into_single k s t ts ts' r fits (name_single same is) on = by_kind (begin_single k t) t _ ts r is (follows_go (λ active. fits) (from_name named_alone on))
  into_single k s t ts ts' r fits (test_single same t1 is is1 v) on = by_kind (begin_single k t) t _ ts r is (follows_go (λ active. fits) (from_name (named_equals t1 is1 v) on))
  into_single k s t ts ts' r fits (set_single same t1 is is1 v) on = by_kind (begin_single k t) t _ ts r is (follows_go (λ active. fits) (from_name (named_arrow t1 is1 v) on))
  into_single k s t ts ts' r fits (bare_single same is (places a b isa v isb more)) on =
      by_kind (begin_single k t) t _ ts r is (follows_go (λ active. fits) (from_name (named_places a b isa v isb more placed_alone) on))
  into_single k s t ts ts' r fits (array_test_single same t1 is (places a b isa v isb more) is1 w) on =
      by_kind (begin_single k t) t _ ts r is (follows_go (λ active. fits) (from_name (named_places a b isa v isb more (placed_equals t1 is1 w)) on))
  into_single k s t ts ts' r fits (array_set_single same t1 is (places a b isa v isb more) is1 w) on =
      by_kind (begin_single k t) t _ ts r is (follows_go (λ active. fits) (from_name (named_places a b isa v isb more (placed_arrow t1 is1 w)) on))
  into_single k s t ts ts' r fits (up_single same t1 is (places a b isa v isb more) is1) on =
      by_kind (begin_single k t) t _ ts r is (follows_go (λ active. fits) (from_name (named_places a b isa v isb more (placed_up t1 is1)) on))
  into_single k s t ts ts' r fits (down_single same t1 is (places a b isa v isb more) is1) on =
      by_kind (begin_single k t) t _ ts r is (follows_go (λ active. fits) (from_name (named_places a b isa v isb more (placed_down t1 is1)) on))
  into_single k s t ts ts' r fits (array_add_single same t1 is (places a b isa v isb more) is1 w) on =
      by_kind (begin_single k t) t _ ts r is (follows_go (λ active. fits) (from_name (named_places a b isa v isb more (placed_add t1 is1 w)) on))
  into_single k s t ts ts' r fits (array_sub_single same t1 is (places a b isa v isb more) is1 w) on =
      by_kind (begin_single k t) t _ ts r is (follows_go (λ active. fits) (from_name (named_places a b isa v isb more (placed_sub t1 is1 w)) on))

  into_both : (k : AfterBoth) (b : BothTree) (t : Token) (ts ts' : List Token) (r : SourceTree) → both_depth k ≤ limit →
      IsBoth limit free (both_depth k) (t ∷ ts) b ts' → BothGoesOn limit free k b ts' r → Follows limit free (begin_both k t t.kind) (t ∷ ts) r
  into_both k b t ts ts' r fits (both s more) on = into_single (part_of_both (both_begin t.from) k) _ t ts _ r fits s (on_both more on)

  into_either : (k : AfterEither) (e : EitherTree) (t : Token) (ts ts' : List Token) (r : SourceTree) → either_depth k ≤ limit →
      IsEither limit free (either_depth k) (t ∷ ts) e ts' → EitherGoesOn limit free k e ts' r → Follows limit free (begin_either k t t.kind) (t ∷ ts) r
  into_either k e t ts ts' r fits (either b more) on = into_both (part_of_either (either_begin t.from) k) _ t ts _ r fits b (on_either more on)

  -- a choice that is no `if`
  plain_kind : (k : AfterChoice) (t : Token) (kind : Kind) (ts : List Token) (r : SourceTree) →
      Follows limit free (begin_either (end_of_plain k) t kind) ts r → Follows limit free (begin_choice k t kind) ts r
  plain_kind k t (Kind.Key Key.If) ts r h = elim h [ ]
  plain_kind k t _ ts r h = h

  into_choice : (k : AfterChoice) (c : ChoiceTree) (t : Token) (ts ts' : List Token) (r : SourceTree) → choice_depth k ≤ limit →
      IsChoice limit free (choice_depth k) (t ∷ ts) c ts' → ChoiceGoesOn limit free k c ts' r → Follows limit free (begin_choice k t t.kind) (t ∷ ts) r
  into_choice k c t ts ts' r fits (if_choice same t1 t2 is below test is1 p is2 unmet) on =
      by_kind (begin_choice k t) t _ ts r is (follows_go (λ active. omega (arith, below active)) (from_either test (on_then t1 is1 p (on_else t2 is2 unmet on))))
  into_choice k c t ts ts' r fits (plain_choice e) on = plain_kind k t t.kind (t ∷ ts) r (into_either (end_of_plain k) _ t ts ts' r fits e (on_plain on))

  into_sequence : (k : AfterSequence) (s : SequenceTree) (t : Token) (ts ts' : List Token) (r : SourceTree) → sequence_depth k ≤ limit →
      IsSequence limit free (sequence_depth k) (t ∷ ts) s ts' → SequenceGoesOn limit free k s ts' r → Follows limit free (begin_sequence k t t.kind) (t ∷ ts) r
  into_sequence k s t ts ts' r fits (sequence c more) on = into_choice (part_of_sequence (sequence_begin t.from) k) _ t ts _ r fits c (on_sequence more on)

  into_policy : (k : AfterPolicy) (p : PolicyTree) (t : Token) (ts ts' : List Token) (r : SourceTree) → policy_depth k ≤ limit →
      IsPolicy limit free (policy_depth k) (t ∷ ts) p ts' → PolicyGoesOn limit free k p ts' r → Follows limit free (begin_policy k t t.kind) (t ∷ ts) r
  into_policy k p t ts ts' r fits (policy s more) on = into_sequence (part_of_policy (policy_begin t.from) k) _ t ts _ r fits s (on_policy more on)

  -- what is no declaration begins the policy
  policy_kind : (ds : List DeclTree) (t : Token) (kind : Kind) (ts : List Token) (r : SourceTree) →
      Follows limit free (begin_policy (the_end ds) t kind) ts r → Follows limit free (begin_decl ds t kind) ts r
  policy_kind ds t (Kind.Key Key.Field) ts r h = elim h [ ]
  policy_kind ds t (Kind.Key Key.Array) ts r h = elim h [ ]
  policy_kind ds t (Kind.Key Key.Const) ts r h = elim h [ ]
  policy_kind ds t (Kind.Key Key.Let) ts r h = elim h [ ]
  policy_kind ds t _ ts r h = h

  into_program : (ds : List DeclTree) (ts : List Token) (r : SourceTree) → IsProgramRest limit free ds ts r → Follows limit free (step (at_decl ds) (front ts)) ts r
  into_program ds ts r (last_policy (policy {t = t} {ts = rest} s more)) =
      policy_kind ds t t.kind ts r (into_policy (the_end ds) _ t rest [] r (omega arith) (policy s more) on_end)
  into_program ds ts r (next_decl (field_decl t t1 t2 is is1 is2) more) =
      by_kind (begin_decl ds t) t _ _ r is (follows_go (λ active. omega arith) (from_wants t1 is1 (λ active. omega arith) (from_plain_field t2 is2 more)))
  into_program ds ts r (next_decl (split_field_decl t t1 t2 t3 t4 is is1 is2 is3 is4) more) =
      by_kind (begin_decl ds t) t _ _ r is (follows_go (λ active. omega arith) (from_wants t1 is1 (λ active. omega arith) (from_split_field t2 t3 t4 is2 is3 is4 more)))
  into_program ds ts r (next_decl (array_decl t t1 t2 is is1 is2) more) =
      by_kind (begin_decl ds t) t _ _ r is (follows_go (λ active. omega arith) (from_wants t1 is1 (λ active. omega arith) (from_wants t2 is2 (λ active. omega arith) (from_decl more))))
  into_program ds ts r (next_decl (const_decl t t1 t2 t3 is is1 is2 l is3) more) =
      by_kind (begin_decl ds t) t _ _ r is (follows_go (λ active. omega arith) (from_wants t1 is1 (λ active. omega arith) (from_wants t2 is2 (λ active. omega arith) (from_constant t3 l is3 more))))
  into_program ds ts r (next_decl (let_decl t t1 t2 t3 is is1 is2 below p is3) more) =
      by_kind (begin_decl ds t) t _ _ r is
      (follows_go (λ active. omega arith) (from_wants t1 is1 (λ active. omega arith) (from_open t2 is2 (λ active. omega (arith, below active)) p (on_let t3 is3 more))))

  into_constant : (ds : List DeclTree) (at : ℕ) (name : Span) (l : Literal) (t : Token) (ts ts' : List Token) (r : SourceTree) →
      IsLiteral ts l (t ∷ ts') → t.kind ≡ Kind.Sign Sign.Semicolon → IsProgramRest limit free (ds ++ const_tree at name l ∷ []) ts' r →
      Follows limit free (step (at_constant ds at name) (front ts)) ts r
  into_constant ds at name l t ts ts' r (number_literal t0 is0) is more =
      by_kind (λ x. on_literal (literal_of x (span_of t0)) (in_constant_value ds at name)) t0 _ _ r is0 (follows_go (λ active. omega arith) (from_wants t is (λ active. omega arith) (from_decl more)))
  into_constant ds at name l t ts ts' r (address_literal t0 is0) is more =
      by_kind (λ x. on_literal (literal_of x (span_of t0)) (in_constant_value ds at name)) t0 _ _ r is0 (follows_go (λ active. omega arith) (from_wants t is (λ active. omega arith) (from_decl more)))
  into_constant ds at name l t ts ts' r (true_literal t0 is0) is more =
      by_kind (λ x. on_literal (literal_of x (span_of t0)) (in_constant_value ds at name)) t0 _ _ r is0 (follows_go (λ active. omega arith) (from_wants t is (λ active. omega arith) (from_decl more)))
  into_constant ds at name l t ts ts' r (false_literal t0 is0) is more =
      by_kind (λ x. on_literal (literal_of x (span_of t0)) (in_constant_value ds at name)) t0 _ _ r is0 (follows_go (λ active. omega arith) (from_wants t is (λ active. omega arith) (from_decl more)))

  -- what completes a state completes the next one after a step
  pub into : (st : State) (ts : List Token) (r : SourceTree) → state_depth st ≤ limit → Completes limit free st ts r → Follows limit free (step st (front ts)) ts r
  into st ts r fits (from_wants {kind = kind} {next = next} {ts = rest} t is deep on) = wanted kind next t rest r is deep on
  into st ts r fits (from_open {k = k} {ts = rest} t is deep p on) = met _ (at_policy k) stuck t rest r is deep (from_policy p on)
  into st ts r fits (from_decl {ds = ds} more) = into_program ds ts r more
  into st ts r fits (from_plain_field {ds = ds} {at = at} {name = name} {ts = rest} t is more) =
      skipped (Kind.Sign Sign.Slash) (wants Kind.Number (λ n. wants (Kind.Sign Sign.Semicolon) (λ e. at_decl (ds ++ field_tree at name (Some (span_of n)) ∷ [])))) _ (t ∷ rest) r (not_next_of (Kind.Sign Sign.Slash) (Kind.Sign Sign.Semicolon) t is refl) (met _ _ stuck t rest r is (λ active. omega arith) (from_decl more))
  into st ts r fits (from_split_field {ds = ds} {at = at} {name = name} {ts = rest} t t1 t2 is is1 is2 more) =
      met _ _ _ t _ r is (λ active. omega arith) (from_wants t1 is1 (λ active. omega arith) (from_wants t2 is2 (λ active. omega arith) (from_decl more)))
  into st ts r fits (from_constant {ds = ds} {at = at} {name = name} {l = l} {ts' = rest} t literal is more) = into_constant ds at name l t ts rest r literal is more
  into st ts r fits (from_policy {k = k} {ts' = ts'} (policy {t = t} {ts = rest} s more) on) = into_policy k _ t rest ts' r fits (policy s more) on
  into st ts r fits (from_sequence {k = k} {ts' = ts'} (sequence {t = t} {ts = rest} c more) on) = into_sequence k _ t rest ts' r fits (sequence c more) on
  into st ts r fits (from_choice {k = k} {ts' = ts'} (if_choice {ts = rest} t t1 t2 is below test is1 p is2 unmet) on) =
      into_choice k _ t rest ts' r fits (if_choice t t1 t2 is below test is1 p is2 unmet) on
  into st ts r fits (from_choice {k = k} {ts' = ts'} (plain_choice (either {t = t} {ts = rest} b more)) on) = into_choice k _ t rest ts' r fits (plain_choice (either b more)) on
  into st ts r fits (from_either {k = k} {ts' = ts'} (either {t = t} {ts = rest} b more) on) = into_either k _ t rest ts' r fits (either b more) on
  into st ts r fits (from_both {k = k} {ts' = ts'} (both {t = t} {ts = rest} s more) on) = into_both k _ t rest ts' r fits (both s more) on
  into st ts r fits (from_single {k = k} {s = s} {ts' = ts'} single on) = into_single_front k s ts ts' r fits single on
    where
      into_single_front : (k : AfterSingle) (s : SingleTree) (ts ts' : List Token) (r : SourceTree) → single_depth k ≤ limit →
          IsSingle limit free (single_depth k) ts s ts' → SingleGoesOn limit free k s ts' r → Follows limit free (step (at_single k) (front ts)) ts r
      into_single_front k s [] ts' r fits single on = elim single [ ]
      into_single_front k s (t ∷ ts) ts' r fits single on = into_single k s t ts ts' r fits single on
  into st ts r fits (from_value {k = k} {v = v} {ts' = ts'} value on) = into_value_front k v ts ts' r fits value on
  into st ts r fits (from_address {address = a} {k = k} on) =
      skipped (Kind.Sign Sign.Slash) (wants Kind.Number (λ n. past_value (Value.Prefix a (span_of n)) k)) _ ts r (not_next (Kind.Sign Sign.Slash) ts (ends_value k _ ts r on)) (into_after_value k _ ts r fits on)
  into st ts r fits (from_prefix {k = k} {ts = rest} t t1 is is1 on) = met _ _ _ t _ r is (λ active. fits) (from_wants t1 is1 (λ active. fits) (past_a_value on))
  into st ts r fits (from_name {name = name} {k = k} {s = s} {ts' = ts'} named on) = into_name name k s ts ts' r fits named on
  into st ts r fits (from_places {name = name} {vs = vs} {ws = ws} {k = k} {s = s} {ts1 = ts1} {ts2 = ts2} more pl on) = into_places name vs ws k s ts ts1 ts2 r fits more pl on
  into st ts r fits (past_a_value {k = k} {v = v} on) = into_after_value k v ts r fits on
  into st ts r fits (past_a_single {k = k} {s = s} on) = into_after_single k s ts r fits on
  into st ts r fits (past_a_both {k = k} {b = b} on) = into_after_both k b ts r fits on
  into st ts r fits (past_an_either {k = k} {e = e} on) = into_after_either k e ts r fits on
  into st ts r fits (past_a_choice {k = k} {c = c} on) = into_after_choice k c ts r fits on
  into st ts r fits (past_a_sequence {k = k} {s = s} on) = into_after_sequence k s ts r fits on
  into st ts r fits (past_a_policy {k = k} {p = p} on) = into_after_policy k p ts r fits on
