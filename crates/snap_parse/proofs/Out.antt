-- What completes the program after a step completes the state before it.
use Rattle.std.proofs.Common.{◌≡◌, ℕ, List, [], ◌∷◌, Some, cond, Bool, true, false, refl, arith}
use Rattle.snap_parse.specs.Tree.{Span, Literal, Value, PolicyTree, policy_begin, policy_more, SequenceTree, sequence_begin, sequence_more, ChoiceTree, if_tree, plain_tree, EitherTree, either_begin, either_more, BothTree, both_begin, both_more, SingleTree, not_tree, name_tree, bare_tree, DeclTree, SourceTree, span_of}
use Rattle.snap_parse.specs.Kinds.{Token, Kind, Key, Sign, same_kind}
use Rattle.snap_parse.specs.Grammar.{number_literal, address_literal, true_literal, false_literal, literal_value, prefix_value, name_value, places_end, places_more, places, policy, policy_end, policy_plus, sequence, sequence_end, sequence_semicolon, if_choice, plain_choice, either, either_end, either_or, both, both_end, both_and, not_single, id_single, drop_single, group_single, atomic_single, name_single, test_single, set_single, bare_single, array_test_single, array_set_single, up_single, down_single, array_add_single, array_sub_single, field_decl, split_field_decl, array_decl, const_decl, let_decl, last_policy, next_decl}
use Rattle.snap_parse.specs.Machine.{AfterPolicy, the_end, close_let, close_round, else_part, AfterSequence, part_of_policy, AfterChoice, part_of_sequence, end_of_if, AfterEither, then_part, end_of_plain, AfterBoth, part_of_either, AfterSingle, part_of_both, end_of_not, AfterValue, end_of_value, close_place, State, wants, at_open, at_decl, past_field, at_constant, at_policy, at_sequence, at_choice, at_either, at_both, at_single, at_value, past_address, past_value, past_name, past_places, past_single, past_both, past_either, past_choice, past_sequence, past_policy, go, stuck, front, after_policy, after_sequence, after_choice, after_either, after_both, after_single, after_value, after_address, placed, after_places, after_name, literal_of, begin_value, begin_single, begin_both, begin_either, begin_choice, begin_sequence, begin_policy, begin_decl, after_field, on_literal, in_constant_value, step}
use Rattle.snap_parse.proofs.Completion.{again, IsPlaced, placed_alone, placed_equals, placed_arrow, placed_up, placed_down, placed_add, placed_sub, named_alone, named_equals, named_arrow, named_places, PolicyGoesOn, on_end, on_let, on_round, on_else, SequenceGoesOn, on_policy, ChoiceGoesOn, on_sequence, on_end_of_if, EitherGoesOn, on_then, on_plain, BothGoesOn, on_either, SingleGoesOn, on_both, on_end_of_not, ValueGoesOn, on_value, on_place, Completes, from_wants, from_open, from_decl, from_plain_field, from_split_field, from_constant, from_policy, from_sequence, from_choice, from_either, from_both, from_single, from_value, from_address, from_prefix, from_name, from_places, past_a_value, past_a_single, past_a_both, past_an_either, past_a_choice, past_a_sequence, past_a_policy, Follows, follows_go, follows_done}
use Rattle.snap_parse.proofs.NextToken.{same_kind-true}

module _ (limit free : ℕ) where
  -- behind the parts of a policy
  out_after_policy : (k : AfterPolicy) (p : PolicyTree) (ts : List Token) (r : SourceTree) → Follows limit free (after_policy k p (front ts)) ts r → PolicyGoesOn limit free k p ts r
  out_after_policy (the_end ds) p [] r follows_done = on_end
  out_after_policy (the_end ds) p (t ∷ ts) r h = elim h [ ]
  out_after_policy (close_let ds at name) p [] r h = elim h [ ]
  out_after_policy (close_let ds at name) p (t ∷ ts) r h = closed t.kind refl h
    where
      closed : (kind : Kind) → t.kind ≡ kind → Follows limit free (after_policy (close_let ds at name) p (Some (record { kind = kind; from = t.from; to = t.to }))) (t ∷ ts) r →
          PolicyGoesOn limit free (close_let ds at name) p (t ∷ ts) r
      closed (Kind.Sign Sign.CloseCurly) is (follows_go fits (from_decl more)) = on_let t is more
      closed _ is h = elim h [ ]
  out_after_policy (close_round make k) p [] r h = elim h [ ]
  out_after_policy (close_round make k) p (t ∷ ts) r h = closed t.kind refl h
    where
      closed : (kind : Kind) → t.kind ≡ kind → Follows limit free (after_policy (close_round make k) p (Some (record { kind = kind; from = t.from; to = t.to }))) (t ∷ ts) r →
          PolicyGoesOn limit free (close_round make k) p (t ∷ ts) r
      closed (Kind.Sign Sign.CloseRound) is (follows_go fits (past_a_single on)) = on_round t is on
      closed _ is h = elim h [ ]
  out_after_policy (else_part at e k) p [] r h = elim h [ ]
  out_after_policy (else_part at e k) p (t ∷ ts) r h = closed t.kind refl h
    where
      closed : (kind : Kind) → t.kind ≡ kind → Follows limit free (after_policy (else_part at e k) p (Some (record { kind = kind; from = t.from; to = t.to }))) (t ∷ ts) r →
          PolicyGoesOn limit free (else_part at e k) p (t ∷ ts) r
      closed (Kind.Key Key.Else) is (follows_go fits (from_choice c (on_end_of_if on))) = on_else t is c on
      closed _ is h = elim h [ ]

  out_after_sequence : (k : AfterSequence) (s : SequenceTree) (ts : List Token) (r : SourceTree) → Follows limit free (after_sequence k s (front ts)) ts r → SequenceGoesOn limit free k s ts r
  out_after_sequence (part_of_policy q k) s [] r h = on_policy policy_end (out_after_policy k (policy_more q s) [] r h)
  out_after_sequence (part_of_policy q k) s (t ∷ ts) r h = by_plus t.kind refl h
    where
      by_plus : (kind : Kind) → t.kind ≡ kind → Follows limit free (after_sequence (part_of_policy q k) s (Some (record { kind = kind; from = t.from; to = t.to }))) (t ∷ ts) r →
          SequenceGoesOn limit free (part_of_policy q k) s (t ∷ ts) r
      by_plus (Kind.Sign Sign.Plus) is (follows_go fits (from_sequence s2 (on_policy more on))) = on_policy (policy_plus t is s2 more) on
      by_plus kind is h = on_policy policy_end (out_after_policy k (policy_more q s) (t ∷ ts) r (again limit free (after_policy k (policy_more q s)) t kind ts r is h))

  out_after_choice : (k : AfterChoice) (c : ChoiceTree) (ts : List Token) (r : SourceTree) → Follows limit free (after_choice k c (front ts)) ts r → ChoiceGoesOn limit free k c ts r
  out_after_choice (part_of_sequence q k) c [] r h = on_sequence sequence_end (out_after_sequence k (sequence_more q c) [] r h)
  out_after_choice (part_of_sequence q k) c (t ∷ ts) r h = by_semicolon t.kind refl h
    where
      by_semicolon : (kind : Kind) → t.kind ≡ kind → Follows limit free (after_choice (part_of_sequence q k) c (Some (record { kind = kind; from = t.from; to = t.to }))) (t ∷ ts) r →
          ChoiceGoesOn limit free (part_of_sequence q k) c (t ∷ ts) r
      by_semicolon (Kind.Sign Sign.Semicolon) is (follows_go fits (from_choice c2 (on_sequence more on))) = on_sequence (sequence_semicolon t is c2 more) on
      by_semicolon kind is h = on_sequence sequence_end (out_after_sequence k (sequence_more q c) (t ∷ ts) r (again limit free (after_sequence k (sequence_more q c)) t kind ts r is h))
  out_after_choice (end_of_if at e p k) c ts r h = on_end_of_if (out_after_choice k (if_tree at e p c) ts r h)

  out_after_either : (k : AfterEither) (e : EitherTree) (ts : List Token) (r : SourceTree) → Follows limit free (after_either k e (front ts)) ts r → EitherGoesOn limit free k e ts r
  out_after_either (then_part at k) e [] r h = elim h [ ]
  out_after_either (then_part at k) e (t ∷ ts) r h = by_then t.kind refl h
    where
      by_then : (kind : Kind) → t.kind ≡ kind → Follows limit free (after_either (then_part at k) e (Some (record { kind = kind; from = t.from; to = t.to }))) (t ∷ ts) r →
          EitherGoesOn limit free (then_part at k) e (t ∷ ts) r
      by_then (Kind.Key Key.Then) is (follows_go fits (from_policy p on)) = on_then t is p on
      by_then _ is h = elim h [ ]
  out_after_either (end_of_plain k) e ts r h = on_plain (out_after_choice k (plain_tree e) ts r h)

  out_after_both : (k : AfterBoth) (b : BothTree) (ts : List Token) (r : SourceTree) → Follows limit free (after_both k b (front ts)) ts r → BothGoesOn limit free k b ts r
  out_after_both (part_of_either q k) b [] r h = on_either either_end (out_after_either k (either_more q b) [] r h)
  out_after_both (part_of_either q k) b (t ∷ ts) r h = by_or t.kind refl h
    where
      by_or : (kind : Kind) → t.kind ≡ kind → Follows limit free (after_both (part_of_either q k) b (Some (record { kind = kind; from = t.from; to = t.to }))) (t ∷ ts) r →
          BothGoesOn limit free (part_of_either q k) b (t ∷ ts) r
      by_or (Kind.Sign Sign.Or) is (follows_go fits (from_both b2 (on_either more on))) = on_either (either_or t is b2 more) on
      by_or kind is h = on_either either_end (out_after_either k (either_more q b) (t ∷ ts) r (again limit free (after_either k (either_more q b)) t kind ts r is h))

  out_after_single : (k : AfterSingle) (s : SingleTree) (ts : List Token) (r : SourceTree) → Follows limit free (after_single k s (front ts)) ts r → SingleGoesOn limit free k s ts r
  out_after_single (part_of_both q k) s [] r h = on_both both_end (out_after_both k (both_more q s) [] r h)
  out_after_single (part_of_both q k) s (t ∷ ts) r h = by_and t.kind refl h
    where
      by_and : (kind : Kind) → t.kind ≡ kind → Follows limit free (after_single (part_of_both q k) s (Some (record { kind = kind; from = t.from; to = t.to }))) (t ∷ ts) r →
          SingleGoesOn limit free (part_of_both q k) s (t ∷ ts) r
      by_and (Kind.Sign Sign.And) is (follows_go fits (from_single s2 (on_both more on))) = on_both (both_and t is s2 more) on
      by_and kind is h = on_both both_end (out_after_both k (both_more q s) (t ∷ ts) r (again limit free (after_both k (both_more q s)) t kind ts r is h))
  out_after_single (end_of_not at k) s ts r h = on_end_of_not (out_after_single k (not_tree at s) ts r h)

  -- behind a name
  data PlacedEnds (name : Span) (vs : List Value) (k : AfterSingle) (r : SourceTree) : List Token → Type 0 where
    placed_ends : {s : SingleTree} {ts ts' : List Token} → IsPlaced name vs ts s ts' → SingleGoesOn limit free k s ts' r → PlacedEnds name vs k r ts

  out_placed : (name : Span) (vs : List Value) (k : AfterSingle) (ts : List Token) (r : SourceTree) → Follows limit free (placed name vs k (front ts)) ts r → PlacedEnds name vs k r ts
  out_placed name vs k [] r h = placed_ends placed_alone (out_after_single k (bare_tree name vs) [] r h)
  out_placed name vs k (t ∷ ts) r h = by_sign t.kind refl h
    where
      by_sign : (kind : Kind) → t.kind ≡ kind → Follows limit free (placed name vs k (Some (record { kind = kind; from = t.from; to = t.to }))) (t ∷ ts) r → PlacedEnds name vs k r (t ∷ ts)
      by_sign (Kind.Sign Sign.Equals) is (follows_go fits (from_value v (on_value on))) = placed_ends (placed_equals t is v) on
      by_sign (Kind.Sign Sign.Arrow) is (follows_go fits (from_value v (on_value on))) = placed_ends (placed_arrow t is v) on
      by_sign (Kind.Sign Sign.PlusPlus) is (follows_go fits (past_a_single on)) = placed_ends (placed_up t is) on
      by_sign (Kind.Sign Sign.MinusMinus) is (follows_go fits (past_a_single on)) = placed_ends (placed_down t is) on
      by_sign (Kind.Sign Sign.PlusEquals) is (follows_go fits (from_value v (on_value on))) = placed_ends (placed_add t is v) on
      by_sign (Kind.Sign Sign.MinusEquals) is (follows_go fits (from_value v (on_value on))) = placed_ends (placed_sub t is v) on
      by_sign kind is h = placed_ends placed_alone (out_after_single k (bare_tree name vs) (t ∷ ts) r (again limit free (after_single k (bare_tree name vs)) t kind ts r is h))

  out_places : (name : Span) (vs : List Value) (k : AfterSingle) (ts : List Token) (r : SourceTree) → Follows limit free (after_places name vs k (front ts)) ts r →
      Completes limit free (past_places name vs k) ts r
  out_places name vs k [] r h = elim (out_placed name vs k [] r h) [ placed_ends pl on ↦ from_places places_end pl on ]
  out_places name vs k (t ∷ ts) r h = by_sign t.kind refl h
    where
      by_sign : (kind : Kind) → t.kind ≡ kind → Follows limit free (after_places name vs k (Some (record { kind = kind; from = t.from; to = t.to }))) (t ∷ ts) r →
          Completes limit free (past_places name vs k) (t ∷ ts) r
      by_sign (Kind.Sign Sign.OpenSquare) is (follows_go fits (from_value v (on_place t1 is1 more pl on))) = from_places (places_more t t1 is v is1 more) pl on
      by_sign kind is h = elim (out_placed name vs k (t ∷ ts) r (again limit free (placed name vs k) t kind ts r is h)) [ placed_ends pl on ↦ from_places places_end pl on ]

  out_name : (name : Span) (k : AfterSingle) (ts : List Token) (r : SourceTree) → Follows limit free (after_name name k (front ts)) ts r → Completes limit free (past_name name k) ts r
  out_name name k [] r h = from_name named_alone (out_after_single k (name_tree name) [] r h)
  out_name name k (t ∷ ts) r h = by_sign t.kind refl h
    where
      by_sign : (kind : Kind) → t.kind ≡ kind → Follows limit free (after_name name k (Some (record { kind = kind; from = t.from; to = t.to }))) (t ∷ ts) r →
          Completes limit free (past_name name k) (t ∷ ts) r
      by_sign (Kind.Sign Sign.Equals) is (follows_go fits (from_value v (on_value on))) = from_name (named_equals t is v) on
      by_sign (Kind.Sign Sign.Arrow) is (follows_go fits (from_value v (on_value on))) = from_name (named_arrow t is v) on
      by_sign (Kind.Sign Sign.OpenSquare) is (follows_go fits (from_value v (on_place t1 is1 more pl on))) = from_name (named_places t t1 is v is1 more pl) on
      by_sign kind is h = from_name named_alone (out_after_single k (name_tree name) (t ∷ ts) r (again limit free (after_single k (name_tree name)) t kind ts r is h))

  -- values
  out_after_value : (k : AfterValue) (v : Value) (ts : List Token) (r : SourceTree) → Follows limit free (after_value k v (front ts)) ts r → ValueGoesOn limit free k v ts r
  out_after_value (end_of_value make k) v ts r h = on_value (out_after_single k (make v) ts r h)
  out_after_value (close_place name vs k) v [] r h = elim h [ ]
  out_after_value (close_place name vs k) v (t ∷ ts) r h = closed t.kind refl h
    where
      closed : (kind : Kind) → t.kind ≡ kind → Follows limit free (after_value (close_place name vs k) v (Some (record { kind = kind; from = t.from; to = t.to }))) (t ∷ ts) r →
          ValueGoesOn limit free (close_place name vs k) v (t ∷ ts) r
      closed (Kind.Sign Sign.CloseSquare) is (follows_go fits (from_places more pl on)) = on_place t is more pl on
      closed _ is h = elim h [ ]

  out_address : (address : Span) (k : AfterValue) (ts : List Token) (r : SourceTree) → Follows limit free (after_address address k (front ts)) ts r →
      Completes limit free (past_address address k) ts r
  out_address address k [] r h = from_address (out_after_value k (Value.Literal (Literal.Address address)) [] r h)
  out_address address k (t ∷ ts) r h = by_slash t.kind refl ts h
    where
      by_slash : (kind : Kind) → t.kind ≡ kind → (ts : List Token) → Follows limit free (after_address address k (Some (record { kind = kind; from = t.from; to = t.to }))) (t ∷ ts) r →
          Completes limit free (past_address address k) (t ∷ ts) r
      by_slash (Kind.Sign Sign.Slash) is ts (follows_go fits (from_wants t1 is1 deep (past_a_value on))) = from_prefix t t1 is is1 on
      by_slash kind is ts h = from_address (out_after_value k (Value.Literal (Literal.Address address)) (t ∷ ts) r (again limit free (after_value k (Value.Literal (Literal.Address address))) t kind ts r is h))

  out_value : (k : AfterValue) (t : Token) (kind : Kind) (ts : List Token) (r : SourceTree) → t.kind ≡ kind →
      Follows limit free (begin_value k t kind) (t ∷ ts) r → Completes limit free (at_value k) (t ∷ ts) r
  out_value k t Kind.Word ts r is (follows_go fits (past_a_value on)) = from_value (name_value t is) on
  out_value k t Kind.Address ts r is (follows_go fits (from_address on)) = from_value (literal_value (address_literal t is)) on
  out_value k t Kind.Address ts r is (follows_go fits (from_prefix t1 t2 is1 is2 on)) = from_value (prefix_value t t1 t2 is is1 is2) on
  out_value k t Kind.Number ts r is (follows_go fits (past_a_value on)) = from_value (literal_value (number_literal t is)) on
  out_value k t (Kind.Key Key.True) ts r is (follows_go fits (past_a_value on)) = from_value (literal_value (true_literal t is)) on
  out_value k t (Kind.Key Key.False) ts r is (follows_go fits (past_a_value on)) = from_value (literal_value (false_literal t is)) on
  out_value k t _ ts r is h = elim h [ ]

  -- the beginnings of parts
  out_single : (k : AfterSingle) (t : Token) (kind : Kind) (ts : List Token) (r : SourceTree) → t.kind ≡ kind →
      Follows limit free (begin_single k t kind) (t ∷ ts) r → Completes limit free (at_single k) (t ∷ ts) r
  out_single k t (Kind.Sign Sign.Not) ts r is (follows_go fits (from_single inner (on_end_of_not on))) =
      from_single (not_single t is (λ active. omega (arith, fits active)) inner) on
  out_single k t (Kind.Key Key.Id) ts r is (follows_go fits (past_a_single on)) = from_single (id_single t is) on
  out_single k t (Kind.Key Key.Drop) ts r is (follows_go fits (past_a_single on)) = from_single (drop_single t is) on
  out_single k t (Kind.Sign Sign.OpenRound) ts r is (follows_go fits (from_policy p (on_round t1 is1 on))) =
      from_single (group_single t t1 is (λ active. omega (arith, fits active)) p is1) on
  out_single k t (Kind.Key Key.Atomic) ts r is (follows_go fits (from_open t1 is1 deep p (on_round t2 is2 on))) =
      from_single (atomic_single t t1 t2 is is1 (λ active. omega (arith, deep active)) p is2) on
  out_single k t Kind.Word ts r is (follows_go fits (from_name named_alone on)) = from_single (name_single t is) on
  out_single k t Kind.Word ts r is (follows_go fits (from_name (named_equals t1 is1 v) on)) = from_single (test_single t t1 is is1 v) on
  out_single k t Kind.Word ts r is (follows_go fits (from_name (named_arrow t1 is1 v) on)) = from_single (set_single t t1 is is1 v) on
  out_single k t Kind.Word ts r is (follows_go fits (from_name (named_places a b isa v isb more placed_alone) on)) =
      from_single (bare_single t is (places a b isa v isb more)) on
  out_single k t Kind.Word ts r is (follows_go fits (from_name (named_places a b isa v isb more (placed_equals t1 is1 w)) on)) =
      from_single (array_test_single t t1 is (places a b isa v isb more) is1 w) on
  out_single k t Kind.Word ts r is (follows_go fits (from_name (named_places a b isa v isb more (placed_arrow t1 is1 w)) on)) =
      from_single (array_set_single t t1 is (places a b isa v isb more) is1 w) on
  out_single k t Kind.Word ts r is (follows_go fits (from_name (named_places a b isa v isb more (placed_up t1 is1)) on)) =
      from_single (up_single t t1 is (places a b isa v isb more) is1) on
  out_single k t Kind.Word ts r is (follows_go fits (from_name (named_places a b isa v isb more (placed_down t1 is1)) on)) =
      from_single (down_single t t1 is (places a b isa v isb more) is1) on
  out_single k t Kind.Word ts r is (follows_go fits (from_name (named_places a b isa v isb more (placed_add t1 is1 w)) on)) =
      from_single (array_add_single t t1 is (places a b isa v isb more) is1 w) on
  out_single k t Kind.Word ts r is (follows_go fits (from_name (named_places a b isa v isb more (placed_sub t1 is1 w)) on)) =
      from_single (array_sub_single t t1 is (places a b isa v isb more) is1 w) on
  out_single k t _ ts r is h = elim h [ ]

  out_both : (k : AfterBoth) (t : Token) (kind : Kind) (ts : List Token) (r : SourceTree) → t.kind ≡ kind →
      Follows limit free (begin_both k t kind) (t ∷ ts) r → Completes limit free (at_both k) (t ∷ ts) r
  out_both k t kind ts r is h = both_of (out_single (part_of_both (both_begin t.from) k) t kind ts r is h)
    where
      both_of : Completes limit free (at_single (part_of_both (both_begin t.from) k)) (t ∷ ts) r → Completes limit free (at_both k) (t ∷ ts) r
      both_of (from_single s (on_both more on)) = from_both (both s more) on

  out_either : (k : AfterEither) (t : Token) (kind : Kind) (ts : List Token) (r : SourceTree) → t.kind ≡ kind →
      Follows limit free (begin_either k t kind) (t ∷ ts) r → Completes limit free (at_either k) (t ∷ ts) r
  out_either k t kind ts r is h = either_of (out_both (part_of_either (either_begin t.from) k) t kind ts r is h)
    where
      either_of : Completes limit free (at_both (part_of_either (either_begin t.from) k)) (t ∷ ts) r → Completes limit free (at_either k) (t ∷ ts) r
      either_of (from_both b (on_either more on)) = from_either (either b more) on

  plain_of : (k : AfterChoice) (t : Token) (ts : List Token) (r : SourceTree) → Completes limit free (at_either (end_of_plain k)) (t ∷ ts) r → Completes limit free (at_choice k) (t ∷ ts) r
  plain_of k t ts r (from_either e (on_plain on)) = from_choice (plain_choice e) on

  out_choice : (k : AfterChoice) (t : Token) (kind : Kind) (ts : List Token) (r : SourceTree) → t.kind ≡ kind →
      Follows limit free (begin_choice k t kind) (t ∷ ts) r → Completes limit free (at_choice k) (t ∷ ts) r
  out_choice k t (Kind.Key Key.If) ts r is (follows_go fits (from_either e (on_then t1 is1 p (on_else t2 is2 c on)))) =
      from_choice (if_choice t t1 t2 is (λ active. omega (arith, fits active)) e is1 p is2 c) on
  out_choice k t kind ts r is h = plain_of k t ts r (out_either (end_of_plain k) t kind ts r is h)

  out_sequence : (k : AfterSequence) (t : Token) (kind : Kind) (ts : List Token) (r : SourceTree) → t.kind ≡ kind →
      Follows limit free (begin_sequence k t kind) (t ∷ ts) r → Completes limit free (at_sequence k) (t ∷ ts) r
  out_sequence k t kind ts r is h = sequence_of (out_choice (part_of_sequence (sequence_begin t.from) k) t kind ts r is h)
    where
      sequence_of : Completes limit free (at_choice (part_of_sequence (sequence_begin t.from) k)) (t ∷ ts) r → Completes limit free (at_sequence k) (t ∷ ts) r
      sequence_of (from_choice c (on_sequence more on)) = from_sequence (sequence c more) on

  out_policy : (k : AfterPolicy) (t : Token) (kind : Kind) (ts : List Token) (r : SourceTree) → t.kind ≡ kind →
      Follows limit free (begin_policy k t kind) (t ∷ ts) r → Completes limit free (at_policy k) (t ∷ ts) r
  out_policy k t kind ts r is h = policy_of (out_sequence (part_of_policy (policy_begin t.from) k) t kind ts r is h)
    where
      policy_of : Completes limit free (at_sequence (part_of_policy (policy_begin t.from) k)) (t ∷ ts) r → Completes limit free (at_policy k) (t ∷ ts) r
      policy_of (from_sequence s (on_policy more on)) = from_policy (policy s more) on

  program_of : (ds : List DeclTree) (t : Token) (ts : List Token) (r : SourceTree) → Completes limit free (at_policy (the_end ds)) (t ∷ ts) r → Completes limit free (at_decl ds) (t ∷ ts) r
  program_of ds t ts r (from_policy p on_end) = from_decl (last_policy p)

  out_decl : (ds : List DeclTree) (t : Token) (kind : Kind) (ts : List Token) (r : SourceTree) → t.kind ≡ kind →
      Follows limit free (begin_decl ds t kind) (t ∷ ts) r → Completes limit free (at_decl ds) (t ∷ ts) r
  out_decl ds t (Kind.Key Key.Field) ts r is (follows_go fits (from_wants t1 is1 deep (from_plain_field t2 is2 more))) =
      from_decl (next_decl (field_decl t t1 t2 is is1 is2) more)
  out_decl ds t (Kind.Key Key.Field) ts r is (follows_go fits (from_wants t1 is1 deep (from_split_field t2 t3 t4 is2 is3 is4 more))) =
      from_decl (next_decl (split_field_decl t t1 t2 t3 t4 is is1 is2 is3 is4) more)
  out_decl ds t (Kind.Key Key.Array) ts r is (follows_go fits (from_wants t1 is1 deep (from_wants t2 is2 deep2 (from_decl more)))) =
      from_decl (next_decl (array_decl t t1 t2 is is1 is2) more)
  out_decl ds t (Kind.Key Key.Const) ts r is (follows_go fits (from_wants t1 is1 deep (from_wants t2 is2 deep2 (from_constant t3 l is3 more)))) =
      from_decl (next_decl (const_decl t t1 t2 t3 is is1 is2 l is3) more)
  out_decl ds t (Kind.Key Key.Let) ts r is (follows_go fits (from_wants t1 is1 deep (from_open t2 is2 deep2 p (on_let t3 is3 more)))) =
      from_decl (next_decl (let_decl t t1 t2 t3 is is1 is2 (λ active. omega (arith, deep2 active)) p is3) more)
  out_decl ds t kind ts r is h = program_of ds t ts r (out_policy (the_end ds) t kind ts r is h)

  out_field : (ds : List DeclTree) (at : ℕ) (name : Span) (t : Token) (kind : Kind) (ts : List Token) (r : SourceTree) → t.kind ≡ kind →
      Follows limit free (after_field ds at name (Some (record { kind = kind; from = t.from; to = t.to }))) (t ∷ ts) r → Completes limit free (past_field ds at name) (t ∷ ts) r
  out_field ds at name t (Kind.Sign Sign.Slash) ts r is (follows_go fits (from_wants t1 is1 deep (from_wants t2 is2 deep2 (from_decl more)))) =
      from_split_field t t1 t2 is is1 is2 more
  out_field ds at name t (Kind.Sign Sign.Semicolon) ts r is (follows_go fits (from_decl more)) = from_plain_field t is more
  out_field ds at name t _ ts r is h = elim h [ ]

  out_constant : (ds : List DeclTree) (at : ℕ) (name : Span) (t : Token) (kind : Kind) (ts : List Token) (r : SourceTree) → t.kind ≡ kind →
      Follows limit free (on_literal (literal_of kind (span_of t)) (in_constant_value ds at name)) (t ∷ ts) r → Completes limit free (at_constant ds at name) (t ∷ ts) r
  out_constant ds at name t Kind.Number ts r is (follows_go fits (from_wants t1 is1 deep (from_decl more))) = from_constant t1 (number_literal t is) is1 more
  out_constant ds at name t Kind.Address ts r is (follows_go fits (from_wants t1 is1 deep (from_decl more))) = from_constant t1 (address_literal t is) is1 more
  out_constant ds at name t (Kind.Key Key.True) ts r is (follows_go fits (from_wants t1 is1 deep (from_decl more))) = from_constant t1 (true_literal t is) is1 more
  out_constant ds at name t (Kind.Key Key.False) ts r is (follows_go fits (from_wants t1 is1 deep (from_decl more))) = from_constant t1 (false_literal t is) is1 more
  out_constant ds at name t _ ts r is h = elim h [ ]

  out_wants : (kind : Kind) (next : Token → State) (t : Token) (ts : List Token) (r : SourceTree) (b : Bool) → same_kind t.kind kind ≡ b →
      Follows limit free (cond b (go (next t)) stuck) (t ∷ ts) r → Completes limit free (wants kind next) (t ∷ ts) r
  out_wants kind next t ts r true is (follows_go deep on) = from_wants t (same_kind-true _ _ is) deep on
  out_wants kind next t ts r false is h = elim h [ ]

  out_open : (kind : Kind) (k : AfterPolicy) (t : Token) (ts : List Token) (r : SourceTree) (b : Bool) → same_kind t.kind kind ≡ b →
      Follows limit free (cond b (go (at_policy k)) stuck) (t ∷ ts) r → Completes limit free (at_open kind k) (t ∷ ts) r
  out_open kind k t ts r true is (follows_go deep (from_policy p on)) = from_open t (same_kind-true _ _ is) deep p on
  out_open kind k t ts r false is h = elim h [ ]

  pub out : (st : State) (ts : List Token) (r : SourceTree) → Follows limit free (step st (front ts)) ts r → Completes limit free st ts r
  out (wants kind next) (t ∷ ts) r h = out_wants kind next t ts r (same_kind t.kind kind) refl h
  out (at_open kind k) (t ∷ ts) r h = out_open kind k t ts r (same_kind t.kind kind) refl h
  out (at_decl ds) (t ∷ ts) r h = out_decl ds t t.kind ts r refl h
  out (past_field ds at name) (t ∷ ts) r h = out_field ds at name t t.kind ts r refl h
  out (at_constant ds at name) (t ∷ ts) r h = out_constant ds at name t t.kind ts r refl h
  out (at_policy k) (t ∷ ts) r h = out_policy k t t.kind ts r refl h
  out (at_sequence k) (t ∷ ts) r h = out_sequence k t t.kind ts r refl h
  out (at_choice k) (t ∷ ts) r h = out_choice k t t.kind ts r refl h
  out (at_either k) (t ∷ ts) r h = out_either k t t.kind ts r refl h
  out (at_both k) (t ∷ ts) r h = out_both k t t.kind ts r refl h
  out (at_single k) (t ∷ ts) r h = out_single k t t.kind ts r refl h
  out (at_value k) (t ∷ ts) r h = out_value k t t.kind ts r refl h
  out (past_address address k) ts r h = out_address address k ts r h
  out (past_value v k) ts r h = past_a_value (out_after_value k v ts r h)
  out (past_name name k) ts r h = out_name name k ts r h
  out (past_places name vs k) ts r h = out_places name vs k ts r h
  out (past_single s k) ts r h = past_a_single (out_after_single k s ts r h)
  out (past_both b k) ts r h = past_a_both (out_after_both k b ts r h)
  out (past_either e k) ts r h = past_an_either (out_after_either k e ts r h)
  out (past_choice c k) ts r h = past_a_choice (out_after_choice k c ts r h)
  out (past_sequence s k) ts r h = past_a_sequence (out_after_sequence k s ts r h)
  out (past_policy p k) ts r h = past_a_policy (out_after_policy k p ts r h)
  out _ [] r h = elim h [ ]
