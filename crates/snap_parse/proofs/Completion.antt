-- What completes a state of the machine to a program, in the words of the grammar.
use Rattle.std.proofs.Common.{length, ◌≡◌, ℕ, suc, ◌≤◌, List, [], ◌∷◌, ◌++◌, Option, Some, None, sym, subst}
use Rattle.snap_parse.specs.Kinds.{Token, Kind, Key, Sign}
use Rattle.snap_parse.specs.Tree.{Span, Literal, Value, PolicyTree, policy_more, SequenceTree, sequence_more, ChoiceTree, if_tree, plain_tree, EitherTree, either_more, BothTree, both_more, SingleTree, not_tree, name_tree, test_tree, set_tree, bare_tree, array_test_tree, array_set_tree, up_tree, down_tree, array_add_tree, array_sub_tree, DeclTree, field_tree, const_tree, let_tree, SourceTree, span_of}
use Rattle.snap_parse.specs.Grammar.{IsLiteral, IsValue, IsPlacesRest, IsPolicy, IsPolicyRest, IsSequence, IsSequenceRest, IsChoice, IsEither, IsEitherRest, IsBoth, IsBothRest, IsSingle, IsProgramRest}
use Rattle.snap_parse.specs.Machine.{AfterPolicy, the_end, close_let, close_round, else_part, AfterSequence, part_of_policy, AfterChoice, part_of_sequence, end_of_if, AfterEither, then_part, end_of_plain, AfterBoth, part_of_either, AfterSingle, part_of_both, end_of_not, AfterValue, end_of_value, close_place, policy_depth, sequence_depth, choice_depth, either_depth, both_depth, single_depth, State, wants, at_open, at_decl, past_field, at_constant, at_policy, at_sequence, at_choice, at_either, at_both, at_single, at_value, past_address, past_value, past_name, past_places, past_single, past_both, past_either, past_choice, past_sequence, past_policy, state_depth, Move, go, done}

-- what stands behind a name and its places in a single
pub data IsPlaced (name : Span) (vs : List Value) : List Token → SingleTree → List Token → Type 0 where
  placed_alone : {ts : List Token} → IsPlaced name vs ts (bare_tree name vs) ts
  placed_equals : {ts rest : List Token} {v : Value} (t : Token) →
      t.kind ≡ Kind.Sign Sign.Equals → IsValue ts v rest → IsPlaced name vs (t ∷ ts) (array_test_tree name vs v) rest
  placed_arrow : {ts rest : List Token} {v : Value} (t : Token) →
      t.kind ≡ Kind.Sign Sign.Arrow → IsValue ts v rest → IsPlaced name vs (t ∷ ts) (array_set_tree name vs v) rest
  placed_up : {rest : List Token} (t : Token) → t.kind ≡ Kind.Sign Sign.PlusPlus → IsPlaced name vs (t ∷ rest) (up_tree name vs) rest
  placed_down : {rest : List Token} (t : Token) → t.kind ≡ Kind.Sign Sign.MinusMinus → IsPlaced name vs (t ∷ rest) (down_tree name vs) rest
  placed_add : {ts rest : List Token} {v : Value} (t : Token) →
      t.kind ≡ Kind.Sign Sign.PlusEquals → IsValue ts v rest → IsPlaced name vs (t ∷ ts) (array_add_tree name vs v) rest
  placed_sub : {ts rest : List Token} {v : Value} (t : Token) →
      t.kind ≡ Kind.Sign Sign.MinusEquals → IsValue ts v rest → IsPlaced name vs (t ∷ ts) (array_sub_tree name vs v) rest

-- what stands behind a name in a single
pub data IsNamed (name : Span) : List Token → SingleTree → List Token → Type 0 where
  named_alone : {ts : List Token} → IsNamed name ts (name_tree name) ts
  named_equals : {ts rest : List Token} {v : Value} (t : Token) →
      t.kind ≡ Kind.Sign Sign.Equals → IsValue ts v rest → IsNamed name (t ∷ ts) (test_tree name v) rest
  named_arrow : {ts rest : List Token} {v : Value} (t : Token) →
      t.kind ≡ Kind.Sign Sign.Arrow → IsValue ts v rest → IsNamed name (t ∷ ts) (set_tree name v) rest
  named_places : {ts ts1 ts2 rest : List Token} {v : Value} {vs : List Value} {s : SingleTree} (t t1 : Token) →
      t.kind ≡ Kind.Sign Sign.OpenSquare → IsValue ts v (t1 ∷ ts1) → t1.kind ≡ Kind.Sign Sign.CloseSquare →
      IsPlacesRest (v ∷ []) ts1 vs ts2 → IsPlaced name vs ts2 s rest → IsNamed name (t ∷ ts) s rest

-- the tokens complete to the program what was read, the last part of it the tree
mutual
  pub data PolicyGoesOn (limit free : ℕ) : AfterPolicy → PolicyTree → List Token → SourceTree → Type 0 where
    on_end : {ds : List DeclTree} {p : PolicyTree} → PolicyGoesOn limit free (the_end ds) p [] (record { decls = ds; policy = p })
    on_let : {ds : List DeclTree} {at : ℕ} {name : Span} {p : PolicyTree} {ts : List Token} {r : SourceTree} (t : Token) →
        t.kind ≡ Kind.Sign Sign.CloseCurly → IsProgramRest limit free (ds ++ let_tree at name p ∷ []) ts r →
        PolicyGoesOn limit free (close_let ds at name) p (t ∷ ts) r
    on_round : {make : PolicyTree → SingleTree} {k : AfterSingle} {p : PolicyTree} {ts : List Token} {r : SourceTree} (t : Token) →
        t.kind ≡ Kind.Sign Sign.CloseRound → SingleGoesOn limit free k (make p) ts r →
        PolicyGoesOn limit free (close_round make k) p (t ∷ ts) r
    on_else : {at : ℕ} {e : EitherTree} {k : AfterChoice} {p : PolicyTree} {c : ChoiceTree} {ts ts' : List Token} {r : SourceTree} (t : Token) →
        t.kind ≡ Kind.Key Key.Else → IsChoice limit free (suc (choice_depth k)) ts c ts' → ChoiceGoesOn limit free k (if_tree at e p c) ts' r →
        PolicyGoesOn limit free (else_part at e k) p (t ∷ ts) r

  pub data SequenceGoesOn (limit free : ℕ) : AfterSequence → SequenceTree → List Token → SourceTree → Type 0 where
    on_policy : {k : AfterPolicy} {s : SequenceTree} {q p : PolicyTree} {ts ts' : List Token} {r : SourceTree} →
        IsPolicyRest limit free (policy_depth k) (policy_more q s) ts p ts' → PolicyGoesOn limit free k p ts' r →
        SequenceGoesOn limit free (part_of_policy q k) s ts r

  pub data ChoiceGoesOn (limit free : ℕ) : AfterChoice → ChoiceTree → List Token → SourceTree → Type 0 where
    on_sequence : {k : AfterSequence} {c : ChoiceTree} {q s : SequenceTree} {ts ts' : List Token} {r : SourceTree} →
        IsSequenceRest limit free (sequence_depth k) (sequence_more q c) ts s ts' → SequenceGoesOn limit free k s ts' r →
        ChoiceGoesOn limit free (part_of_sequence q k) c ts r
    on_end_of_if : {at : ℕ} {e : EitherTree} {p : PolicyTree} {k : AfterChoice} {c : ChoiceTree} {ts : List Token} {r : SourceTree} →
        ChoiceGoesOn limit free k (if_tree at e p c) ts r → ChoiceGoesOn limit free (end_of_if at e p k) c ts r

  pub data EitherGoesOn (limit free : ℕ) : AfterEither → EitherTree → List Token → SourceTree → Type 0 where
    on_then : {at : ℕ} {k : AfterChoice} {e : EitherTree} {p : PolicyTree} {ts ts' : List Token} {r : SourceTree} (t : Token) →
        t.kind ≡ Kind.Key Key.Then → IsPolicy limit free (suc (choice_depth k)) ts p ts' → PolicyGoesOn limit free (else_part at e k) p ts' r →
        EitherGoesOn limit free (then_part at k) e (t ∷ ts) r
    on_plain : {k : AfterChoice} {e : EitherTree} {ts : List Token} {r : SourceTree} →
        ChoiceGoesOn limit free k (plain_tree e) ts r → EitherGoesOn limit free (end_of_plain k) e ts r

  pub data BothGoesOn (limit free : ℕ) : AfterBoth → BothTree → List Token → SourceTree → Type 0 where
    on_either : {k : AfterEither} {b : BothTree} {q e : EitherTree} {ts ts' : List Token} {r : SourceTree} →
        IsEitherRest limit free (either_depth k) (either_more q b) ts e ts' → EitherGoesOn limit free k e ts' r →
        BothGoesOn limit free (part_of_either q k) b ts r

  pub data SingleGoesOn (limit free : ℕ) : AfterSingle → SingleTree → List Token → SourceTree → Type 0 where
    on_both : {k : AfterBoth} {s : SingleTree} {q b : BothTree} {ts ts' : List Token} {r : SourceTree} →
        IsBothRest limit free (both_depth k) (both_more q s) ts b ts' → BothGoesOn limit free k b ts' r →
        SingleGoesOn limit free (part_of_both q k) s ts r
    on_end_of_not : {at : ℕ} {k : AfterSingle} {s : SingleTree} {ts : List Token} {r : SourceTree} →
        SingleGoesOn limit free k (not_tree at s) ts r → SingleGoesOn limit free (end_of_not at k) s ts r

pub data ValueGoesOn (limit free : ℕ) : AfterValue → Value → List Token → SourceTree → Type 0 where
  on_value : {make : Value → SingleTree} {k : AfterSingle} {v : Value} {ts : List Token} {r : SourceTree} →
      SingleGoesOn limit free k (make v) ts r → ValueGoesOn limit free (end_of_value make k) v ts r
  on_place : {name : Span} {vs ws : List Value} {k : AfterSingle} {v : Value} {s : SingleTree} {ts ts1 ts2 : List Token} {r : SourceTree} (t : Token) →
      t.kind ≡ Kind.Sign Sign.CloseSquare → IsPlacesRest (vs ++ v ∷ []) ts ws ts1 → IsPlaced name ws ts1 s ts2 → SingleGoesOn limit free k s ts2 r →
      ValueGoesOn limit free (close_place name vs k) v (t ∷ ts) r

-- the tokens complete the state to the program
pub data Completes (limit free : ℕ) : State → List Token → SourceTree → Type 0 where
  from_wants : {kind : Kind} {next : Token → State} {ts : List Token} {r : SourceTree} (t : Token) →
      t.kind ≡ kind → (free ≤ length ts → state_depth (next t) ≤ limit) → Completes limit free (next t) ts r →
      Completes limit free (wants kind next) (t ∷ ts) r
  from_open : {kind : Kind} {k : AfterPolicy} {p : PolicyTree} {ts ts' : List Token} {r : SourceTree} (t : Token) →
      t.kind ≡ kind → (free ≤ length ts → policy_depth k ≤ limit) → IsPolicy limit free (policy_depth k) ts p ts' → PolicyGoesOn limit free k p ts' r →
      Completes limit free (at_open kind k) (t ∷ ts) r
  from_decl : {ds : List DeclTree} {ts : List Token} {r : SourceTree} → IsProgramRest limit free ds ts r → Completes limit free (at_decl ds) ts r
  from_plain_field : {ds : List DeclTree} {at : ℕ} {name : Span} {ts : List Token} {r : SourceTree} (t : Token) →
      t.kind ≡ Kind.Sign Sign.Semicolon → IsProgramRest limit free (ds ++ field_tree at name None ∷ []) ts r →
      Completes limit free (past_field ds at name) (t ∷ ts) r
  from_split_field : {ds : List DeclTree} {at : ℕ} {name : Span} {ts : List Token} {r : SourceTree} (t t1 t2 : Token) →
      t.kind ≡ Kind.Sign Sign.Slash → t1.kind ≡ Kind.Number → t2.kind ≡ Kind.Sign Sign.Semicolon →
      IsProgramRest limit free (ds ++ field_tree at name (Some (span_of t1)) ∷ []) ts r →
      Completes limit free (past_field ds at name) (t ∷ t1 ∷ t2 ∷ ts) r
  from_constant : {ds : List DeclTree} {at : ℕ} {name : Span} {l : Literal} {ts ts' : List Token} {r : SourceTree} (t : Token) →
      IsLiteral ts l (t ∷ ts') → t.kind ≡ Kind.Sign Sign.Semicolon → IsProgramRest limit free (ds ++ const_tree at name l ∷ []) ts' r →
      Completes limit free (at_constant ds at name) ts r
  from_policy : {k : AfterPolicy} {p : PolicyTree} {ts ts' : List Token} {r : SourceTree} →
      IsPolicy limit free (policy_depth k) ts p ts' → PolicyGoesOn limit free k p ts' r → Completes limit free (at_policy k) ts r
  from_sequence : {k : AfterSequence} {s : SequenceTree} {ts ts' : List Token} {r : SourceTree} →
      IsSequence limit free (sequence_depth k) ts s ts' → SequenceGoesOn limit free k s ts' r → Completes limit free (at_sequence k) ts r
  from_choice : {k : AfterChoice} {c : ChoiceTree} {ts ts' : List Token} {r : SourceTree} →
      IsChoice limit free (choice_depth k) ts c ts' → ChoiceGoesOn limit free k c ts' r → Completes limit free (at_choice k) ts r
  from_either : {k : AfterEither} {e : EitherTree} {ts ts' : List Token} {r : SourceTree} →
      IsEither limit free (either_depth k) ts e ts' → EitherGoesOn limit free k e ts' r → Completes limit free (at_either k) ts r
  from_both : {k : AfterBoth} {b : BothTree} {ts ts' : List Token} {r : SourceTree} →
      IsBoth limit free (both_depth k) ts b ts' → BothGoesOn limit free k b ts' r → Completes limit free (at_both k) ts r
  from_single : {k : AfterSingle} {s : SingleTree} {ts ts' : List Token} {r : SourceTree} →
      IsSingle limit free (single_depth k) ts s ts' → SingleGoesOn limit free k s ts' r → Completes limit free (at_single k) ts r
  from_value : {k : AfterValue} {v : Value} {ts ts' : List Token} {r : SourceTree} →
      IsValue ts v ts' → ValueGoesOn limit free k v ts' r → Completes limit free (at_value k) ts r
  from_address : {address : Span} {k : AfterValue} {ts : List Token} {r : SourceTree} →
      ValueGoesOn limit free k (Value.Literal (Literal.Address address)) ts r → Completes limit free (past_address address k) ts r
  from_prefix : {address : Span} {k : AfterValue} {ts : List Token} {r : SourceTree} (t t1 : Token) →
      t.kind ≡ Kind.Sign Sign.Slash → t1.kind ≡ Kind.Number → ValueGoesOn limit free k (Value.Prefix address (span_of t1)) ts r →
      Completes limit free (past_address address k) (t ∷ t1 ∷ ts) r
  from_name : {name : Span} {k : AfterSingle} {s : SingleTree} {ts ts' : List Token} {r : SourceTree} →
      IsNamed name ts s ts' → SingleGoesOn limit free k s ts' r → Completes limit free (past_name name k) ts r
  from_places : {name : Span} {vs ws : List Value} {k : AfterSingle} {s : SingleTree} {ts ts1 ts2 : List Token} {r : SourceTree} →
      IsPlacesRest vs ts ws ts1 → IsPlaced name ws ts1 s ts2 → SingleGoesOn limit free k s ts2 r → Completes limit free (past_places name vs k) ts r
  past_a_value : {k : AfterValue} {v : Value} {ts : List Token} {r : SourceTree} →
      ValueGoesOn limit free k v ts r → Completes limit free (past_value v k) ts r
  past_a_single : {k : AfterSingle} {s : SingleTree} {ts : List Token} {r : SourceTree} →
      SingleGoesOn limit free k s ts r → Completes limit free (past_single s k) ts r
  past_a_both : {k : AfterBoth} {b : BothTree} {ts : List Token} {r : SourceTree} →
      BothGoesOn limit free k b ts r → Completes limit free (past_both b k) ts r
  past_an_either : {k : AfterEither} {e : EitherTree} {ts : List Token} {r : SourceTree} →
      EitherGoesOn limit free k e ts r → Completes limit free (past_either e k) ts r
  past_a_choice : {k : AfterChoice} {c : ChoiceTree} {ts : List Token} {r : SourceTree} →
      ChoiceGoesOn limit free k c ts r → Completes limit free (past_choice c k) ts r
  past_a_sequence : {k : AfterSequence} {s : SequenceTree} {ts : List Token} {r : SourceTree} →
      SequenceGoesOn limit free k s ts r → Completes limit free (past_sequence s k) ts r
  past_a_policy : {k : AfterPolicy} {p : PolicyTree} {ts : List Token} {r : SourceTree} →
      PolicyGoesOn limit free k p ts r → Completes limit free (past_policy p k) ts r

-- after this move the tokens complete the program
pub data Follows (limit free : ℕ) : Move → List Token → SourceTree → Type 0 where
  follows_go : {st : State} {t : Token} {ts : List Token} {r : SourceTree} →
      (free ≤ length ts → state_depth st ≤ limit) → Completes limit free st ts r → Follows limit free (go st) (t ∷ ts) r
  follows_done : {r : SourceTree} → Follows limit free (done r) [] r

-- what the next token's kind leads to, the kind written out
pub again : (limit free : ℕ) (f : Option Token → Move) (t : Token) (kind : Kind) (ts : List Token) (r : SourceTree) → t.kind ≡ kind →
    Follows limit free (f (Some (record { kind = kind; from = t.from; to = t.to }))) (t ∷ ts) r → Follows limit free (f (Some t)) (t ∷ ts) r
again limit free f t kind ts r is h = subst (λ x. Follows limit free (f (Some (record { kind = x; from = t.from; to = t.to }))) (t ∷ ts) r) (sym is) h
