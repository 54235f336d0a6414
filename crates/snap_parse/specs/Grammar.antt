-- The grammar: which tree a token list derives. Each relation has a constructor for each form of its line.
--   IsPolicy limit free depth tokens tree rest
-- says that the tokens before `rest` derive the tree. `depth` constructs (`if`, `!`, `(`, `{`) are open around it,
-- and no token makes the depth pass the limit but the last `free` of the text.
use Rattle.std.specs.Prelude.{◌≡◌, ℕ, suc, ◌<◌, ◌≤◌, List, [], ◌∷◌, ◌++◌, length, Some, None}
use Rattle.snap_lex.specs.declared.Token.{Token}
use Rattle.snap_lex.specs.declared.Kind.TheVariants as kinds
use Rattle.snap_lex.specs.declared.Key.TheVariants as keys
use Rattle.snap_lex.specs.declared.Sign.TheVariants as signs
use Rattle.snap_parse.specs.declared.tree.Literal.{Literal}
use Rattle.snap_parse.specs.declared.tree.Literal.TheVariants as literals
use Rattle.snap_parse.specs.declared.tree.Value.{Value}
use Rattle.snap_parse.specs.declared.tree.Value.TheVariants as values
use Rattle.snap_parse.specs.Tree.{PolicyTree, policy_begin, policy_more, SequenceTree, sequence_begin, sequence_more, ChoiceTree, if_tree, plain_tree, EitherTree, either_begin, either_more, BothTree, both_begin, both_more, SingleTree, not_tree, id_tree, drop_tree, group_tree, atomic_tree, name_tree, test_tree, set_tree, bare_tree, array_test_tree, array_set_tree, up_tree, down_tree, array_add_tree, array_sub_tree, DeclTree, field_tree, array_tree, const_tree, let_tree, SourceTree, span_of}

-- literal = number | address | "True" | "False"
pub data IsLiteral : List Token → Literal → List Token → Type 0 where
  number_literal : {rest : List Token} (t : Token) → t.kind ≡ kinds.Number → IsLiteral (t ∷ rest) (literals.Number (span_of t)) rest
  address_literal : {rest : List Token} (t : Token) → t.kind ≡ kinds.Address → IsLiteral (t ∷ rest) (literals.Address (span_of t)) rest
  true_literal : {rest : List Token} (t : Token) → t.kind ≡ kinds.Key keys.True → IsLiteral (t ∷ rest) (literals.True (span_of t)) rest
  false_literal : {rest : List Token} (t : Token) → t.kind ≡ kinds.Key keys.False → IsLiteral (t ∷ rest) (literals.False (span_of t)) rest

-- value = literal | address "/" number | name
pub data IsValue : List Token → Value → List Token → Type 0 where
  literal_value : {ts rest : List Token} {l : Literal} → IsLiteral ts l rest → IsValue ts (values.Literal l) rest
  prefix_value : {rest : List Token} (t t1 t2 : Token) →
      t.kind ≡ kinds.Address → t1.kind ≡ kinds.Sign signs.Slash → t2.kind ≡ kinds.Number →
      IsValue (t ∷ t1 ∷ t2 ∷ rest) (values.Prefix (span_of t) (span_of t2)) rest
  name_value : {rest : List Token} (t : Token) → t.kind ≡ kinds.Word → IsValue (t ∷ rest) (values.Name (span_of t)) rest

-- { "[" value "]" }, behind the places that were read before
pub data IsPlacesRest : List Value → List Token → List Value → List Token → Type 0 where
  places_end : {vs : List Value} {ts : List Token} → IsPlacesRest vs ts vs ts
  places_more : {vs ws : List Value} {v : Value} {ts ts1 rest : List Token} (t t1 : Token) →
      t.kind ≡ kinds.Sign signs.OpenSquare → IsValue ts v (t1 ∷ ts1) → t1.kind ≡ kinds.Sign signs.CloseSquare →
      IsPlacesRest (vs ++ v ∷ []) ts1 ws rest → IsPlacesRest vs (t ∷ ts) ws rest

-- places = "[" value "]" { "[" value "]" }
pub data IsPlaces : List Token → List Value → List Token → Type 0 where
  places : {vs : List Value} {v : Value} {ts ts1 rest : List Token} (t t1 : Token) →
      t.kind ≡ kinds.Sign signs.OpenSquare → IsValue ts v (t1 ∷ ts1) → t1.kind ≡ kinds.Sign signs.CloseSquare →
      IsPlacesRest (v ∷ []) ts1 vs rest → IsPlaces (t ∷ ts) vs rest

mutual
  -- policy = sequence { "+" sequence }
  pub data IsPolicy (limit free : ℕ) : ℕ → List Token → PolicyTree → List Token → Type 0 where
    policy : {d : ℕ} {t : Token} {ts ts' rest : List Token} {s : SequenceTree} {p : PolicyTree} →
        IsSequence limit free d (t ∷ ts) s ts' → IsPolicyRest limit free d (policy_more (policy_begin t.from) s) ts' p rest →
        IsPolicy limit free d (t ∷ ts) p rest

  -- { "+" sequence }, behind the operands that were read before
  pub data IsPolicyRest (limit free : ℕ) : ℕ → PolicyTree → List Token → PolicyTree → List Token → Type 0 where
    policy_end : {d : ℕ} {ts : List Token} {p : PolicyTree} → IsPolicyRest limit free d p ts p ts
    policy_plus : {d : ℕ} {ts ts' rest : List Token} {s : SequenceTree} {p q : PolicyTree} (t : Token) →
        t.kind ≡ kinds.Sign signs.Plus → IsSequence limit free d ts s ts' → IsPolicyRest limit free d (policy_more p s) ts' q rest →
        IsPolicyRest limit free d p (t ∷ ts) q rest

  -- sequence = choice { ";" choice }
  pub data IsSequence (limit free : ℕ) : ℕ → List Token → SequenceTree → List Token → Type 0 where
    sequence : {d : ℕ} {t : Token} {ts ts' rest : List Token} {c : ChoiceTree} {s : SequenceTree} →
        IsChoice limit free d (t ∷ ts) c ts' → IsSequenceRest limit free d (sequence_more (sequence_begin t.from) c) ts' s rest →
        IsSequence limit free d (t ∷ ts) s rest

  pub data IsSequenceRest (limit free : ℕ) : ℕ → SequenceTree → List Token → SequenceTree → List Token → Type 0 where
    sequence_end : {d : ℕ} {ts : List Token} {s : SequenceTree} → IsSequenceRest limit free d s ts s ts
    sequence_semicolon : {d : ℕ} {ts ts' rest : List Token} {c : ChoiceTree} {s q : SequenceTree} (t : Token) →
        t.kind ≡ kinds.Sign signs.Semicolon → IsChoice limit free d ts c ts' → IsSequenceRest limit free d (sequence_more s c) ts' q rest →
        IsSequenceRest limit free d s (t ∷ ts) q rest

  -- choice = "if" either "then" policy "else" choice | either
  pub data IsChoice (limit free : ℕ) : ℕ → List Token → ChoiceTree → List Token → Type 0 where
    if_choice : {d : ℕ} {ts ts1 ts2 rest : List Token} {e : EitherTree} {p : PolicyTree} {c : ChoiceTree} (t t1 t2 : Token) →
        t.kind ≡ kinds.Key keys.If → (free ≤ length ts → d < limit) → IsEither limit free (suc d) ts e (t1 ∷ ts1) →
        t1.kind ≡ kinds.Key keys.Then → IsPolicy limit free (suc d) ts1 p (t2 ∷ ts2) →
        t2.kind ≡ kinds.Key keys.Else → IsChoice limit free (suc d) ts2 c rest →
        IsChoice limit free d (t ∷ ts) (if_tree t.from e p c) rest
    plain_choice : {d : ℕ} {ts rest : List Token} {e : EitherTree}
        → IsEither limit free d ts e rest → IsChoice limit free d ts (plain_tree e) rest

  -- either = both { "|" both }
  pub data IsEither (limit free : ℕ) : ℕ → List Token → EitherTree → List Token → Type 0 where
    either : {d : ℕ} {t : Token} {ts ts' rest : List Token} {b : BothTree} {e : EitherTree} →
        IsBoth limit free d (t ∷ ts) b ts' → IsEitherRest limit free d (either_more (either_begin t.from) b) ts' e rest →
        IsEither limit free d (t ∷ ts) e rest

  pub data IsEitherRest (limit free : ℕ) : ℕ → EitherTree → List Token → EitherTree → List Token → Type 0 where
    either_end : {d : ℕ} {ts : List Token} {e : EitherTree} → IsEitherRest limit free d e ts e ts
    either_or : {d : ℕ} {ts ts' rest : List Token} {b : BothTree} {e q : EitherTree} (t : Token) →
        t.kind ≡ kinds.Sign signs.Or → IsBoth limit free d ts b ts' → IsEitherRest limit free d (either_more e b) ts' q rest →
        IsEitherRest limit free d e (t ∷ ts) q rest

  -- both = single { "&" single }
  pub data IsBoth (limit free : ℕ) : ℕ → List Token → BothTree → List Token → Type 0 where
    both : {d : ℕ} {t : Token} {ts ts' rest : List Token} {s : SingleTree} {b : BothTree} →
        IsSingle limit free d (t ∷ ts) s ts' → IsBothRest limit free d (both_more (both_begin t.from) s) ts' b rest →
        IsBoth limit free d (t ∷ ts) b rest

  pub data IsBothRest (limit free : ℕ) : ℕ → BothTree → List Token → BothTree → List Token → Type 0 where
    both_end : {d : ℕ} {ts : List Token} {b : BothTree} → IsBothRest limit free d b ts b ts
    both_and : {d : ℕ} {ts ts' rest : List Token} {s : SingleTree} {b q : BothTree} (t : Token) →
        t.kind ≡ kinds.Sign signs.And → IsSingle limit free d ts s ts' → IsBothRest limit free d (both_more b s) ts' q rest →
        IsBothRest limit free d b (t ∷ ts) q rest

  -- single = "!" single | "id" | "drop" | "(" policy ")" | "atomic" "(" policy ")"
  --     | name | name "=" value | name "<-" value
  --     | name places | name places "=" value | name places "<-" value | name places "++" | name places "--"
  --     | name places "+=" value | name places "-=" value
  pub data IsSingle (limit free : ℕ) : ℕ → List Token → SingleTree → List Token → Type 0 where
    not_single : {d : ℕ} {ts rest : List Token} {s : SingleTree} (t : Token) →
        t.kind ≡ kinds.Sign signs.Not → (free ≤ length ts → d < limit) → IsSingle limit free (suc d) ts s rest →
        IsSingle limit free d (t ∷ ts) (not_tree t.from s) rest
    id_single : {d : ℕ} {rest : List Token} (t : Token)
        → t.kind ≡ kinds.Key keys.Id → IsSingle limit free d (t ∷ rest) (id_tree t.from) rest
    drop_single : {d : ℕ} {rest : List Token} (t : Token)
        → t.kind ≡ kinds.Key keys.Drop → IsSingle limit free d (t ∷ rest) (drop_tree t.from) rest
    group_single : {d : ℕ} {ts rest : List Token} {p : PolicyTree} (t t1 : Token) →
        t.kind ≡ kinds.Sign signs.OpenRound → (free ≤ length ts → d < limit) → IsPolicy limit free (suc d) ts p (t1 ∷ rest) →
        t1.kind ≡ kinds.Sign signs.CloseRound → IsSingle limit free d (t ∷ ts) (group_tree t.from p) rest
    atomic_single : {d : ℕ} {ts rest : List Token} {p : PolicyTree} (t t1 t2 : Token) →
        t.kind ≡ kinds.Key keys.Atomic → t1.kind ≡ kinds.Sign signs.OpenRound → (free ≤ length ts → d < limit) →
        IsPolicy limit free (suc d) ts p (t2 ∷ rest) → t2.kind ≡ kinds.Sign signs.CloseRound →
        IsSingle limit free d (t ∷ t1 ∷ ts) (atomic_tree t.from p) rest
    name_single : {d : ℕ} {rest : List Token} (t : Token) → t.kind ≡ kinds.Word
        → IsSingle limit free d (t ∷ rest) (name_tree (span_of t)) rest
    test_single : {d : ℕ} {ts rest : List Token} {v : Value} (t t1 : Token) →
        t.kind ≡ kinds.Word → t1.kind ≡ kinds.Sign signs.Equals → IsValue ts v rest →
        IsSingle limit free d (t ∷ t1 ∷ ts) (test_tree (span_of t) v) rest
    set_single : {d : ℕ} {ts rest : List Token} {v : Value} (t t1 : Token) →
        t.kind ≡ kinds.Word → t1.kind ≡ kinds.Sign signs.Arrow → IsValue ts v rest →
        IsSingle limit free d (t ∷ t1 ∷ ts) (set_tree (span_of t) v) rest
    bare_single : {d : ℕ} {ts rest : List Token} {vs : List Value} (t : Token) →
        t.kind ≡ kinds.Word → IsPlaces ts vs rest → IsSingle limit free d (t ∷ ts) (bare_tree (span_of t) vs) rest
    array_test_single : {d : ℕ} {ts ts1 rest : List Token} {vs : List Value} {v : Value} (t t1 : Token) →
        t.kind ≡ kinds.Word → IsPlaces ts vs (t1 ∷ ts1) → t1.kind ≡ kinds.Sign signs.Equals → IsValue ts1 v rest →
        IsSingle limit free d (t ∷ ts) (array_test_tree (span_of t) vs v) rest
    array_set_single : {d : ℕ} {ts ts1 rest : List Token} {vs : List Value} {v : Value} (t t1 : Token) →
        t.kind ≡ kinds.Word → IsPlaces ts vs (t1 ∷ ts1) → t1.kind ≡ kinds.Sign signs.Arrow → IsValue ts1 v rest →
        IsSingle limit free d (t ∷ ts) (array_set_tree (span_of t) vs v) rest
    up_single : {d : ℕ} {ts rest : List Token} {vs : List Value} (t t1 : Token) →
        t.kind ≡ kinds.Word → IsPlaces ts vs (t1 ∷ rest) → t1.kind ≡ kinds.Sign signs.PlusPlus →
        IsSingle limit free d (t ∷ ts) (up_tree (span_of t) vs) rest
    down_single : {d : ℕ} {ts rest : List Token} {vs : List Value} (t t1 : Token) →
        t.kind ≡ kinds.Word → IsPlaces ts vs (t1 ∷ rest) → t1.kind ≡ kinds.Sign signs.MinusMinus →
        IsSingle limit free d (t ∷ ts) (down_tree (span_of t) vs) rest
    array_add_single : {d : ℕ} {ts ts1 rest : List Token} {vs : List Value} {v : Value} (t t1 : Token) →
        t.kind ≡ kinds.Word → IsPlaces ts vs (t1 ∷ ts1) → t1.kind ≡ kinds.Sign signs.PlusEquals → IsValue ts1 v rest →
        IsSingle limit free d (t ∷ ts) (array_add_tree (span_of t) vs v) rest
    array_sub_single : {d : ℕ} {ts ts1 rest : List Token} {vs : List Value} {v : Value} (t t1 : Token) →
        t.kind ≡ kinds.Word → IsPlaces ts vs (t1 ∷ ts1) → t1.kind ≡ kinds.Sign signs.MinusEquals → IsValue ts1 v rest →
        IsSingle limit free d (t ∷ ts) (array_sub_tree (span_of t) vs v) rest

-- declaration = "field" name [ "/" number ] ";" | "array" name ";" | "const" name "=" literal ";" | "let" name "{" policy "}"
pub data IsDecl (limit free : ℕ) : List Token → DeclTree → List Token → Type 0 where
  field_decl : {rest : List Token} (t t1 t2 : Token) →
      t.kind ≡ kinds.Key keys.Field → t1.kind ≡ kinds.Word → t2.kind ≡ kinds.Sign signs.Semicolon →
      IsDecl limit free (t ∷ t1 ∷ t2 ∷ rest) (field_tree t.from (span_of t1) None) rest
  split_field_decl : {rest : List Token} (t t1 t2 t3 t4 : Token) →
      t.kind ≡ kinds.Key keys.Field → t1.kind ≡ kinds.Word → t2.kind ≡ kinds.Sign signs.Slash →
      t3.kind ≡ kinds.Number → t4.kind ≡ kinds.Sign signs.Semicolon →
      IsDecl limit free (t ∷ t1 ∷ t2 ∷ t3 ∷ t4 ∷ rest) (field_tree t.from (span_of t1) (Some (span_of t3))) rest
  array_decl : {rest : List Token} (t t1 t2 : Token) →
      t.kind ≡ kinds.Key keys.Array → t1.kind ≡ kinds.Word → t2.kind ≡ kinds.Sign signs.Semicolon →
      IsDecl limit free (t ∷ t1 ∷ t2 ∷ rest) (array_tree t.from (span_of t1)) rest
  const_decl : {ts rest : List Token} {l : Literal} (t t1 t2 t3 : Token) →
      t.kind ≡ kinds.Key keys.Const → t1.kind ≡ kinds.Word → t2.kind ≡ kinds.Sign signs.Equals →
      IsLiteral ts l (t3 ∷ rest) → t3.kind ≡ kinds.Sign signs.Semicolon →
      IsDecl limit free (t ∷ t1 ∷ t2 ∷ ts) (const_tree t.from (span_of t1) l) rest
  let_decl : {ts rest : List Token} {p : PolicyTree} (t t1 t2 t3 : Token) →
      t.kind ≡ kinds.Key keys.Let → t1.kind ≡ kinds.Word → t2.kind ≡ kinds.Sign signs.OpenCurly → (free ≤ length ts → 0 < limit) →
      IsPolicy limit free 1 ts p (t3 ∷ rest) → t3.kind ≡ kinds.Sign signs.CloseCurly →
      IsDecl limit free (t ∷ t1 ∷ t2 ∷ ts) (let_tree t.from (span_of t1) p) rest

-- program = { declaration } policy, behind the declarations that were read before
pub data IsProgramRest (limit free : ℕ) : List DeclTree → List Token → SourceTree → Type 0 where
  last_policy : {ds : List DeclTree} {ts : List Token} {p : PolicyTree} →
      IsPolicy limit free 0 ts p [] → IsProgramRest limit free ds ts (record { decls = ds; policy = p })
  next_decl : {ds : List DeclTree} {d : DeclTree} {ts rest : List Token} {s : SourceTree} →
      IsDecl limit free ts d rest → IsProgramRest limit free (ds ++ d ∷ []) rest s → IsProgramRest limit free ds ts s

-- the tokens derive the program, and none of them makes the depth pass the limit but the last `free`
abbrev pub IsProgram : ℕ → ℕ → List Token → SourceTree → Type 0
IsProgram limit free ts s = IsProgramRest limit free [] ts s

-- the tokens derive the program, and no depth in it passes the limit
abbrev pub DerivesWithin : ℕ → List Token → SourceTree → Type 0
DerivesWithin limit ts s = IsProgram limit 0 ts s

-- the tokens derive the program
abbrev pub Derives : List Token → SourceTree → Type 0
Derives ts s = (limit : ℕ) × DerivesWithin limit ts s

-- the tokens begin a program, and none of them makes the depth pass the limit
abbrev pub BeginsWithin : ℕ → List Token → Type 0
BeginsWithin limit ts = (more : List Token) × (s : SourceTree) × IsProgram limit (length more) (ts ++ more) s

-- the tokens begin a program: they are a viable prefix
abbrev pub Begins : List Token → Type 0
Begins ts = (more : List Token) × (s : SourceTree) × Derives (ts ++ more) s

-- The token at `at` is unexpected: those before it begin a program within the limit, and with it they begin
-- none. Or the end is: the tokens begin a program, and are none.
pub data IsUnexpected (limit end : ℕ) : List Token → ℕ → Type 0 where
  unexpected_token : (before after : List Token) (t : Token) →
      BeginsWithin limit before → (Begins (before ++ (t ∷ [])) → ⊥) → IsUnexpected limit end (before ++ (t ∷ after)) t.from
  unexpected_end : (ts : List Token) →
      BeginsWithin limit ts → ((s : SourceTree) → Derives ts s → ⊥) → IsUnexpected limit end ts end

-- The token at `at` is the first that passes the limit: with it the tokens begin a program, but none within
-- the limit, and those before it begin one within the limit.
pub data IsTooDeep (limit : ℕ) : List Token → ℕ → Type 0 where
  too_deep : (before after : List Token) (t : Token) →
      BeginsWithin limit before → Begins (before ++ (t ∷ [])) → (BeginsWithin limit (before ++ (t ∷ [])) → ⊥) →
      IsTooDeep limit (before ++ (t ∷ after)) t.from
