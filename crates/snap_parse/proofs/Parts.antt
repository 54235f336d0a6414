-- Steps of the machine at names, values, choices and declarations.
use Rattle.std.proofs.Common.{◌≡◌, ◌≢◌, ℕ, ◌≤◌, List, [], ◌∷◌, ◌++◌, Option, Some, None, Result, Ok, Err, refl, sym, ap, ◌∙◌, subst, arith, IsErrAnd, Vec, Bor, Global}
use Rattle.std.proofs.lemmas.Result.{err_from_is_err_and}
use Rattle.snap_parse.specs.Kinds.{Token, Kind, Key, Sign}
use Rattle.snap_parse.specs.Tree.{Span, Literal, Value, PolicyTree, name_tree, bare_tree, DeclTree, span_of, Decl, decl_tree}
use Rattle.snap_parse.specs.Machine.{State, state_depth, the_end, AfterChoice, end_of_plain, AfterSingle, AfterValue, close_place, single_depth, value_depth, at_decl, at_constant, at_policy, at_choice, at_either, at_single, at_value, past_value, past_policy, Move, go, stuck, front, after_single, placed, after_name, literal_of, begin_value, begin_single, begin_either, begin_choice, begin_policy, begin_decl, on_literal, in_constant_value, ParseFault, Unexpected, follow, run, place}
use Rattle.snap_parse.specs.Reading.{Refuses, Lacks, ReadsPlaces, ReadsDeclaration}
use Rattle.snap_parse.proofs.Steps.{goes, stays, missed, begins}

module _ (limit end : ℕ) where
  -- a choice that is no `if`
  begins_plain : (kind : Kind) (t : Token) (k : AfterChoice) → kind ≢ Kind.Key Key.If → begin_choice k t kind ≡ begin_either (end_of_plain k) t kind
  begins_plain (Kind.Key Key.If) t k other = absurd (other refl)
  begins_plain _ t k other = refl

  pub plain : (k : AfterChoice) (ts : List Token) → Lacks (Kind.Key Key.If) ts → run limit end (at_choice k) ts ≡ run limit end (at_either (end_of_plain k)) ts
  plain k [] other = refl
  plain k (t ∷ ts) other = ap (λ m. follow limit end m (t ∷ ts)) (begins_plain t.kind t k (other t ts refl))

  -- what is no declaration
  begins_policy : (kind : Kind) (t : Token) (ds : List DeclTree) → kind ≢ Kind.Key Key.Field → kind ≢ Kind.Key Key.Array → kind ≢ Kind.Key Key.Const → kind ≢ Kind.Key Key.Let →
      begin_decl ds t kind ≡ begin_policy (the_end ds) t kind
  begins_policy (Kind.Key Key.Field) t ds a b c d = absurd (a refl)
  begins_policy (Kind.Key Key.Array) t ds a b c d = absurd (b refl)
  begins_policy (Kind.Key Key.Const) t ds a b c d = absurd (c refl)
  begins_policy (Kind.Key Key.Let) t ds a b c d = absurd (d refl)
  begins_policy _ t ds a b c d = refl

  pub no_decl : (ds : List DeclTree) (ts : List Token) → Lacks (Kind.Key Key.Field) ts → Lacks (Kind.Key Key.Array) ts → Lacks (Kind.Key Key.Const) ts → Lacks (Kind.Key Key.Let) ts →
      run limit end (at_decl ds) ts ≡ run limit end (at_policy (the_end ds)) ts
  no_decl ds [] a b c d = refl
  no_decl ds (t ∷ ts) a b c d = ap (λ m. follow limit end m (t ∷ ts)) (begins_policy t.kind t ds (a t ts refl) (b t ts refl) (c t ts refl) (d t ts refl))

  -- values
  begins_no_value : (kind : Kind) (t : Token) (k : AfterValue) → kind ≢ Kind.Word → literal_of kind (span_of t) ≡ None → begin_value k t kind ≡ stuck
  begins_no_value Kind.Word t k other none = absurd (other refl)
  begins_no_value Kind.Number t k other none = absurd (cc)
  begins_no_value Kind.Address t k other none = absurd (cc)
  begins_no_value (Kind.Key Key.True) t k other none = absurd (cc)
  begins_no_value (Kind.Key Key.False) t k other none = absurd (cc)
  begins_no_value _ t k other none = refl

  begins_literal : (kind : Kind) (t : Token) (k : AfterValue) (l : Literal) → kind ≢ Kind.Address → literal_of kind (span_of t) ≡ Some l →
      begin_value k t kind ≡ go (past_value (Value.Literal l) k)
  begins_literal Kind.Word t k l other is = absurd (cc)
  begins_literal Kind.Number t k l other is = let same : Literal.Number (span_of t) ≡ l = cc in ap (λ x. go (past_value (Value.Literal x) k)) same
  begins_literal Kind.Address t k l other is = absurd (other refl)
  begins_literal (Kind.Key Key.True) t k l other is = let same : Literal.True (span_of t) ≡ l = cc in ap (λ x. go (past_value (Value.Literal x) k)) same
  begins_literal (Kind.Key Key.False) t k l other is = let same : Literal.False (span_of t) ≡ l = cc in ap (λ x. go (past_value (Value.Literal x) k)) same
  begins_literal _ t k l other is = absurd (cc)

  pub refuses_value : (k : AfterValue) (ts rest : List Token) (t : Token) (e : ParseFault) → ts ≡ t ∷ rest → t.kind ≢ Kind.Word →
      (e ≡ Unexpected (place end ts)) × ((t : Token) (rest : List Token) → ts ≡ t ∷ rest → literal_of t.kind (span_of t) ≡ None) → Refuses e (run limit end (at_value k) ts)
  refuses_value k ts rest t e is other h =
      subst (λ x. Refuses x (run limit end (at_value k) ts)) (sym h.0)
      (begins limit end (begin_value k) ts rest t t.kind is refl
      ∙ (stays limit end (begin_value k t t.kind) (t ∷ rest) (begins_no_value t.kind t k other (h.1 t rest is)) ∙ ap (λ x. Err (Unexpected (place end x))) (sym is)))

  first_same : (ts rest rest1 : List Token) (t t1 : Token) → ts ≡ t ∷ rest → ts ≡ t1 ∷ rest1 → t ≡ t1
  first_same ts rest rest1 t t1 a b = cc

  pub reads_literal : (k : AfterValue) (ts rest1 : List Token) (t1 : Token) (l : Literal) (rest : List Token) → ts ≡ t1 ∷ rest1 → t1.kind ≢ Kind.Address →
      (t : Token) × (ts ≡ t ∷ rest) × (literal_of t.kind (span_of t) ≡ Some l) → value_depth k ≤ limit →
      run limit end (at_value k) ts ≡ run limit end (past_value (Value.Literal l) k) rest
  reads_literal k ts rest1 t1 l rest is other s fits =
      let t = s.0 in
      let same : t ≡ t1 = first_same ts rest rest1 t t1 s.1 is in
      begins limit end (begin_value k) ts rest t t.kind s.1 refl
      ∙ (ap (λ m. follow limit end m (t ∷ rest)) (begins_literal t.kind t k l (λ a. other (ap (λ (x : Token). x.kind) (sym same) ∙ a)) s.2)
      ∙ goes limit end (past_value (Value.Literal l) k) t rest fits)

  -- the literal of a constant
  pub reads_constant : (ds : List DeclTree) (at : ℕ) (name : Span) (ts rest : List Token) (l : Literal) →
      (t : Token) × (ts ≡ t ∷ rest) × (literal_of t.kind (span_of t) ≡ Some l) →
      run limit end (at_constant ds at name) ts ≡ run limit end (in_constant_value ds at name l) rest
  reads_constant ds at name ts rest l s =
      begins limit end (λ t kind. on_literal (literal_of kind (span_of t)) (in_constant_value ds at name)) ts rest s.0 (s.0).kind s.1 refl
      ∙ (ap (λ o. follow limit end (on_literal o (in_constant_value ds at name)) (s.0 ∷ rest)) s.2 ∙ goes limit end (in_constant_value ds at name l) s.0 rest (omega arith))

  pub refuses_constant : (ds : List DeclTree) (at : ℕ) (name : Span) (ts : List Token) (e : ParseFault) →
      (e ≡ Unexpected (place end ts)) × ((t : Token) (rest : List Token) → ts ≡ t ∷ rest → literal_of t.kind (span_of t) ≡ None) → Refuses e (run limit end (at_constant ds at name) ts)
  refuses_constant ds at name [] e h = subst (λ x. Refuses x (run limit end (at_constant ds at name) [])) (sym h.0) (stays limit end stuck [] refl)
  refuses_constant ds at name (t ∷ ts) e h =
      subst (λ x. Refuses x (run limit end (at_constant ds at name) (t ∷ ts))) (sym h.0)
      (ap (λ o. follow limit end (on_literal o (in_constant_value ds at name)) (t ∷ ts)) (h.1 t ts refl) ∙ stays limit end stuck (t ∷ ts) refl)

  -- what is no single
  begins_no_single : (kind : Kind) (t : Token) (k : AfterSingle) → kind ≢ Kind.Sign Sign.Not → kind ≢ Kind.Sign Sign.OpenRound → kind ≢ Kind.Key Key.Id →
      kind ≢ Kind.Key Key.Drop → kind ≢ Kind.Key Key.Atomic → kind ≢ Kind.Word → begin_single k t kind ≡ stuck
  begins_no_single (Kind.Sign Sign.Not) t k a b c d e f = absurd (a refl)
  begins_no_single (Kind.Sign Sign.OpenRound) t k a b c d e f = absurd (b refl)
  begins_no_single (Kind.Key Key.Id) t k a b c d e f = absurd (c refl)
  begins_no_single (Kind.Key Key.Drop) t k a b c d e f = absurd (d refl)
  begins_no_single (Kind.Key Key.Atomic) t k a b c d e f = absurd (e refl)
  begins_no_single Kind.Word t k a b c d e f = absurd (f refl)
  begins_no_single _ t k a b c d e f = refl

  pub refuses_single : (k : AfterSingle) (ts : List Token) (e : ParseFault) → Lacks (Kind.Sign Sign.Not) ts → Lacks (Kind.Sign Sign.OpenRound) ts → Lacks (Kind.Key Key.Id) ts →
      Lacks (Kind.Key Key.Drop) ts → Lacks (Kind.Key Key.Atomic) ts → (e ≡ Unexpected (place end ts)) × Lacks Kind.Word ts → Refuses e (run limit end (at_single k) ts)
  refuses_single k [] e a b c d g h = subst (λ x. Refuses x (run limit end (at_single k) [])) (sym h.0) (stays limit end stuck [] refl)
  refuses_single k (t ∷ ts) e a b c d g h =
      subst (λ x. Refuses x (run limit end (at_single k) (t ∷ ts))) (sym h.0)
      (stays limit end (begin_single k t t.kind) (t ∷ ts)
      (begins_no_single t.kind t k (a t ts refl) (b t ts refl) (c t ts refl) (d t ts refl) (g t ts refl) (h.1 t ts refl)))

  -- behind the whole program
  pub ends : (ds : List DeclTree) (p : PolicyTree) (ts : List Token) → ts ≡ [] → run limit end (past_policy p (the_end ds)) ts ≡ Ok (record { decls = ds; policy = p })
  unfolding follow
  ends ds p ts is = ap (run limit end (past_policy p (the_end ds))) is

  pub goes_past : (ds : List DeclTree) (p : PolicyTree) (ts : List Token) → ts ≢ [] → run limit end (past_policy p (the_end ds)) ts ≡ Err (Unexpected (place end ts))
  unfolding follow
  goes_past ds p [] other = absurd (other refl)
  goes_past ds p (t ∷ ts) other = refl

  -- a declaration, or none
  pub some_decl : (ts : List Token) (o : Option (Decl × Bor (List Token))) (x : Decl × Bor (List Token)) → o ≡ Some x → ReadsDeclaration limit end ts (Ok o) → (ds : List DeclTree) →
      run limit end (at_decl ds) ts ≡ run limit end (at_decl (ds ++ decl_tree x.0 ∷ [])) (x.1).now
  some_decl ts o x is h ds = subst (λ y. ReadsDeclaration limit end ts (Ok y)) is h ds

  pub none_decl : (ts : List Token) (o : Option (Decl × Bor (List Token))) → o ≡ None → ReadsDeclaration limit end ts (Ok o) → (ds : List DeclTree) →
      run limit end (at_decl ds) ts ≡ run limit end (at_policy (the_end ds)) ts
  none_decl ts o is h ds = subst (λ y. ReadsDeclaration limit end ts (Ok y)) is h ds

  -- what the exit of a `?` returns
  pub exits_places : (ts : List Token) (r : Result (Vec Value Global × Bor (List Token)) ParseFault) (e : ParseFault) → IsErrAnd r (λ y. y ≡ e) →
      ((name : Span) (k : AfterSingle) → single_depth k ≤ limit → Refuses e (run limit end (at_value (close_place name [] k)) ts)) → ReadsPlaces limit end ts r
  exits_places ts r e h refused =
      let p = err_from_is_err_and r h in
      subst (λ x. ReadsPlaces limit end ts x) (sym (p.1 ∙ ap Err p.2)) refused

  pub exits_declaration : (ts : List Token) (r : Result (Option (Decl × Bor (List Token))) ParseFault) (e : ParseFault) → IsErrAnd r (λ y. y ≡ e) →
      ((ds : List DeclTree) → Refuses e (run limit end (at_decl ds) ts)) → ReadsDeclaration limit end ts r
  exits_declaration ts r e h refused =
      let p = err_from_is_err_and r h in
      subst (λ x. ReadsDeclaration limit end ts x) (sym (p.1 ∙ ap Err p.2)) refused

  -- where the next token is of a kind that leads on
  pub led : (f : Option Token → Move) (st : State) (kind : Kind) (ts rest : List Token) (t : Token) → (ts ≡ t ∷ rest) × (t.kind ≡ kind) →
      ((from to : ℕ) → f (Some (record { kind = kind; from = from; to = to })) ≡ go st) → state_depth st ≤ limit → follow limit end (f (front ts)) ts ≡ run limit end st rest
  led f st kind ts rest t s is fits =
      ap (λ x. follow limit end (f (front x)) x) s.0
      ∙ (ap (λ m. follow limit end m (t ∷ rest)) (subst (λ x. f (Some (record { kind = x; from = t.from; to = t.to })) ≡ go st) (sym s.1) (is t.from t.to)) ∙ goes limit end st t rest fits)

  -- and where it's of none
  pub placed-alone : (name : Span) (vs : List Value) (k : AfterSingle) (ts : List Token) → Lacks (Kind.Sign Sign.Equals) ts → Lacks (Kind.Sign Sign.Arrow) ts → Lacks (Kind.Sign Sign.PlusPlus) ts → Lacks (Kind.Sign Sign.MinusMinus) ts → Lacks (Kind.Sign Sign.PlusEquals) ts → Lacks (Kind.Sign Sign.MinusEquals) ts →
      follow limit end (placed name vs k (front ts)) ts ≡ follow limit end (after_single k (bare_tree name vs) (front ts)) ts
  placed-alone name vs k ts no1 no2 no3 no4 no5 no6 =
      missed limit end _ _ _ ts no1 ∙ (missed limit end _ _ _ ts no2 ∙ (missed limit end _ _ _ ts no3 ∙ (missed limit end _ _ _ ts no4 ∙ (missed limit end _ _ _ ts no5 ∙ missed limit end _ _ _ ts no6))))

  pub after_name-alone : (name : Span) (k : AfterSingle) (ts : List Token) → Lacks (Kind.Sign Sign.Equals) ts → Lacks (Kind.Sign Sign.Arrow) ts → Lacks (Kind.Sign Sign.OpenSquare) ts →
      follow limit end (after_name name k (front ts)) ts ≡ follow limit end (after_single k (name_tree name) (front ts)) ts
  after_name-alone name k ts no1 no2 no3 = missed limit end _ _ _ ts no1 ∙ (missed limit end _ _ _ ts no2 ∙ missed limit end _ _ _ ts no3)
