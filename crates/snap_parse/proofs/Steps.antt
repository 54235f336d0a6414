-- One step of the machine, as an equation of what its moves come to.
use Rattle.std.proofs.Common.{◌≡◌, ℕ, suc, ◌≤◌, List, [], ◌∷◌, Result, Ok, Err, Bool, true, false, cond, refl, sym, ap, ◌∙◌, subst, arith, nat_le, IsErrAnd, Bor}
use Rattle.std.proofs.lemmas.Bool.{leb-true, le-leb}
use Rattle.std.proofs.lemmas.Result.{err_from_is_err_and}
use Rattle.snap_parse.specs.Kinds.{Token, Kind}
use Rattle.snap_parse.specs.Machine.{ParseFault, Unexpected, TooDeep, State, wants, state_depth, Move, go, stuck, front, on_next, with_next, follow, run, place}
use Rattle.snap_parse.specs.declared.fault.ParseFault.TheVariants.{NoMemory}
use Rattle.snap_parse.specs.Tree.{SourceTree}
use Rattle.snap_parse.specs.Reading.{Refuses, Comes, Lacks}
use Rattle.snap_parse.proofs.NextToken.{same_kind-same, same_kind-other}

module _ (limit end : ℕ) where
  -- a move within the limit takes the token, and one past it is refused there
  pub goes : (st : State) (t : Token) (rest : List Token) → state_depth st ≤ limit → follow limit end (go st) (t ∷ rest) ≡ run limit end st rest
  unfolding follow
  goes st t rest fits = ap (λ b. cond b (run limit end st rest) (Err (TooDeep t.from))) (le-leb _ _ fits)

  pub sinks : (st : State) (t : Token) (rest : List Token) → state_depth st ≡ suc limit → follow limit end (go st) (t ∷ rest) ≡ Err (TooDeep t.from)
  unfolding follow
  sinks st t rest deep = passes (nat_le (state_depth st) limit) refl
    where
      passes : (b : Bool) → nat_le (state_depth st) limit ≡ b → cond b (run limit end st rest) (Err (TooDeep t.from)) ≡ Err (TooDeep t.from)
      passes true fits = let below : state_depth st ≤ limit = leb-true _ _ fits in absurd (omega arith)
      passes false fits = refl

  pub stays : (m : Move) (ts : List Token) → m ≡ stuck → follow limit end m ts ≡ Err (Unexpected (place end ts))
  unfolding follow
  stays m [] is = ap (λ x. follow limit end x []) is
  stays m (t ∷ ts) is = ap (λ x. follow limit end x (t ∷ ts)) is

  -- where the next token is of a kind, and where it isn't
  pub takes : (kind : Kind) (st : State) (other : Move) (ts rest : List Token) (t : Token) → (ts ≡ t ∷ rest) × (t.kind ≡ kind) →
      follow limit end (on_next kind (front ts) st other) ts ≡ follow limit end (go st) (t ∷ rest)
  takes kind st other ts rest t s =
      ap (λ x. follow limit end (on_next kind (front x) st other) x) s.0
      ∙ ap (λ b. follow limit end (cond b (go st) other) (t ∷ rest)) (same_kind-same t.kind kind s.1)

  pub met : (kind : Kind) (st : State) (other : Move) (ts rest : List Token) (t : Token) → (ts ≡ t ∷ rest) × (t.kind ≡ kind) → state_depth st ≤ limit →
      follow limit end (on_next kind (front ts) st other) ts ≡ run limit end st rest
  met kind st other ts rest t s fits = takes kind st other ts rest t s ∙ goes st t rest fits

  pub missed : (kind : Kind) (st : State) (other : Move) (ts : List Token) → Lacks kind ts →
      follow limit end (on_next kind (front ts) st other) ts ≡ follow limit end other ts
  missed kind st other [] lacks = refl
  missed kind st other (t ∷ ts) lacks = ap (λ b. follow limit end (cond b (go st) other) (t ∷ ts)) (same_kind-other t.kind kind (lacks t ts refl))

  pub wanted : (kind : Kind) (next : Token → State) (ts rest : List Token) (t : Token) → (ts ≡ t ∷ rest) × (t.kind ≡ kind) → state_depth (next t) ≤ limit →
      run limit end (wants kind next) ts ≡ run limit end (next t) rest
  wanted kind next ts rest t s fits =
      ap (run limit end (wants kind next)) s.0
      ∙ (ap (λ b. follow limit end (cond b (go (next t)) stuck) (t ∷ rest)) (same_kind-same t.kind kind s.1) ∙ goes (next t) t rest fits)

  -- what begins with a token of this kind
  pub begins : (f : Token → Kind → Move) (ts rest : List Token) (t : Token) (kind : Kind) → ts ≡ t ∷ rest → t.kind ≡ kind →
      follow limit end (with_next (front ts) (λ x. f x x.kind)) ts ≡ follow limit end (f t kind) (t ∷ rest)
  begins f ts rest t kind e is =
      ap (λ x. follow limit end (with_next (front x) (λ y. f y y.kind)) x) e ∙ ap (λ x. follow limit end (f t x) (t ∷ rest)) is

  -- a refusal further on is one here
  pub refuses : (e : ParseFault) (r s : Result SourceTree ParseFault) → r ≡ s → Refuses e s → Refuses e r
  refuses NoMemory r s is h = tt
  refuses _ r s is h = is ∙ h

  pub refuses_end : (f : Token → Move) (ts : List Token) (e : ParseFault) → (ts ≡ []) × (e ≡ Unexpected end) → Refuses e (follow limit end (with_next (front ts) f) ts)
  refuses_end f ts e h =
      let at : follow limit end (with_next (front ts) f) ts ≡ Err (Unexpected end) = ap (λ x. follow limit end (with_next (front x) f) x) h.0 ∙ stays stuck [] refl in
      subst (λ x. Refuses x (follow limit end (with_next (front ts) f) ts)) (sym h.1) at

  pub refuses_kind : (kind : Kind) (st : State) (ts : List Token) (e : ParseFault) → (e ≡ Unexpected (place end ts)) × Lacks kind ts →
      Refuses e (follow limit end (on_next kind (front ts) st stuck) ts)
  refuses_kind kind st ts e h =
      subst (λ x. Refuses x (follow limit end (on_next kind (front ts) st stuck) ts)) (sym h.0) (missed kind st stuck ts h.1 ∙ stays stuck ts refl)

  pub refuses_wanted : (kind : Kind) (next : Token → State) (ts : List Token) (e : ParseFault) → (e ≡ Unexpected (place end ts)) × Lacks kind ts →
      Refuses e (run limit end (wants kind next) ts)
  refuses_wanted kind next [] e h = subst (λ x. Refuses x (run limit end (wants kind next) [])) (sym h.0) (stays stuck [] refl)
  refuses_wanted kind next (t ∷ ts) e h =
      subst (λ x. Refuses x (run limit end (wants kind next) (t ∷ ts))) (sym h.0)
      (ap (λ b. follow limit end (cond b (go (next t)) stuck) (t ∷ ts)) (same_kind-other t.kind kind (h.1 t ts refl)) ∙ stays stuck (t ∷ ts) refl)

  pub refuses_depth : (st : State) (t : Token) (rest : List Token) (at : ℕ) (e : ParseFault) → state_depth st ≡ suc limit → t.from ≡ at → e ≡ TooDeep at →
      Refuses e (follow limit end (go st) (t ∷ rest))
  refuses_depth st t rest at e deep here is =
      subst (λ x. Refuses x (follow limit end (go st) (t ∷ rest))) (sym is) (sinks st t rest deep ∙ ap (λ n. Err (TooDeep n)) here)

  -- what the exit of a `?` returns
  pub exits : {X : Type 0} (past : X → State) (r : Result (X × Bor (List Token)) ParseFault) (e : ParseFault) (m : Move) (ts : List Token) →
      IsErrAnd r (λ y. y ≡ e) → Refuses e (follow limit end m ts) → Comes limit end m ts past r
  exits past r e m ts h refused =
      let p = err_from_is_err_and r h in
      let is : r ≡ Err e = p.1 ∙ ap Err p.2 in
      subst (λ x. Comes limit end m ts past x) (sym is) refused

  -- what was read further on was read from here
  pub comes_on : {X : Type 0} (past : X → State) (r : Result (X × Bor (List Token)) ParseFault) (m m1 : Move) (ts ts1 : List Token) →
      follow limit end m ts ≡ follow limit end m1 ts1 → Comes limit end m1 ts1 past r → Comes limit end m ts past r
  comes_on past (Ok x) m m1 ts ts1 is h = is ∙ h
  comes_on past (Err e) m m1 ts ts1 is h = refuses e (follow limit end m ts) (follow limit end m1 ts1) is h
