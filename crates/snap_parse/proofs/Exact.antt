-- The machine answers as the grammar says, each refusal at its place.
use Rattle.std.proofs.Common.{◌≡◌, ℕ, suc, ◌+◌, ◌<◌, ◌≤◌, List, [], ◌∷◌, ◌++◌, length, Some, None, Ok, Err, Bool, true, false, cond, refl, sym, ap, ◌∙◌, subst, arith, append_assoc, append-nil, length-append, nat_le}
use Rattle.std.proofs.lemmas.Bool.{leb-true, le-leb}
use Rattle.snap_parse.specs.Kinds.{Token}
use Rattle.snap_parse.specs.Machine.{Unexpected, TooDeep, State, at_decl, state_depth, Move, go, done, stuck, front, step, follow, run}
use Rattle.snap_parse.specs.Tree.{SourceTree}
use Rattle.snap_parse.specs.Grammar.{IsProgram, DerivesWithin, Derives, BeginsWithin, Begins, IsUnexpected, unexpected_token, unexpected_end, IsTooDeep, too_deep}
use Rattle.snap_parse.proofs.Completion.{Completes, from_decl, Follows, follows_go, follows_done}
use Rattle.snap_parse.proofs.Into.{into}
use Rattle.snap_parse.proofs.Out.{out}
use Rattle.snap_parse.proofs.Live.{live}

data StopsAt (limit end : ℕ) (st : State) : List Token → ℕ → Type 0 where
  stops_token : (before after : List Token) (t : Token) →
      (more : List Token) (r : SourceTree) → Completes limit (length more) st (before ++ more) r →
      ((l : ℕ) (more : List Token) (r : SourceTree) → state_depth st ≤ l → Completes l 0 st (before ++ (t ∷ more)) r → ⊥) →
      StopsAt limit end st (before ++ (t ∷ after)) t.from
  stops_end : (ts more : List Token) (r : SourceTree) → Completes limit (length more) st (ts ++ more) r →
      ((l : ℕ) (r : SourceTree) → state_depth st ≤ l → Completes l 0 st ts r → ⊥) →
      StopsAt limit end st ts end

-- a state with what completes it, within the limit
data Goes (l free : ℕ) : State → List Token → SourceTree → Type 0 where
  goes_on : {st : State} {ts : List Token} {r : SourceTree} → state_depth st ≤ l → Completes l free st ts r → Goes l free st ts r

-- one move back
back : (l free : ℕ) (t : Token) (ts : List Token) (st st1 : State) (r : SourceTree) → step st (Some t) ≡ go st1 → state_depth st1 ≤ l →
    Completes l free st1 ts r → Completes l free st (t ∷ ts) r
back l free t ts st st1 r is fits on = out l free st (t ∷ ts) r (subst (λ x. Follows l free x (t ∷ ts) r) (sym is) (follows_go (λ active. fits) on))

-- and one on
forth : (l free : ℕ) (t : Token) (ts : List Token) (st st1 : State) (r : SourceTree) → step st (Some t) ≡ go st1 → state_depth st ≤ l → free ≤ length ts →
    Completes l free st (t ∷ ts) r → Goes l free st1 ts r
forth l free t ts st st1 r is fits active on = taken (subst (λ x. Follows l free x (t ∷ ts) r) is (into l free st (t ∷ ts) r fits on))
  where
    taken : Follows l free (go st1) (t ∷ ts) r → Goes l free st1 ts r
    taken (follows_go f on) = goes_on (f active) on

never_done : (l free : ℕ) (t : Token) (ts : List Token) (st : State) (p r : SourceTree) → step st (Some t) ≡ done p → state_depth st ≤ l → Completes l free st (t ∷ ts) r → ⊥
never_done l free t ts st p r is fits on = taken (subst (λ x. Follows l free x (t ∷ ts) r) is (into l free st (t ∷ ts) r fits on))
  where
    taken : Follows l free (done p) (t ∷ ts) r → ⊥
    taken h = elim h [ ]

never_stuck : (l free : ℕ) (ts : List Token) (st : State) (r : SourceTree) → step st (front ts) ≡ stuck → state_depth st ≤ l → Completes l free st ts r → ⊥
never_stuck l free ts st r is fits on = taken ts r (subst (λ x. Follows l free x ts r) is (into l free st ts r fits on))
  where
    taken : (ts : List Token) (r : SourceTree) → Follows l free stuck ts r → ⊥
    taken ts r h = elim h [ ]

never_go : (l free : ℕ) (st st1 : State) (r : SourceTree) → step st None ≡ go st1 → state_depth st ≤ l → Completes l free st [] r → ⊥
never_go l free st st1 r is fits on = taken (subst (λ x. Follows l free x [] r) is (into l free st [] r fits on))
  where
    taken : Follows l free (go st1) [] r → ⊥
    taken h = elim h [ ]

-- what completes a state when all that comes is free, and when the limit is higher
closing : (limit : ℕ) (st : State) → (more : List Token) × (r : SourceTree) × Completes limit (length more) st more r
closing limit st = let x = live st in (x.0, x.1, x.2 limit (length x.0) (λ h. absurd (omega (arith, h))))

closing_below : (limit : ℕ) (st : State) → state_depth st < limit → (more : List Token) × (r : SourceTree) × Completes limit 0 st more r
closing_below limit st below = let x = live st in (x.0, x.1, x.2 limit 0 (λ h. below))

module _ (limit end : ℕ) where
  -- what the machine answers is derived
  sound_go : (t : Token) (ts : List Token) (st st1 : State) (r : SourceTree) (b : Bool) → step st (Some t) ≡ go st1 →
      nat_le (state_depth st1) limit ≡ b → (run limit end st1 ts ≡ Ok r → Completes limit 0 st1 ts r) →
      cond b (run limit end st1 ts) (Err (TooDeep t.from)) ≡ Ok r → Completes limit 0 st (t ∷ ts) r
  sound_go t ts st st1 r true is fits later e = back limit 0 t ts st st1 r is (leb-true _ _ fits) (later e)
  sound_go t ts st st1 r false is fits later e = absurd (cc)

  sound : (ts : List Token) (st : State) (m : Move) (r : SourceTree) → step st (front ts) ≡ m →
      follow limit end m ts ≡ Ok r → Completes limit 0 st ts r
  unfolding follow
  sound [] st (go st1) r is e = absurd (cc)
  sound [] st (done p) r is e =
      let same : p ≡ r = cc in
      out limit 0 st [] r (subst (λ x. Follows limit 0 x [] r) (sym is) (subst (λ x. Follows limit 0 (done x) [] r) (sym same) follows_done))
  sound [] st stuck r is e = absurd (cc)
  sound (t ∷ ts) st (go st1) r is e =
      sound_go t ts st st1 r (nat_le (state_depth st1) limit) is refl (sound ts st1 (step st1 (front ts)) r refl) e
  sound (t ∷ ts) st (done p) r is e = absurd (cc)
  sound (t ∷ ts) st stuck r is e = absurd (cc)

  -- within the limit the machine goes on
  goes : (t : Token) (ts : List Token) (st1 : State) → state_depth st1 ≤ limit → follow limit end (go st1) (t ∷ ts) ≡ run limit end st1 ts
  unfolding follow
  goes t ts st1 fits = ap (λ b. cond b (run limit end st1 ts) (Err (TooDeep t.from))) (le-leb _ _ fits)

  -- what is derived the machine answers
  complete_follow : (ts : List Token) (m : Move) (r : SourceTree) → Follows limit 0 m ts r →
      ((t : Token) (rest : List Token) (st1 : State) → ts ≡ t ∷ rest → state_depth st1 ≤ limit → Completes limit 0 st1 rest r → run limit end st1 rest ≡ Ok r) →
      follow limit end m ts ≡ Ok r
  unfolding follow
  complete_follow ts m r (follows_go {st = st} {t = t} {ts = rest} fits on) later = goes t rest st (fits (omega arith)) ∙ later t rest st refl (fits (omega arith)) on
  complete_follow ts m r follows_done later = refl

  complete : (ts : List Token) (st : State) (r : SourceTree) → state_depth st ≤ limit → Completes limit 0 st ts r → run limit end st ts ≡ Ok r
  complete [] st r fits on = complete_follow [] (step st None) r (into limit 0 st [] r fits on) (λ t rest st1 e f c. absurd (cc))
  complete (t ∷ ts) st r fits on = complete_follow (t ∷ ts) (step st (Some t)) r (into limit 0 st (t ∷ ts) r fits on)
      (λ t1 rest st1 e f c. let same : ts ≡ rest = cc in
      subst (λ x. run limit end st1 x ≡ Ok r) same (complete ts st1 r f (subst (λ x. Completes limit 0 st1 x r) (sym same) c)))

  -- a refusal by an unexpected token
  stop_further : (t : Token) (ts : List Token) (st st1 : State) (at : ℕ) → step st (Some t) ≡ go st1 → state_depth st1 ≤ limit →
      StopsAt limit end st1 ts at → StopsAt limit end st (t ∷ ts) at
  stop_further t ts st st1 at is f (stops_token before after t1 more r on never) =
      stops_token (t ∷ before) after t1 more r (back limit (length more) t _ st st1 r is f on)
      (λ l more r fits c. elim (forth l 0 t _ st st1 r is fits (omega arith) c) [ goes_on g d ↦ never l more r g d ])
  stop_further t ts st st1 at is f (stops_end ts0 more r on never) =
      stops_end (t ∷ ts) more r (back limit (length more) t _ st st1 r is f on)
      (λ l r fits c. elim (forth l 0 t _ st st1 r is fits (omega arith) c) [ goes_on g d ↦ never l r g d ])

  stop_go : (t : Token) (ts : List Token) (st st1 : State) (at : ℕ) (b : Bool) → step st (Some t) ≡ go st1 →
      nat_le (state_depth st1) limit ≡ b → (state_depth st1 ≤ limit → run limit end st1 ts ≡ Err (Unexpected at) → StopsAt limit end st1 ts at) →
      cond b (run limit end st1 ts) (Err (TooDeep t.from)) ≡ Err (Unexpected at) → StopsAt limit end st (t ∷ ts) at
  stop_go t ts st st1 at false is fits later e = absurd (cc)
  stop_go t ts st st1 at true is fits later e = stop_further t ts st st1 at is (leb-true _ _ fits) (later (leb-true _ _ fits) e)

  stop_here : (t : Token) (ts : List Token) (st : State) (at : ℕ) → t.from ≡ at →
      ((l : ℕ) (more : List Token) (r : SourceTree) → state_depth st ≤ l → Completes l 0 st (t ∷ more) r → ⊥) → StopsAt limit end st (t ∷ ts) at
  stop_here t ts st at e never =
      let x = closing limit st in
      subst (λ n. StopsAt limit end st (t ∷ ts) n) e (stops_token [] ts t x.0 x.1 x.2 never)

  stop_end : (st : State) (at : ℕ) → end ≡ at → ((l : ℕ) (r : SourceTree) → state_depth st ≤ l → Completes l 0 st [] r → ⊥) → StopsAt limit end st [] at
  stop_end st at e never =
      let x = closing limit st in
      subst (λ n. StopsAt limit end st [] n) e (stops_end [] x.0 x.1 x.2 never)

  stop : (ts : List Token) (st : State) (m : Move) (at : ℕ) → step st (front ts) ≡ m →
      follow limit end m ts ≡ Err (Unexpected at) → StopsAt limit end st ts at
  unfolding follow
  stop [] st (go st1) at is e = stop_end st at (cc) (λ l r fits c. never_go l 0 st st1 r is fits c)
  stop [] st (done p) at is e = absurd (cc)
  stop [] st stuck at is e = stop_end st at (cc) (λ l r fits c. never_stuck l 0 [] st r is fits c)
  stop (t ∷ ts) st (go st1) at is e =
      stop_go t ts st st1 at (nat_le (state_depth st1) limit) is refl (λ fits. stop ts st1 (step st1 (front ts)) at refl) e
  stop (t ∷ ts) st (done p) at is e = stop_here t ts st at (cc) (λ l more r fits c. never_done l 0 t more st p r is fits c)
  stop (t ∷ ts) st stuck at is e = stop_here t ts st at (cc) (λ l more r fits c. never_stuck l 0 (t ∷ more) st r is fits c)

  -- the start of a program
  abbrev start : State
  start = at_decl []

  at_start : (l free : ℕ) (ts : List Token) (p : SourceTree) → IsProgram l free ts p → Completes l free start ts p
  at_start l free ts p h = from_decl h

  from_start : (l free : ℕ) (ts : List Token) (p : SourceTree) → Completes l free start ts p → IsProgram l free ts p
  from_start l free ts p (from_decl h) = h

  pub ok_derives : (ts : List Token) (p : SourceTree) → run limit end start ts ≡ Ok p → DerivesWithin limit ts p
  ok_derives ts p e = from_start limit 0 ts p (sound ts start (step start (front ts)) p refl e)

  pub derives_ok : (ts : List Token) (p : SourceTree) → DerivesWithin limit ts p → run limit end start ts ≡ Ok p
  derives_ok ts p h = complete ts start p (omega arith) (at_start limit 0 ts p h)

  unexpected_at : (ts : List Token) (at : ℕ) → StopsAt limit end start ts at → IsUnexpected limit end ts at
  unexpected_at ts at (stops_token before after t more r on never) =
      unexpected_token before after t (more, r, from_start limit (length more) _ r on)
      (λ b. never b.2.0 b.0 b.1 (omega arith) (at_start b.2.0 0 _ b.1 (subst (λ x. DerivesWithin b.2.0 x b.1) (append_assoc before (t ∷ []) b.0) b.2.1)))
  unexpected_at ts at (stops_end ts0 more r on never) =
      unexpected_end ts (more, r, from_start limit (length more) _ r on) (λ p d. never d.0 p (omega arith) (at_start d.0 0 ts p d.1))

  pub unexpected_tells : (ts : List Token) (at : ℕ) → run limit end start ts ≡ Err (Unexpected at) → IsUnexpected limit end ts at
  unexpected_tells ts at e = unexpected_at ts at (stop ts start (step start (front ts)) at refl e)

  -- the machine comes from one state to another over these tokens, whatever follows them
  record Reaches (st : State) (before : List Token) (st1 : State) : Type 0 where
    fits : state_depth st1 ≤ limit
    runs : (tail : List Token) → run limit end st (before ++ tail) ≡ run limit end st1 tail
    up : (l free : ℕ) (tail : List Token) (r : SourceTree) → limit ≤ l → Completes l free st1 tail r → Completes l free st (before ++ tail) r
    down : (l : ℕ) (tail : List Token) (r : SourceTree) → state_depth st ≤ l → Completes l 0 st (before ++ tail) r → Goes l 0 st1 tail r

  reaches_more : (t : Token) (before : List Token) (st st1 st2 : State) → step st (Some t) ≡ go st1 → state_depth st1 ≤ limit →
      Reaches st1 before st2 → Reaches st (t ∷ before) st2
  reaches_more t before st st1 st2 is fits more = record {
    fits = more.fits;
    runs = λ tail. ap (λ m. follow limit end m (t ∷ (before ++ tail))) is ∙ (goes t (before ++ tail) st1 fits ∙ more.runs tail);
    up = λ l free tail r above on. back l free t (before ++ tail) st st1 r is (omega arith) (more.up l free tail r above on);
    down = λ l tail r f on. elim (forth l 0 t (before ++ tail) st st1 r is f (omega arith) on) [ goes_on g c ↦ more.down l tail r g c ];
  }

  reaches_step : (t : Token) (before : List Token) (st : State) (m : Move) (more : List Token) (r : SourceTree) → step st (Some t) ≡ m →
      Follows limit (length more) m (t ∷ (before ++ more)) r →
      ((st1 : State) → state_depth st1 ≤ limit → Completes limit (length more) st1 (before ++ more) r → (st2 : State) × Reaches st1 before st2) →
      (st2 : State) × Reaches st (t ∷ before) st2
  reaches_step t before st (go st1) more r is (follows_go f on) later =
      let fits : state_depth st1 ≤ limit = f (omega (arith, length-append before more)) in
      let x = later st1 fits on in (x.0, reaches_more t before st st1 x.0 is fits x.1)
  reaches_step t before st (done p) more r is h later = elim h [ ]
  reaches_step t before st stuck more r is h later = elim h [ ]

  reaches : (before : List Token) (st : State) (more : List Token) (r : SourceTree) → state_depth st ≤ limit →
      Completes limit (length more) st (before ++ more) r → (st1 : State) × Reaches st before st1
  reaches [] st more r fits on = (st, record { fits = fits; runs = λ tail. refl; up = λ l free tail r above on. on; down = λ l tail r f on. goes_on f on })
  reaches (t ∷ before) st more r fits on =
      reaches_step t before st (step st (Some t)) more r refl (into limit (length more) st (t ∷ (before ++ more)) r fits on) (λ st1 f c. reaches before st1 more r f c)

  from_begins : (before : List Token) → BeginsWithin limit before → (st1 : State) × Reaches start before st1
  from_begins before b = reaches before start b.0 b.1 (omega arith) (at_start limit (length b.0) (before ++ b.0) b.1 b.2)

  one_more : (before : List Token) (t : Token) (l free : ℕ) (more : List Token) (r : SourceTree) → Completes l free start (before ++ (t ∷ more)) r → IsProgram l free ((before ++ (t ∷ [])) ++ more) r
  one_more before t l free more r on = from_start l free _ r (subst (λ x. Completes l free start x r) (sym (append_assoc before (t ∷ []) more)) on)

  token_gives : (before after : List Token) (t : Token) (st1 : State) (m : Move) → Reaches start before st1 → step st1 (Some t) ≡ m →
      (Begins (before ++ (t ∷ [])) → ⊥) → follow limit end m (t ∷ after) ≡ Err (Unexpected t.from)
  unfolding follow
  token_gives before after t st1 (go st2) to is never =
      let l = limit + suc (state_depth st2) in
      let x = closing_below l st2 (omega arith) in
      absurd (never (x.0, x.1, (l, one_more before t l 0 x.0 x.1 (to.up l 0 (t ∷ x.0) x.1 (omega arith) (back l 0 t x.0 st1 st2 x.1 is (omega arith) x.2)))))
  token_gives before after t st1 (done p) to is never = refl
  token_gives before after t st1 stuck to is never = refl

  end_gives : (ts : List Token) (st1 : State) (m : Move) → Reaches start ts st1 → step st1 None ≡ m →
      ((p : SourceTree) → Derives ts p → ⊥) → follow limit end m [] ≡ Err (Unexpected end)
  unfolding follow
  end_gives ts st1 (go st2) to is never = refl
  end_gives ts st1 (done p) to is never =
      let here : Completes limit 0 st1 [] p = out limit 0 st1 [] p (subst (λ x. Follows limit 0 x [] p) (sym is) follows_done) in
      absurd (never p (limit, from_start limit 0 ts p (subst (λ x. Completes limit 0 start x p) (append-nil ts) (to.up limit 0 [] p (omega arith) here))))
  end_gives ts st1 stuck to is never = refl

  pub unexpected_gives : (ts : List Token) (at : ℕ) → IsUnexpected limit end ts at → run limit end start ts ≡ Err (Unexpected at)
  unexpected_gives ts at (unexpected_token before after t begins never) =
      let x = from_begins before begins in
      (x.1).runs (t ∷ after) ∙ token_gives before after t x.0 (step x.0 (Some t)) x.1 refl never
  unexpected_gives ts at (unexpected_end ts0 begins never) =
      let x = from_begins ts begins in
      ap (run limit end start) (sym (append-nil ts)) ∙ ((x.1).runs [] ∙ end_gives ts x.0 (step x.0 None) x.1 refl never)

  deep_gives_go : (before after : List Token) (t : Token) (st1 st2 : State) (b : Bool) → Reaches start before st1 → step st1 (Some t) ≡ go st2 →
      nat_le (state_depth st2) limit ≡ b → (BeginsWithin limit (before ++ (t ∷ [])) → ⊥) →
      cond b (run limit end st2 after) (Err (TooDeep t.from)) ≡ Err (TooDeep t.from)
  deep_gives_go before after t st1 st2 true to is fits never =
      let x = closing limit st2 in
      let n = length x.0 in
      absurd (never (x.0, x.1, one_more before t limit n x.0 x.1 (to.up limit n (t ∷ x.0) x.1 (omega arith) (back limit n t x.0 st1 st2 x.1 is (leb-true _ _ fits) x.2))))
  deep_gives_go before after t st1 st2 false to is fits never = refl

  -- where the tokens up to t begin a program, some tokens after it complete the state before it
  begun : (before : List Token) (t : Token) (st1 : State) → Reaches start before st1 → Begins (before ++ (t ∷ [])) →
      (l : ℕ) × (more : List Token) × (r : SourceTree) × Goes l 0 st1 (t ∷ more) r
  begun before t st1 to b = (
    b.2.0,
    b.0,
    b.1,
    to.down b.2.0 (t ∷ b.0) b.1 (omega arith)
        (subst (λ x. Completes b.2.0 0 start x b.1) (append_assoc before (t ∷ []) b.0) (at_start b.2.0 0 _ b.1 b.2.1)),
  )

  deep_gives : (before after : List Token) (t : Token) (st1 : State) (m : Move) → Reaches start before st1 → step st1 (Some t) ≡ m →
      Begins (before ++ (t ∷ [])) → (BeginsWithin limit (before ++ (t ∷ [])) → ⊥) → follow limit end m (t ∷ after) ≡ Err (TooDeep t.from)
  unfolding follow
  deep_gives before after t st1 (go st2) to is begins never = deep_gives_go before after t st1 st2 _ to is refl never
  deep_gives before after t st1 (done p) to is begins never =
      let x = begun before t st1 to begins in
      absurd (elim x.3 [ goes_on f c ↦ never_done x.0 0 t x.1 st1 p x.2 is f c ])
  deep_gives before after t st1 stuck to is begins never =
      let x = begun before t st1 to begins in
      absurd (elim x.3 [ goes_on f c ↦ never_stuck x.0 0 (t ∷ x.1) st1 x.2 is f c ])

  pub too_deep_gives : (ts : List Token) (at : ℕ) → IsTooDeep limit ts at → run limit end start ts ≡ Err (TooDeep at)
  too_deep_gives ts at (too_deep before after t within begins never) =
      let x = from_begins before within in
      (x.1).runs (t ∷ after) ∙ deep_gives before after t x.0 (step x.0 (Some t)) x.1 refl begins never

  -- a refusal by the limit
  data DeepAt (st : State) : List Token → ℕ → Type 0 where
    deep_at : (before after : List Token) (t : Token) (more : List Token) (r : SourceTree) → Completes limit (length more) st (before ++ more) r →
        (l : ℕ) (later : List Token) (r1 : SourceTree) → limit ≤ l → Completes l 0 st (before ++ (t ∷ later)) r1 →
        ((more : List Token) (r : SourceTree) → state_depth st ≤ limit → Completes limit (length more) st (before ++ (t ∷ more)) r → ⊥) →
        DeepAt st (before ++ (t ∷ after)) t.from

  deep_further : (t : Token) (ts : List Token) (st st1 : State) (at : ℕ) → step st (Some t) ≡ go st1 → state_depth st1 ≤ limit →
      DeepAt st1 ts at → DeepAt st (t ∷ ts) at
  deep_further t ts st st1 at is f (deep_at before after t1 more r on l later r1 above on1 never) =
      deep_at (t ∷ before) after t1 more r (back limit (length more) t _ st st1 r is f on) l later r1 above (back l 0 t _ st st1 r1 is (omega arith) on1)
      (λ more r fits c. elim (forth limit (length more) t (before ++ (t1 ∷ more)) st st1 r is fits (omega (arith, length-append before (t1 ∷ more))) c) [ goes_on g d ↦ never more r g d ])

  deep_go : (t : Token) (ts : List Token) (st st1 : State) (at : ℕ) (b : Bool) → step st (Some t) ≡ go st1 →
      nat_le (state_depth st1) limit ≡ b → (state_depth st1 ≤ limit → run limit end st1 ts ≡ Err (TooDeep at) → DeepAt st1 ts at) →
      cond b (run limit end st1 ts) (Err (TooDeep t.from)) ≡ Err (TooDeep at) → DeepAt st (t ∷ ts) at
  deep_go t ts st st1 at true is fits later e = deep_further t ts st st1 at is (leb-true _ _ fits) (later (leb-true _ _ fits) e)
  deep_go t ts st st1 at false is fits later e =
      let l = limit + suc (state_depth st1) in
      let x = closing limit st in
      let y = closing_below l st1 (omega arith) in
      let here : t.from ≡ at = cc in
      subst (λ n. DeepAt st (t ∷ ts) n) here
      (deep_at [] ts t x.0 x.1 x.2 l y.0 y.1 (omega arith) (back l 0 t y.0 st st1 y.1 is (omega arith) y.2)
      (λ more r f c. elim (forth limit (length more) t more st st1 r is f (omega arith) c) [ goes_on g d ↦ passes (sym fits ∙ le-leb _ _ g) ]))
    where
      passes : false ≡ true → ⊥
      passes e = cc

  deep : (ts : List Token) (st : State) (m : Move) (at : ℕ) → step st (front ts) ≡ m → follow limit end m ts ≡ Err (TooDeep at) → DeepAt st ts at
  unfolding follow
  deep [] st (go st1) at is e = absurd (cc)
  deep [] st (done p) at is e = absurd (cc)
  deep [] st stuck at is e = absurd (cc)
  deep (t ∷ ts) st (go st1) at is e =
      deep_go t ts st st1 at (nat_le (state_depth st1) limit) is refl (λ fits. deep ts st1 (step st1 (front ts)) at refl) e
  deep (t ∷ ts) st (done p) at is e = absurd (cc)
  deep (t ∷ ts) st stuck at is e = absurd (cc)

  too_deep_at : (ts : List Token) (at : ℕ) → DeepAt start ts at → IsTooDeep limit ts at
  too_deep_at ts at (deep_at before after t more r on l later r1 above on1 never) =
      too_deep before after t (more, r, from_start limit (length more) _ r on) (later, r1, (l, one_more before t l 0 later r1 on1))
      (λ b. never b.0 b.1 (omega arith) (at_start limit (length b.0) _ b.1 (subst (λ x. IsProgram limit (length b.0) x b.1) (append_assoc before (t ∷ []) b.0) b.2)))

  pub too_deep_tells : (ts : List Token) (at : ℕ) → run limit end start ts ≡ Err (TooDeep at) → IsTooDeep limit ts at
  too_deep_tells ts at e = too_deep_at ts at (deep ts start (step start (front ts)) at refl e)
