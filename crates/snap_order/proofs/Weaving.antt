-- What workers make of the copies at their own switches, put in the order of the copies, is a round.
use Rattle.std.proofs.Common.{◌≡◌, ◌≢◌, ℕ, zero, suc, add-one, ◌+◌, ◌<◌, ◌≤◌, ◌%◌, Bool, true, false, cond, List, [], ◌∷◌, ◌++◌, map, take, drop, get_or, length, Some, refl, sym, ap, subst, ◌∙◌, arith, append_assoc, append-nil}
use Rattle.std.specs.Prelude.{nat_eq, slice_get}
use Rattle.std.specs.List.{All, flat_map}
use Rattle.std.proofs.Math.Nat.{mod-lt}
use Rattle.std.proofs.Math.Seq.{drop-append_seam, take-append_seam}
use Rattle.std.proofs.lemmas.Bool.{both_ways, cond-false, cond-true, eq-eqb, eqb-false, eqb-true, ne_eqb}
use Rattle.std.proofs.lemmas.List.{length-append, length-drop, map-append, take-append-drop}
use Rattle.std.proofs.lemmas.List.Concat.{flat_map-cons}
use Rattle.std.proofs.lemmas.List.Elements.{All-head, All-tail}
use Rattle.snap_rows.specs.declared.tables.Tables.{Tables}
use Rattle.snap_rows.specs.Entries.{rank_at}
use Rattle.snap_rows.specs.Network.{Copy, RunsBy, Step, done, on}
use Rattle.std.proofs.lemmas.Option.{same_Some}
use Rattle.snap_net.specs.declared.flying.Flying.{Flying}
use Rattle.snap_net.specs.Shown.{flown}
use Rattle.snap_net.proofs.Carried.{rests_shown}
use Rattle.snap_order.specs.declared.hand.Stepped.{Stepped}
use Rattle.snap_order.specs.Hands.{Agrees, SwitchState, StepsBy, StepsTo, WeavesTo, Works, idles, works, Woven, over, next, share}
use Rattle.snap_order.specs.Ordered.{Ordered}
use Rattle.snap_order.specs.Rounds.{takes}
use Rattle.snap_order.specs.Rounds.{TakesNext, takes}

-- ---- shares
pub share_own : (workers j : ℕ) (c : Flying) (cs : List Flying) → c.at % workers ≡ j → share workers j (c ∷ cs) ≡ c ∷ share workers j cs
share_own workers j c cs e = cond-true _ _ _ (eq-eqb (c.at % workers) j e)

pub share_other : (workers j : ℕ) (c : Flying) (cs : List Flying) → c.at % workers ≢ j → share workers j (c ∷ cs) ≡ share workers j cs
share_other workers j c cs ne = cond-false _ _ _ (ne_eqb (c.at % workers) j ne)

-- ---- lists
first_flown : (l : List Copy) (c : Flying) (cs : List Flying) → map flown l ≡ c ∷ cs → (y : Copy) × (ys : List Copy) × (l ≡ y ∷ ys) × (flown y ≡ c) × (map flown ys ≡ cs)
first_flown [] c cs e = absurd (cc)
first_flown (y ∷ ys) c cs e = (y, ys, refl, cc, cc)

get_dropped : {A : Type 0} (l : List A) (i : ℕ) (y : A) (ys : List A) → drop i l ≡ y ∷ ys → slice_get l i ≡ Some y
get_dropped [] zero y ys e = absurd (cc)
get_dropped [] (suc i) y ys e = absurd (cc)
get_dropped (x ∷ xs) zero y ys e = ap (λ l. slice_get l 0) e
get_dropped (x ∷ xs) (suc i) y ys e = get_dropped xs i y ys e

drop_suc : {A : Type 0} (l : List A) (i : ℕ) (y : A) (ys : List A) → drop i l ≡ y ∷ ys → drop (suc i) l ≡ ys
drop_suc [] zero y ys e = absurd (cc)
drop_suc [] (suc i) y ys e = absurd (cc)
drop_suc (x ∷ xs) zero y ys e = ap (drop 1) e
drop_suc (x ∷ xs) (suc i) y ys e = drop_suc xs i y ys e

drop_one : {A : Type 0} (l : List A) (i : ℕ) (y : A) (ys : List A) → drop i l ≡ y ∷ ys → drop (i + 1) l ≡ ys
drop_one l i y ys e = ap (λ n. drop n l) (add-one i) ∙ drop_suc l i y ys e

-- ---- a worker
-- the first step of a worker
pub record First (t : Tables) (workers : ℕ) (p : SwitchState) (c : Flying) (cs : List Flying) (r : SwitchState) (x : Stepped) (xs : List Stepped) : Type 0 where
  pub part : SwitchState
  pub steps : StepsBy t workers c p part x
  pub rest : Works t workers part cs r xs

module _ {t : Tables} {workers : ℕ} where
  idle_same : {p q : SwitchState} {xs : List Stepped} → Works t workers p [] q xs → q ≡ p
  idle_same idles = refl

  first : {p r : SwitchState} {c : Flying} {cs : List Flying} {x : Stepped} {xs : List Stepped} → Works t workers p (c ∷ cs) r (x ∷ xs) → First t workers p c cs r x xs
  first (works {q = q} steps rest) = record { part = q; steps = steps; rest = rest }

module _ (t : Tables) (workers : ℕ) (some_workers : 0 < workers) (busy : ℕ → Bool) (last : ℕ → SwitchState) where
  is_worker : (w : ℕ) → w % workers < workers
  is_worker w = mod-lt w some_workers

  -- copy i of the state steps, which is the next of its worker
  module _ (s : Ordered) (i : ℕ) (c : Flying) (cs : List Flying) (y : Copy) (ys : List Copy) (stands : drop i s.net.flying ≡ y ∷ ys) (shown : flown y ≡ c) (low : i ≤ length s.net.flying)
      (parts : ℕ → SwitchState) (agrees : Agrees t workers busy parts s) (mine : busy (c.at % workers) ≡ true) (q : SwitchState) (x : Stepped) (steps : StepsBy t workers c (parts (c.at % workers)) q x) where
    abbrev j : ℕ
    j = c.at % workers

    is : slice_get s.net.flying i ≡ Some y
    is = get_dropped s.net.flying i y ys stands

    pub step : StepsTo t c (q.stores c.at) q.counts x.left.items x.moved s i
    step = steps.here.steps s i y is shown (agrees.stores c.at mine) (λ r own. agrees.handled r c.at own mine)

    abbrev pub now : Ordered
    now = step.state

    -- the parts after it
    abbrev pub after : ℕ → SwitchState
    after k = cond (nat_eq k j) q (parts k)

    after_own : (k : ℕ) → k ≡ j → after k ≡ q
    after_own k e = cond-true _ _ _ (eq-eqb k j e)

    after_other : (k : ℕ) → k ≢ j → after k ≡ parts k
    after_other k ne = cond-false _ _ _ (ne_eqb k j ne)

    stores_now : (w : ℕ) → busy (w % workers) ≡ true → (b b' : Bool) → nat_eq w c.at ≡ b → nat_eq (w % workers) j ≡ b' → now.net.stores w ≡ (after (w % workers)).stores w
    stores_now w some true b' here e =
        let at : w ≡ c.at = eqb-true w c.at here in
        ap now.net.stores at ∙ step.here ∙ ap q.stores (sym at) ∙ ap (λ (p : SwitchState). p.stores w) (sym (after_own (w % workers) (ap (λ v. v % workers) at)))
    stores_now w some false true away e =
        let own : w % workers ≡ j = eqb-true (w % workers) j e in
        let ne : w ≢ c.at = eqb-false w c.at away in
        step.away w ne ∙ agrees.stores w some ∙ ap (λ k. (parts k).stores w) own ∙ sym (steps.away w own ne) ∙ ap (λ (p : SwitchState). p.stores w) (sym (after_own (w % workers) own))
    stores_now w some false false away e =
        step.away w (eqb-false w c.at away) ∙ agrees.stores w some ∙ ap (λ (p : SwitchState). p.stores w) (sym (after_other (w % workers) (eqb-false (w % workers) j e)))

    handled_now : (r w : ℕ) → rank_at t r ≡ Some w → busy (w % workers) ≡ true → (b b' : Bool) → nat_eq w c.at ≡ b → nat_eq (w % workers) j ≡ b' → now.handled r ≡ get_or (after (w % workers)).counts r 0
    handled_now r w own some true b' here e =
        let at : w ≡ c.at = eqb-true w c.at here in
        step.counted r (own ∙ ap Some at) ∙ ap (λ (p : SwitchState). get_or p.counts r 0) (sym (after_own (w % workers) (ap (λ v. v % workers) at)))
    handled_now r w own some false true away e =
        let same : w % workers ≡ j = eqb-true (w % workers) j e in
        let ne : rank_at t r ≢ Some c.at = λ o. eqb-false w c.at away (same_Some w c.at (sym own ∙ o)) in
        step.others r ne ∙ agrees.handled r w own some ∙ ap (λ k. get_or (parts k).counts r 0) same ∙ sym (steps.here.others r ne) ∙ ap (λ (p : SwitchState). get_or p.counts r 0) (sym (after_own (w % workers) same))
    handled_now r w own some false false away e =
        step.others r (λ o. eqb-false w c.at away (same_Some w c.at (sym own ∙ o))) ∙ agrees.handled r w own some ∙ ap (λ (p : SwitchState). get_or p.counts r 0) (sym (after_other (w % workers) (eqb-false (w % workers) j e)))

    pub agrees_now : Agrees t workers busy after now
    agrees_now = record {
      stores = λ w some. stores_now w some (nat_eq w c.at) (nat_eq (w % workers) j) refl refl;
      handled = λ r w own some. handled_now r w own some (nat_eq w c.at) (nat_eq (w % workers) j) refl refl;
    }

    -- what stands before the next copy
    abbrev pub before : List Copy
    before = take i s.net.flying ++ step.copies

    now_is : now.net.flying ≡ before ++ ys
    now_is = step.flying ∙ ap (λ l. take i s.net.flying ++ (step.copies ++ l)) (drop_one s.net.flying i y ys stands) ∙ sym (append_assoc (take i s.net.flying) step.copies ys)

    pub rest_is : drop (length before) now.net.flying ≡ ys
    rest_is = ap (drop (length before)) now_is ∙ drop-append_seam before ys

    pub front_is : take (length before) now.net.flying ≡ before
    front_is = ap (take (length before)) now_is ∙ take-append_seam before ys

    pub counted : length before + length s.net.flying ≡ i + 1 + length now.net.flying
    counted =
        let a = length-append (take i s.net.flying) step.copies in
        let b : length now.net.flying ≡ length before + length ys = ap length now_is ∙ length-append before ys in
        let d : length (drop i s.net.flying) ≡ suc (length ys) = ap length stands in
        let e = length-drop i s.net.flying in
        omega (arith, b, d, e, low)

    pub within : length before ≤ length now.net.flying
    within = let b : length now.net.flying ≡ length before + length ys = ap length now_is ∙ length-append before ys in omega (arith, b)

    -- what the workers have to do yet
    module _ (queues later : ℕ → List Stepped) (rest : Works t workers q (share workers j cs) (last j) (later j)) (took : (k : ℕ) → k ≢ j → later k ≡ queues k) (all : (k : ℕ) → k < workers → Works t workers (parts k) (share workers k (c ∷ cs)) (last k) (queues k)) where
      works_by : (k : ℕ) → k < workers → (b : Bool) → nat_eq k j ≡ b → Works t workers (after k) (share workers k cs) (last k) (later k)
      works_by k low true e =
          let same : k ≡ j = eqb-true k j e in
          subst (λ p. Works t workers p (share workers k cs) (last k) (later k)) (sym (after_own k same)) (subst (λ k. Works t workers q (share workers k cs) (last k) (later k)) (sym same) rest)
      works_by k low false e =
          let ne : k ≢ j = eqb-false k j e in
          subst (λ p. Works t workers p (share workers k cs) (last k) (later k)) (sym (after_other k ne))
          (subst (λ l. Works t workers (parts k) (share workers k cs) (last k) l) (sym (took k ne))
          (subst (λ l. Works t workers (parts k) l (last k) (queues k)) (share_other workers k c cs (λ o. ne (sym o))) (all k low)))

      pub works_now : (k : ℕ) → k < workers → Works t workers (after k) (share workers k cs) (last k) (later k)
      works_now k low = works_by k low (nat_eq k j) refl

    -- and what follows
    pub weaves_on : (xs : List Stepped) → WeavesTo t workers busy last xs now (length before) → WeavesTo t workers busy last (x ∷ xs) s i
    weaves_on xs w = record {
      state = w.state;
      events = Step i ∷ w.events;
      turns = step.turn ∷ w.turns;
      round = on (takes step.leads counted) w.round;
      told = (λ k. step.told_is k ∷ w.told k);
      flying = w.flying ∙ ap (λ l. map flown l ++ flat_map (λ (z : Stepped). z.left.items) xs) front_is
          ∙ ap (λ l. l ++ flat_map (λ (z : Stepped). z.left.items) xs) (map-append flown (take i s.net.flying) step.copies ∙ ap (λ l. map flown (take i s.net.flying) ++ l) step.left_is)
          ∙ append_assoc (map flown (take i s.net.flying)) x.left.items (flat_map (λ (z : Stepped). z.left.items) xs)
          ∙ ap (λ l. map flown (take i s.net.flying) ++ l) (sym (flat_map-cons (λ (z : Stepped). z.left.items) x xs));
      injected = w.injected ∙ step.injected;
      agrees = w.agrees;
      away = λ v idle. w.away v idle ∙ step.away v (λ e. both_ways _ idle (ap (λ n. busy (n % workers)) e ∙ mine));
      others = λ r idle. w.others r idle ∙ step.others r (λ own. both_ways _ (idle c.at own) mine);
    }

  -- no copy is left
  weaves_none : (parts : ℕ → SwitchState) (queues : ℕ → List Stepped) (s : Ordered) (i : ℕ) → map flown (drop i s.net.flying) ≡ [] → i ≤ length s.net.flying → ((k : ℕ) → k < workers → Works t workers (parts k) [] (last k) (queues k)) → Agrees t workers busy parts s
      → WeavesTo t workers busy last [] s i
  weaves_none parts queues s i none low all agrees =
      let empty : drop i s.net.flying ≡ [] = rests_shown (drop i s.net.flying) none in
      let whole : take i s.net.flying ≡ s.net.flying = sym (append-nil (take i s.net.flying)) ∙ ap (λ l. take i s.net.flying ++ l) (sym empty) ∙ take-append-drop i s.net.flying in
      record {
        state = s;
        events = [];
        turns = [];
        round = (let a = length-drop i s.net.flying in let b : length (drop i s.net.flying) ≡ 0 = ap length empty in subst (λ j. RunsBy (TakesNext t) (i, s) [] (j, s) []) (omega (arith, a, b, low)) done);
        told = refl;
        flying = ap (map flown) (sym whole) ∙ sym (append-nil (map flown (take i s.net.flying)));
        injected = refl;
        agrees = record {
          stores = λ w some. agrees.stores w some ∙ ap (λ (p : SwitchState). p.stores w) (sym (idle_same (all (w % workers) (is_worker w))));
          handled = λ r w own some. agrees.handled r w own some ∙ ap (λ (p : SwitchState). get_or p.counts r 0) (sym (idle_same (all (w % workers) (is_worker w))));
        };
        away = λ w idle. refl;
        others = λ r idle. refl;
      }

  -- **steps at switches of different workers commute**: what the workers made of their copies is a round
  pub weaves : (cs : List Flying) (queues : ℕ → List Stepped) (xs : List Stepped) → Woven workers cs queues xs → (parts : ℕ → SwitchState) (s : Ordered) (i : ℕ) → map flown (drop i s.net.flying) ≡ cs → i ≤ length s.net.flying
      → ((k : ℕ) → k < workers → Works t workers (parts k) (share workers k cs) (last k) (queues k)) → Agrees t workers busy parts s → All (λ (c : Flying). busy (c.at % workers) ≡ true) cs → WeavesTo t workers busy last xs s i
  weaves cs queues xs over parts s i stand low all agrees mine = weaves_none parts queues s i stand low all agrees
  weaves cs queues xs (next {c = c} {cs = rest} {later = later} {x = x} {xs = more} took kept woven) parts s i stand low all agrees mine =
      let y = first_flown (drop i s.net.flying) c rest stand in
      let own = subst (λ l. Works t workers (parts (c.at % workers)) (share workers (c.at % workers) (c ∷ rest)) (last (c.at % workers)) l) took (all (c.at % workers) (is_worker c.at)) in
      let one = first (subst (λ l. Works t workers (parts (c.at % workers)) l (last (c.at % workers)) (x ∷ later (c.at % workers))) (share_own workers (c.at % workers) c rest refl) own) in
      let here = All-head (λ (c : Flying). busy (c.at % workers) ≡ true) c rest mine in
      weaves_on s i c rest y.0 y.1 y.2 y.3 low parts agrees here one.part x one.steps more
      (weaves rest later more woven (after s i c rest y.0 y.1 y.2 y.3 low parts agrees here one.part x one.steps) (now s i c rest y.0 y.1 y.2 y.3 low parts agrees here one.part x one.steps)
      (length (before s i c rest y.0 y.1 y.2 y.3 low parts agrees here one.part x one.steps))
      (ap (map flown) (rest_is s i c rest y.0 y.1 y.2 y.3 low parts agrees here one.part x one.steps) ∙ y.4)
      (within s i c rest y.0 y.1 y.2 y.3 low parts agrees here one.part x one.steps)
      (works_now s i c rest y.0 y.1 y.2 y.3 low parts agrees here one.part x one.steps queues later one.rest kept all)
      (agrees_now s i c rest y.0 y.1 y.2 y.3 low parts agrees here one.part x one.steps)
      (All-tail (λ (c : Flying). busy (c.at % workers) ≡ true) c rest mine))
