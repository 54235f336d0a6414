-- Runs in order keep pace: no packet is left behind.
use Rattle.std.proofs.Common.{◌≡◌, ◌≢◌, ◌⊎◌, inl, inr, ⊎_elim, ℕ, zero, suc, ◌+◌, ◌<◌, ◌≤◌, Bool, true, false, cond, List, [], ◌∷◌, ◌++◌, map, take, drop, length, Some, refl, sym, ap, subst, ◌∙◌, arith}
use Rattle.std.specs.Prelude.{slice_get, is_some}
use Rattle.std.specs.List.{All}
use Rattle.std.proofs.lemmas.Bool.{both_ways, cases_lt, false≢true}
use Rattle.std.proofs.lemmas.List.{length-append}
use Rattle.std.proofs.lemmas.List.Elements.{filter-append}
use Rattle.std.proofs.lemmas.Option.{same_Some}
use Rattle.snap_core.specs.Arrays.{Arrays}
use Rattle.snap_rows.specs.Actions.{Action, Forward, Deliver, Fork}
use Rattle.snap_rows.specs.declared.head.Head.{Head}
use Rattle.snap_rows.specs.declared.head.Head.TheVariants.{Walk, Stage, Out, Visit}
use Rattle.snap_rows.specs.declared.head.Sent.{Sent}
use Rattle.snap_rows.specs.declared.tables.Tables.{Tables}
use Rattle.snap_rows.specs.Entries.{rank_at, ranks}
use Rattle.snap_rows.specs.Handles.{Handles}
use Rattle.snap_rows.specs.Home.{AtHome}
use Rattle.snap_rows.specs.Network.{Copy, Inject, Step, moved}
use Rattle.snap_rows.proofs.Later.{rank_is_below}
use Rattle.snap_rows.proofs.Rows.{All-get}
use Rattle.snap_faithful.specs.InOrder.{Becomes, SentOn, Waiting, Forks, TakesTurns}
use Rattle.snap_faithful.specs.InOrder as turn
use Rattle.snap_faithful.proofs.Leaving.{split_up}
use Rattle.snap_faithful.proofs.Nodes.{IsTwo, OutDoes, is_delivered, is_carried, out_does}
use Rattle.snap_rows.specs.Stepping.{ComesTo, visit, walk}
use Rattle.snap_order.specs.Ordered.{Ordered, OrderedHappening, AwaitsVisit, LeadsInOrder, injects, moves, visits, waits, left_by}
use Rattle.snap_order.specs.Rounding.{KeepsPace, Stands, come_to, early, is_above_leaf}
use Rattle.snap_order.specs.Serving.{StandsBefore}
use Rattle.snap_order.specs.Turning.{rank_behind}
use Rattle.snap_order.proofs.Placed.{Placed}
use Rattle.snap_order.proofs.Serving.{Passes, sent_on, split_up as forks_at_once, passes}
use Rattle.snap_order.proofs.Taking.{Counts, counts}

-- ---- lists
-- an element of a list
abbrev pub IsIn : {A : Type 0} → A → List A → Type 0
IsIn d xs = (k : ℕ) × (slice_get xs k ≡ Some d)

in_front : {A : Type 0} (xs ys : List A) (d : A) (k : ℕ) → slice_get xs k ≡ Some d → IsIn d (xs ++ ys)
in_front [] ys d k is = absurd (false≢true (ap (λ o. is_some o) is))
in_front (x ∷ xs) ys d zero is = (0, is)
in_front (x ∷ xs) ys d (suc k) is = let r = in_front xs ys d k is in (suc r.0, r.1)

in_back : {A : Type 0} (xs ys : List A) (d : A) → IsIn d ys → IsIn d (xs ++ ys)
in_back [] ys d i = i
in_back (x ∷ xs) ys d i = let r = in_back xs ys d i in (suc r.0, r.1)

in_either : {A : Type 0} (xs ys : List A) (d : A) (k : ℕ) → slice_get (xs ++ ys) k ≡ Some d → IsIn d xs ⊎ IsIn d ys
in_either [] ys d k is = inr (k, is)
in_either (x ∷ xs) ys d zero is = inl (0, is)
in_either (x ∷ xs) ys d (suc k) is = ⊎_elim (λ (i : IsIn d xs). inl (suc i.0, i.1)) (λ (i : IsIn d ys). inr i) (in_either xs ys d k is)

in_rest : {A : Type 0} (x : A) (xs : List A) (d : A) (k : ℕ) → slice_get (x ∷ xs) k ≡ Some d → (d ≡ x) ⊎ IsIn d xs
in_rest x xs d zero is = inl (sym (same_Some x d is))
in_rest x xs d (suc k) is = inr (k, is)

-- others in the place of an element: each is that element, or stays
in_replaced : {A : Type 0} (list : List A) (j : ℕ) (c : A) (xs : List A) → slice_get list j ≡ Some c → (d : A) → IsIn d list → (d ≡ c) ⊎ IsIn d (take j list ++ (xs ++ drop (j + 1) list))
in_replaced list j c xs found d i =
    let front = take j list in
    let back = drop (j + 1) list in
    ⊎_elim
    (λ (f : IsIn d front). inr (in_front front (xs ++ back) d f.0 f.1))
    (λ (b : IsIn d (c ∷ back)). ⊎_elim (λ e. inl e) (λ (r : IsIn d back). inr (in_back front (xs ++ back) d (in_back xs back d r))) (in_rest c back d b.0 b.1))
    (in_either front (c ∷ back) d i.0 (ap (λ l. slice_get l i.0) (sym (split_up list j c found)) ∙ i.1))

in_put : {A : Type 0} (list : List A) (j : ℕ) (xs : List A) (d : A) → IsIn d xs → IsIn d (take j list ++ (xs ++ drop (j + 1) list))
in_put list j xs d i = in_back (take j list) (xs ++ drop (j + 1) list) d (in_front xs (drop (j + 1) list) d i.0 i.1)

-- ---- heads
pub stands_early : (head : Head) (r : ℕ) → StandsBefore head r → is_above_leaf head ≡ true
stands_early (Walk n) r stands = refl
stands_early (Visit q n) r stands = refl
stands_early (Stage n i) r stands = absurd stands
stands_early (Out p) r stands = absurd stands

pub comes_early : {t : Tables} {w : ℕ} {k : List ℕ} {m : Arrays} {head : Head} {r n : ℕ} → ComesTo t w k m head r n → is_above_leaf head ≡ true
comes_early visit = refl
comes_early (walk some follow) = refl

pub comes_stands : {t : Tables} {w : ℕ} {k : List ℕ} {m : Arrays} {head : Head} {r n : ℕ} → ComesTo t w k m head r n → StandsBefore head r
comes_stands visit = refl
comes_stands (walk some follow) = refl

pub stands_once : (head : Head) (q r : ℕ) → StandsBefore head q → StandsBefore head r → q ≡ r
stands_once (Walk n) q r a b = a ∙ sym b
stands_once (Visit x n) q r a b = a ∙ sym b
stands_once (Stage n i) q r a b = absurd a
stands_once (Out p) q r a b = absurd a

-- one, if the copy hasn't forked
abbrev early_count : (c : Copy) → ℕ
early_count c = cond (is_above_leaf c.head) 1 0

early_cons : (c : Copy) (cs : List Copy) → length (early (c ∷ cs)) ≡ early_count c + length (early cs)
early_cons c cs = by (is_above_leaf c.head)
  where
    by : (b : Bool) → length (cond b (c ∷ early cs) (early cs)) ≡ cond b 1 0 + length (early cs)
    by true = omega arith
    by false = omega arith

early_append : (xs ys : List Copy) → length (early (xs ++ ys)) ≡ length (early xs) + length (early ys)
early_append xs ys = ap length (filter-append (λ (c : Copy). is_above_leaf c.head) xs ys) ∙ length-append (early xs) (early ys)

early_replaced : (list : List Copy) (j : ℕ) (c : Copy) (xs : List Copy) → slice_get list j ≡ Some c → length (early (take j list ++ (xs ++ drop (j + 1) list))) + early_count c ≡ length (early list) + length (early xs)
early_replaced list j c xs found =
    let front = take j list in
    let back = drop (j + 1) list in
    let a = early_append front (xs ++ back) in
    let b = early_append xs back in
    let d : length (early list) ≡ length (early (front ++ c ∷ back)) = ap (λ l. length (early l)) (split_up list j c found) in
    let e = early_append front (c ∷ back) in
    let f = early_cons c back in
    omega (arith, a, b, d, e, f)

pub early_some : (cs : List Copy) (k : ℕ) (c : Copy) → slice_get cs k ≡ Some c → is_above_leaf c.head ≡ true → 0 < length (early cs)
early_some cs k c is e =
    let a = early_replaced cs k c [] is in
    let one : early_count c ≡ 1 = ap (λ b. cond {A = ℕ} b 1 0) e in
    omega (arith, a, one)

forks_late : (c : Copy) (copies : List Sent) → length (early (map (λ (x : Sent). record c { head = Out x.port; packet = x.packet; steps = c.steps + 1 }) copies)) ≡ 0
forks_late c [] = refl
forks_late c (x ∷ xs) = forks_late c xs

-- ---- the next place
-- a copy in flight stands so
still : {s' : Ordered} {r i : ℕ} (d : Copy) → IsIn d s'.net.flying → d.number ≡ i → StandsBefore d.head r → Stands s' r i
still d i own before = record { copy = d; place = i.0; is = i.1; own = own; before = before }

module _ (t : Tables) (two : IsTwo t) where
  -- what a copy does that is before no visit
  pub data Goes (c : Copy) : Action → Type 0 where
    keeps : {r y v : ℕ} → StandsBefore c.head r → Goes c (Forward y (Visit r v))
    carries : {y p : ℕ} → is_above_leaf c.head ≡ false → Goes c (Forward y (Out p))
    delivers : {p : ℕ} → is_above_leaf c.head ≡ false → Goes c (Deliver p)
    unranked : {copies : List Sent} {lost : ℕ} → ranks t ≡ 0 → Goes c (Fork copies lost)

  passed : (c : Copy) (r : ℕ) {m m' : Arrays} {a : Action} → StandsBefore c.head r → Passes t two c.number r m m' a → Goes c a
  passed c r stands sent_on = keeps stands
  passed c r stands (forks_at_once none) = unranked none

  out : (c : Copy) {p : ℕ} {m m' : Arrays} {a : Action} → is_above_leaf c.head ≡ false → OutDoes p m m' a → Goes c a
  out c late is_delivered = delivers late
  out c late is_carried = carries late

  pub goes : (s : Ordered) (c : Copy) (m : Arrays) (a : Action) (head : Head) → c.head ≡ head → Placed t c → ((r n : ℕ) → ¬ AwaitsVisit t s.net c r n) → Handles t c.at c.packet (s.net.stores c.at) c.head m a → Goes c a
  goes s c m a (Walk n) e p none does = passed c 0 (subst (λ h. StandsBefore h 0) (sym e) refl) (passes t two c.number c.head 0 (subst (λ h. StandsBefore h 0) (sym e) refl) (λ q v to own. none q v (record { comes = to; owner = own })) does)
  goes s c m a (Visit r n) e p none does = passed c r (subst (λ h. StandsBefore h r) (sym e) refl) (passes t two c.number c.head r (subst (λ h. StandsBefore h r) (sym e) refl) (λ q v to own. none q v (record { comes = to; owner = own })) does)
  goes s c m a (Stage n i) e p none does = absurd (let one = (subst (AtHome t c.at) e p.home).0 in let both = two.version in omega (arith, one, both))
  goes s c m a (Out port) e p none does = out c (ap is_above_leaf e) (out_does (subst (λ h. Handles t c.at c.packet (s.net.stores c.at) h m a) e does))

  -- ---- a copy has made a step
  module _ (s s' : Ordered) (c : Copy) (j : ℕ) (found : slice_get s.net.flying j ≡ Some c) (pace : KeepsPace t s) (xs : List Copy) (put : s'.net.flying ≡ take j s.net.flying ++ (xs ++ drop (j + 1) s.net.flying)) (injected : s'.net.injected ≡ s.net.injected) where
    -- the others stand where they stood
    others : (r i : ℕ) → (st : Stands s r i) → (st.copy ≡ c) ⊎ Stands s' r i
    others r i st =
        ⊎_elim (λ e. inl e) (λ (k : IsIn st.copy (take j s.net.flying ++ (xs ++ drop (j + 1) s.net.flying))). inr (still {s' = s'} st.copy (subst (IsIn st.copy) (sym put) k) st.own st.before))
        (in_replaced s.net.flying j c xs found st.copy (st.place, st.is))

    count_after : length (early s'.net.flying) + early_count c ≡ length (early s.net.flying) + length (early xs)
    count_after = ap (λ l. length (early l) + early_count c) put ∙ early_replaced s.net.flying j c xs found

    -- nothing was handled
    module _ (same : (q : ℕ) → s'.handled q ≡ s.handled q) where
      come_same : (r : ℕ) → come_to s' r ≡ come_to s r
      come_same zero = injected
      come_same (suc q) = same q

      stood : (r i : ℕ) → r < ranks t → s'.handled r ≤ i → i < come_to s' r → Stands s r i
      stood r i low le lt = pace.stand r i low (subst (λ n. n ≤ i) (same r) le) (subst (λ n. i < n) (come_same r) lt)

      -- it stays before its rank
      pub pace_kept : (d : Copy) (r : ℕ) → xs ≡ d ∷ [] → StandsBefore c.head r → StandsBefore d.head r → d.number ≡ c.number → KeepsPace t s'
      pace_kept d r one stands stands' own = record {
        stand = λ q i low le lt. stand q i (stood q i low le lt);
        count = λ some.
            (let a = pace.count some in
            let b = count_after in
            let e : early_count c ≡ 1 = ap (λ x. cond {A = ℕ} x 1 0) (stands_early c.head r stands) in
            let f : length (early xs) ≡ 1 = ap (λ l. length (early l)) one ∙ early_cons d [] ∙ ap (λ x. cond {A = ℕ} x 1 0 + 0) (stands_early d.head r stands') in
            let g = come_same (ranks t) in
            let h = injected in
            omega (arith, a, b, e, f, g, h));
      }
        where
          stand : (q i : ℕ) → Stands s q i → Stands s' q i
          stand q i st =
              ⊎_elim
              (λ e.
              (let rank = stands_once c.head r q stands (subst (λ (x : Copy). StandsBefore x.head q) e st.before) in
              still {s' = s'} d (subst (IsIn d) (sym put) (in_put s.net.flying j xs d (subst (IsIn d) (sym one) (0, refl)))) (own ∙ ap (λ (x : Copy). x.number) (sym e) ∙ st.own) (subst (StandsBefore d.head) rank stands')))
              (λ (k : Stands s' q i). k)
              (others q i st)

      -- it had forked
      pub pace_late : is_above_leaf c.head ≡ false → length (early xs) ≡ 0 → KeepsPace t s'
      pace_late late none = record {
        stand = λ q i low le lt.
            ⊎_elim
            (λ e. absurd (both_ways _ late (stands_early c.head q (subst (λ (x : Copy). StandsBefore x.head q) e (stood q i low le lt).before))))
            (λ (k : Stands s' q i). k)
            (others q i (stood q i low le lt));
        count = λ some.
            (let a = pace.count some in
            let b = count_after in
            let e : early_count c ≡ 0 = ap (λ x. cond {A = ℕ} x 1 0) late in
            let g = come_same (ranks t) in
            let h = injected in
            omega (arith, a, b, e, none, g, h));
      }

      pub pace_goes : {a : Action} → Goes c a → xs ≡ moved c a → KeepsPace t s'
      pace_goes (keeps {r = r} stands) is = pace_kept _ r is stands refl refl
      pace_goes (carries late) is = pace_late late (ap (λ l. length (early l)) is)
      pace_goes (delivers late) is = pace_late late (ap (λ l. length (early l)) is)
      pace_goes (unranked none) is = record { stand = λ q i low le lt. absurd (omega (arith, low, none)); count = λ some. absurd (omega (arith, some, none)) }

    -- it has made its visits from rank r on, below rank e
    module _ (r e : ℕ) (stands : StandsBefore c.head r) (turn : s.handled r ≡ c.number) (some : r < e) (within : e ≤ ranks t) (counted : Counts t c.at c.packet c.number r e s.handled s'.handled) where
      come_low : (q : ℕ) → q ≤ r → come_to s' q ≡ come_to s q
      come_low zero le = injected
      come_low (suc q) le = counted.low q (omega (arith, le))

      come_mine : (q : ℕ) → r < q → q ≤ e → (come_to s' q ≡ c.number + 1) × (come_to s q ≡ c.number)
      come_mine zero lt le = absurd (omega (arith, lt))
      come_mine (suc q) lt le = let m = counted.mine q (omega (arith, lt)) (omega (arith, le)) in (m.2, m.1)

      come_high : (q : ℕ) → e < q → come_to s' q ≡ come_to s q
      come_high zero lt = absurd (omega (arith, lt))
      come_high (suc q) lt = counted.high q (omega (arith, lt))

      -- another packet, or another rank
      kept : (q i : ℕ) → (q ≢ r) ⊎ (i ≢ c.number) → Stands s q i → Stands s' q i
      kept q i apart st =
          ⊎_elim
          (λ e.
          (let rank = stands_once c.head q r (subst (λ (x : Copy). StandsBefore x.head q) e st.before) stands in
          let number : i ≡ c.number = sym st.own ∙ ap (λ (x : Copy). x.number) e in
          ⊎_elim (λ (other : q ≢ r). absurd (other rank)) (λ (other : i ≢ c.number). absurd (other number)) apart))
          (λ (k : Stands s' q i). k)
          (others q i st)

      below : (q i : ℕ) → q < ranks t → q ≤ r → s'.handled q ≤ i → i < come_to s' q → Stands s' q i
      below q i low le handled come = ⊎_elim
          (λ (less : q < r).
          (let h = counted.low q less in let k = come_low q le in
          kept q i (inl (λ x. omega (arith, less, x))) (pace.stand q i low (omega (arith, handled, h)) (omega (arith, come, k)))))
          (λ (more : r ≤ q).
          (let h = (counted.mine q more (omega (arith, le, some))).2 in let k = come_low q le in
          kept q i (inr (λ x. omega (arith, handled, h, x))) (pace.stand q i low (let same : s.handled q ≡ s.handled r = ap s.handled (omega (arith, le, more)) in omega (arith, handled, h, same, turn)) (omega (arith, come, k)))))
          (cases_lt q r)

      above : (q i : ℕ) → q < ranks t → e < q → s'.handled q ≤ i → i < come_to s' q → Stands s' q i
      above q i low lt handled come =
          let h = counted.high q (omega (arith, lt)) in
          let k = come_high q lt in
          kept q i (inl (λ x. omega (arith, lt, some, x))) (pace.stand q i low (omega (arith, handled, h)) (omega (arith, come, k)))

      between : (q i : ℕ) → r < q → q < e → s'.handled q ≤ i → i < come_to s' q → ⊥
      between q i lt le handled come =
          let h = (counted.mine q (omega (arith, lt)) le).2 in
          let k = (come_mine q lt (omega (arith, le))).0 in
          omega (arith, handled, come, h, k)

      -- those that stood before the rank behind
      at_end : (i : ℕ) → e < ranks t → s'.handled e ≤ i → i < c.number → Stands s' e i
      at_end i low handled less =
          let h = counted.high e (omega arith) in
          let k = (come_mine e some (omega arith)).1 in
          kept e i (inr (λ x. omega (arith, less, x))) (pace.stand e i low (omega (arith, handled, h)) (omega (arith, less, k)))

      placed_at : (q i : ℕ) → q < ranks t → s'.handled q ≤ i → i < come_to s' q → ((i : ℕ) → q ≡ e → i ≡ c.number → Stands s' q i) → Stands s' q i
      placed_at q i low handled come new = ⊎_elim
          (λ (lt : r < q). ⊎_elim
          (λ (less : q < e). absurd (between q i lt less handled come))
          (λ (more : e ≤ q). ⊎_elim
          (λ (beyond : e < q). above q i low beyond handled come)
          (λ (le : q ≤ e).
          (let same : q ≡ e = omega (arith, le, more) in
          let k = (come_mine q lt le).0 in
          ⊎_elim
          (λ (less : i < c.number). subst (λ x. Stands s' x i) (sym same) (at_end i (subst (λ x. x < ranks t) same low) (subst (λ x. s'.handled x ≤ i) same handled) less))
          (λ (most : c.number ≤ i). new i same (omega (arith, most, come, k)))
          (cases_lt i c.number)))
          (cases_lt e q))
          (cases_lt q e))
          (λ (le : q ≤ r). below q i low le handled come)
          (cases_lt r q)

      -- and stands before the rank behind
      pub pace_on : (d : Copy) → xs ≡ d ∷ [] → e < ranks t → StandsBefore d.head e → d.number ≡ c.number → KeepsPace t s'
      pace_on d one low stands' own = record {
        stand = λ q i low' handled come. placed_at q i low' handled come
            (λ i same number.
            still {s' = s'} d (subst (IsIn d) (sym put) (in_put s.net.flying j xs d (subst (IsIn d) (sym one) (0, refl)))) (own ∙ sym number) (subst (StandsBefore d.head) (sym same) stands'));
        count = λ any.
            (let a = pace.count any in
            let b = count_after in
            let x : early_count c ≡ 1 = ap (λ x. cond {A = ℕ} x 1 0) (stands_early c.head r stands) in
            let y : length (early xs) ≡ 1 = ap (λ l. length (early l)) one ∙ early_cons d [] ∙ ap (λ x. cond {A = ℕ} x 1 0 + 0) (stands_early d.head e stands') in
            let g = come_high (ranks t) low in
            let h = injected in
            omega (arith, a, b, x, y, g, h));
      }

      -- or has forked
      pub pace_forked : e ≡ ranks t → length (early xs) ≡ 0 → KeepsPace t s'
      pace_forked top none = record {
        stand = λ q i low handled come. placed_at q i low handled come (λ i same number. absurd (omega (arith, low, same, top)));
        count = λ any.
            (let a = pace.count any in
            let b = count_after in
            let x : early_count c ≡ 1 = ap (λ x. cond {A = ℕ} x 1 0) (stands_early c.head r stands) in
            let g = come_mine (ranks t) (omega (arith, some, top)) (omega (arith, top)) in
            let g0 = g.0 in
            let g1 = g.1 in
            let h = injected in
            omega (arith, a, b, x, none, g0, g1, h));
      }

  -- ---- what visits leave
  abbrev Below : Becomes → Type 0
  Below (SentOn y q v) = q < ranks t
  Below (Waiting q v) = q < ranks t
  Below (Forks copies lost) = Unit {0}

  becomes_below : {w : ℕ} {k : List ℕ} {i : ℕ} {m m' : Arrays} {h h' : ℕ → ℕ} {r n : ℕ} {b : Becomes} → TakesTurns t w k i m h r n m' h' b → Below b
  becomes_below (turn.seeks {r = r} {x = x} own away) = rank_is_below t r x own
  becomes_below {w = w} (turn.waits {r = r} own early) = rank_is_below t r w own
  becomes_below (turn.visits own now made more rest) = becomes_below rest
  becomes_below (turn.concludes own now made last row) = tt

  -- one visit at least
  pub turned_some : {w : ℕ} {k : List ℕ} {i : ℕ} {m m' : Arrays} {h : ℕ → ℕ} {r n : ℕ} {h' : ℕ → ℕ} {b : Becomes} → rank_at t r ≡ Some w → h r ≡ i → TakesTurns t w k i m h r n m' h' b → r < rank_behind t b
  turned_some {w = w} own now (turn.seeks {x = x} there away) = absurd (away (same_Some x w (sym there ∙ own)))
  turned_some own now (turn.waits there early) = absurd (early now)
  turned_some {w = w} {k = k} {i = i} {b = b} own now (turn.visits {r = r} there at made more rest) = let c = (counts t w k i rest).up in omega (arith, c)
  turned_some own now (turn.concludes there at made last row) = omega (arith, last)

  pub step_pace : {s s' : Ordered} {j : ℕ} {us : List OrderedHappening} → LeadsInOrder t s (Step j) s' us → All (Placed t) s.net.flying → KeepsPace t s → KeepsPace t s'
  step_pace {s = s} {s' = s'} (moves {i = i} {c = c} {m = m} {a = a} found none does) all pace =
      pace_goes s s' c i found pace (moved c a) refl refl (λ q. refl) (goes s c m a c.head refl (All-get (Placed t) s.net.flying i c all found) none does) refl
  step_pace {s = s} {s' = s'} (visits {i = i} {c = c} {r = r} {n = n} {m = m} {h = h} {b = b} found before now takes) all pace = by b takes refl
    where
      by : (b' : Becomes) → TakesTurns t c.at c.packet c.number (s.net.stores c.at) s.handled r n m h b' → b ≡ b' → KeepsPace t s'
      by (SentOn y q v) takes e =
          pace_on s s' c i found pace (left_by c b) refl refl r q (comes_stands before.comes) now (turned_some before.owner now takes) (let x = becomes_below takes in omega (arith, x)) (counts t c.at c.packet c.number takes) _ (ap (left_by c) e) (becomes_below takes) refl refl
      by (Waiting q v) takes e =
          pace_on s s' c i found pace (left_by c b) refl refl r q (comes_stands before.comes) now (turned_some before.owner now takes) (let x = becomes_below takes in omega (arith, x)) (counts t c.at c.packet c.number takes) _ (ap (left_by c) e) (becomes_below takes) refl refl
      by (Forks copies lost) takes e =
          pace_forked s s' c i found pace (left_by c b) refl refl r (ranks t) (comes_stands before.comes) now (turned_some before.owner now takes) (omega arith) (counts t c.at c.packet c.number takes) refl (ap (λ x. length (early (left_by c x))) e ∙ forks_late c copies)
  step_pace (waits found before early) all pace = pace

-- ---- the first state, and injections
pub pace_first : (t : Tables) (s : Ordered) → s.net.injected ≡ 0 → s.net.flying ≡ [] → ((q : ℕ) → s.handled q ≡ 0) → KeepsPace t s
pace_first t s none empty zero_handled = record {
  stand = λ r i low le lt. absurd (let e = come r in omega (arith, lt, e));
  count = λ some. (let a = come (ranks t) in let b : length (early s.net.flying) ≡ 0 = ap (λ l. length (early l)) empty in omega (arith, a, b, none));
}
  where
    come : (r : ℕ) → come_to s r ≡ 0
    come zero = none
    come (suc q) = zero_handled q

pub inject_pace : {t : Tables} {s s' : Ordered} {port : ℕ} {k : List ℕ} {us : List OrderedHappening} → LeadsInOrder t s (Inject port k) s' us → KeepsPace t s → KeepsPace t s'
inject_pace {t = t} {s = s} {s' = s'} {k = k} (injects {w = w} at first) pace = record {
  stand = stand;
  count = λ some.
      (let a = pace.count some in
      let b = early_append s.net.flying (c ∷ []) in
      let e : length (early (c ∷ [])) ≡ 1 = refl in
      let f = come (ranks t) some in
      omega (arith, a, b, e, f));
}
  where
    c : Copy
    c = record { number = s.net.injected; at = w; head = Walk 0; packet = k; hops = 0; steps = 0 }

    come : (r : ℕ) → 0 < r → come_to s' r ≡ come_to s r
    come zero some = absurd (omega (arith, some))
    come (suc q) some = refl

    old : (r i : ℕ) → Stands s r i → Stands s' r i
    old r i st = still {s' = s'} st.copy (in_front s.net.flying (c ∷ []) st.copy st.place st.is) st.own st.before

    stand : (r i : ℕ) → r < ranks t → s'.handled r ≤ i → i < come_to s' r → Stands s' r i
    stand zero i low le lt =
        ⊎_elim (λ (less : i < s.net.injected). old 0 i (pace.stand 0 i low le less)) (λ (more : s.net.injected ≤ i). still {s' = s'} c (in_back s.net.flying (c ∷ []) c (0, refl)) (let l : i < s.net.injected + 1 = lt in omega (arith, l, more)) refl)
        (cases_lt i s.net.injected)
    stand (suc q) i low le lt = old (suc q) i (pace.stand (suc q) i low le lt)
