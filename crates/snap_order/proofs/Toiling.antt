-- Each round of copies in flight leaves fewer steps to be made.
use Rattle.std.proofs.Common.{◌≡◌, ◌≢◌, ◌⊎◌, inl, inr, ⊎_elim, ℕ, zero, suc, ◌+◌, ◌-◌, ◌*◌, ◌<◌, ◌≤◌, List, [], ◌∷◌, ◌++◌, map, take, drop, length, Some, refl, sym, ap, subst, ◌∙◌, arith}
use Rattle.std.specs.Prelude.{slice_get, sum_by, ◌==◌, if◌then◌else◌}
use Rattle.std.specs.List.{All}
use Rattle.std.proofs.lemmas.Bool.{cases_lt}
use Rattle.std.proofs.lemmas.List.Sums.{sum_by-append, sum_by-cons}
use Rattle.std.proofs.lemmas.Nat.{mul-le}
use Rattle.std.proofs.lemmas.Option.{same_Some, slice_get_within}
use Rattle.snap_core.specs.Arrays.{Arrays}
use Rattle.snap_rows.specs.Actions.{Action, Forward, Deliver, Fork}
use Rattle.snap_rows.specs.declared.head.Head.{Head}
use Rattle.snap_rows.specs.declared.head.Head.TheVariants.{Walk, Stage, Out, Visit}
use Rattle.snap_rows.specs.declared.head.Sent.{Sent}
use Rattle.snap_rows.specs.declared.tables.Tables.{Tables}
use Rattle.snap_rows.specs.Bound.{left, longest, most_stages, states_above, to_decision, to_switch}
use Rattle.snap_rows.specs.Entries.{next, rank_at, ranks, row_at}
use Rattle.snap_rows.specs.Form.{switch_count}
use Rattle.snap_rows.specs.Handles.{Handles}
use Rattle.snap_rows.specs.Network.{Copy, Event, RunsBy, Step, done, on, moved}
use Rattle.snap_rows.specs.Weight.{most_outs, weight, weight_after}
use Rattle.snap_rows.proofs.Aims.{no_hops}
use Rattle.snap_rows.proofs.Later.{rank_is_below}
use Rattle.snap_rows.proofs.Lighter.{lighter}
use Rattle.snap_rows.proofs.Rows.{All-get}
use Rattle.snap_net.specs.declared.flying.Flying.{Flying}
use Rattle.snap_net.specs.Shown.{flown}
use Rattle.snap_faithful.specs.InOrder.{Becomes, SentOn, Waiting, Forks, TakesTurns}
use Rattle.snap_faithful.proofs.Leaving.{split_up}
use Rattle.snap_faithful.proofs.Nodes.{IsTwo}
use Rattle.snap_order.specs.Ordered.{Ordered, OrderedHappening, AwaitsVisit, LeadsInOrder, left_by, moves, visits, waits}
use Rattle.snap_order.specs.Rounding.{KeepsPace, come_to, early, ranks_left, toil}
use Rattle.snap_order.specs.Rounds.{IsRound, TakesNext, takes}
use Rattle.snap_order.specs.Serving.{StandsBefore}
use Rattle.snap_order.proofs.Placed.{Placed, step_placed}
use Rattle.snap_order.proofs.Standing.{Goes, carries, comes_early, comes_stands, delivers, early_some, goes, keeps, stands_once, step_pace, unranked}
use Rattle.snap_order.proofs.Taking.{counts, stays_here, turn_handles}

-- ---- toil
abbrev pub burden : Tables → ℕ → Head → ℕ
burden t w h = weight t w h + ranks_left t h

abbrev pub toil_of : Tables → List Copy → ℕ
toil_of t cs = sum_by (λ (c : Copy). burden t c.at c.head) cs

pub toil_shown : (t : Tables) (cs : List Copy) → toil t (map flown cs) ≡ toil_of t cs
toil_shown t [] = refl
toil_shown t (c ∷ cs) =
    sum_by-cons (λ (c : Flying). burden t c.at c.head) (flown c) (map flown cs)
    ∙ ap (λ n. burden t c.at c.head + n) (toil_shown t cs)
    ∙ sym (sum_by-cons (λ (c : Copy). burden t c.at c.head) c cs)

-- others in the place of a copy
toil_replaced : (t : Tables) (list : List Copy) (j : ℕ) (c : Copy) (xs : List Copy) → slice_get list j ≡ Some c → toil_of t (take j list ++ (xs ++ drop (j + 1) list)) + burden t c.at c.head ≡ toil_of t list + toil_of t xs
toil_replaced t list j c xs found =
    let W : Copy → ℕ = λ c. burden t c.at c.head in
    let front = take j list in
    let back = drop (j + 1) list in
    let a : toil_of t (front ++ (xs ++ back)) ≡ toil_of t front + toil_of t (xs ++ back) = sum_by-append W front (xs ++ back) in
    let b : toil_of t (xs ++ back) ≡ toil_of t xs + toil_of t back = sum_by-append W xs back in
    let d : toil_of t list ≡ toil_of t (front ++ c ∷ back) = ap (toil_of t) (split_up list j c found) in
    let e : toil_of t (front ++ c ∷ back) ≡ toil_of t front + toil_of t (c ∷ back) = sum_by-append W front (c ∷ back) in
    let f : toil_of t (c ∷ back) ≡ burden t c.at c.head + toil_of t back = sum_by-cons W c back in
    omega (arith, a, b, d, e, f)

forks_toil : (t : Tables) (c : Copy) (xs : List Sent) → toil_of t (map (λ (x : Sent). record c { head = Out x.port; packet = x.packet; steps = c.steps + 1 }) xs) ≡ sum_by (λ (x : Sent). weight t c.at (Out x.port)) xs
forks_toil t c [] = refl
forks_toil t c (x ∷ xs) =
    let d : Copy = record c { head = Out x.port; packet = x.packet; steps = c.steps + 1 } in
    let rest = map (λ (x : Sent). record c { head = Out x.port; packet = x.packet; steps = c.steps + 1 }) xs in
    let a : toil_of t (d ∷ rest) ≡ burden t c.at (Out x.port) + toil_of t rest = sum_by-cons (λ (c : Copy). burden t c.at c.head) d rest in
    let b : sum_by (λ (x : Sent). weight t c.at (Out x.port)) (x ∷ xs) ≡ weight t c.at (Out x.port) + sum_by (λ (x : Sent). weight t c.at (Out x.port)) xs = sum_by-cons (λ (x : Sent). weight t c.at (Out x.port)) x xs in
    let e = forks_toil t c xs in
    let w = weight t c.at (Out x.port) in
    let f : burden t c.at (Out x.port) ≡ w = omega arith in
    omega (arith, a, b, e, f)

one_toil : (t : Tables) (d : Copy) → toil_of t (d ∷ []) ≡ burden t d.at d.head
one_toil t d = let a : toil_of t (d ∷ []) ≡ burden t d.at d.head + 0 = sum_by-cons (λ (c : Copy). burden t c.at c.head) d [] in omega (arith, a)

-- ---- what a copy leaves
stands_left : (t : Tables) (head : Head) (r q : ℕ) → StandsBefore head r → r ≤ q → ranks t - q ≤ ranks_left t head
stands_left t (Walk n) r q stands le = omega arith
stands_left t (Visit x n) r q stands le = let s : r ≡ x = stands in omega (arith, s, le)
stands_left t (Stage n i) r q stands le = absurd stands
stands_left t (Out p) r q stands le = absurd stands

module _ (t : Tables) (two : IsTwo t) where
  acts_lighter : (c : Copy) (s m : Arrays) (a : Action) → Placed t c → Handles t c.at c.packet s c.head m a → weight_after t c.at a < weight t c.at c.head
  acts_lighter c s m a p does = lighter t two.valid two.form c.at p.at c.packet s c.head m a p.home does

  fork_lighter : (c : Copy) (copies : List Sent) (lost : ℕ) → weight_after t c.at (Fork copies lost) < weight t c.at c.head → toil_of t (moved c (Fork copies lost)) < burden t c.at c.head
  fork_lighter c copies lost less =
      let a = forks_toil t c copies in
      let l : sum_by (λ (x : Sent). weight t c.at (Out x.port)) copies < weight t c.at c.head = less in
      omega (arith, a, l)

  goes_lighter : (c : Copy) {a : Action} → Goes t two c a → weight_after t c.at a < weight t c.at c.head → toil_of t (moved c a) < burden t c.at c.head
  goes_lighter c (keeps {r = r} {y = y} {v = v} stands) less =
      let a = one_toil t (record c { at = y; head = Visit r v; hops = c.hops + 1; steps = c.steps + 1 }) in
      let b = stands_left t c.head r r stands (omega arith) in
      let l : weight t y (Visit r v) < weight t c.at c.head = less in
      omega (arith, a, b, l)
  goes_lighter c (carries {y = y} {p = p} late) less =
      let a = one_toil t (record c { at = y; head = Out p; hops = c.hops + 1; steps = c.steps + 1 }) in
      let l : weight t y (Out p) < weight t c.at c.head = less in
      omega (arith, a, l)
  goes_lighter c (delivers {p = p} late) less =
      let a : toil_of t (moved c (Deliver p)) ≡ 0 = refl in
      let l : 0 < weight t c.at c.head = less in
      omega (arith, a, l)
  goes_lighter c (unranked {copies = copies} {lost = lost} none) less = fork_lighter c copies lost less

  -- a copy that stays at an owner of a greater rank
  to_own : (w q : ℕ) → rank_at t q ≡ Some w → to_switch t w (rank_at t q) ≡ 0
  to_own w q own = ap (to_switch t w) own ∙ no_hops t (switch_count t) w

  far : (q r : ℕ) → r ≤ q → (ranks t - q) * longest t ≤ (ranks t - r) * longest t
  far q r le = mul-le (ranks t - q) (longest t) (ranks t - r) (longest t) (omega (arith, le)) (omega arith)

  stays_no_heavier : (w : ℕ) (head : Head) (r q v : ℕ) → StandsBefore head r → r ≤ q → rank_at t q ≡ Some w → weight t w (Visit q v) ≤ weight t w head
  stays_no_heavier w (Visit x n) r q v stands le own =
      let s : r ≡ x = stands in
      let a : to_switch t w (rank_at t q) ≡ 0 = to_own w q own in
      let b = far q x (omega (arith, s, le)) in
      let away = to_switch t w (rank_at t x) in
      let more = most_outs t * (longest t + 1) in
      omega (arith, a, b)
  stays_no_heavier w (Walk n) r q v stands le own =
      let a : to_switch t w (rank_at t q) ≡ 0 = to_own w q own in
      let b : (ranks t - q) * longest t ≤ (ranks t + 1) * longest t = mul-le (ranks t - q) (longest t) (ranks t + 1) (longest t) (omega arith) (omega arith) in
      let e : left t w (Walk n) ≡ (ranks t + 1) * longest t =
      ap (λ b. if b then to_decision t w (row_at t w n) + (states_above t n + most_stages t + 1) * longest t else (ranks t + 1) * longest t) (ap (λ v. v == 1) two.version) in
      let more = most_outs t * (longest t + 1) in
      omega (arith, a, b, e)
  stays_no_heavier w (Stage n i) r q v stands le own = absurd stands
  stays_no_heavier w (Out p) r q v stands le own = absurd stands

  stays_lighter : (w : ℕ) (head : Head) (r q v : ℕ) → StandsBefore head r → r < q → q < ranks t → rank_at t q ≡ Some w → burden t w (Visit q v) < burden t w head
  stays_lighter w head r q v stands lt low own =
      let a = stays_no_heavier w head r q v stands (omega (arith, lt)) own in
      let b : ranks t - r ≤ ranks_left t head = stands_left t head r r stands (omega arith) in
      let e : ranks_left t (Visit q v) ≡ ranks t - q = refl in
      omega (arith, a, b, e, lt, low)

  turned_lighter : (s : Ordered) (c : Copy) {r n : ℕ} {m : Arrays} {h : ℕ → ℕ} (b : Becomes) → Placed t c → AwaitsVisit t s.net c r n → s.handled r ≡ c.number → TakesTurns t c.at c.packet c.number (s.net.stores c.at) s.handled r n m h b → toil_of t (left_by c b) < burden t c.at c.head
  turned_lighter s c {r = r} {m = m} (SentOn y q v) p before now taking =
      let a = one_toil t (record c { at = y; head = Visit q v; hops = c.hops + 1; steps = c.steps + 1 }) in
      let up = (counts t c.at c.packet c.number taking).up in
      let b = stands_left t c.head r q (comes_stands before.comes) up in
      let l : weight t y (Visit q v) < weight t c.at c.head = acts_lighter c (s.net.stores c.at) m (Forward y (Visit q v)) p (turn_handles t c.at c.packet c.number two.version before.comes taking (Forward y (Visit q v)) refl) in
      omega (arith, a, b, l)
  turned_lighter s c {m = m} (Forks copies lost) p before now taking =
      fork_lighter c copies lost (acts_lighter c (s.net.stores c.at) m (Fork copies lost) p (turn_handles t c.at c.packet c.number two.version before.comes taking (Fork copies lost) refl))
  turned_lighter s c {r = r} (Waiting q v) p before now taking =
      let here = stays_here t c.at c.packet c.number now taking in
      let lt : r + 1 ≤ q = here.0 in
      let a = one_toil t (record c { head = Visit q v; steps = c.steps + 1 }) in
      let b = stays_lighter c.at c.head r q v (comes_stands before.comes) (omega (arith, lt)) (rank_is_below t q c.at here.1) here.1 in
      omega (arith, a, b)

  -- ---- steps
  -- copy j waits, and nothing has changed
  pub record IsWaiting (s s' : Ordered) (j : ℕ) : Type 0 where
    pub same : s' ≡ s
    pub copy : Copy
    pub is : slice_get s.net.flying j ≡ Some copy
    pub rank : ℕ
    pub node : ℕ
    pub before : AwaitsVisit t s.net copy rank node
    pub early : s.handled rank ≢ copy.number

  step_toil : {s s' : Ordered} {j : ℕ} {us : List OrderedHappening} → LeadsInOrder t s (Step j) s' us → All (Placed t) s.net.flying → (toil_of t s'.net.flying < toil_of t s.net.flying) ⊎ IsWaiting s s' j
  step_toil {s = s} (moves {i = i} {c = c} {m = m} {a = a} found none does) all =
      let p = All-get (Placed t) s.net.flying i c all found in
      let less = goes_lighter c (goes t two s c m a c.head refl p none does) (acts_lighter c (s.net.stores c.at) m a p does) in
      let put = toil_replaced t s.net.flying i c (moved c a) found in
      inl (omega (arith, less, put))
  step_toil {s = s} (visits {i = i} {c = c} {b = b} found before now taking) all =
      let p = All-get (Placed t) s.net.flying i c all found in
      let less = turned_lighter s c b p before now taking in
      let put = toil_replaced t s.net.flying i c (left_by c b) found in
      inl (omega (arith, less, put))
  step_toil (waits {c = c} {r = r} {n = n} found before early) all = inr (record { same = refl; copy = c; is = found; rank = r; node = n; before = before; early = early })

  -- ---- rounds
  -- copy k doesn't wait where it is
  pub record CanGo (s : Ordered) (k : ℕ) : Type 0 where
    pub copy : Copy
    pub is : slice_get s.net.flying k ≡ Some copy
    pub now : (r n : ℕ) → AwaitsVisit t s.net copy r n → s.handled r ≡ copy.number

  pub go_waits : {s s' : Ordered} {k : ℕ} → CanGo s k → IsWaiting s s' k → ⊥
  go_waits {s = s} go w =
      let one : w.copy ≡ go.copy = same_Some w.copy go.copy (sym w.is ∙ go.is) in
      w.early (go.now w.rank w.node (subst (λ c. AwaitsVisit t s.net c w.rank w.node) one w.before) ∙ ap (λ (c : Copy). c.number) (sym one))

  pub step_falls : {s s' : Ordered} {k : ℕ} {us : List OrderedHappening} → CanGo s k → LeadsInOrder t s (Step k) s' us → All (Placed t) s.net.flying → toil_of t s'.net.flying < toil_of t s.net.flying
  step_falls go leads all = ⊎_elim (λ less. less) (λ w. absurd (go_waits go w)) (step_toil leads all)

  no_heavier : {x y : ℕ × Ordered} {es : List Event} {us : List OrderedHappening} → RunsBy (TakesNext t) x es y us → All (Placed t) x.1.net.flying → toil_of t y.1.net.flying ≤ toil_of t x.1.net.flying
  no_heavier done all = omega arith
  no_heavier (on (takes leads next) rest) all =
      let more = no_heavier rest (step_placed t two leads all) in
      ⊎_elim
      (λ less. omega (arith, less, more))
      (λ w. (let same = ap (λ (x : Ordered). toil_of t x.net.flying) w.same in omega (arith, same, more)))
      (step_toil leads all)

  -- a round in which a copy goes leaves fewer steps to be made
  round_lighter : {x y : ℕ × Ordered} {es : List Event} {us : List OrderedHappening} → RunsBy (TakesNext t) x es y us → y.0 ≡ length y.1.net.flying → All (Placed t) x.1.net.flying → (k : ℕ) → x.0 ≤ k → CanGo x.1 k → toil_of t y.1.net.flying < toil_of t x.1.net.flying
  round_lighter {y = y} done at all k le go = absurd (let within = slice_get_within y.1.net.flying k go.copy go.is in omega (arith, at, le, within))
  round_lighter (on (takes {i = i} {j = j} {s = s} {s' = mid} leads next) rest) at all k le go =
      ⊎_elim
      (λ less. (let more = no_heavier rest (step_placed t two leads all) in omega (arith, less, more)))
      (λ w.
      (let same = ap (λ (x : Ordered). toil_of t x.net.flying) w.same in
      let long = ap (λ (x : Ordered). length x.net.flying) w.same in
      ⊎_elim
      (λ (lt : i < k). (let more = round_lighter rest at (step_placed t two leads all) k (omega (arith, next, long, lt)) (subst (λ x. CanGo x k) (sym w.same) go) in omega (arith, more, same)))
      (λ (ge : k ≤ i).
      (let here : i ≡ k = omega (arith, ge, le) in absurd (go_waits go (subst (IsWaiting s mid) here w))))
      (cases_lt i k)))
      (step_toil leads all)

  -- where copies are in flight and none is left behind, one doesn't wait
  first_rank : (s : Ordered) (n : ℕ) → come_to s n < s.net.injected → (r : ℕ) × (r < n) × (s.handled r < come_to s r)
  first_rank s zero lt = absurd (let l : s.net.injected < s.net.injected = lt in omega (arith, l))
  first_rank s (suc n) lt =
      let l : s.handled n < s.net.injected = lt in
      ⊎_elim
      (λ (less : s.handled n < come_to s n). (n, omega arith, less))
      (λ (more : come_to s n ≤ s.handled n). (let f = first_rank s n (omega (arith, l, more)) in (f.0, (let x = f.1 in omega (arith, x)), f.2)))
      (cases_lt (s.handled n) (come_to s n))

  late_goes : (s : Ordered) (k : ℕ) (c : Copy) → slice_get s.net.flying k ≡ Some c → length (early s.net.flying) ≡ 0 → CanGo s k
  late_goes s k c is none = record {
    copy = c;
    is = is;
    now = λ r n b. absurd (let some = early_some s.net.flying k c is (comes_early b.comes) in omega (arith, some, none));
  }

  early_goes : (s : Ordered) → KeepsPace t s → 0 < ranks t → 0 < length (early s.net.flying) → (k : ℕ) × CanGo s k
  early_goes s pace some any =
      let all = pace.count some in
      let f = first_rank s (ranks t) (omega (arith, all, any)) in
      let st = pace.stand f.0 (s.handled f.0) f.1 (omega arith) f.2 in (
        st.place,
        record {
          copy = st.copy;
          is = st.is;
          now = λ r n b. ap s.handled (stands_once st.copy.head r f.0 (comes_stands b.comes) st.before) ∙ sym st.own;
        },
      )

  pub some_goes : (s : Ordered) → KeepsPace t s → (c : Copy) → slice_get s.net.flying 0 ≡ Some c → (k : ℕ) × CanGo s k
  some_goes s pace c is =
      ⊎_elim
      (λ (some : 0 < ranks t). ⊎_elim
      (λ (any : 0 < length (early s.net.flying)). early_goes s pace some any)
      (λ (none : length (early s.net.flying) ≤ 0). (0, late_goes s 0 c is (omega (arith, none))))
      (cases_lt 0 (length (early s.net.flying))))
      (λ (none : ranks t ≤ 0). (0, record { copy = c; is = is; now = λ r n b. absurd (let low = rank_is_below t r c.at b.owner in omega (arith, low, none)) }))
      (cases_lt 0 (ranks t))

  pub round_falls : {s s' : Ordered} {es : List Event} {us : List OrderedHappening} → IsRound t s es s' us → All (Placed t) s.net.flying → KeepsPace t s → (c : Copy) → slice_get s.net.flying 0 ≡ Some c → toil_of t s'.net.flying < toil_of t s.net.flying
  round_falls {s = s} round all pace c is = let g = some_goes s pace c is in round_lighter round refl all g.0 (omega arith) g.1

  pub round_pace : {x y : ℕ × Ordered} {es : List Event} {us : List OrderedHappening} → RunsBy (TakesNext t) x es y us → All (Placed t) x.1.net.flying → KeepsPace t x.1 → KeepsPace t y.1
  round_pace done all pace = pace
  round_pace (on (takes leads next) rest) all pace = round_pace rest (step_placed t two leads all) (step_pace t two leads all pace)
