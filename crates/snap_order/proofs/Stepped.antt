-- A step whose visits are in order is one of the ordered network.
use Rattle.std.proofs.Common.{Bor, ◌≡◌, ◌≢◌, ◌⊎◌, inl, inr, ⊎_elim, ℕ, ◌+◌, ◌<◌, ◌≤◌, Bool, true, false, List, [], ◌∷◌, ◌++◌, map, take, drop, get_or, Some, refl, sym, ap, subst, ◌∙◌, arith}
use Rattle.std.specs.Prelude.{slice_get, ◌==◌, if◌then◌else◌}
use Rattle.std.proofs.lemmas.Option.{slice_get_within, same_Some}
use Rattle.std.proofs.lemmas.Bool.{cases_lt, eqb-false, eqb-true}
use Rattle.snap_core.specs.declared.policy.Update.{Update}
use Rattle.snap_core.specs.Arrays.{Arrays}
use Rattle.snap_core.specs.Cells.{Kept}
use Rattle.snap_core.specs.Tests.{results}
use Rattle.snap_rows.specs.Actions.{Action, Forward, Deliver, Fork}
use Rattle.snap_rows.specs.declared.head.Fate.{Fate}
use Rattle.snap_rows.specs.declared.head.Fate.TheVariants as fate
use Rattle.snap_rows.specs.declared.head.Head.{Head}
use Rattle.snap_rows.specs.declared.head.Head.TheVariants.{Walk, Stage, Out, Visit}
use Rattle.snap_rows.specs.declared.tables.Row.TheVariants.{Last}
use Rattle.snap_rows.specs.declared.tables.Tables.{Tables}
use Rattle.snap_rows.specs.Entries.{Parts, next, rank_at, ranks, row_at}
use Rattle.snap_rows.specs.Handles.{Handles, asks, goes, forks, begins, passes_on, goes_on, completes, enters, enters_last, seeks, visits, concludes, delivers, carries}
use Rattle.snap_rows.specs.Home.{AtHome}
use Rattle.snap_rows.specs.Network.{Copy, Step, happening, moved, stepped}
use Rattle.snap_rows.specs.Stepping.{ActsAs, ComesTo, HasVisited, IsBeforeNone, Steps, Visiting, none, more}
use Rattle.snap_rows.specs.Stepping as stepping
use Rattle.snap_rows.proofs.Later.{not_one, rank_is_below}
use Rattle.snap_rows.proofs.Rows.{All-get}
use Rattle.snap_net.specs.declared.flying.Flying.{Flying}
use Rattle.snap_net.specs.declared.happened.Moved.{Moved}
use Rattle.snap_net.specs.Flights.{spliced}
use Rattle.snap_net.specs.Moves.{Changed, HasMade, StepsAt, flights, left_by, told_by}
use Rattle.snap_net.specs.Shown.{NetView, IsNetView, flown, store_of}
use Rattle.snap_net.proofs.Splices.{same_place, there_now}
use Rattle.snap_net.proofs.Steps.{acts_leave, acts_tell, copy_shown, flown_moved, moving_of, shows_replaced}
use Rattle.snap_runs.specs.Tallies.{IsThere}
use Rattle.snap_faithful.specs.Agreement.{lost_of, sent_of}
use Rattle.snap_faithful.specs.InOrder.{Becomes, SentOn, Waiting, Forks, TakesTurns, handled_more}
use Rattle.snap_faithful.specs.InOrder as turns
use Rattle.snap_faithful.proofs.Nodes.{IsTwo, no_leaf}
use Rattle.snap_order.specs.Ordered.{Ordered, OrderedHappening, Happens, Waits, LeadsInOrder, turn_of, visited}
use Rattle.snap_order.specs.Ordered as ordered
use Rattle.snap_order.specs.Shown.{SimulatesInOrder, OrderedNetView, RepresentsInOrder, TellsTurn, told_of}
use Rattle.snap_order.specs.Turning.{HasCounted, behind_after, behind_at, fate_behind, first_of, next_rank, rank_behind}
use Rattle.snap_order.proofs.Handling.{counted_so}
use Rattle.snap_order.proofs.Taking.{counts, more_other}

-- ---- visits that were made
module _ {t : Tables} {w : ℕ} {k : List ℕ} {may : ℕ → Bool} {m : Arrays} {r n : ℕ} where
  -- they rise
  pub made_up : {m' : Arrays} {q v : ℕ} → Visiting t w k may m r n m' q v → r ≤ q
  made_up none = omega arith
  made_up (more {q = q} before own admitted made) = let low = made_up before in omega (arith, low)

  -- where the next is the first, none was made
  none_made : {m' : Arrays} {q v : ℕ} → Visiting t w k may m r n m' q v → q ≡ r → m' ≡ m
  none_made none e = refl
  none_made (more {q = q} before own admitted made) e = absurd (let low = made_up before in omega (arith, low, e))

  -- else the first was admitted
  first_may : {m' : Arrays} {q v : ℕ} → Visiting t w k may m r n m' q v → (q ≡ r) ⊎ (may r ≡ true)
  first_may none = inl refl
  first_may (more before own admitted made) = ⊎_elim (λ e. inr (subst (λ j. may j ≡ true) e admitted)) (λ first. inr first) (first_may before)

  first_made : {m' : Arrays} {q v : ℕ} → Visiting t w k may m r n m' q v → q ≢ r → may r ≡ true
  first_made made away = ⊎_elim (λ e. absurd (away e)) (λ first. first) (first_may made)

  module _ (h : ℕ → ℕ) where
    -- the numbers that ranks have handled then
    pub raised : {m' : Arrays} {q v : ℕ} → Visiting t w k may m r n m' q v → ℕ → ℕ
    raised none = h
    raised (more {q = q} before own admitted made) = handled_more (raised before) q

    -- those of ranks from the next on are the same
    raised_high : {m' : Arrays} {q v : ℕ} (made : Visiting t w k may m r n m' q v) (j : ℕ) → q ≤ j → raised made j ≡ h j
    unfolding raised
    raised_high none j high = refl
    raised_high (more {q = q} before own admitted made) j high = more_other (raised before) q j (λ e. (omega (arith, high, e))) ∙ raised_high before j (omega (arith, high))

    module _ (i : ℕ) (turn : (j : ℕ) → may j ≡ true → h j ≡ i) where
      -- turns that follow visits follow the first
      turns_behind : {m' : Arrays} {q v : ℕ} (made : Visiting t w k may m r n m' q v) → q < ranks t → (m'' : Arrays) (h'' : ℕ → ℕ) (b : Becomes) → TakesTurns t w k i m' (raised made) q v m'' h'' b → TakesTurns t w k i m h r n m'' h'' b
      unfolding raised
      turns_behind none low m'' h'' b takes = takes
      turns_behind (more {q = q} before own admitted made) low m'' h'' b takes =
          turns_behind before (rank_is_below t q w own) m'' h'' b (turns.visits own (raised_high before q (omega arith) ∙ turn q admitted) made low takes)

-- what a fate is as what becomes of a copy after visits
abbrev pub Becoming : Tables → ℕ → List ℕ → Fate → Becomes → Type 0
Becoming t w k (fate.Seek x h) b = (q : ℕ) × (v : ℕ) × (h ≡ Visit q v) × (b ≡ SentOn (next t w x) q v)
Becoming t w k (fate.Deliver port) b = ⊥
Becoming t w k (fate.Fork outs) b = b ≡ Forks (sent_of t (results outs.now k)) (lost_of t (results outs.now k))
Becoming t w k (fate.Stay q v) b = b ≡ Waiting q v
Becoming t w k (fate.Wait q) b = ⊥

-- the copy waits, or its turns were taken
abbrev pub WaitsOrTurns : Tables → ℕ → List ℕ → ℕ → (ℕ → Bool) → (ℕ → ℕ) → Arrays → (r n : ℕ) → Arrays → Fate → Type 0
WaitsOrTurns t w k i may h m r n m' f =
    ((f ≡ fate.Wait r) × (m' ≡ m) × (may r ≡ false)) ⊎ ((may r ≡ true) × ((h' : ℕ → ℕ) × (b : Becomes) × TakesTurns t w k i m h r n m' h' b × Becoming t w k f b))

module _ (t : Tables) (w : ℕ) (k : List ℕ) (i : ℕ) (may : ℕ → Bool) (h : ℕ → ℕ) (m : Arrays) (r n : ℕ) (turn : (j : ℕ) → may j ≡ true → h j ≡ i) (early : (j : ℕ) → may j ≡ false → h j ≢ i) (here : rank_at t r ≡ Some w) where
  fork_taken : {m' : Arrays} {q v : ℕ} (outs : Bor (List Parts)) (made : Visiting t w k may m r n m' q v) → r < q → q ≡ ranks t → (us : List Update) → row_at t w v ≡ Some (Last us outs.now) → WaitsOrTurns t w k i may h m r n m' (fate.Fork outs)
  fork_taken outs none low top us row = absurd (omega (arith, low))
  fork_taken outs (more {q = q} before own admitted made) low top us row = inr (
    first_made (more before own admitted made) (λ e. (omega (arith, low, e))),
    (
      handled_more (raised h before) q,
      Forks (sent_of t (results outs.now k)) (lost_of t (results outs.now k)),
      turns_behind h i turn before (rank_is_below t q w own) _ _ _ (turns.concludes own (raised_high h before q (omega arith) ∙ turn q admitted) made top row),
      refl,
    ),
  )

  pub turns_taken : {m' : Arrays} (f : Fate) → HasVisited t w k may m r n m' f → WaitsOrTurns t w k i may h m r n m' f
  turns_taken (fate.Seek x head) did =
      let q = did.last in
      let v = did.number in
      let ends = did.ends in
      let away : q ≢ r = λ e. ends.1 (same_Some _ _ (sym ends.0 ∙ ap (rank_at t) e ∙ here)) in
      inr (
        first_made did.made away,
        (
          raised h did.made,
          SentOn (next t w x) q v,
          turns_behind h i turn did.made (rank_is_below t q x ends.0) _ _ _ (turns.seeks ends.0 ends.1),
          (q, v, ends.2, refl),
        ),
      )
  turns_taken (fate.Deliver port) did = absurd did.ends
  turns_taken (fate.Fork outs) did = fork_taken outs did.made did.ends.0 did.ends.1 did.ends.2.0 did.ends.2.1
  turns_taken (fate.Stay q' v') did =
      let q = did.last in
      let v = did.number in
      let ends = did.ends in
      let low = ends.0 in
      inr (
        first_made did.made (λ e. (omega (arith, low, e))),
        (
          raised h did.made,
          Waiting q v,
          turns_behind h i turn did.made (rank_is_below t q w ends.1) _ _ _ (turns.waits ends.1 (λ e. early q ends.2 (sym (raised_high h did.made q (omega arith)) ∙ e))),
          (λ z. Waiting (sym ends.3 z) (sym ends.4 z)),
        ),
      )
  turns_taken (fate.Wait q') did = let ends = did.ends in inl (ap fate.Wait ends.3, none_made did.made ends.0, ends.2)

-- ---- the rank behind the visits of a step
-- of a step that makes none
abbrev pub behind_by : Tables → (first : ℕ) → Action → ℕ
behind_by t first (Forward to head) = next_rank first head
behind_by t first (Deliver port) = first
behind_by t first (Fork copies lost) = ranks t

pub no_visits : (t : Tables) → IsTwo t → {w : ℕ} {k : List ℕ} {m m' : Arrays} {head : Head} {a : Action} → IsBeforeNone t w k head → Handles t w k m head m' a → behind_by t (first_of t head) a ≡ first_of t head
no_visits t two early (asks one row sides on) = absurd (not_one t two.version one)
no_visits t two early (goes row) = refl
no_visits t two {w = w} early (forks {n = n} row) = absurd (no_leaf t two w n _ _ row)
no_visits t two {w = w} early (begins {n = n} row on) = absurd (no_leaf t two w n _ _ row)
no_visits t two early (passes_on row is away) = refl
no_visits t two {w = w} early (goes_on {n = n} row is at few on) = absurd (no_leaf t two w n _ _ row)
no_visits t two early (completes row is at last) = refl
no_visits t two early (enters version some follow (seeks own away)) = refl
no_visits t two {m = m} early (enters {v = v} version some follow (visits own made few on)) = absurd (early version m 0 v (stepping.walk some follow) own)
no_visits t two {m = m} early (enters {v = v} version some follow (concludes own made last row)) = absurd (early version m 0 v (stepping.walk some follow) own)
no_visits t two early (enters_last version unranked follow row) = unranked
no_visits t two early (seeks own away) = refl
no_visits t two {m = m} early (visits {r = r} {n = n} own made few on) = absurd (early two.version m r n stepping.visit own)
no_visits t two {m = m} early (concludes {r = r} {n = n} own made last row) = absurd (early two.version m r n stepping.visit own)
no_visits t two early (delivers at) = refl
no_visits t two early (carries at away) = refl

-- it is that of what is told, and of the copy that stands there
behind_told : (t : Tables) (first : ℕ) (from to : List Flying) (k : ℕ) (c : Flying) (f : Fate) → slice_get from k ≡ Some c → to ≡ spliced from k 1 (left_by t c f) → behind_after t first to k (told_by t c f) ≡ fate_behind t first f
behind_told t first from to k c (fate.Seek x head) is gone = ap (behind_at first) (ap (λ l. slice_get l k) gone ∙ there_now from (drop (k + 1) from) k c (record c { at = next t c.at x; head = head }) is)
behind_told t first from to k c (fate.Deliver port) is gone = refl
behind_told t first from to k c (fate.Fork outs) is gone = refl
behind_told t first from to k c (fate.Stay r n) is gone = refl
behind_told t first from to k c (fate.Wait r) is gone = refl

pub behind_acts : (t : Tables) (w : ℕ) (k : List ℕ) (first : ℕ) (f : Fate) (a : Action) → ActsAs t w k f a → fate_behind t first f ≡ behind_by t first a
behind_acts t w k first (fate.Seek x head) a acts = ap (behind_by t first) (sym acts)
behind_acts t w k first (fate.Deliver port) a acts = ap (behind_by t first) (sym acts)
behind_acts t w k first (fate.Fork outs) a acts = ap (behind_by t first) (sym acts)
behind_acts t w k first (fate.Stay r n) a acts = absurd acts
behind_acts t w k first (fate.Wait r) a acts = absurd acts

pub behind_becomes : (t : Tables) (w : ℕ) (k : List ℕ) (first : ℕ) (f : Fate) (b : Becomes) → Becoming t w k f b → fate_behind t first f ≡ rank_behind t b
behind_becomes t w k first (fate.Seek x head) b is = ap (next_rank first) is.2 ∙ ap (rank_behind t) (sym is.3)
behind_becomes t w k first (fate.Deliver port) b is = absurd is
behind_becomes t w k first (fate.Fork outs) b is = ap (rank_behind t) (sym is)
behind_becomes t w k first (fate.Stay q v) b is = ap (rank_behind t) (sym is)
behind_becomes t w k first (fate.Wait q) b is = absurd is

-- the head comes to this rank
pub first_comes : {t : Tables} {w : ℕ} {k : List ℕ} {m : Arrays} {head : Head} {r n : ℕ} → ComesTo t w k m head r n → first_of t head ≡ r
first_comes stepping.visit = refl
first_comes (stepping.walk some follow) = refl

-- ---- what is left and told of copy x after turns
pub left_becomes : (t : Tables) (x : Copy) (f : Fate) (b : Becomes) → Becoming t x.at x.packet f b → map flown (ordered.left_by x b) ≡ left_by t (flown x) f
left_becomes t x (fate.Seek y head) b is = ap (λ b. map flown (ordered.left_by x b)) is.3 ∙ ap (λ h. flights (flown x) (Forward (next t x.at y) h)) (sym is.2)
left_becomes t x (fate.Deliver port) b is = absurd is
left_becomes t x (fate.Fork outs) b is = ap (λ b. map flown (ordered.left_by x b)) is ∙ flown_moved x (Fork (sent_of t (results outs.now x.packet)) (lost_of t (results outs.now x.packet)))
left_becomes t x (fate.Stay q v) b is = ap (λ b. map flown (ordered.left_by x b)) is
left_becomes t x (fate.Wait q) b is = absurd is

pub told_becomes : (t : Tables) (x : Copy) (f : Fate) (b : Becomes) → Becoming t x.at x.packet f b → told_by t (flown x) f ≡ told_of (turn_of x b)
told_becomes t x (fate.Seek y head) b is = ap (λ b. told_of (turn_of x b)) (sym is.3)
told_becomes t x (fate.Deliver port) b is = absurd is
told_becomes t x (fate.Fork outs) b is = ap (λ b. told_of (turn_of x b)) (sym is)
told_becomes t x (fate.Stay q v) b is = ap (λ b. told_of (turn_of x b)) (sym is)
told_becomes t x (fate.Wait q) b is = absurd is

-- where no rank is counted, the numbers are the same
pub counted_none : {old new : List ℕ} {r e number : ℕ} → HasCounted old r e number new → e ≡ r → (j : ℕ) → get_or new j 0 ≡ get_or old j 0
counted_none {r = r} counted same j = ⊎_elim (λ (low : j < r). counted.others j (inl low)) (λ (high : r ≤ j). counted.others j (inr (omega (arith, high, same)))) (cases_lt j r)

-- ---- a step of a network
-- the visits that are in order for packet i
abbrev pub in_order : List ℕ → ℕ → ℕ → Bool
in_order counted i j = get_or counted j 0 == i

module _ (v new : OrderedNetView) (k : ℕ) (two : IsTwo v.net.tables) (tables : new.net.tables ≡ v.net.tables) (injected : new.net.injected ≡ v.net.injected) where
  abbrev t : Tables
  t = v.net.tables

  -- of this copy, of which this becomes
  module _ (s : Ordered) (shows : RepresentsInOrder v s) (x : Copy) (is : slice_get s.net.flying k ≡ Some x) (f : Fate) (m : Arrays) (tells : Moved) (changed : Changed v.net.stores new.net.stores x.at m)
      (gone : new.net.flying ≡ spliced v.net.flying k 1 (left_by t (flown x) f)) (told : tells ≡ told_by t (flown x) f) (found : slice_get v.net.flying k ≡ Some (flown x)) where
    abbrev old : Arrays
    old = store_of v.net.stores x.at

    abbrev first : ℕ
    first = first_of t x.head

    behind : behind_after t first new.net.flying k tells ≡ fate_behind t first f
    behind = ap (behind_after t first new.net.flying k) told ∙ behind_told t first v.net.flying new.net.flying k (flown x) f found gone

    abbrev Done : Type 0
    Done = (s' : Ordered) × (us : List OrderedHappening) × LeadsInOrder t s (Step k) s' us × RepresentsInOrder new s' × TellsTurn tells us

    -- with the copies xs in its place
    after : (xs : List Copy) (h : ℕ → ℕ) → map flown xs ≡ left_by t (flown x) f → ((j : ℕ) → h j ≡ get_or new.counts j 0)
        → RepresentsInOrder new (record { net = record s.net { stores = λ w. if w == x.at then m else s.net.stores w; flying = take k s.net.flying ++ (xs ++ drop (k + 1) s.net.flying) }; handled = h })
    after xs h left handled = record { net = shows_replaced v.net new.net s.net k x m xs shows.net changed injected (gone ∙ ap (spliced v.net.flying k 1) (sym left)); handled = handled }

    -- it makes no visits
    passes : (a : Action) → IsBeforeNone t x.at x.packet x.head → ActsAs t x.at x.packet f a → Handles t x.at x.packet old x.head m a → HasCounted v.counts first (behind_after t first new.net.flying k tells) (x.number + 1) new.counts → Done
    passes a early acts does counted =
        let none-counted = behind ∙ behind_acts t x.at x.packet first f a acts ∙ no_visits t two early does in (
          record s { net = stepped s.net k x m a },
          Happens (happening x a) ∷ [],
          ordered.moves is (λ r n b. early two.version (s.net.stores x.at) r n b.comes b.owner) (subst (λ y. Handles t x.at x.packet y x.head m a) (sym (shows.net.stores x.at)) does),
          after (moved x a) s.handled (flown_moved x a ∙ sym (acts_leave t (flown x) f a acts)) (λ j. shows.handled j ∙ sym (counted_none counted none-counted j)),
          (Happens (happening x a), refl, told ∙ acts_tell t (flown x) f a acts ∙ moving_of x a),
        )

    -- it makes visits
    turns_made : (r n : ℕ) → ComesTo t x.at x.packet old x.head r n → rank_at t r ≡ Some x.at → get_or v.counts r 0 ≡ x.number → (h : ℕ → ℕ) (b : Becomes) → TakesTurns t x.at x.packet x.number old s.handled r n m h b → Becoming t x.at x.packet f b
        → HasCounted v.counts first (behind_after t first new.net.flying k tells) (x.number + 1) new.counts → Done
    turns_made r n comes own now h b takes becomes counted =
        let from : first ≡ r = first_comes comes in
        let end : behind_after t first new.net.flying k tells ≡ rank_behind t b = behind ∙ behind_becomes t x.at x.packet first f b becomes in
        let mine = subst (λ q. HasCounted v.counts q (behind_after t first new.net.flying k tells) (x.number + 1) new.counts) from counted in (
          visited s k x m h b,
          turn_of x b ∷ [],
          ordered.visits is (record { comes = subst (λ y. ComesTo t x.at x.packet y x.head r n) (sym (shows.net.stores x.at)) comes; owner = own }) (shows.handled r ∙ now)
              (subst (λ y. TakesTurns t x.at x.packet x.number y s.handled r n m h b) (sym (shows.net.stores x.at)) takes),
          after (ordered.left_by x b) h (left_becomes t x f b becomes) (counted_so (counts t x.at x.packet x.number takes) shows.handled end mine),
          (turn_of x b, refl, told ∙ told_becomes t x f b becomes),
        )

    -- it waits
    waits_there : (r n : ℕ) → ComesTo t x.at x.packet old x.head r n → rank_at t r ≡ Some x.at → get_or v.counts r 0 ≢ x.number → f ≡ fate.Wait r → m ≡ old → HasCounted v.counts first (behind_after t first new.net.flying k tells) (x.number + 1) new.counts → Done
    waits_there r n comes own early waits same counted =
        let same_list : new.net.flying ≡ v.net.flying = gone ∙ ap (λ f. spliced v.net.flying k 1 (left_by t (flown x) f)) waits ∙ sym (same_place v.net.flying k (flown x) found) in
        let none-counted = behind ∙ ap (fate_behind t first) waits in (
          s,
          Waits x r ∷ [],
          ordered.waits is (record { comes = subst (λ y. ComesTo t x.at x.packet y x.head r n) (sym (shows.net.stores x.at)) comes; owner = own }) (λ e. early (sym (shows.handled r) ∙ e)),
          record {
            net = record {
              stores = λ w. shows.net.stores w ∙ sym (kept same w (w == x.at) refl);
              injected = shows.net.injected ∙ sym injected;
              flying = shows.net.flying ∙ sym same_list;
            };
            handled = λ j. shows.handled j ∙ sym (counted_none counted none-counted j);
          },
          (Waits x r, refl, told ∙ ap (told_by t (flown x)) waits),
        )
      where
        kept : m ≡ old → (w : ℕ) (b : Bool) → (w == x.at) ≡ b → store_of new.net.stores w ≡ store_of v.net.stores w
        kept same w true e = let at = eqb-true w x.at e in ap (store_of new.net.stores) at ∙ changed.here ∙ same ∙ ap (store_of v.net.stores) (sym at)
        kept same w false e = changed.others w (eqb-false w x.at e)

  -- as its switch makes it
  made_so : (s : Ordered) → RepresentsInOrder v s → (x : Copy) → slice_get s.net.flying k ≡ Some x → (tells : Moved) → slice_get v.net.flying k ≡ Some (flown x)
      → HasMade (in_order v.counts x.number) t (flown x) k v.net.stores v.net.flying new.net.stores new.net.flying tells
      → HasCounted v.counts (first_of t x.head) (behind_after t (first_of t x.head) new.net.flying k tells) (x.number + 1) new.counts
      → (s' : Ordered) × (us : List OrderedHappening) × LeadsInOrder t s (Step k) s' us × RepresentsInOrder new s' × TellsTurn tells us
  made_so s shows x is tells found made counted = by made.steps
    where
      by : Steps t x.at x.packet (in_order v.counts x.number) (store_of v.net.stores x.at) x.head made.arrays made.fate → (s' : Ordered) × (us : List OrderedHappening) × LeadsInOrder t s (Step k) s' us × RepresentsInOrder new s' × TellsTurn tells us
      by (stepping.goes {a = a} early acts does) = passes s shows x is made.fate made.arrays tells made.changed made.flying made.tells found a early acts does counted
      by (stepping.visits {r = r} {n = n} version comes own did) =
          ⊎_elim
          (λ w. waits_there s shows x is made.fate made.arrays tells made.changed made.flying made.tells found r n comes own (eqb-false (get_or v.counts r 0) x.number w.2) w.0 w.1 counted)
          (λ d. turns_made s shows x is made.fate made.arrays tells made.changed made.flying made.tells found r n comes own (eqb-true (get_or v.counts r 0) x.number d.0) d.1.0 d.1.1 d.1.2 d.1.3 counted)
          (turns_taken t x.at x.packet x.number (in_order v.counts x.number) s.handled (store_of v.net.stores x.at) r n (λ j e. shows.handled j ∙ eqb-true (get_or v.counts j 0) x.number e)
          (λ j e same. eqb-false (get_or v.counts j 0) x.number e (sym (shows.handled j) ∙ same)) own made.fate did)

  pub done_in_order : (c : Flying) (tells : Moved) → slice_get v.net.flying k ≡ Some c → StepsAt (in_order v.counts c.number) v.net k new.net tells
      → HasCounted v.counts (first_of t c.head) (behind_after t (first_of t c.head) new.net.flying k tells) (c.number + 1) new.counts → SimulatesInOrder v (Step k) new (TellsTurn tells)
  done_in_order c tells found made counted s shows =
      let x = copy_shown v.net s.net k c shows.net found in
      subst (λ (c : Flying). slice_get v.net.flying k ≡ Some c → HasMade (in_order v.counts c.number) t c k v.net.stores v.net.flying new.net.stores new.net.flying tells
      → HasCounted v.counts (first_of t c.head) (behind_after t (first_of t c.head) new.net.flying k tells) (c.number + 1) new.counts
      → (s' : Ordered) × (us : List OrderedHappening) × LeadsInOrder t s (Step k) s' us × RepresentsInOrder new s' × TellsTurn tells us) x.2
      (λ found made counted. made_so s shows x.0 x.1 tells found made counted) found (made c found) counted

-- ---- the ranks that are counted
pub first_low : (t : Tables) (w : ℕ) (head : Head) → AtHome t w head → first_of t head ≤ ranks t
first_low t w (Walk n) home = omega arith
first_low t w (Stage n i) home = omega arith
first_low t w (Out p) home = omega arith
first_low t w (Visit r n) home = let low = rank_is_below t r home.1.owner home.1.rank in omega (arith, low)

pub visits_order : (t : Tables) (w : ℕ) (k : List ℕ) (may : ℕ → Bool) (m : Arrays) (first r n : ℕ) (m' : Arrays) (f : Fate) → first ≡ r → first ≤ ranks t → HasVisited t w k may m r n m' f → (first ≤ fate_behind t first f) × (fate_behind t first f ≤ ranks t)
visits_order t w k may m first r n m' (fate.Seek x head) same low did =
    let e : next_rank first head ≡ did.last = ap (next_rank first) did.ends.2 in
    let up = made_up did.made in
    let below = rank_is_below t did.last x did.ends.0 in
    (omega (arith, e, up, same), omega (arith, e, below))
visits_order t w k may m first r n m' (fate.Deliver port) same low did = absurd did.ends
visits_order t w k may m first r n m' (fate.Fork outs) same low did = (low, omega arith)
visits_order t w k may m first r n m' (fate.Stay q v) same low did =
    let e = did.ends.3 in
    let up = made_up did.made in
    let below = rank_is_below t did.last w did.ends.1 in
    (omega (arith, e, up, same), omega (arith, e, below))
visits_order t w k may m first r n m' (fate.Wait q) same low did = (omega arith, low)

pub fates_order : (t : Tables) → IsTwo t → (w : ℕ) (k : List ℕ) (may : ℕ → Bool) (m : Arrays) (head : Head) (m' : Arrays) (f : Fate) → AtHome t w head → Steps t w k may m head m' f → (first_of t head ≤ fate_behind t (first_of t head) f) × (fate_behind t (first_of t head) f ≤ ranks t)
fates_order t two w k may m head m' f home (stepping.goes {a = a} early acts does) =
    let e = behind_acts t w k (first_of t head) f a acts ∙ no_visits t two early does in
    let low = first_low t w head home in
    (omega (arith, e), omega (arith, e, low))
fates_order t two w k may m head m' f home (stepping.visits {r = r} {n = n} version comes own did) = visits_order t w k may m (first_of t head) r n m' f (first_comes comes) (first_low t w head home) did

pub counts_order : (t : Tables) → IsTwo t → (may : ℕ → Bool) (k : ℕ) (old : List Kept) (from : List Flying) (new : List Kept) (to : List Flying) (c : Flying) (tells : Moved) → AtHome t c.at c.head → slice_get from k ≡ Some c → HasMade may t c k old from new to tells
    → (first_of t c.head ≤ behind_after t (first_of t c.head) to k tells) × (behind_after t (first_of t c.head) to k tells ≤ ranks t)
counts_order t two may k old from new to c tells home found made =
    let first = first_of t c.head in
    let behind : behind_after t first to k tells ≡ fate_behind t first made.fate = ap (behind_after t first to k) made.tells ∙ behind_told t first from to k c made.fate found made.flying in
    subst (λ e. (first ≤ e) × (e ≤ ranks t)) (sym behind) (fates_order t two c.at c.packet may (store_of old c.at) c.head made.arrays made.fate home made.steps)

pub counted_order : (v : OrderedNetView) (new : NetView) (k : ℕ) (c : Flying) (tells : Moved) (counted : List ℕ) (first behind : ℕ) → IsNetView v.net → v.net.tables.version ≡ 2 → slice_get v.net.flying k ≡ Some c → counted ≡ v.counts → StepsAt (in_order counted c.number) v.net k new tells
    → first ≡ first_of v.net.tables c.head → new.tables ≡ v.net.tables → behind ≡ behind_after new.tables first new.flying k tells → (first ≤ behind) × (behind ≤ ranks v.net.tables)
counted_order v new k c tells counted first behind held version found same made from tables to =
    let t = v.net.tables in
    let home : AtHome t c.at c.head = All-get (λ (x : Flying). AtHome t x.at x.head) v.net.flying k c held.homes found in
    let o = counts_order t (record { form = held.form; valid = held.valid; version = version }) (in_order counted c.number) k v.net.stores v.net.flying new.stores new.flying c tells home found (made c found) in
    let e : behind ≡ behind_after t (first_of t c.head) new.flying k tells = to ∙ (λ i. behind_after (tables i) (from i) new.flying k tells) in
    let low = o.0 in
    let high = o.1 in
    (omega (arith, from, e, low), omega (arith, e, high))

-- one that crossed a link stands in its place
pub moved_stands : (t : Tables) (may : ℕ → Bool) (k : ℕ) (held : List Kept) (from : List Flying) (new : List Kept) (to : List Flying) (c : Flying) (tells : Moved) → slice_get from k ≡ Some c → HasMade may t c k held from new to tells → IsThere to k tells
moved_stands t may k held from new to c tells found made = subst (IsThere to k) (sym made.tells) (by made.fate made.flying)
  where
    by : (f : Fate) → to ≡ spliced from k 1 (left_by t c f) → IsThere to k (told_by t c f)
    by (fate.Seek x head) gone = slice_get_within to k _ (ap (λ l. slice_get l k) gone ∙ there_now from (drop (k + 1) from) k c (record c { at = next t c.at x; head = head }) found)
    by (fate.Deliver port) gone = tt
    by (fate.Fork outs) gone = tt
    by (fate.Stay r n) gone = tt
    by (fate.Wait r) gone = tt
