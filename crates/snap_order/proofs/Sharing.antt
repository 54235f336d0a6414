-- A round that workers make is one.
use Rattle.std.proofs.Common.{◌≡◌, ⊎_elim, ℕ, ◌+◌, ◌<◌, ◌≤◌, ◌/◌, ◌%◌, Bool, true, false, Option, Some, None, List, [], ◌∷◌, ◌++◌, get_or, length, map, take, refl, sym, ap, subst, ◌∙◌, arith}
use Rattle.std.specs.Prelude.{nat_eq, slice_get}
use Rattle.std.specs.List.{All, AllZip, flat_map}
use Rattle.std.proofs.Math.ListN.{get_or-eq_default}
use Rattle.std.proofs.Math.Nat.{mod-lt}
use Rattle.std.proofs.lemmas.Bool.{cases_lt, eqb-false, eqb-true}
use Rattle.std.proofs.lemmas.List.{map-append, take_all, take_more}
use Rattle.std.proofs.lemmas.Option.{get_or_from_slice_get, slice_get_within}
use Rattle.std.proofs.lemmas.List.Elements.{All-append, All-cons, All-head, All-nil, All-tail, AllZip-get_or, length_all_zip}
use Rattle.snap_core.specs.Cells.{Kept, arrays_of}
use Rattle.snap_rows.specs.declared.tables.Tables.{Tables}
use Rattle.snap_rows.specs.Entries.{rank_at, ranks}
use Rattle.snap_rows.specs.Form.{comps, switch_count}
use Rattle.snap_rows.specs.Home.{AtHome}
use Rattle.snap_rows.proofs.Later.{rank_is_below}
use Rattle.snap_net.specs.declared.flying.Flying.{Flying}
use Rattle.snap_net.specs.Shown.{NetView, IsNetView, store_of}
use Rattle.snap_order.specs.declared.hand.Stepped.{Stepped}
use Rattle.snap_order.specs.declared.job.Job.{Job}
use Rattle.snap_order.specs.declared.lent.Lent.{Lent}
use Rattle.snap_order.specs.declared.weave.Web.{Web}
use Rattle.snap_order.specs.Dealing.{AreDealt, AreExchanged, ArePlaces, kept_at}
use Rattle.snap_order.specs.Hands.{Agrees, InPlace, IsTwo, SwitchState, WeavesTo, Works, Woven, idles, works, over, next, part_of, share}
use Rattle.snap_order.specs.Jobs.{AreReady, HasWorked, IsJob, WorkedOn, counts_after}
use Rattle.snap_order.specs.Lending.{IsLent, IsWorked}
use Rattle.snap_order.specs.Ordered.{Ordered}
use Rattle.snap_order.specs.Rounding.{IsRoundDone}
use Rattle.snap_order.specs.Rounds.{IsRound}
use Rattle.snap_order.specs.Shown.{IsOrderedNetView, OrderedNetView, RepresentsInOrder}
use Rattle.snap_order.specs.Weaving.{AreWoven, HasCounts, queues_of}
use Rattle.snap_order.proofs.Weaving.{share_other, share_own, weaves}
use Rattle.snap_order.proofs.Webs.{queue_at}

-- ---- copies in their places
abbrev PutInPlace : Tables → Stepped → Type 0
PutInPlace t x = All (InPlace t) x.left.items

works_placed : {t : Tables} {workers : ℕ} {p q : SwitchState} {cs : List Flying} {xs : List Stepped} → Works t workers p cs q xs → All (PutInPlace t) xs
works_placed {t = t} idles = All-nil (PutInPlace t)
works_placed {t = t} (works {x = x} {xs = xs} steps rest) = All-cons (PutInPlace t) x xs steps.here.placed (works_placed rest)

woven_placed : (P : Stepped → Type 0) (workers : ℕ) → 0 < workers → {cs : List Flying} {queues : ℕ → List Stepped} {xs : List Stepped} → Woven workers cs queues xs → ((j : ℕ) → j < workers → All P (queues j)) → All P xs
woven_placed P workers some over all = All-nil P
woven_placed P workers some (next {c = c} {queues = queues} {later = later} {x = x} {xs = xs} took kept rest) all =
    let own : All P (x ∷ later (c.at % workers)) = subst (All P) took (all (c.at % workers) (mod-lt c.at some)) in
    All-cons P x xs (All-head P x (later (c.at % workers)) own) (woven_placed P workers some rest (λ j low. by j low (nat_eq j (c.at % workers)) refl own))
  where
    by : (j : ℕ) → j < workers → (b : Bool) → nat_eq j (c.at % workers) ≡ b → All P (x ∷ later (c.at % workers)) → All P (later j)
    by j low true e own = subst (λ (k : ℕ). All P (later k)) (sym (eqb-true j (c.at % workers) e)) (All-tail P x (later (c.at % workers)) own)
    by j low false e own = subst (All P) (sym (kept j (eqb-false j (c.at % workers) e))) (all j low)

flat_placed : (P : Flying → Type 0) (xs : List Stepped) → All (λ (x : Stepped). All P x.left.items) xs → All P (flat_map (λ (x : Stepped). x.left.items) xs)
flat_placed P [] all = All-nil P
flat_placed P (x ∷ xs) all =
    All-append P x.left.items (flat_map (λ (y : Stepped). y.left.items) xs) (All-head (λ (y : Stepped). All P y.left.items) x xs all)
    (flat_placed P xs (All-tail (λ (y : Stepped). All P y.left.items) x xs all))

share_placed : (P Q : Flying → Type 0) (workers j : ℕ) → ((c : Flying) → c.at % workers ≡ j → P c → Q c) → (cs : List Flying) → All P cs → All Q (share workers j cs)
share_placed P Q workers j so [] all = All-nil Q
share_placed P Q workers j so (c ∷ cs) all = by (nat_eq (c.at % workers) j) refl (share_placed P Q workers j so cs (All-tail P c cs all))
  where
    by : (b : Bool) → nat_eq (c.at % workers) j ≡ b → All Q (share workers j cs) → All Q (share workers j (c ∷ cs))
    by true e rest =
        let own = eqb-true (c.at % workers) j e in
        subst (All Q) (sym (share_own workers j c cs own)) (All-cons Q c (share workers j cs) (so c own (All-head P c cs all)) rest)
    by false e rest = subst (All Q) (sym (share_other workers j c cs (eqb-false (c.at % workers) j e))) rest

all_in_place : (v : NetView) → IsNetView v → (cs : List Flying) → All (λ (c : Flying). c.at < switch_count v.tables) cs → All (λ (c : Flying). length c.packet ≡ comps v.tables) cs → All (λ (c : Flying). AtHome v.tables c.at c.head) cs → All (InPlace v.tables) cs
all_in_place v held [] places packets homes = All-nil (InPlace v.tables)
all_in_place v held (c ∷ cs) places packets homes =
    let p = All-head (λ (c : Flying). c.at < switch_count v.tables) c cs places in
    let k = All-head (λ (c : Flying). length c.packet ≡ comps v.tables) c cs packets in
    let h = All-head (λ (c : Flying). AtHome v.tables c.at c.head) c cs homes in
    All-cons (InPlace v.tables) c cs (record { at = p; packet = k; home = h })
    (all_in_place v held cs (All-tail (λ (c : Flying). c.at < switch_count v.tables) c cs places) (All-tail (λ (c : Flying). length c.packet ≡ comps v.tables) c cs packets) (All-tail (λ (c : Flying). AtHome v.tables c.at c.head) c cs homes))

pub in_place : (v : NetView) → IsNetView v → All (InPlace v.tables) v.flying
in_place v held = all_in_place v held v.flying held.places held.packets held.homes

-- copies in their places make a network with these tables
at_places : (t : Tables) (cs : List Flying) → All (InPlace t) cs → All (λ (c : Flying). c.at < switch_count t) cs
at_places t [] all = All-nil (λ (c : Flying). c.at < switch_count t)
at_places t (c ∷ cs) all = All-cons (λ (c : Flying). c.at < switch_count t) c cs (All-head (InPlace t) c cs all).at (at_places t cs (All-tail (InPlace t) c cs all))

with_packets : (t : Tables) (cs : List Flying) → All (InPlace t) cs → All (λ (c : Flying). length c.packet ≡ comps t) cs
with_packets t [] all = All-nil (λ (c : Flying). length c.packet ≡ comps t)
with_packets t (c ∷ cs) all = All-cons (λ (c : Flying). length c.packet ≡ comps t) c cs (All-head (InPlace t) c cs all).packet (with_packets t cs (All-tail (InPlace t) c cs all))

at_homes : (t : Tables) (cs : List Flying) → All (InPlace t) cs → All (λ (c : Flying). AtHome t c.at c.head) cs
at_homes t [] all = All-nil (λ (c : Flying). AtHome t c.at c.head)
at_homes t (c ∷ cs) all = All-cons (λ (c : Flying). AtHome t c.at c.head) c cs (All-head (InPlace t) c cs all).home (at_homes t cs (All-tail (InPlace t) c cs all))

-- ---- jobs that aren't begun
-- a switch beyond the last has no place
beyond : (workers n places w : ℕ) → ArePlaces workers (w % workers) n places → n ≤ w → places ≤ w / workers
beyond workers n places w are high = ⊎_elim (λ (low : w / workers < places). absurd (let l = (are w refl).1 low in omega (arith, l, high))) (λ (above : places ≤ w / workers). above) (cases_lt (w / workers) places)

-- the jobs that hold the stores
module _ (t : Tables) (workers : ℕ) (some : 0 < workers) (cs : List Flying) (placed : All (InPlace t) cs) (stores0 stores1 : List Kept) (long : length stores0 ≡ switch_count t) (jobs0 jobs1 : List Job)
    (dealt : AreDealt workers (length stores0) cs jobs0) (lent : AreExchanged workers (length stores0) stores0 jobs0 stores1 jobs1) where
  pub lent_count : length jobs1 ≡ workers
  lent_count = lent.count ∙ dealt.count

  lent_number : (j : ℕ) (d : Job) → j < workers → (get_or jobs1 j d).workers ≡ workers
  lent_number j d low = let count = dealt.count in (lent.same j d (omega (arith, low, count))).workers ∙ (dealt.each j d low).number

  pub lent_places : (j : ℕ) (d : Job) → j < workers → ArePlaces workers j (length stores0) (length (get_or jobs1 j d).stores.items)
  lent_places j d low = let count = dealt.count in subst (ArePlaces workers j (length stores0)) (sym (lent.same j d (omega (arith, low, count))).long) (dealt.each j d low).places

  pub lent_copies : (j : ℕ) (d : Job) → j < workers → (get_or jobs1 j d).copies.items ≡ share workers j cs
  lent_copies j d low = let count = dealt.count in (lent.same j d (omega (arith, low, count))).copies ∙ (dealt.each j d low).copies

  is_job : (j : ℕ) (d : Job) → j < workers → IsJob t (get_or jobs1 j d)
  is_job j d low =
      let count = dealt.count in
      let s = lent.same j d (omega (arith, low, count)) in
      let is = dealt.each j d low in
      let n = lent_number j d low in
      let m = length (get_or jobs1 j d).stores.items in
      let rooms : All (λ (c : Flying). c.at / workers < m) (share workers j cs) =
      share_placed (InPlace t) (λ (c : Flying). c.at / workers < m) workers j (λ c own p. (lent_places j d low c.at own).0 (let at = p.at in omega (arith, at, long))) cs placed in
      record {
        some = subst (λ (k : ℕ). 0 < k) (sym n) some;
        places = subst (λ (k : ℕ). All (λ (c : Flying). c.at / k < m) (get_or jobs1 j d).copies.items) (sym n) (subst (All (λ (c : Flying). c.at / workers < m)) (sym (lent_copies j d low)) rooms);
        copies = subst (All (InPlace t)) (sym (lent_copies j d low)) (share_placed (InPlace t) (InPlace t) workers j (λ c own p. p) cs placed);
        fresh = s.counts ∙ is.fresh;
        undone = s.done ∙ is.undone;
      }

  pub are_jobs : All (IsJob t) jobs1
  are_jobs = λ j d low. let count = lent_count in is_job j d (omega (arith, low, count))

  -- ---- the round
  module _ (d : Job) (counts counts' : List ℕ) (jobs2 jobs3 : List Job) (stores3 : List Kept) (web : Web) (worked : AllZip (HasWorked t counts) jobs1 jobs2) (enough : (j : ℕ) (d : Job) → j < length jobs2 → (get_or jobs2 j d).is_short ≡ false)
      (back : AreExchanged workers (length stores1) stores1 jobs2 stores3 jobs3) (woven : AreWoven workers cs (queues_of jobs3) web)
      (counted : (r : ℕ) → r < ranks t → HasCounts t workers jobs3 r (get_or counts r 0) (get_or counts' r 0)) (few : length counts ≡ ranks t) (same_long : length counts' ≡ length counts) where
    count2 : length jobs2 ≡ workers
    count2 = sym (length_all_zip (HasWorked t counts) jobs1 jobs2 worked) ∙ lent_count

    on : (j : ℕ) → j < workers → WorkedOn t counts (get_or jobs1 j d) (get_or jobs2 j d)
    on j low = let a = lent_count in let b = count2 in AllZip-get_or (HasWorked t counts) jobs1 jobs2 j d d worked (omega (arith, low, a)) (enough j d (omega (arith, low, b)))

    abbrev begins : ℕ → SwitchState
    begins j = part_of workers (get_or jobs1 j d).stores.items counts

    abbrev ends : ℕ → SwitchState
    ends j = part_of workers (get_or jobs2 j d).stores.items (counts_after counts (get_or jobs2 j d).counts.items)

    queue : (j : ℕ) → j < workers → queues_of jobs3 j ≡ (get_or jobs2 j d).done.items
    queue j low = let a = count2 in let b = back.count in queue_at jobs3 j d (omega (arith, low, a, b)) ∙ (back.same j d (omega (arith, low, a))).done

    all_work : (j : ℕ) → j < workers → Works t workers (begins j) (share workers j cs) (ends j) (queues_of jobs3 j)
    all_work j low =
        let old = get_or jobs1 j d in
        let new = get_or jobs2 j d in
        subst (λ (xs : List Stepped). Works t workers (begins j) (share workers j cs) (ends j) xs) (sym (queue j low))
        (subst (λ (l : List Flying). Works t workers (begins j) l (ends j) new.done.items) (lent_copies j d low)
        (subst (λ (n : ℕ). Works t n (part_of n old.stores.items counts) old.copies.items (part_of n new.stores.items (counts_after counts new.counts.items)) new.done.items) (lent_number j d low) (on j low).works))

    -- no switch is beyond the last one
    none_beyond : (l : List Kept) (w : ℕ) → length l ≤ w → get_or l w [] ≡ []
    none_beyond l w high = get_or-eq_default l [] high

    begun_store : (w : ℕ) → get_or stores0 w [] ≡ kept_at workers jobs1 d w
    begun_store w =
        ⊎_elim
        (λ (low : w < length stores0). sym (lent.lent w d low))
        (λ (high : length stores0 ≤ w). none_beyond stores0 w high ∙ sym (none_beyond (get_or jobs1 (w % workers) d).stores.items (w / workers) (beyond workers (length stores0) _ w (lent_places (w % workers) d (mod-lt w some)) high)))
        (cases_lt w (length stores0))

    places2 : (j : ℕ) → j < workers → ArePlaces workers j (length stores0) (length (get_or jobs2 j d).stores.items)
    places2 j low = subst (ArePlaces workers j (length stores0)) (sym (on j low).long) (lent_places j d low)

    ended_store : (w : ℕ) → kept_at workers jobs2 d w ≡ get_or stores3 w []
    ended_store w =
        let a = lent.long in
        let b = back.long in
        ⊎_elim
        (λ (low : w < length stores1). sym (back.given w d low))
        (λ (high : length stores1 ≤ w).
        none_beyond (get_or jobs2 (w % workers) d).stores.items (w / workers) (beyond workers (length stores0) _ w (places2 (w % workers) (mod-lt w some)) (omega (arith, a, high))) ∙ sym (none_beyond stores3 w (omega (arith, b, high))))
        (cases_lt w (length stores1))

    pub placed_again : All (InPlace t) web.flying.items
    placed_again =
        subst (All (InPlace t)) (sym woven.flying)
        (flat_placed (InPlace t) woven.steps (woven_placed (PutInPlace t) workers some woven.woven (λ j low. works_placed (all_work j low))))

    module _ (v : OrderedNetView) (same : v.net.tables ≡ t) (stores_are : v.net.stores ≡ stores0) (flying_are : v.net.flying ≡ cs) (counts_are : v.counts ≡ counts) (s : Ordered) (shows : RepresentsInOrder v s) where
      agrees : Agrees t workers (λ j. true) begins s
      agrees = record {
        stores = λ w busy. shows.net.stores w ∙ ap (λ (l : List Kept). store_of l w) stores_are ∙ ap arrays_of (begun_store w);
        handled = λ r w own busy. shows.handled r ∙ ap (λ (l : List ℕ). get_or l r 0) counts_are;
      }

      pub made : WeavesTo t workers (λ j. true) ends woven.steps s 0
      made = weaves t workers some (λ j. true) ends cs (queues_of jobs3) woven.steps woven.woven begins s 0 (shows.net.flying ∙ flying_are) (omega arith) all_work agrees (λ j x low. refl)

      handled_none : (r : ℕ) → rank_at t r ≡ None → made.state.handled r ≡ get_or counts' r 0
      handled_none r none =
          made.others r (λ w own. absurd (no_owner w (sym none ∙ own))) ∙ shows.handled r ∙ ap (λ (l : List ℕ). get_or l r 0) counts_are ∙ ⊎_elim
          (λ (low : r < ranks t). sym ((counted r low).none none))
          (λ (high : ranks t ≤ r). get_or-eq_default counts 0 (omega (arith, few, high)) ∙ sym (get_or-eq_default counts' 0 (omega (arith, few, same_long, high))))
          (cases_lt r (ranks t))
        where
          no_owner : (w : ℕ) → None ≡ Some w → ⊥
          no_owner w e = absurd (cc)

      handled_some : (r w : ℕ) → rank_at t r ≡ Some w → made.state.handled r ≡ get_or counts' r 0
      handled_some r w own =
          let low = mod-lt w some in
          let a = count2 in
          made.agrees.handled r w own refl ∙ (on (w % workers) low).counted r
          ∙ ap (λ (l : List ℕ). get_or l r (get_or counts r 0)) (sym (back.same (w % workers) d (omega (arith, low, a))).counts)
          ∙ sym ((counted r (rank_is_below t r w own)).own w d own)

      handled_by : (r : ℕ) (o : Option ℕ) → rank_at t r ≡ o → made.state.handled r ≡ get_or counts' r 0
      handled_by r None e = handled_none r e
      handled_by r (Some w) e = handled_some r w e

      pub shows_again : (new : OrderedNetView) → new.net.stores ≡ stores3 → new.net.injected ≡ v.net.injected → new.net.flying ≡ web.flying.items → new.counts ≡ counts' → RepresentsInOrder new made.state
      shows_again new stores_is injected_is flying_is counts_is = record {
        net = record {
          stores = λ w. made.agrees.stores w refl ∙ ap arrays_of (ended_store w) ∙ ap (λ (l : List Kept). store_of l w) (sym stores_is);
          injected = made.injected ∙ shows.net.injected ∙ sym injected_is;
          flying = made.flying ∙ sym woven.flying ∙ sym flying_is;
        };
        handled = λ r. handled_by r (rank_at t r) refl ∙ ap (λ (l : List ℕ). get_or l r 0) (sym counts_is);
      }

    pub round_made : (v new : OrderedNetView) → v.net.tables ≡ t → v.net.stores ≡ stores0 → v.net.flying ≡ cs → v.counts ≡ counts → new.net.stores ≡ stores3 → new.net.injected ≡ v.net.injected → new.net.flying ≡ web.flying.items → new.counts ≡ counts'
        → IsRoundDone v new web.done.items
    round_made v new same stores_are flying_are counts_are stores_is injected_is flying_is counts_is s shows =
        let m = made v same stores_are flying_are counts_are s shows in (
          m.state,
          m.events,
          m.turns,
          subst (λ (t' : Tables). IsRound t' s m.events m.state m.turns) (sym same) m.round,
          shows_again v same stores_are flying_are counts_are s shows new stores_is injected_is flying_is counts_is,
          woven.done ∙ m.told,
        )

-- ---- the switches of copies
pub one_more_switch : (cs : List Flying) (k : ℕ) (c : Flying) → slice_get cs k ≡ Some c → map (λ (x : Flying). x.at) (take (k + 1) cs) ≡ map (λ (x : Flying). x.at) (take k cs) ++ c.at ∷ []
one_more_switch cs k c is =
    ap (map (λ (x : Flying). x.at)) (take_more cs k c (slice_get_within cs k c is) ∙ ap (λ x. take k cs ++ (x ∷ [])) (get_or_from_slice_get cs k c c is))
    ∙ map-append (λ (x : Flying). x.at) (take k cs) (c ∷ [])

pub all_switches : (cs : List Flying) (k : ℕ) → length cs ≤ k → map (λ (x : Flying). x.at) (take k cs) ≡ map (λ (x : Flying). x.at) cs
all_switches cs k all = ap (map (λ (x : Flying). x.at)) (take_all k cs all)

-- ---- a network that is lent
module _ {workers : ℕ} {v : OrderedNetView} {t : Tables} {packets : ℕ} {numbers : List ℕ} {left : List Kept} {given : List Job} (some : 0 < workers) (is : IsLent workers v t packets numbers left given) where
  lent_two : IsTwo t
  lent_two = subst IsTwo is.tables (record { form = is.held.form; valid = is.held.valid; version = is.ordered.version })

  lent_placed : All (InPlace t) v.net.flying
  lent_placed = subst (λ (t' : Tables). All (InPlace t') v.net.flying) is.tables (in_place v.net is.held)

  lent_stores : length v.net.stores ≡ switch_count t
  lent_stores = is.held.stores ∙ ap switch_count is.tables

  lent_few : length numbers ≡ ranks t
  lent_few = ap length (sym is.counts) ∙ is.ordered.counts ∙ ap ranks is.tables

  pub lent_ready : AreReady t numbers given
  lent_ready = record { tables = lent_two; long = lent_few; each = are_jobs t workers some v.net.flying lent_placed v.net.stores left lent_stores is.jobs given is.dealt is.lent }

  pub lent_many : length given ≡ workers
  lent_many = is.lent.count ∙ is.dealt.count

  pub lent_room : (j : ℕ) (d : Job) → j < workers → ArePlaces workers j (length left) (length (get_or given j d).stores.items)
  lent_room j d low =
      subst (λ (n : ℕ). ArePlaces workers j n (length (get_or given j d).stores.items)) (sym is.lent.long)
      (lent_places t workers some v.net.flying lent_placed v.net.stores left lent_stores is.jobs given is.dealt is.lent j d low)

-- and worked at
module _ {workers : ℕ} {v : OrderedNetView} {t : Tables} {packets : ℕ} {numbers : List ℕ} {left : List Kept} {given : List Job} (some : 0 < workers) (is : IsWorked workers v t packets numbers left given) where
  pub worked_many : length given ≡ workers
  worked_many = sym (length_all_zip (HasWorked t numbers) is.before given is.worked) ∙ lent_many some is.begun

  pub worked_room : (j : ℕ) (d : Job) → j < workers → ArePlaces workers j (length left) (length (get_or given j d).stores.items)
  worked_room j d low =
      let a = lent_many some is.begun in
      let b = worked_many in
      subst (ArePlaces workers j (length left)) (sym (AllZip-get_or (HasWorked t numbers) is.before given j d d is.worked (omega (arith, low, a)) (is.enough j d (omega (arith, low, b)))).long) (lent_room some is.begun j d low)

  -- and put together again
  module _ (d : Job) (stores : List Kept) (jobs : List Job) (counts : List ℕ) (web : Web) (back : AreExchanged workers (length left) left given stores jobs)
      (counted : (r : ℕ) → r < ranks t → HasCounts t workers jobs r (get_or numbers r 0) (get_or counts r 0)) (long : length counts ≡ length numbers) (woven : AreWoven workers v.net.flying (queues_of jobs) web) where
    pub flying_again : All (InPlace t) web.flying.items
    flying_again =
        placed_again t workers some v.net.flying (lent_placed some is.begun) v.net.stores left (lent_stores some is.begun) is.begun.jobs is.before is.begun.dealt is.begun.lent d numbers counts given jobs stores web is.worked is.enough back woven counted
        (lent_few some is.begun) long

    pub held_again : IsNetView (record { tables = t; stores = stores; injected = packets; flying = web.flying.items })
    held_again =
        let two = lent_two some is.begun in
        record {
          form = two.form;
          valid = two.valid;
          stores = back.long ∙ is.begun.lent.long ∙ lent_stores some is.begun;
          places = at_places t web.flying.items flying_again;
          packets = with_packets t web.flying.items flying_again;
          homes = at_homes t web.flying.items flying_again;
        }

    pub ordered_again : IsOrderedNetView (record { net = record { tables = t; stores = stores; injected = packets; flying = web.flying.items }; counts = counts })
    ordered_again = record { version = (lent_two some is.begun).version; counts = long ∙ lent_few some is.begun }

    pub settled : (new : OrderedNetView) → new.net ≡ record { tables = t; stores = stores; injected = packets; flying = web.flying.items } → new.counts ≡ counts → IsRoundDone v new web.done.items
    settled new e k =
        round_made t workers some v.net.flying (lent_placed some is.begun) v.net.stores left (lent_stores some is.begun) is.begun.jobs is.before is.begun.dealt is.begun.lent d numbers counts given jobs stores web is.worked is.enough back woven counted
        (lent_few some is.begun) long v new is.begun.tables refl refl is.begun.counts (ap (λ (h : NetView). h.stores) e) (ap (λ (h : NetView). h.injected) e ∙ sym is.begun.injected) (ap (λ (h : NetView). h.flying) e) k

-- what was lent, after the work
pub works_on : (workers : ℕ) (v : OrderedNetView) (lent done : Lent) → IsLent workers v lent.tables lent.injected lent.counts.items lent.stores.items lent.jobs.items → done.tables ≡ lent.tables → done.injected ≡ lent.injected
    → done.counts.items ≡ lent.counts.items → done.stores.items ≡ lent.stores.items → AllZip (HasWorked lent.tables lent.counts.items) lent.jobs.items done.jobs.items → ((j : ℕ) (d : Job) → j < length done.jobs.items → (get_or done.jobs.items j d).is_short ≡ false)
    → IsWorked workers v done.tables done.injected done.counts.items done.stores.items done.jobs.items
works_on workers v lent done is tables injected counts stores worked enough =
    subst (λ (t : Tables). IsWorked workers v t done.injected done.counts.items done.stores.items done.jobs.items) (sym tables)
    (subst (λ (n : ℕ). IsWorked workers v lent.tables n done.counts.items done.stores.items done.jobs.items) (sym injected)
    (subst (λ (l : List ℕ). IsWorked workers v lent.tables lent.injected l done.stores.items done.jobs.items) (sym counts)
    (subst (λ (l : List Kept). IsWorked workers v lent.tables lent.injected lent.counts.items l done.jobs.items) (sym stores)
    (record { before = lent.jobs.items; begun = is; worked = worked; enough = enough }))))
