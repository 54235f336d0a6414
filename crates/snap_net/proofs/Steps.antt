-- Steps of the network, on what the program holds.
use Rattle.std.proofs.Common.{◌≡◌, ℕ, zero, suc, ◌+◌, ◌<◌, Bool, true, false, List, [], ◌∷◌, ◌++◌, map, take, drop, Option, Some, None, length, refl, sym, ap, subst, ◌∙◌}
use Rattle.std.specs.Prelude.{slice_get, slice_index, get_or, ◌==◌, IfSome, IsSome, is_some, option_map, if◌then◌else◌}
use Rattle.std.specs.List.{All}
use Rattle.std.proofs.lemmas.Bool.{false≢true, eqb-true, eq-eqb}
use Rattle.std.proofs.lemmas.List.{map-append, take-map, drop-map}
use Rattle.std.proofs.lemmas.List.Elements.{All-push, All-append, All-take, All-drop, All-map, All-cons, All-nil}
use Rattle.std.proofs.lemmas.Option.{slice_get-map, same_Some}
use Rattle.snap_core.specs.Arrays.{Arrays, updates, zero_arrays}
use Rattle.snap_core.specs.Cells.{Kept, arrays_of}
use Rattle.snap_core.specs.declared.policy.Update.{Update}
use Rattle.snap_core.specs.declared.ports.PortAt.{PortAt}
use Rattle.snap_rows.specs.declared.head.Fate.{Fate}
use Rattle.snap_rows.specs.declared.head.Fate.TheVariants as fate
use Rattle.snap_rows.specs.declared.head.Head.TheVariants.{Walk, Out, Visit}
use Rattle.snap_rows.specs.Actions.{Action, Forward, Deliver, Fork}
use Rattle.snap_rows.specs.declared.head.Sent.{Sent}
use Rattle.snap_rows.specs.declared.tables.Tables.{Tables}
use Rattle.snap_rows.specs.declared.tables.Rule.TheVariants.{Missing}
use Rattle.snap_rows.specs.declared.tables.Spot.TheVariants as spot
use Rattle.snap_core.specs.Ports.{port_in}
use Rattle.snap_rows.specs.Entries.{next, port_at, row_at}
use Rattle.snap_rows.specs.Form.{IsWellFormed, IsPortWellFormed, comps, switch_count}
use Rattle.snap_rows.specs.Home.{AtHome}
use Rattle.snap_rows.specs.Handles.{Handles, forked}
use Rattle.snap_rows.specs.Rules.{PortKeeps}
use Rattle.snap_rows.specs.Steps.{Arrives}
use Rattle.snap_rows.specs.Stepping.{ActsAs, FateArrives, StepsBy}
use Rattle.snap_rows.specs.Network.{Copy, Net, Inject, Step, Happening, Crossed, Delivered, Forked, Leads, inject, injected, step, stepped, moved, happening}
use Rattle.snap_rows.proofs.Rows.{All-get}
use Rattle.snap_rows.proofs.Arrives.{fork_arrives, next_below}
use Rattle.snap_rows.proofs.Stepping.{steps_plain}
use Rattle.snap_net.specs.Frames.{frame}
use Rattle.snap_net.specs.declared.flying.Flying.{Flying}
use Rattle.snap_net.specs.Flights.{spliced}
use Rattle.snap_net.specs.Shown.{HasFrame, NetView, IsNetView, IsUnheld, Represents, Simulates, Nothing, SameArrays, StandsThere, TellsMoved, frame_of, frame_with, store_of, flown, moving}
use Rattle.snap_net.specs.Moves.{AreHome, HasGone, HasMade, HasStepped, Changed, HasUpdated, IsFrameBy, MakesStep, StepsAt, flights, copies_in_flight, left_by, moved_of, told_by}
use Rattle.snap_net.proofs.Splices.{there_now}
use Rattle.snap_net.specs.declared.happened.Moved.{Moved}

-- ---- stores
pub more_empty : (xs : List Kept) (x : Kept) → ((w : ℕ) → store_of xs w ≡ zero_arrays) → arrays_of x ≡ zero_arrays → (w : ℕ) → store_of (xs ++ x ∷ []) w ≡ zero_arrays
more_empty [] x all e zero = e
more_empty [] x all e (suc w) = all w
more_empty (y ∷ ys) x all e zero = all 0
more_empty (y ∷ ys) x all e (suc w) = more_empty ys x (λ v. all (suc v)) e w

-- ---- an injected copy
record PortEntry (ps : List PortAt) (w : ℕ) : Type 0 where
  pub place : ℕ
  pub entry : PortAt
  pub is : slice_get ps place ≡ Some entry
  pub at : entry.at ≡ w

port_entry : (ps : List PortAt) (p w : ℕ) → port_in ps p ≡ Some w → PortEntry ps w
port_entry [] p w e = absurd (false≢true (subst (λ (o : Option ℕ). IsSome o) (sym e) refl))
port_entry (q ∷ ps) p w e = by (q.port == p) e (port_entry ps p w)
  where
    by : (b : Bool) → (if b then Some q.at else port_in ps p) ≡ Some w → (port_in ps p ≡ Some w → PortEntry ps w) → PortEntry (q ∷ ps) w
    by true h rest = record { place = 0; entry = q; is = refl; at = same_Some _ _ h }
    by false h rest = let i = rest h in record { place = suc i.place; entry = i.entry; is = i.is; at = i.at }

abbrev pub fresh : ℕ → ℕ → List ℕ → Flying
fresh number w k = record { number = number; at = w; head = Walk 0; packet = k }

abbrev pub with_fresh : NetView → ℕ → List ℕ → NetView
with_fresh v w k = record v { injected = v.injected + 1; flying = v.flying ++ fresh v.injected w k ∷ [] }

-- a copy begins its walk at the switch of a port
pub fresh_home : (v : NetView) → IsNetView v → (p w : ℕ) → port_at v.tables p ≡ Some w → (w < switch_count v.tables) × AtHome v.tables w (Walk 0)
fresh_home v held p w at =
    let i = port_entry v.tables.ports p w at in
    let place : w < switch_count v.tables = subst (λ w. w < switch_count v.tables) i.at (All-get (IsPortWellFormed v.tables) v.tables.ports i.place i.entry held.form.ports i.is).at in
    let home : IsSome (row_at v.tables w 0) = subst (λ w. IsSome (row_at v.tables w 0)) i.at (subst (λ o. IfSome o (PortKeeps v.tables Missing)) i.is (held.valid Missing (spot.Port i.place))) in
    (place, home)

pub held_fresh : (v : NetView) → IsNetView v → (p w : ℕ) (k : List ℕ) → port_at v.tables p ≡ Some w → length k ≡ comps v.tables → IsNetView (with_fresh v w k)
held_fresh v held p w k at long =
    let home = fresh_home v held p w at in
    let x = fresh v.injected w k in
    record {
      form = held.form;
      valid = held.valid;
      stores = held.stores;
      places = All-push (λ (c : Flying). c.at < switch_count v.tables) v.flying x held.places home.0;
      packets = All-push (λ (c : Flying). length c.packet ≡ comps v.tables) v.flying x held.packets long;
      homes = All-push (λ (c : Flying). AtHome v.tables c.at c.head) v.flying x held.homes home.1;
    }

pub done_fresh : (v : NetView) (p w : ℕ) (k : List ℕ) → port_at v.tables p ≡ Some w → slice_index k 0 ≡ p → Simulates v (Inject p k) (with_fresh v w k) Nothing
done_fresh v p w k at first s shows =
    let c : Copy = record { number = s.injected; at = w; head = Walk 0; packet = k; hops = 0; steps = 0 } in (
      injected s w p k,
      [],
      inject at first,
      record {
        stores = shows.stores;
        injected = ap (λ n. n + 1) shows.injected;
        flying = map-append flown s.flying (c ∷ []) ∙ ap (λ l. l ++ flown c ∷ []) shows.flying ∙ ap (λ n. v.flying ++ fresh n w k ∷ []) shows.injected;
      },
      refl,
    )

-- ---- a step
unmapped : (o : Option Copy) (c : Flying) → option_map flown o ≡ Some c → (x : Copy) × (o ≡ Some x) × (flown x ≡ c)
unmapped None c e = absurd (false≢true (ap (λ (o : Option Flying). is_some o) e))
unmapped (Some x) c e = (x, refl, same_Some _ _ e)

moved_flights : (c : Copy) (copies : List Sent) → map flown (map (λ (x : Sent). record c { head = Out x.port; packet = x.packet; steps = c.steps + 1 }) copies) ≡ copies_in_flight c.number c.at copies
moved_flights c [] = refl
moved_flights c (x ∷ xs) = ap (λ l. record { number = c.number; at = c.at; head = Out x.port; packet = x.packet } ∷ l) (moved_flights c xs)

pub flown_moved : (c : Copy) (a : Action) → map flown (moved c a) ≡ flights (flown c) a
flown_moved c (Forward to head) = refl
flown_moved c (Deliver port) = refl
flown_moved c (Fork copies lost) = moved_flights c copies

-- what a step leaves
pub record Left (v new : NetView) (k : ℕ) (c : Flying) (m : Arrays) (a : Action) : Type 0 where
  pub is : slice_get v.flying k ≡ Some c
  pub tables : new.tables ≡ v.tables
  pub stores : Changed v.stores new.stores c.at m
  pub injected : new.injected ≡ v.injected
  pub flying : new.flying ≡ take k v.flying ++ (flights c a ++ drop (k + 1) v.flying)

stores_shown : (v new : NetView) (s : Net) (c : Copy) (m : Arrays) → Represents v s → Changed v.stores new.stores c.at m → (w : ℕ) → (if w == c.at then m else s.stores w) ≡ store_of new.stores w
stores_shown v new s c m shows changed w = by (w == c.at) refl
  where
    by : (b : Bool) → (w == c.at) ≡ b → (if b then m else s.stores w) ≡ store_of new.stores w
    by true e = sym changed.here ∙ ap (store_of new.stores) (sym (eqb-true w c.at e))
    by false e = shows.stores w ∙ sym (changed.others w (λ same. false≢true (sym e ∙ eq-eqb w c.at same)))

-- with the arrays m at the switch of copy k, and copies xs in its place
pub shows_replaced : (v new : NetView) (s : Net) (k : ℕ) (c : Copy) (m : Arrays) (xs : List Copy) → Represents v s → Changed v.stores new.stores c.at m → new.injected ≡ v.injected
    → new.flying ≡ take k v.flying ++ (map flown xs ++ drop (k + 1) v.flying)
    → Represents new (record s { stores = λ w. if w == c.at then m else s.stores w; flying = take k s.flying ++ (xs ++ drop (k + 1) s.flying) })
shows_replaced v new s k c m xs shows changed injected flying = record {
  stores = stores_shown v new s c m shows changed;
  injected = shows.injected ∙ sym injected;
  flying =
      map-append flown (take k s.flying) (xs ++ drop (k + 1) s.flying)
      ∙ ap (λ l. map flown (take k s.flying) ++ l) (map-append flown xs (drop (k + 1) s.flying))
      ∙ ap (λ l. l ++ (map flown xs ++ map flown (drop (k + 1) s.flying))) (sym (take-map flown k s.flying))
      ∙ ap (λ l. take k (map flown s.flying) ++ (map flown xs ++ l)) (sym (drop-map flown (k + 1) s.flying))
      ∙ ap (λ l. take k l ++ (map flown xs ++ drop (k + 1) l)) shows.flying
      ∙ sym flying;
}

left_copy : (v new : NetView) (k : ℕ) (c : Copy) (m : Arrays) (a : Action) → Left v new k (flown c) m a → Handles v.tables c.at c.packet (store_of v.stores c.at) c.head m a
    → (s : Net) → Represents v s → slice_get s.flying k ≡ Some c → HasStepped v k a new s
left_copy v new k c m a left handles s shows at = record {
  state = stepped s k c m a;
  copy = c;
  is = left.is;
  leads = step at (subst (λ m'. Handles v.tables c.at c.packet m' c.head m a) (sym (shows.stores c.at)) handles);
  shows = shows_replaced v new s k c m (moved c a) shows left.stores left.injected (left.flying ∙ ap (λ l. take k v.flying ++ (l ++ drop (k + 1) v.flying)) (sym (flown_moved c a)));
}

-- the copy of the state that the network shows
pub copy_shown : (v : NetView) (s : Net) (k : ℕ) (c : Flying) → Represents v s → slice_get v.flying k ≡ Some c → (x : Copy) × (slice_get s.flying k ≡ Some x) × (flown x ≡ c)
copy_shown v s k c shows is = unmapped (slice_get s.flying k) c (sym (slice_get-map flown s.flying k) ∙ ap (λ l. slice_get l k) shows.flying ∙ is)

pub has_stepped : (v new : NetView) (k : ℕ) (c : Flying) (m : Arrays) (a : Action) → Left v new k c m a → Handles v.tables c.at c.packet (store_of v.stores c.at) c.head m a → (s : Net) → Represents v s → HasStepped v k a new s
has_stepped v new k c m a left handles s shows =
    let x = copy_shown v s k c shows left.is in
    left_copy v new k x.0 m a (subst (λ c. Left v new k c m a) (sym x.2) left) (subst (λ (c : Flying). Handles v.tables c.at c.packet (store_of v.stores c.at) c.head m a) (sym x.2) handles) s shows x.1

-- what becomes of a copy is in its place again
pub flights_held : (t : Tables) (c : Flying) (a : Action) → c.at < switch_count t → length c.packet ≡ comps t → Arrives t c.packet a
    → All (λ (x : Flying). x.at < switch_count t) (flights c a) × All (λ (x : Flying). length x.packet ≡ comps t) (flights c a) × All (λ (x : Flying). AtHome t x.at x.head) (flights c a)
flights_held t c (Forward to head) below long arrives =
    (one (λ (x : Flying). x.at < switch_count t) arrives.0, one (λ (x : Flying). length x.packet ≡ comps t) long, one (λ (x : Flying). AtHome t x.at x.head) arrives.1)
  where
    here : Flying
    here = record c { at = to; head = head }

    one : (P : Flying → Type 0) → P here → All P (here ∷ [])
    one P h = All-cons P here [] h (All-nil P)
flights_held t c (Deliver port) below long arrives = (All-nil (λ (x : Flying). x.at < switch_count t), All-nil (λ (x : Flying). length x.packet ≡ comps t), All-nil (λ (x : Flying). AtHome t x.at x.head))
flights_held t c (Fork copies lost) below long arrives =
    let f : Sent → Flying = λ (x : Sent). record { number = c.number; at = c.at; head = Out x.port; packet = x.packet } in (
      All-map (λ (x : Flying). x.at < switch_count t) f copies (λ i d within. below),
      All-map (λ (x : Flying). length x.packet ≡ comps t) f copies (λ i d within. (arrives i d within).long ∙ long),
      All-map (λ (x : Flying). AtHome t x.at x.head) f copies (λ i d within. (arrives i d within).port),
    )

pub three : (P : Flying → Type 0) (k : ℕ) (fl xs : List Flying) → All P fl → All P xs → All P (take k fl ++ (xs ++ drop (k + 1) fl))
three P k fl xs all some = All-append P (take k fl) (xs ++ drop (k + 1) fl) (All-take P k fl all) (All-append P xs (drop (k + 1) fl) some (All-drop P (k + 1) fl all))

-- what a step that was refused leaves
pub held_same : (v : NetView) (stores : List Kept) (flying : List Flying) → IsNetView v → flying ≡ v.flying → SameArrays v.stores stores → IsNetView (record v { stores = stores; flying = flying })
held_same v stores flying held same arrays = subst (λ fl. IsNetView (record v { stores = stores; flying = fl })) (sym same) (record {
  form = held.form;
  valid = held.valid;
  stores = arrays.count ∙ held.stores;
  places = held.places;
  packets = held.packets;
  homes = held.homes;
})

-- ---- what is told
pub moving_of : (c : Copy) (a : Action) → moved_of (flown c) a ≡ moving (happening c a)
moving_of c (Forward to head) = refl
moving_of c (Deliver port) = refl
moving_of c (Fork copies lost) = refl

-- ---- a step as far as its visits are admitted
-- what becomes of a copy is in its place again
left_home : (t : Tables) → IsWellFormed t → (c : Flying) (f : Fate) → c.at < switch_count t → length c.packet ≡ comps t → AtHome t c.at c.head → FateArrives t c.at f
    → All (λ (x : Flying). x.at < switch_count t) (left_by t c f) × All (λ (x : Flying). length x.packet ≡ comps t) (left_by t c f) × All (λ (x : Flying). AtHome t x.at x.head) (left_by t c f)
left_home t form c (fate.Seek x h) below long home arrives = flights_held t c (Forward (next t c.at x) h) below long (next_below t form c.at x below, arrives)
left_home t form c (fate.Deliver port) below long home arrives = flights_held t c (Deliver port) below long tt
left_home t form c (fate.Fork outs) below long home arrives = flights_held t c (forked t outs.now c.packet) below long (fork_arrives t c.packet outs.now)
left_home t form c (fate.Stay r n) below long home arrives = flights_held t c (Forward c.at (Visit r n)) below long (below, arrives)
left_home t form c (fate.Wait r) below long home arrives = flights_held t c (Forward c.at c.head) below long (below, home)

-- and so are all
pub home_left : (t : Tables) → IsWellFormed t → (from to : List Flying) (k : ℕ) (c : Flying) (f : Fate) → slice_get from k ≡ Some c → All (λ (x : Flying). x.at < switch_count t) from → All (λ (x : Flying). length x.packet ≡ comps t) from
    → All (λ (x : Flying). AtHome t x.at x.head) from → FateArrives t c.at f → to ≡ spliced from k 1 (left_by t c f) → AreHome t to
home_left t form from to k c f is places packets homes arrives gone =
    let at : c.at < switch_count t = All-get (λ (x : Flying). x.at < switch_count t) from k c places is in
    let long : length c.packet ≡ comps t = All-get (λ (x : Flying). length x.packet ≡ comps t) from k c packets is in
    let h = left_home t form c f at long (All-get (λ (x : Flying). AtHome t x.at x.head) from k c homes is) arrives in
    subst (AreHome t) (sym gone) (record {
      places = three (λ (x : Flying). x.at < switch_count t) k from (left_by t c f) places h.0;
      packets = three (λ (x : Flying). length x.packet ≡ comps t) k from (left_by t c f) packets h.1;
      homes = three (λ (x : Flying). AtHome t x.at x.head) k from (left_by t c f) homes h.2;
    })

-- updates that were done, and a copy that made way
pub step_made : (may : ℕ → Bool) (t : Tables) (k : ℕ) (old : List Kept) (from : List Flying) (new : List Kept) (to : List Flying) (moved : Moved) (x : Flying) (us done : List Update) (f : Fate) → slice_get from k ≡ Some x → done ≡ us
    → StepsBy t x.at x.packet may (store_of old x.at) x.head us f → HasUpdated old from k done new → HasGone t from k f to moved → MakesStep may t k old from new to moved
step_made may t k old from new to moved x us done f is all steps updated gone c at =
    subst (λ c. HasMade may t c k old from new to moved) (same_Some _ _ (sym is ∙ at)) (record {
      arrays = updates (store_of old x.at) us x.packet;
      fate = f;
      steps = steps.steps;
      changed = subst (λ l. Changed old new x.at (updates (store_of old x.at) l x.packet)) all (updated x is);
      flying = (gone x is).0;
      tells = (gone x is).1;
    })

-- a fate that is an action leaves and tells what this does
pub acts_leave : (t : Tables) (c : Flying) (f : Fate) (a : Action) → ActsAs t c.at c.packet f a → left_by t c f ≡ flights c a
acts_leave t c (fate.Seek x h) a acts = ap (flights c) (sym acts)
acts_leave t c (fate.Deliver port) a acts = ap (flights c) (sym acts)
acts_leave t c (fate.Fork outs) a acts = ap (flights c) (sym acts)
acts_leave t c (fate.Stay r n) a acts = absurd acts
acts_leave t c (fate.Wait r) a acts = absurd acts

pub acts_tell : (t : Tables) (c : Flying) (f : Fate) (a : Action) → ActsAs t c.at c.packet f a → told_by t c f ≡ moved_of c a
acts_tell t c (fate.Seek x h) a acts = ap (moved_of c) (sym acts)
acts_tell t c (fate.Deliver port) a acts = ap (moved_of c) (sym acts)
acts_tell t c (fate.Fork outs) a acts = ap (moved_of c) (sym acts)
acts_tell t c (fate.Stay r n) a acts = absurd acts
acts_tell t c (fate.Wait r) a acts = absurd acts

-- a step where all visits are admitted is one without order
pub done_plain : (may : ℕ → Bool) (v new : NetView) (k : ℕ) (c : Flying) (moved : Moved) → ((j : ℕ) → may j ≡ true) → slice_get v.flying k ≡ Some c → new.tables ≡ v.tables → new.injected ≡ v.injected → StepsAt may v k new moved
    → Simulates v (Step k) new (TellsMoved moved)
done_plain may v new k c moved all is tables injected made s shows =
    let t = v.tables in
    let h = made c is in
    let plain = steps_plain h.steps all in
    let a = plain.0 in
    let left : Left v new k c h.arrays a = record { is = is; tables = tables; stores = h.changed; injected = injected; flying = h.flying ∙ ap (spliced v.flying k 1) (acts_leave t c h.fate a plain.1) } in
    let b = has_stepped v new k c h.arrays a left plain.2 s shows in
    let one : c ≡ flown b.copy = same_Some _ _ (sym is ∙ b.is) in (
      b.state,
      happening b.copy a ∷ [],
      b.leads,
      b.shows,
      (happening b.copy a, refl, h.tells ∙ acts_tell t c h.fate a plain.1 ∙ ap (λ y. moved_of y a) one ∙ moving_of b.copy a),
    )

-- and holds no visit back
unheld : (c : Flying) (a : Action) → IsUnheld (moved_of c a)
unheld c (Forward to head) = tt
unheld c (Deliver port) = tt
unheld c (Fork copies lost) = tt

pub made_unheld : {may : ℕ → Bool} {t : Tables} {c : Flying} {k : ℕ} {old new : List Kept} {from to : List Flying} {moved : Moved} → HasMade may t c k old from new to moved → ((j : ℕ) → may j ≡ true) → IsUnheld moved
made_unheld {t = t} {c = c} made all =
    let plain = steps_plain made.steps all in
    subst IsUnheld (sym (made.tells ∙ acts_tell t c made.fate plain.0 plain.1)) (unheld c plain.0)

-- ---- where a copy stands that crossed a link
pub replaced_there : (cs : List Copy) (k : ℕ) (c : Copy) (a : Action) → slice_get cs k ≡ Some c → StandsThere (map flown (take k cs ++ (moved c a ++ drop (k + 1) cs))) k (happening c a)
replaced_there cs k c (Forward to head) is =
    subst (λ l. StandsThere l k (Crossed c to head))
    (sym (map-append flown (take k cs) (moved c (Forward to head) ++ drop (k + 1) cs) ∙ ap (λ l. l ++ (flights (flown c) (Forward to head) ++ map flown (drop (k + 1) cs))) (sym (take-map flown k cs))))
    (there_now (map flown cs) (map flown (drop (k + 1) cs)) k (flown c) (record (flown c) { at = to; head = head }) (slice_get-map flown cs k ∙ ap (option_map flown) is))
replaced_there cs k c (Deliver port) is = tt
replaced_there cs k c (Fork copies lost) is = tt

pub stands_there : {t : Tables} {s s' : Net} {k : ℕ} {hs : List Happening} (x : Happening) → Leads t s (Step k) s' hs → hs ≡ x ∷ [] → StandsThere (map flown s'.flying) k x
stands_there {s = s} {s' = s'} x (step {i = k} {c = c} {a = a} is does) one = subst (StandsThere (map flown s'.flying) k) (ap (λ l. get_or l 0 x) one) (replaced_there s.flying k c a is)

-- ---- its frame
frame_left : (t : Tables) (from : List Flying) (k : ℕ) (c : Flying) (f : Fate) (bytes : List ℕ) → slice_get from k ≡ Some c → IsFrameBy f c.packet bytes → HasFrame (spliced from k 1 (left_by t c f)) k (told_by t c f) bytes
frame_left t from k c (fate.Seek x h) bytes is framed = λ y there.
    let same : record c { at = next t c.at x; head = h } ≡ y = same_Some _ _ (sym (there_now from (drop (k + 1) from) k c (record c { at = next t c.at x; head = h }) is) ∙ there) in
    framed ∙ ap (λ (y : Flying). frame y.head y.packet) same
frame_left t from k c (fate.Deliver port) bytes is framed = tt
frame_left t from k c (fate.Fork outs) bytes is framed = tt
frame_left t from k c (fate.Stay r n) bytes is framed = tt
frame_left t from k c (fate.Wait r) bytes is framed = tt

pub frame_gone : (t : Tables) (from to : List Flying) (k : ℕ) (c : Flying) (f : Fate) (moved : Moved) (bytes : List ℕ) → slice_get from k ≡ Some c → to ≡ spliced from k 1 (left_by t c f) → moved ≡ told_by t c f → IsFrameBy f c.packet bytes
    → HasFrame to k moved bytes
frame_gone t from to k c f moved bytes is gone tells framed =
    subst (λ l. HasFrame l k moved bytes) (sym gone) (subst (λ m. HasFrame (spliced from k 1 (left_by t c f)) k m bytes) (sym tells) (frame_left t from k c f bytes is framed))

-- a frame that is told is that of what crossed
frame_there : (cs : List Flying) (k : ℕ) (x : Happening) (bytes : List ℕ) → StandsThere cs k x → HasFrame cs k (moving x) bytes → frame_with (moving x) bytes ≡ frame_of x
frame_there cs k (Crossed c to head) bytes stands framed = framed _ stands
frame_there cs k (Delivered c port) bytes stands framed = refl
frame_there cs k (Forked c copies lost) bytes stands framed = refl

pub frame_told : (cs : List Flying) (k : ℕ) (x : Happening) (moved : Moved) (bytes : List ℕ) → moved ≡ moving x → StandsThere cs k x → HasFrame cs k moved bytes → frame_with moved bytes ≡ frame_of x
frame_told cs k x moved bytes tells stands framed = ap (λ m. frame_with m bytes) tells ∙ frame_there cs k x bytes stands (subst (λ m. HasFrame cs k m bytes) tells framed)
