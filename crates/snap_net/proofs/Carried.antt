-- A packet passes through the network: it comes in, its copy flies to where it is parted, and what goes out goes out.
use Rattle.std.proofs.Common.{◌≡◌, ◌≢◌, ℕ, ◌+◌, ◌<◌, ◌≤◌, true, List, [], ◌∷◌, ◌++◌, map, Option, Some, None, length, refl, sym, ap, ap₂, subst, ◌∙◌, arith, append_assoc, append-nil, Bor}
use Rattle.std.specs.Prelude.{IsSome, slice_index, sum, if◌then◌else◌}
use Rattle.std.specs.List.{All}
use Rattle.std.proofs.lemmas.Bool.{eq-eqb, false≢true}
use Rattle.std.proofs.lemmas.List.{map-append}
use Rattle.std.proofs.lemmas.List.Elements.{All-append, All-cons, All-head, All-map, All-nil, All-tail}
use Rattle.std.proofs.lemmas.List.Sums.{sum_by-append, sum_by-cons}
use Rattle.snap_core.specs.Arrays.{Arrays}
use Rattle.snap_core.specs.Cells.{Kept}
use Rattle.snap_rows.specs.Aims.{aim_of}
use Rattle.snap_rows.specs.declared.tables.Tables.{Tables}
use Rattle.snap_rows.specs.declared.tables.Rule.TheVariants.{Loop}
use Rattle.snap_rows.specs.Actions.{Action, Forward, Deliver, Fork}
use Rattle.snap_rows.specs.declared.head.Fate.{Fate}
use Rattle.snap_rows.specs.declared.head.Fate.TheVariants as fate
use Rattle.snap_rows.specs.declared.head.Head.{Head}
use Rattle.snap_rows.specs.declared.head.Head.TheVariants.{Walk, Stage, Out, Visit}
use Rattle.snap_rows.specs.declared.head.Sent.{Sent}
use Rattle.snap_rows.specs.Entries.{Parts, next, port_at}
use Rattle.snap_rows.specs.Form.{IsWellFormed, switch_count}
use Rattle.snap_rows.specs.Handles.{Handles, delivers}
use Rattle.snap_rows.specs.Happenings.{deliveries_of, losses_of, number_of}
use Rattle.snap_rows.specs.Home.{AtHome}
use Rattle.snap_rows.specs.Network.{Copy, Net, Step, Happening, Crossed, Delivered, Forked, Leads, rests, injects, steps, StepsFirst, happening}
use Rattle.snap_rows.specs.Rules.{IsValid}
use Rattle.snap_rows.specs.Steps.{Arrives, IsSent}
use Rattle.snap_rows.specs.Stepping.{ActsAs, AimsAt, IsSpread, Steps}
use Rattle.snap_rows.specs.Ways.{Way, here, on}
use Rattle.snap_rows.specs.Weight.{weight}
use Rattle.snap_rows.proofs.Aims.{aim_below, aim_lighter, goes_on}
use Rattle.snap_rows.proofs.Arrives.{fork_arrives, next_below, way_to}
use Rattle.snap_rows.proofs.Lighter.{lighter}
use Rattle.std.proofs.lemmas.Option.{same_Some}
use Rattle.snap_rows.proofs.Stepping.{steps_plain}
use Rattle.snap_net.specs.declared.flying.Flying.{Flying}
use Rattle.snap_net.specs.Moves.{copies_in_flight, flights}
use Rattle.snap_net.specs.Passing.{Comes, Goes, GoOut, none, next_one, IsHeard, IsPlain, IsTold, PartsInto, Passes, StepsAt, StepsSo, crossings, entering, held as holding, reached, FliesTo, PassesThrough}
use Rattle.snap_net.specs.Shown.{NetView, Represents, flown, store_of}
use Rattle.snap_net.specs.Travels.{Crosses, ends, goes, Hears, WayOf, HearsWay, HearsOut}
use Rattle.snap_net.proofs.Steps.{Left, done_fresh, has_stepped, with_fresh}
use Rattle.snap_net.proofs.Told.{sequential-then, crossings-append, packets_of-append}
use Rattle.snap_rows.proofs.Happenings.{deliveries_of-append, losses_of-append}

-- ---- steps of the first copy
goes_none : (t : Tables) (s : Net) → Goes t s [] s
goes_none t s = record { events = []; no_packets = refl; first = All-nil StepsFirst; run = rests }

goes_both : (t : Tables) (a b c : Net) (hs gs : List Happening) → Goes t a hs b → Goes t b gs c → Goes t a (hs ++ gs) c
goes_both t a b c hs gs g h = record {
  events = g.events ++ h.events;
  no_packets = packets_of-append g.events h.events ∙ ap₂ (λ x y. x ++ y) g.no_packets h.no_packets;
  first = All-append StepsFirst g.events h.events g.first h.first;
  run = sequential-then t c h.events gs g.run h.run;
}

goes_once : (t : Tables) (a b : Net) (x : Happening) → Leads t a (Step 0) b (x ∷ []) → Goes t a (x ∷ []) b
goes_once t a b x leads = record {
  events = Step 0 ∷ [];
  no_packets = refl;
  first = All-cons StepsFirst (Step 0) [] refl (All-nil StepsFirst);
  run = steps leads rests;
}

-- ---- copies come on
pub comes_none : (t : Tables) (n : ℕ) (stores : List Kept) (fl : List Flying) (told : List Happening → Type 0) → told [] → Comes t n stores fl stores fl told
comes_none t n stores fl told so s shows = (s, [], goes_none t s, shows, so)

pub comes_then : (t : Tables) (n : ℕ) (a b c : List Kept) (fl gl hl : List Flying) (told more all : List Happening → Type 0) → Comes t n a fl b gl told → Comes t n b gl c hl more → ((hs gs : List Happening) → told hs → more gs → all (hs ++ gs))
    → Comes t n a fl c hl all
comes_then t n a b c fl gl hl told more all first second both s shows =
    let x = first s shows in
    let y = second x.0 x.3 in
    (y.0, x.1 ++ y.1, goes_both t s x.0 y.0 x.1 y.1 x.2 y.2, y.3, both x.1 y.1 x.4 y.4)

pub comes_so : (t : Tables) (n : ℕ) (a b : List Kept) (fl gl : List Flying) (told all : List Happening → Type 0) → Comes t n a fl b gl told → ((hs : List Happening) → told hs → all hs) → Comes t n a fl b gl all
comes_so t n a b fl gl told all comes so s shows = let x = comes s shows in (x.0, x.1, x.2, x.3, so x.1 x.4)

-- a copy made this of its step, and this happened
abbrev Happens : Flying → Action → List Happening → Type 0
Happens d a hs = (c : Copy) × (flown c ≡ d) × (hs ≡ happening c a ∷ [])

-- by a step of the first copy
comes_step : (t : Tables) (n : ℕ) (old new : List Kept) (d : Flying) (xs : List Flying) (a : Action) → StepsAt t d.at d.packet d.head old new a → Comes t n old (d ∷ xs) new (flights d a ++ xs) (Happens d a)
comes_step t n old new d xs a made s shows =
    let v = holding t n old (d ∷ xs) in
    let v' = holding t n new (flights d a ++ xs) in
    let left : Left v v' 0 d made.arrays a = record { is = refl; tables = refl; stores = made.changed; injected = refl; flying = refl } in
    let b = has_stepped v v' 0 d made.arrays a left made.handles s shows in
    (b.state, happening b.copy a ∷ [], goes_once t s b.state (happening b.copy a) b.leads, b.shows, (b.copy, sym (same_Some _ _ b.is), refl))

-- a copy at switch w with a head
abbrev pub there : Flying → ℕ → Head → Flying
there c w h = record c { at = w; head = h }

-- the first link
crosses_first : (t : Tables) (d : Flying) (to : ℕ) (h : Head) (hs : List Happening) → Happens d (Forward to h) hs → (ws : List ℕ) (gs : List Happening) → Crosses d.number h d.packet to ws gs → Crosses d.number h d.packet d.at (to ∷ ws) (hs ++ gs)
crosses_first t d to h hs happens ws gs rest =
    subst (λ l. Crosses d.number h d.packet d.at (to ∷ ws) (l ++ gs)) (sym happens.2)
    (goes (ap (λ (x : Flying). x.number) happens.1) (ap (λ (x : Flying). x.at) happens.1) (ap (λ (x : Flying). x.packet) happens.1) rest)

-- a copy with a head that is sent on from everywhere but x goes along a way to x
comes_along : (t : Tables) (n : ℕ) (stores : List Kept) (d : Flying) (xs : List Flying) (x : ℕ) (h : Head) → ((w : ℕ) (k : List ℕ) (m : Arrays) → x ≢ w → Handles t w k m h m (Forward (next t w x) h))
    → (w : ℕ) (ws : List ℕ) → Way t x w ws → Comes t n stores (there d w h ∷ xs) stores (there d x h ∷ xs) (Crosses d.number h d.packet w ws)
comes_along t n stores d xs x h forwards w ws here = comes_none t n stores (there d w h ∷ xs) (Crosses d.number h d.packet w []) ends
comes_along t n stores d xs x h forwards w ws (on {ws = vs} away way) =
    let to = next t w x in
    let made : StepsAt t w d.packet h stores stores (Forward to h) = record { arrays = store_of stores w; handles = forwards w d.packet (store_of stores w) (λ e. away (sym e)); changed = record { count = refl; here = refl; others = λ y off. refl } } in
    comes_then t n stores stores stores (there d w h ∷ xs) (there d to h ∷ xs) (there d x h ∷ xs) (Happens (there d w h) (Forward to h)) (Crosses d.number h d.packet to vs) (Crosses d.number h d.packet w (to ∷ vs))
    (comes_step t n stores stores (there d w h) xs (Forward to h) made)
    (comes_along t n stores d xs x h forwards to vs way)
    (λ hs gs happens rest. crosses_first t (there d w h) to h hs happens vs gs rest)

-- the first copy crosses links from switch w, by next hops towards x
abbrev Gone : Tables → ℕ → Head → List ℕ → (w x : ℕ) → List Happening → Type 0
Gone t i h k w x hs = (ws : List ℕ) × Way t x w ws × Crosses i h k w ws hs

-- by steps of the first copy to where its head sends it
comes_far : (t : Tables) → IsValid t → IsWellFormed t → (n : ℕ) (stores : List Kept) (d : Flying) (xs : List Flying) (x : ℕ) → d.at < switch_count t → aim_of t d.head ≡ Some x
    → Comes t n stores (d ∷ xs) stores (record d { at = x } ∷ xs) (Gone t d.number d.head d.packet d.at x)
comes_far t valid form n stores d xs x low aim =
    let way = way_to t (valid Loop) form d.at x low (aim_below t form d.head x aim) in
    comes_so t n stores stores (d ∷ xs) (record d { at = x } ∷ xs) (Crosses d.number d.head d.packet d.at way.0) (Gone t d.number d.head d.packet d.at x)
    (comes_along t n stores d xs x d.head (goes_on t d.head x aim) d.at way.0 way.1)
    (λ hs crosses. (way.0, way.1, crosses))

-- ---- a step towards a switch
steps_at : (t : Tables) (w : ℕ) (k : List ℕ) (h : Head) (old new : List Kept) (f : Fate) → StepsSo t w k h old new f → (a : Action) × ActsAs t w k f a × StepsAt t w k h old new a
steps_at t w k h old new f made =
    let plain = steps_plain made.steps (λ j. refl) in
    (plain.0, plain.1, record { arrays = made.arrays; handles = plain.2; changed = made.changed })

steps_towards : (t : Tables) (w : ℕ) (k : List ℕ) (h : Head) (old new : List Kept) (x : ℕ) (h' : Head) → StepsSo t w k h old new (fate.Seek x h') → StepsAt t w k h old new (Forward (next t w x) h')
steps_towards t w k h old new x h' made = let at = steps_at t w k h old new (fate.Seek x h') made in subst (StepsAt t w k h old new) at.1 at.2

pub steps_are_plain : {t : Tables} {w : ℕ} {k : List ℕ} {m : Arrays} {h : Head} {m' : Arrays} (f : Fate) → Steps t w k (λ r. true) m h m' f → IsPlain f
steps_are_plain (fate.Seek x h) made = tt
steps_are_plain (fate.Deliver p) made = tt
steps_are_plain (fate.Fork outs) made = tt
steps_are_plain (fate.Stay r n) made = (steps_plain made (λ j. refl)).1
steps_are_plain (fate.Wait r) made = (steps_plain made (λ j. refl)).1

-- the links on a copy's way from w towards x with this head
abbrev pub OnWay : Tables → ℕ → Head → List ℕ → (w x : ℕ) → List Happening → Type 0
OnWay t i h k w x hs = (ws : List ℕ) × WayOf t h w x ws × Crosses i h k w ws hs

comes_next : (t : Tables) (n : ℕ) (old new : List Kept) (d : Flying) (x : ℕ) (h : Head) → ((ws : List ℕ) → ws ≡ next t d.at x ∷ [] → WayOf t h d.at x ws) → StepsSo t d.at d.packet d.head old new (fate.Seek x h)
    → Comes t n old (d ∷ []) new (there d (next t d.at x) h ∷ []) (OnWay t d.number h d.packet d.at x)
comes_next t n old new d x h way made =
    let to = next t d.at x in
    comes_so t n old new (d ∷ []) (there d to h ∷ []) (Happens d (Forward to h)) (OnWay t d.number h d.packet d.at x) (comes_step t n old new d [] (Forward to h) (steps_towards t d.at d.packet d.head old new x h made))
    (λ hs happens. (to ∷ [], way (to ∷ []) refl, subst (Crosses d.number h d.packet d.at (to ∷ [])) (append-nil hs) (crosses_first t d to h hs happens [] [] ends)))

-- a head that says where it goes is followed there
comes_all : (t : Tables) → IsValid t → IsWellFormed t → (n : ℕ) (old new : List Kept) (d : Flying) (x : ℕ) (h : Head) → d.at < switch_count t → aim_of t h ≡ Some x → x ≢ d.at → ((ws : List ℕ) → Way t x d.at ws → WayOf t h d.at x ws)
    → StepsSo t d.at d.packet d.head old new (fate.Seek x h) → Comes t n old (d ∷ []) new (there d x h ∷ []) (OnWay t d.number h d.packet d.at x)
comes_all t valid form n old new d x h low aim away way made =
    let to = next t d.at x in
    comes_then t n old new new (d ∷ []) (there d to h ∷ []) (there d x h ∷ []) (Happens d (Forward to h)) (Gone t d.number h d.packet to x) (OnWay t d.number h d.packet d.at x)
    (comes_step t n old new d [] (Forward to h) (steps_towards t d.at d.packet d.head old new x h made))
    (comes_far t valid form n new (there d to h) [] x (next_below t form d.at x low) aim)
    (λ hs gs happens gone. (to ∷ gone.0, way (to ∷ gone.0) (on (λ e. away (sym e)) gone.1), crosses_first t d to h hs happens gone.0 gs gone.2))

pub comes_sought : (t : Tables) → IsValid t → IsWellFormed t → (n : ℕ) (old new : List Kept) (d : Flying) (x : ℕ) (h : Head) → d.at < switch_count t → AimsAt t d.at h x → StepsSo t d.at d.packet d.head old new (fate.Seek x h)
    → Comes t n old (d ∷ []) new (there d (reached t d.at x h) h ∷ []) (OnWay t d.number h d.packet d.at x)
comes_sought t valid form n old new d x (Walk m) low aims made = comes_next t n old new d x (Walk m) (λ ws e. e) made
comes_sought t valid form n old new d x (Stage m i) low aims made = comes_next t n old new d x (Stage m i) (λ ws e. e) made
comes_sought t valid form n old new d x (Out p) low aims made = comes_all t valid form n old new d x (Out p) low aims.0 aims.1 (λ ws way. way) made
comes_sought t valid form n old new d x (Visit r m) low aims made = comes_all t valid form n old new d x (Visit r m) low aims.0 aims.1 (λ ws way. way) made

-- the switch that is reached is one, and the head is at home there
pub reached_home : (t : Tables) → IsWellFormed t → (w x : ℕ) (h : Head) → w < switch_count t → x < switch_count t → AtHome t (next t w x) h → (reached t w x h < switch_count t) × AtHome t (reached t w x h) h
reached_home t form w x (Walk m) low below home = (next_below t form w x low, home)
reached_home t form w x (Stage m i) low below home = (next_below t form w x low, home)
reached_home t form w x (Out p) low below home = (below, home)
reached_home t form w x (Visit r m) low below home = (below, home)

no_heavier : (t : Tables) (w x : ℕ) (h : Head) → AimsAt t w h x → weight t (reached t w x h) h ≤ weight t (next t w x) h
no_heavier t w x (Walk m) aims = omega arith
no_heavier t w x (Stage m i) aims = omega arith
no_heavier t w x (Out p) aims = aim_lighter t (Out p) x (next t w x) aims.0
no_heavier t w x (Visit r m) aims = aim_lighter t (Visit r m) x (next t w x) aims.0

-- fewer steps are left there
pub sought_lighter : (t : Tables) → IsValid t → IsWellFormed t → (old new : List Kept) (w x : ℕ) (k : List ℕ) (h h' : Head) → w < switch_count t → AtHome t w h → AimsAt t w h' x → StepsSo t w k h old new (fate.Seek x h') → weight t (reached t w x h') h' < weight t w h
sought_lighter t valid form old new w x k h h' low home aims made =
    let step = steps_towards t w k h old new x h' made in
    let less : weight t (next t w x) h' < weight t w h = lighter t valid form w low k (store_of old w) h step.arrays (Forward (next t w x) h') home step.handles in
    let more = no_heavier t w x h' aims in
    omega (arith, less, more)

-- ---- what is told
pub told_none : (i : ℕ) → IsTold i [] 0 []
told_none i = record { happen = All-nil (λ h. number_of h ≡ i); sent_is = refl; lost_is = refl }

pub told_both : (i : ℕ) (a b : List (List ℕ)) (l m : ℕ) (hs gs : List Happening) → IsTold i a l hs → IsTold i b m gs → IsTold i (a ++ b) (l + m) (hs ++ gs)
told_both i a b l m hs gs x y = record {
  happen = All-append (λ h. number_of h ≡ i) hs gs x.happen y.happen;
  sent_is =
      ap (map (λ (z : Sent). z.packet)) (deliveries_of-append i hs gs)
      ∙ map-append (λ (z : Sent). z.packet) (deliveries_of i hs) (deliveries_of i gs)
      ∙ ap₂ (λ c d. c ++ d) x.sent_is y.sent_is;
  lost_is = ap sum (losses_of-append i hs gs) ∙ sum_by-append (λ n. n) (losses_of i hs) (losses_of i gs) ∙ ap₂ (λ c d. c + d) x.lost_is y.lost_is;
}

crossing_told : (i : ℕ) (h : Head) (k : List ℕ) (w : ℕ) (ws : List ℕ) (hs : List Happening) → Crosses i h k w ws hs → IsTold i [] 0 hs × (crossings hs ≡ hs)
crossing_told i h k w ws hs ends = (told_none i, refl)
crossing_told i h k w ws hs (goes {v = v} {vs = vs} {hs = gs} {c = c} mine at packet rest) =
    let r = crossing_told i h k v vs gs rest in
    (record { happen = All-cons (λ x. number_of x ≡ i) (Crossed c v h) gs mine r.0.happen; sent_is = r.0.sent_is; lost_is = r.0.lost_is }, ap (λ l. Crossed c v h ∷ l) r.1)

delivery_told : (i : ℕ) (c : Copy) (port : ℕ) → c.number ≡ i → IsTold i (c.packet ∷ []) 0 (Delivered c port ∷ [])
delivery_told i c port mine = record {
  happen = All-cons (λ x. number_of x ≡ i) (Delivered c port) [] mine (All-nil (λ x. number_of x ≡ i));
  sent_is = ap (λ b. map (λ (z : Sent). z.packet) (if b then (record { port = port; packet = c.packet } ∷ []) else [])) (eq-eqb c.number i mine);
  lost_is = refl;
}

fork_told : (i : ℕ) (c : Copy) (copies lost : ℕ) → c.number ≡ i → IsTold i [] lost (Forked c copies lost ∷ [])
fork_told i c copies lost mine = record {
  happen = All-cons (λ x. number_of x ≡ i) (Forked c copies lost) [] mine (All-nil (λ x. number_of x ≡ i));
  sent_is = refl;
  lost_is = ap (λ b. sum (if b then (lost ∷ []) else [])) (eq-eqb c.number i mine) ∙ one;
}
  where
    one : sum (lost ∷ []) ≡ lost
    one = let e : sum (lost ∷ []) ≡ lost + 0 = sum_by-cons (λ n. n) lost [] in omega (arith, e)

-- ---- what is heard
module _ {V : Type 0} (saw : V → List Happening → V → Type 0) (i : ℕ) where
  pub heard_none : (v : V) → IsHeard saw i v v [] 0 []
  heard_none v = record { told = told_none i; heard = λ first before stands. subst (λ l. saw first l v) (sym (append-nil before)) stands }

  pub heard_both : (u v w : V) (a b : List (List ℕ)) (l m : ℕ) (hs gs : List Happening) → IsHeard saw i u v a l hs → IsHeard saw i v w b m gs → IsHeard saw i u w (a ++ b) (l + m) (hs ++ gs)
  heard_both u v w a b l m hs gs x y = record {
    told = told_both i a b l m hs gs x.told y.told;
    heard = λ first before stands.
        subst (λ z. saw first z w) (append_assoc before (crossings hs) (crossings gs) ∙ ap (λ z. before ++ z) (sym (crossings-append hs gs)))
        (y.heard first (before ++ crossings hs) (x.heard first before stands));
  }

  -- a way that was told
  pub heard_way : (t : Tables) (u v : V) (h : Head) (k : List ℕ) (w x : ℕ) → HearsWay saw t i h k w x u v
      → (hs : List Happening) → OnWay t i h k w x hs → IsHeard saw i u v [] 0 hs
  heard_way t u v h k w x told hs way =
      let r = crossing_told i h k w way.0 hs way.2 in
      record { told = r.0; heard = λ first before stands. subst (λ l. saw first (before ++ l) v) (sym r.1) (told way.0 hs way.1 way.2 first before stands) }

-- ---- what goes out
-- a copy on its way to its port is delivered there
comes_out : (t : Tables) → IsValid t → IsWellFormed t → (n : ℕ) (stores : List Kept) (i w : ℕ) (x : Sent) (xs : List Flying) (v : ℕ) → w < switch_count t → port_at t x.port ≡ Some v
    → Comes t n stores (record { number = i; at = w; head = Out x.port; packet = x.packet } ∷ xs) stores xs (λ hs. (gs : List Happening) × Gone t i (Out x.port) x.packet w v gs × IsTold i (x.packet ∷ []) 0 hs × (crossings hs ≡ gs))
comes_out t valid form n stores i w x xs v low at =
    let d : Flying = record { number = i; at = w; head = Out x.port; packet = x.packet } in
    let e : Flying = record d { at = v } in
    let out : StepsAt t v x.packet (Out x.port) stores stores (Deliver x.port) = record { arrays = store_of stores v; handles = delivers at; changed = record { count = refl; here = refl; others = λ y away. refl } } in
    comes_then t n stores stores stores (d ∷ xs) (e ∷ xs) xs (Gone t i (Out x.port) x.packet w v) (Happens e (Deliver x.port)) (λ hs. (gs : List Happening) × Gone t i (Out x.port) x.packet w v gs × IsTold i (x.packet ∷ []) 0 hs × (crossings hs ≡ gs))
    (comes_far t valid form n stores d xs v low at)
    (comes_step t n stores stores e xs (Deliver x.port) out)
    (λ hs gs gone happens.
    let crossed = crossing_told i (Out x.port) x.packet w gone.0 hs gone.2 in
    let c = happens.0 in
    let number : c.number ≡ i = ap (λ (y : Flying). y.number) happens.1 in
    let packet : c.packet ≡ x.packet = ap (λ (y : Flying). y.packet) happens.1 in
    let one : IsTold i (x.packet ∷ []) 0 (Delivered c x.port ∷ []) = subst (λ k. IsTold i (k ∷ []) 0 (Delivered c x.port ∷ [])) packet (delivery_told i c x.port number) in
    let all : IsTold i (x.packet ∷ []) 0 (hs ++ Delivered c x.port ∷ []) = told_both i [] (x.packet ∷ []) 0 0 hs (Delivered c x.port ∷ []) crossed.0 one in
    let links : crossings (hs ++ Delivered c x.port ∷ []) ≡ hs = crossings-append hs (Delivered c x.port ∷ []) ∙ append-nil (crossings hs) ∙ crossed.1 in (
      hs,
      gone,
      subst (λ l. IsTold i (x.packet ∷ []) 0 (hs ++ l)) (sym happens.2) all,
      ap (λ l. crossings (hs ++ l)) happens.2 ∙ links,
    ))

-- what is told of copies that go out
abbrev GoneOut : Tables → (i w : ℕ) → List Sent → List Happening → Type 0
GoneOut t i w copies hs = (gs : List Happening) × GoOut t i w copies gs × IsTold i (map (λ (x : Sent). x.packet) copies) 0 hs × (crossings hs ≡ gs)

comes_all_out : (t : Tables) → IsValid t → IsWellFormed t → (n : ℕ) (stores : List Kept) (i w : ℕ) (k : List ℕ) (copies : List Sent) → w < switch_count t → All (IsSent t k) copies → Comes t n stores (copies_in_flight i w copies) stores [] (GoneOut t i w copies)
comes_all_out t valid form n stores i w k [] low sent = comes_none t n stores [] (GoneOut t i w []) ([], none, told_none i, refl)
comes_all_out t valid form n stores i w k (x ∷ xs) low sent = by (port_at t x.port) refl (All-head (IsSent t k) x xs sent).port (comes_all_out t valid form n stores i w k xs low (All-tail (IsSent t k) x xs sent))
  where
    by : (o : Option ℕ) → port_at t x.port ≡ o → IsSome o → Comes t n stores (copies_in_flight i w xs) stores [] (GoneOut t i w xs) → Comes t n stores (copies_in_flight i w (x ∷ xs)) stores [] (GoneOut t i w (x ∷ xs))
    by None is some others = absurd (false≢true some)
    by (Some v) is some others =
        comes_then t n stores stores stores (copies_in_flight i w (x ∷ xs)) (copies_in_flight i w xs) []
        (λ hs. (gs : List Happening) × Gone t i (Out x.port) x.packet w v gs × IsTold i (x.packet ∷ []) 0 hs × (crossings hs ≡ gs)) (GoneOut t i w xs) (GoneOut t i w (x ∷ xs))
        (comes_out t valid form n stores i w x (copies_in_flight i w xs) v low is)
        others
        (λ hs gs first rest. (
          first.0 ++ rest.0,
          next_one is first.1.1 first.1.2 rest.1,
          told_both i (x.packet ∷ []) (map (λ (y : Sent). y.packet) xs) 0 0 hs gs first.2 rest.2,
          crossings-append hs gs ∙ ap₂ (λ a b. a ++ b) first.3 rest.3,
        ))

-- the first copy that goes out
pub go_first : {t : Tables} {i w : ℕ} (x : Sent) (xs : List Sent) (bs : List Happening) → GoOut t i w (x ∷ xs) bs
    → (v : ℕ) × (ws : List ℕ) × (hs : List Happening) × (gs : List Happening) × (port_at t x.port ≡ Some v) × Way t v w ws × Crosses i (Out x.port) x.packet w ws hs × GoOut t i w xs gs × (bs ≡ hs ++ gs)
go_first x xs bs (next_one {v = v} {ws = ws} {hs = hs} {gs = gs} at way crosses' rest) = (v, ws, hs, gs, at, way, crosses', rest, refl)

pub go_last : {t : Tables} {i w : ℕ} {bs : List Happening} → GoOut t i w [] bs → bs ≡ []
go_last none = refl

-- what one copy crosses on its way out was told, and of none nothing
pub heard_one : {V : Type 0} (saw : V → List Happening → V → Type 0) (i : ℕ) (t : Tables) (w : ℕ) (x : Sent) (u v : V)
    → HearsOut saw t i x.port x.packet w u v → (gs : List Happening) → GoOut t i w (x ∷ []) gs → Hears saw u v gs
heard_one saw i t w x u v told gs out =
    let one = go_first x [] gs out in
    let all : gs ≡ one.2 = one.8 ∙ ap (λ l. one.2 ++ l) (go_last one.7) ∙ append-nil one.2 in
    subst (Hears saw u v) (sym all) (told one.0 one.1 one.2 one.4 one.5 one.6)

pub heard_nothing : {V : Type 0} (saw : V → List Happening → V → Type 0) (i : ℕ) (t : Tables) (w : ℕ) (v : V) (gs : List Happening) → GoOut t i w [] gs → Hears saw v v gs
heard_nothing saw i t w v gs out = subst (Hears saw v v) (sym (go_last out)) (λ first before stands. subst (λ l. saw first l v) (sym (append-nil before)) stands)

-- copies that are spread are as long as the packet, and have ports
pub spread_sent : (t : Tables) (os : List Parts) (k : List ℕ) (copies : List Sent) (lost : ℕ) → IsSpread t os k copies lost → All (IsSent t k) copies
spread_sent t os k copies lost spread = let arrive : Arrives t k (Fork copies lost) = subst (Arrives t k) (sym spread) (fork_arrives t k os) in arrive

pub spread_sent_first : (t : Tables) (os : List Parts) (k : List ℕ) (port : ℕ) (after : List ℕ) → IsSpread t os k (record { port = port; packet = after } ∷ []) 0 → IsSome (port_at t port)
spread_sent_first t os k port after spread = let x : Sent = record { port = port; packet = after } in (All-head (IsSent t k) x [] (spread_sent t os k (x ∷ []) 0 spread)).port

-- what is sent is as long as the packet
pub parts_long : {V : Type 0} (t : Tables) (i w : ℕ) (os : List Parts) (k : List ℕ) (saw : V → List Happening → V → Type 0) (old new : V) (sent : List (List ℕ)) (lost : ℕ) → PartsInto t i w os k saw old new sent lost → All (λ l. length l ≡ length k) sent
parts_long t i w os k saw old new sent lost parts =
    let arrive = spread_sent t os k parts.copies lost parts.spread in
    subst (All (λ l. length l ≡ length k)) parts.sent_is (All-map (λ l. length l ≡ length k) (λ (x : Sent). x.packet) parts.copies (λ j d within. (arrive j d within).long))

-- ---- a packet
pub rests_shown : (cs : List Copy) → map flown cs ≡ [] → cs ≡ []
rests_shown [] e = refl
rests_shown (c ∷ cs) e = absurd (cc)

-- a packet comes in, and its copy comes to its end
pub passes : (v : NetView) → v.flying ≡ [] → (p w : ℕ) (k : List ℕ) → port_at v.tables p ≡ Some w → slice_index k 0 ≡ p → (stores : List Kept) (told : List Happening → Type 0)
    → Comes v.tables (v.injected + 1) v.stores (entering v.injected w k ∷ []) stores [] told → Passes p k v (record v { stores = stores; injected = v.injected + 1 }) told
passes v none' p w k at first stores told comes s shows =
    let t = v.tables in
    let d = done_fresh v p w k at first s shows in
    let mid : NetView = holding t (v.injected + 1) v.stores (entering v.injected w k ∷ []) in
    let same : with_fresh v w k ≡ mid = ap (λ (l : List Flying). record v { injected = v.injected + 1; flying = l ++ entering v.injected w k ∷ [] }) none' in
    let c = comes d.0 (subst (λ o. Represents o d.0) same d.3) in
    let still : s.flying ≡ [] = rests_shown s.flying (shows.flying ∙ none') in
    let after : NetView = record v { stores = stores; injected = v.injected + 1 } in
    record {
      state = c.0;
      events = c.2.events;
      happenings = d.1 ++ c.1;
      no_packets = c.2.no_packets;
      first = c.2.first;
      run = injects still d.2 c.2.run;
      rests = rests_shown c.0.flying c.3.flying;
      injected = c.3.injected ∙ ap (λ n. n + 1) (sym shows.injected);
      shows = subst (λ (l : List Flying). Represents (record v { stores = stores; injected = v.injected + 1; flying = l }) c.0) (sym none') c.3;
      tells = subst (λ l. told (l ++ c.1)) (sym d.4) c.4;
    }

module _ {V : Type 0} (saw : V → List Happening → V → Type 0) (t : Tables) (valid : IsValid t) (form : IsWellFormed t) where
  -- the copy is parted
  pub comes_parted : (old new : List Kept) (i v w : ℕ) (k : List ℕ) (outs : Bor (List Parts)) (a b c : V) (sent : List (List ℕ)) (lost : ℕ) → w < switch_count t
      → FliesTo saw t (entering i v k) a b old new w (fate.Fork outs) → PartsInto t i w outs.now k saw b c sent lost → PassesThrough t i v k old new (IsHeard saw i a c sent lost)
  comes_parted old new i v w k outs a b c sent lost low lands parts =
      let mid = lands.0 in
      let d : Flying = record { number = i; at = w; head = lands.1; packet = k } in
      let at = steps_at t w k lands.1 mid new (fate.Fork outs) lands.3 in
      let fork : Action = Fork parts.copies lost in
      let is : at.0 ≡ fork = at.1 ∙ sym parts.spread in
      let made : StepsAt t w k lands.1 mid new fork = subst (StepsAt t w k lands.1 mid new) is at.2 in
      let arrive = spread_sent t outs.now k parts.copies lost parts.spread in
      let none-before : 0 + lost ≡ lost = omega arith in
      comes_then t (i + 1) old mid new (entering i v k ∷ []) (d ∷ []) [] (IsHeard saw i a b [] 0) (λ hs. IsTold i sent lost hs × Hears saw b c (crossings hs)) (IsHeard saw i a c sent lost)
      lands.2
      (comes_then t (i + 1) mid new new (d ∷ []) (copies_in_flight i w parts.copies) [] (Happens d fork) (GoneOut t i w parts.copies) (λ hs. IsTold i sent lost hs × Hears saw b c (crossings hs))
      (subst (λ l. Comes t (i + 1) mid (d ∷ []) new l (Happens d fork)) (append-nil (copies_in_flight i w parts.copies)) (comes_step t (i + 1) mid new d [] fork made))
      (comes_all_out t valid form (i + 1) new i w k parts.copies low arrive)
      (λ hs gs happens out.
      let x = happens.0 in
      let number : x.number ≡ i = ap (λ (y : Flying). y.number) happens.1 in
      let forked : IsTold i [] lost hs = subst (IsTold i [] lost) (sym happens.2) (fork_told i x (length parts.copies) lost number) in
      let both : IsTold i (map (λ (y : Sent). y.packet) parts.copies) (lost + 0) (hs ++ gs) = told_both i [] (map (λ (y : Sent). y.packet) parts.copies) lost 0 hs gs forked out.2 in
      let none-more : lost + 0 ≡ lost = omega arith in
      let links : crossings (hs ++ gs) ≡ out.0 = crossings-append hs gs ∙ ap (λ l. crossings l ++ crossings gs) happens.2 ∙ out.3 in (
        subst (λ n. IsTold i sent n (hs ++ gs)) none-more (subst (λ l. IsTold i l (lost + 0) (hs ++ gs)) parts.sent_is both),
        λ first before stands. subst (λ l. saw first (before ++ l) c) (sym links) (parts.heard out.0 out.1 first before stands),
      )))
      (λ hs gs x y. subst (λ n. IsHeard saw i a c sent n (hs ++ gs)) none-before (heard_both saw i a b c [] sent 0 lost hs gs x (record { told = y.0; heard = y.1 })))

  -- it is delivered
  pub comes_delivered : (old new : List Kept) (i v w : ℕ) (k : List ℕ) (port : ℕ) (a b : V) → FliesTo saw t (entering i v k) a b old new w (fate.Deliver port) → PassesThrough t i v k old new (IsHeard saw i a b (k ∷ []) 0)
  comes_delivered old new i v w k port a b lands =
      let mid = lands.0 in
      let d : Flying = record { number = i; at = w; head = lands.1; packet = k } in
      let at = steps_at t w k lands.1 mid new (fate.Deliver port) lands.3 in
      let made : StepsAt t w k lands.1 mid new (Deliver port) = subst (StepsAt t w k lands.1 mid new) at.1 at.2 in
      comes_then t (i + 1) old mid new (entering i v k ∷ []) (d ∷ []) [] (IsHeard saw i a b [] 0) (Happens d (Deliver port)) (IsHeard saw i a b (k ∷ []) 0)
      lands.2
      (comes_step t (i + 1) mid new d [] (Deliver port) made)
      (λ hs gs x happens.
      let c = happens.0 in
      let number : c.number ≡ i = ap (λ (y : Flying). y.number) happens.1 in
      let packet : c.packet ≡ k = ap (λ (y : Flying). y.packet) happens.1 in
      let told : IsTold i (k ∷ []) 0 gs = subst (IsTold i (k ∷ []) 0) (sym happens.2) (subst (λ p. IsTold i (p ∷ []) 0 (Delivered c port ∷ [])) packet (delivery_told i c port number)) in
      heard_both saw i a b b [] (k ∷ []) 0 0 hs gs x (record {
        told = told;
        heard = λ first before stands. subst (λ l. saw first (before ++ crossings l) b) (sym happens.2) (subst (λ l. saw first l b) (sym (append-nil before)) stands);
      }))
