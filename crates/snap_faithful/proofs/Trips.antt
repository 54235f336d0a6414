-- Where a packet is between its injection and its last delivery, with no other in flight.
use Rattle.std.proofs.Common.{◌≡◌, ℕ, zero, suc, ◌+◌, List, [], ◌∷◌, ◌++◌, take, drop, Option, Some, refl, sym, ap, subst, ◌∙◌}
use Rattle.std.specs.Prelude.{slice_get, slice_index}
use Rattle.std.specs.List.{All}
use Rattle.std.proofs.lemmas.List.{append-nil}
use Rattle.std.proofs.lemmas.List.Elements.{All-nil, All-cons, All-append, All-take, All-drop, All-map}
use Rattle.std.proofs.lemmas.Option.{none-some, same_Some}
use Rattle.snap_core.specs.Arrays.{Arrays}
use Rattle.snap_core.specs.Packets.{PacketSet}
use Rattle.snap_rows.specs.declared.tables.Tables.{Tables}
use Rattle.snap_rows.specs.Actions.{Action, Forward, Deliver, Fork}
use Rattle.snap_rows.specs.declared.head.Head.{Head}
use Rattle.snap_rows.specs.declared.head.Head.TheVariants.{Walk}
use Rattle.snap_rows.specs.Entries.{port_at}
use Rattle.snap_rows.specs.Handles.{Handles}
use Rattle.snap_rows.specs.Network.{Net, Copy, Inject, Step, Happening, Leads, inject, step, moved, happening, stepped}
use Rattle.snap_rows.proofs.Rows.{All-get}
use Rattle.snap_faithful.specs.Agreement.{sent_of, lost_of, CameOut}
use Rattle.snap_faithful.proofs.Nodes.{OutDoes, out_does}
use Rattle.snap_faithful.proofs.Leaving.{IsQuiet, Leaving, came_out, own_leaves, leaving_on, leaving_begins, quiet_more, copies_of, split_off}
use Rattle.snap_faithful.proofs.Holding.{HoldsOf, NetHoldsOf, OthersOf, held_after, same_store}

-- what a step at w makes of the copy before its fork, and of the arrays a
pub data Does (t : Tables) (owner : ℕ → Option ℕ) (Ahead : ℕ → Head → Arrays → Type 0) (IsOver : PacketSet → Arrays → Type 0) (w : ℕ) (a s' : Arrays) : Action → Type 0 where
  sends : {x : ℕ} {head : Head} {a' : Arrays} → Ahead x head a' → HoldsOf owner w s' a' → OthersOf owner w a a' → Does t owner Ahead IsOver w a s' (Forward x head)
  splits : {set : PacketSet} {a' : Arrays} → IsOver set a' → HoldsOf owner w s' a' → OthersOf owner w a a' → Does t owner Ahead IsOver w a s' (Fork (sent_of t set) (lost_of t set))

-- what holds of the arrays where the packet's copy stands before its fork, and where it forks into a set
pub record Way (t : Tables) (owner : ℕ → Option ℕ) (k : List ℕ) : Type 1 where
  pub Ahead : ℕ → Head → Arrays → Type 0
  pub IsOver : PacketSet → Arrays → Type 0
  pub does : {w : ℕ} {head : Head} {s s' a : Arrays} {d : Action} → Ahead w head a → HoldsOf owner w s a → Handles t w k s head s' d → Does t owner Ahead IsOver w a s' d

-- where packet i is, with no other in flight
pub data Trip (t : Tables) (owner : ℕ → Option ℕ) (k : List ℕ) (g : Way t owner k) (i : ℕ) (s : Net) (hs : List Happening) : Type 0 where
  coming : {w h st : ℕ} {head : Head} {a : Arrays} → s.flying ≡ record { number = i; at = w; head = head; packet = k; hops = h; steps = st } ∷ []
      → g.Ahead w head a → NetHoldsOf owner s a → IsQuiet i hs → Trip t owner k g i s hs
  leaving : {set : PacketSet} {a : Arrays} → All (λ (c : Copy). c.number ≡ i) s.flying → g.IsOver set a → NetHoldsOf owner s a → Leaving t i set s hs → Trip t owner k g i s hs

-- how it ends
pub record Ended (t : Tables) (owner : ℕ → Option ℕ) (k : List ℕ) (g : Way t owner k) (i : ℕ) (s : Net) (hs : List Happening) : Type 0 where
  pub set : PacketSet
  pub arrays : Arrays
  pub end : g.IsOver set arrays
  pub held : NetHoldsOf owner s arrays
  pub came : CameOut t i set hs

-- ---- the only copy
only_one : (c0 c : Copy) (j : ℕ) → slice_get (c0 ∷ []) j ≡ Some c → (j ≡ zero) × (c0 ≡ c)
only_one c0 c zero e = (refl, same_Some c0 c e)
only_one c0 c (suc j) e = absurd (none-some c e)

not_both : {A : Type 0} (x : A) (l : List A) → l ≡ x ∷ [] → l ≡ [] → ⊥
not_both x l e f = none-some x (ap (λ y. slice_get y 0) (sym f ∙ e))

moved_number : (i : ℕ) (c : Copy) (a : Action) → c.number ≡ i → All (λ (x : Copy). x.number ≡ i) (moved c a)
moved_number i c (Forward to head) e = All-cons (λ (x : Copy). x.number ≡ i) _ [] e (All-nil (λ (x : Copy). x.number ≡ i))
moved_number i c (Deliver port) e = All-nil (λ (x : Copy). x.number ≡ i)
moved_number i c (Fork xs l) e = All-map (λ (x : Copy). x.number ≡ i) (split_off c) xs (λ y d l. e)

module _ (t : Tables) (owner : ℕ → Option ℕ) (k : List ℕ) (g : Way t owner k) (i : ℕ) where
  only_flies : (s : Net) (c0 : Copy) (m : Arrays) (d : Action) → s.flying ≡ c0 ∷ [] → (stepped s 0 c0 m d).flying ≡ moved c0 d
  only_flies s c0 m d e = (λ y. take 0 (e y) ++ (moved c0 d ++ drop (0 + 1) (e y))) ∙ append-nil (moved c0 d)

  goes : (s : Net) (hs : List Happening) (w h st : ℕ) (head : Head) (m a : Arrays) (d : Action) → s.flying ≡ record { number = i; at = w; head = head; packet = k; hops = h; steps = st } ∷ []
      → NetHoldsOf owner s a → IsQuiet i hs → Does t owner g.Ahead g.IsOver w a m d
      → Trip t owner k g i (stepped s 0 (record { number = i; at = w; head = head; packet = k; hops = h; steps = st }) m d) (hs ++ happening (record { number = i; at = w; head = head; packet = k; hops = h; steps = st }) d ∷ [])
  goes s hs w h st head m a d e held quiet (sends {x = x} {head = head'} {a' = a'} ahead now far) =
      let c : Copy = record { number = i; at = w; head = head; packet = k; hops = h; steps = st } in
      coming (only_flies s c m (Forward x head') e) ahead (held_after owner s c 0 m (Forward x head') a a' held now far)
      (quiet_more i hs _ quiet (record { deliveries = refl; losses = refl }))
  goes s hs w h st head m a d e held quiet (splits {set = set} {a' = a'} end now far) =
      let c : Copy = record { number = i; at = w; head = head; packet = k; hops = h; steps = st } in
      leaving
      (subst (All (λ (x : Copy). x.number ≡ i)) (sym (only_flies s c m (Fork (sent_of t set) (lost_of t set)) e)) (moved_number i c (Fork (sent_of t set) (lost_of t set)) refl))
      end (held_after owner s c 0 m (Fork (sent_of t set) (lost_of t set)) a a' held now far)
      (leaving_begins s c 0 (ap (λ l. slice_get l 0) e) t set hs m refl (ap (λ l. copies_of i (drop 1 l)) e) quiet)

  -- the step of the only copy
  of_only : (s : Net) (hs : List Happening) (c0 c : Copy) (j : ℕ) (m : Arrays) (d : Action) → s.flying ≡ c0 ∷ [] → slice_get s.flying j ≡ Some c → Handles t c.at c.packet (s.stores c.at) c.head m d
      → (Handles t c0.at c0.packet (s.stores c0.at) c0.head m d → Trip t owner k g i (stepped s 0 c0 m d) (hs ++ happening c0 d ∷ []))
      → Trip t owner k g i (stepped s j c m d) (hs ++ happening c d ∷ [])
  of_only s hs c0 c j m d e found does go =
      let only = only_one c0 c j (subst (λ f. slice_get f j ≡ Some c) e found) in
      subst (λ y. Trip t owner k g i (stepped s y c m d) (hs ++ happening c d ∷ [])) (sym only.0)
      (subst (λ x. Handles t x.at x.packet (s.stores x.at) x.head m d → Trip t owner k g i (stepped s 0 x m d) (hs ++ happening x d ∷ [])) only.1 go does)

  goes_out : {set : PacketSet} (s : Net) (hs : List Happening) (c : Copy) (j : ℕ) (a : Arrays) {m : Arrays} {d : Action} → slice_get s.flying j ≡ Some c → c.number ≡ i → All (λ (c : Copy). c.number ≡ i) s.flying
      → g.IsOver set a → NetHoldsOf owner s a → Leaving t i set s hs → OutDoes (slice_index c.packet 1) (s.stores c.at) m d → Trip t owner k g i (stepped s j c m d) (hs ++ happening c d ∷ [])
  goes_out {set = set} s hs c j a {m = m} {d = d} found own all end held left out =
      leaving
      (All-append (λ (c : Copy). c.number ≡ i) (take j s.flying) (moved c d ++ drop (j + 1) s.flying) (All-take (λ (c : Copy). c.number ≡ i) j s.flying all)
      (All-append (λ (c : Copy). c.number ≡ i) (moved c d) (drop (j + 1) s.flying) (moved_number i c d own) (All-drop (λ (c : Copy). c.number ≡ i) (j + 1) s.flying all)))
      end (held_after owner s c j m d a a held (same_store owner s c a held out) (λ w ne q at. refl))
      (subst (λ y. Leaving t y set (stepped s j c m d) (hs ++ happening c d ∷ [])) own (leaving_on s c j found out (subst (λ y. Leaving t y set s hs) (sym own) left)))

  pub trip_on : (j : ℕ) (s s' : Net) (hs h : List Happening) → Trip t owner k g i s hs → Leads t s (Step j) s' h → Trip t owner k g i s' (hs ++ h)
  trip_on j s s' hs h (coming {w = w} {h = hops} {st = st} {head = head} {a = a} e ahead held quiet) (step {c = c} {m = m} {a = d} found does) =
      of_only s hs (record { number = i; at = w; head = head; packet = k; hops = hops; steps = st }) c j m d e found does
      (λ mine. goes s hs w hops st head m a d e held quiet (g.does ahead (held w) mine))
  trip_on j s s' hs h (leaving {set = set} {a = a} all end held left) (step {c = c} {m = m} {a = d} found does) =
      let own = All-get (λ (c : Copy). c.number ≡ i) s.flying j c all found in
      let head = own_leaves s c j found ((subst (λ y. Leaving t y set s hs) (sym own) left).out) in
      goes_out s hs c j a found own all end held left (out_does (subst (λ y. Handles t c.at c.packet (s.stores c.at) y m d) head does))

  -- each copy in flight is of the packet
  pub numbers : (s : Net) (hs : List Happening) (j : ℕ) (c : Copy) → Trip t owner k g i s hs → slice_get s.flying j ≡ Some c → c.number ≡ i
  numbers s hs j c (coming e ahead held quiet) found = ap (λ (x : Copy). x.number) (sym (only_one _ c j (subst (λ f. slice_get f j ≡ Some c) e found)).1)
  numbers s hs j c (leaving all end held left) found = All-get (λ (c : Copy). c.number ≡ i) s.flying j c all found

  pub ended : (s : Net) (hs : List Happening) → s.flying ≡ [] → Trip t owner k g i s hs → Ended t owner k g i s hs
  ended s hs none (coming e ahead held quiet) = absurd (not_both _ s.flying e none)
  ended s hs none (leaving {set = set} {a = a} all end held left) = record { set = set; arrays = a; end = end; held = held; came = came_out none left }

  pub begun : (s s' : Net) (hs h : List Happening) (port : ℕ) (a : Arrays) → s.flying ≡ [] → ((w : ℕ) → port_at t (slice_index k 0) ≡ Some w → g.Ahead w (Walk 0) a) → NetHoldsOf owner s a → s.injected ≡ i → IsQuiet i hs → Leads t s (Inject port k) s' h → Trip t owner k g i s' (hs ++ h)
  begun s s' hs h port a none ahead held number quiet (inject {w = w} own names) =
      coming (λ x. none x ++ record { number = number x; at = w; head = Walk 0; packet = k; hops = 0; steps = 0 } ∷ []) (ahead w (subst (λ y. port_at t y ≡ Some w) (sym names) own)) held
      (subst (IsQuiet i) (sym (append-nil hs)) quiet)
