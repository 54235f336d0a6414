-- Copies stay in their places in runs in order, and their packets as long as they are.
use Rattle.std.proofs.Common.{◌≡◌, ℕ, ◌+◌, ◌<◌, List, [], ◌++◌, Some, take, drop, length, refl, ◌∙◌}
use Rattle.std.specs.List.{All}
use Rattle.std.proofs.lemmas.List.Elements.{All-append, All-cons, All-drop, All-map, All-nil, All-take}
use Rattle.snap_core.specs.Arrays.{Arrays}
use Rattle.snap_rows.specs.Actions.{Action, Forward, Deliver, Fork}
use Rattle.snap_rows.specs.declared.head.Head.{Head}
use Rattle.snap_rows.specs.declared.head.Head.TheVariants.{Out, Visit}
use Rattle.snap_rows.specs.declared.head.Sent.{Sent}
use Rattle.snap_rows.specs.declared.tables.Tables.{Tables}
use Rattle.snap_rows.specs.Form.{comps, switch_count}
use Rattle.snap_rows.specs.Handles.{Handles}
use Rattle.snap_rows.specs.Entries.{rank_at}
use Rattle.snap_rows.specs.Home.{AtHome, IsVisitAtHome}
use Rattle.snap_rows.specs.Network.{Copy, Inject, Step, moved}
use Rattle.snap_rows.specs.Steps.{Arrives}
use Rattle.snap_rows.specs.Stepping.{ComesTo, visit, walk}
use Rattle.snap_rows.proofs.Arrives.{arrives}
use Rattle.snap_rows.proofs.Bounded.{port_below, port_home}
use Rattle.snap_rows.proofs.Later.{rank_is_below}
use Rattle.snap_rows.proofs.Rows.{All-get}
use Rattle.snap_net.specs.declared.flying.Flying.{Flying}
use Rattle.snap_net.specs.Shown.{NetView, IsNetView, Represents}
use Rattle.snap_faithful.specs.InOrder.{Becomes, SentOn, Waiting, Forks, TakesTurns}
use Rattle.snap_faithful.proofs.Chained.{home_first}
use Rattle.snap_faithful.proofs.Nodes.{IsTwo}
use Rattle.snap_runs.proofs.Steps.{held-shown}
use Rattle.snap_order.specs.Ordered.{Ordered, OrderedHappening, AwaitsVisit, LeadsInOrder, left_by, injects, moves, visits, waits}
use Rattle.snap_order.proofs.Taking.{stays_at_home, turn_handles}

-- a head that comes to a visit is at home there
due_home : {t : Tables} {w : ℕ} {k : List ℕ} {m : Arrays} {head : Head} {r n : ℕ} → IsTwo t → AtHome t w head → ComesTo t w k m head r n → rank_at t r ≡ Some w → IsVisitAtHome t r n
due_home two home visit own = home.1
due_home {t = t} {w = w} {k = k} {m = m} {n = n} two home (walk some on) own = home_first t two k m w _ n on (rank_is_below t 0 w own)

-- a copy is in its place
pub record Placed (t : Tables) (c : Copy) : Type 0 where
  pub at : c.at < switch_count t
  pub home : AtHome t c.at c.head

pub placed_shown : (v : NetView) (s : _) → IsNetView v → Represents v s → All (Placed v.tables) s.flying
placed_shown v s held shows =
    let at = held-shown (λ (c : Flying). c.at < switch_count v.tables) v s shows held.places in
    let home = held-shown (λ (c : Flying). AtHome v.tables c.at c.head) v s shows held.homes in
    λ i d l. record { at = at i d l; home = home i d l }

-- its packet has so many components
abbrev pub IsLong : ℕ → Copy → Type 0
IsLong n c = length c.packet ≡ n

pub long_shown : (v : NetView) (s : _) → IsNetView v → Represents v s → All (IsLong (comps v.tables)) s.flying
long_shown v s held shows = held-shown (λ (c : Flying). length c.packet ≡ comps v.tables) v s shows held.packets

-- others in the place of a copy
replaced : (P : Copy → Type 0) (cs : List Copy) (i : ℕ) (xs : List Copy) → All P cs → All P xs → All P (take i cs ++ (xs ++ drop (i + 1) cs))
replaced P cs i xs all some = All-append P (take i cs) (xs ++ drop (i + 1) cs) (All-take P i cs all) (All-append P xs (drop (i + 1) cs) some (All-drop P (i + 1) cs all))

module _ (t : Tables) (two : IsTwo t) where
  arrived : (c : Copy) (s m : Arrays) (a : Action) → Placed t c → Handles t c.at c.packet s c.head m a → Arrives t c.packet a
  arrived c s m a p does = arrives t two.valid two.form c.at p.at c.packet s c.head m a p.home does

  -- ---- places
  moved_placed : (c : Copy) (a : Action) → Placed t c → Arrives t c.packet a → All (Placed t) (moved c a)
  moved_placed c (Forward to head) p there = All-cons (Placed t) _ [] (record { at = there.0; home = there.1 }) (All-nil (Placed t))
  moved_placed c (Deliver port) p there = All-nil (Placed t)
  moved_placed c (Fork copies lost) p there =
      All-map (Placed t) (λ (x : Sent). record c { head = Out x.port; packet = x.packet; steps = c.steps + 1 }) copies (λ j d l. record { at = p.at; home = (there j d l).port })

  acted_placed : (c : Copy) (s m : Arrays) (a : Action) → Placed t c → Handles t c.at c.packet s c.head m a → All (Placed t) (moved c a)
  acted_placed c s m a p does = moved_placed c a p (arrived c s m a p does)

  turned_placed : (s : Ordered) (c : Copy) {r n : ℕ} {m : Arrays} {h : ℕ → ℕ} (b : Becomes) → Placed t c → AwaitsVisit t s.net c r n → TakesTurns t c.at c.packet c.number (s.net.stores c.at) s.handled r n m h b → All (Placed t) (left_by c b)
  turned_placed s c {m = m} (SentOn y q v) p before takes = acted_placed c (s.net.stores c.at) m (Forward y (Visit q v)) p (turn_handles t c.at c.packet c.number two.version before.comes takes (Forward y (Visit q v)) refl)
  turned_placed s c {m = m} (Forks copies lost) p before takes = acted_placed c (s.net.stores c.at) m (Fork copies lost) p (turn_handles t c.at c.packet c.number two.version before.comes takes (Fork copies lost) refl)
  turned_placed s c (Waiting q v) p before takes =
      All-cons (Placed t) _ [] (record { at = p.at; home = (two.version, stays_at_home t c.at c.packet c.number two (due_home two p.home before.comes before.owner) takes) }) (All-nil (Placed t))

  pub step_placed : {s s' : Ordered} {j : ℕ} {us : List OrderedHappening} → LeadsInOrder t s (Step j) s' us → All (Placed t) s.net.flying → All (Placed t) s'.net.flying
  step_placed {s = s} (moves {i = i} {c = c} {m = m} {a = a} is none does) all =
      replaced (Placed t) s.net.flying i (moved c a) all (acted_placed c (s.net.stores c.at) m a (All-get (Placed t) s.net.flying i c all is) does)
  step_placed {s = s} (visits {i = i} {c = c} {b = b} is before turn takes) all =
      replaced (Placed t) s.net.flying i (left_by c b) all (turned_placed s c b (All-get (Placed t) s.net.flying i c all is) before takes)
  step_placed (waits is before early) all = all

  pub inject_placed : {s s' : Ordered} {port : ℕ} {k : List ℕ} {us : List OrderedHappening} → LeadsInOrder t s (Inject port k) s' us → All (Placed t) s.net.flying → All (Placed t) s'.net.flying
  inject_placed {s = s} (injects {port = port} {w = w} at first) all =
      All-append (Placed t) s.net.flying _ all (All-cons (Placed t) _ [] (record { at = port_below t two.form port w at; home = port_home t two.valid port w at }) (All-nil (Placed t)))

  -- ---- packets
  moved_long : (n : ℕ) (c : Copy) (a : Action) → IsLong n c → Arrives t c.packet a → All (IsLong n) (moved c a)
  moved_long n c (Forward to head) long there = All-cons (IsLong n) _ [] long (All-nil (IsLong n))
  moved_long n c (Deliver port) long there = All-nil (IsLong n)
  moved_long n c (Fork copies lost) long there = All-map (IsLong n) (λ (x : Sent). record c { head = Out x.port; packet = x.packet; steps = c.steps + 1 }) copies (λ j d l. (there j d l).long ∙ long)

  turned_long : (n : ℕ) (s : Ordered) (c : Copy) {r v : ℕ} {m : Arrays} {h : ℕ → ℕ} (b : Becomes) → Placed t c → IsLong n c → AwaitsVisit t s.net c r v → TakesTurns t c.at c.packet c.number (s.net.stores c.at) s.handled r v m h b → All (IsLong n) (left_by c b)
  turned_long n s c (SentOn y q v) p long before takes = All-cons (IsLong n) _ [] long (All-nil (IsLong n))
  turned_long n s c (Waiting q v) p long before takes = All-cons (IsLong n) _ [] long (All-nil (IsLong n))
  turned_long n s c {m = m} (Forks copies lost) p long before takes =
      moved_long n c (Fork copies lost) long (arrived c (s.net.stores c.at) m (Fork copies lost) p (turn_handles t c.at c.packet c.number two.version before.comes takes (Fork copies lost) refl))

  pub step_keeps_long : {s s' : Ordered} {j : ℕ} {us : List OrderedHappening} (n : ℕ) → LeadsInOrder t s (Step j) s' us → All (Placed t) s.net.flying → All (IsLong n) s.net.flying → All (IsLong n) s'.net.flying
  step_keeps_long {s = s} n (moves {i = i} {c = c} {m = m} {a = a} is none does) all long =
      replaced (IsLong n) s.net.flying i (moved c a) long
      (moved_long n c a (All-get (IsLong n) s.net.flying i c long is) (arrived c (s.net.stores c.at) m a (All-get (Placed t) s.net.flying i c all is) does))
  step_keeps_long {s = s} n (visits {i = i} {c = c} {b = b} is before turn takes) all long =
      replaced (IsLong n) s.net.flying i (left_by c b) long (turned_long n s c b (All-get (Placed t) s.net.flying i c all is) (All-get (IsLong n) s.net.flying i c long is) before takes)
  step_keeps_long n (waits is before early) all long = long
