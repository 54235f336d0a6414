-- How far copies get, in any order of events.
use Rattle.std.proofs.Common.{◌≡◌, ◌≢◌, ℕ, suc, ◌+◌, ◌-◌, ◌*◌, ◌<◌, ◌≤◌, true, List, [], ◌∷◌, ◌++◌, take, drop, get_or, Option, Some, None, is_some, refl, sym, ap, subst, ◌∙◌, arith}
use Rattle.std.specs.Prelude.{slice_index}
use Rattle.std.specs.List.{All, filter}
use Rattle.std.proofs.lemmas.Bool.{both_ways}
use Rattle.std.proofs.lemmas.List.Elements.{All-nil, All-cons, All-append, All-take, All-drop, All-map, filter_passes, All-weaker}
use Rattle.std.proofs.Math.Nat.{suc-mul}
use Rattle.snap_core.specs.Arrays.{Arrays}
use Rattle.snap_core.specs.Packets.{PacketSet, listed}
use Rattle.snap_core.specs.Switch.{delivered, goes_out}
use Rattle.snap_core.specs.Tests.{results}
use Rattle.snap_rows.specs.declared.tables.Tables.{Tables}
use Rattle.snap_rows.specs.Actions.{Action, Forward, Deliver, Fork}
use Rattle.snap_rows.specs.declared.head.Head.{Head}
use Rattle.snap_rows.specs.declared.head.Head.TheVariants.{Walk, Stage, Out, Visit}
use Rattle.snap_rows.specs.declared.head.Sent.{Sent}
use Rattle.snap_rows.specs.Entries.{next, port_at, port_numbers, rank_at, ranks}
use Rattle.snap_rows.specs.Form.{switch_count}
use Rattle.snap_rows.specs.Handles.{Handles, seeks, visits, concludes, delivers, carries, sent}
use Rattle.snap_rows.specs.Network.{Net, Copy, Event, Happening, Crossed, Delivered, Forked, Leads, Run, inject, step, moved, happening}
use Rattle.snap_rows.proofs.Runs.{runs-tell}
use Rattle.std.proofs.lemmas.Option.{same_Some}
use Rattle.snap_rows.proofs.Rows.{All-get}
use Rattle.snap_rows.proofs.Ports.{port_is_found}
use Rattle.snap_faithful.specs.Agreement.{sent_of, lost_of}
use Rattle.snap_faithful.specs.Faithful.{IsWithin, IsDeliveredWithin}
use Rattle.snap_faithful.proofs.Nodes.{IsTwo, WalkDoes, visits_first, forks_at_once, walk_does}
use Rattle.snap_faithful.proofs.Leaving.{split_off}

-- next hops shorten a distance that is at most d
pub record HasDistances (t : Tables) (dist : ℕ → ℕ → ℕ) (d : ℕ) : Type 0 where
  pub most : (w x : ℕ) → dist w x ≤ d
  pub next : (w x : ℕ) → w < switch_count t → x < switch_count t → w ≢ x → (next t w x < switch_count t) × (dist (next t w x) x < dist w x)
  pub owners : (r x : ℕ) → rank_at t r ≡ Some x → x < switch_count t
  pub ports : (p x : ℕ) → port_at t p ≡ Some x → x < switch_count t

-- the hops that a copy has made, with those left to the switch where its head is decided and from there on
abbrev pub HeadWithin : Tables → (ℕ → ℕ → ℕ) → ℕ → ℕ → ℕ → ℕ → Head → Type 0
HeadWithin t dist d w hops steps (Walk n) = (hops ≡ 0) × (steps ≡ 0)
HeadWithin t dist d w hops steps (Stage n i) = ⊥
HeadWithin t dist d w hops steps (Visit r n) = (steps ≡ hops) × (r < ranks t) × ((x : ℕ) × (rank_at t r ≡ Some x) × (hops + dist w x + (ranks t - r) * d ≤ (ranks t + 1) * d))
HeadWithin t dist d w hops steps (Out p) = (steps ≡ hops + 1) × ((x : ℕ) × (port_at t p ≡ Some x) × (hops + dist w x ≤ (ranks t + 1) * d))

pub record CopyWithin (t : Tables) (dist : ℕ → ℕ → ℕ) (d : ℕ) (c : Copy) : Type 0 where
  pub at : c.at < switch_count t
  pub head : HeadWithin t dist d c.at c.hops c.steps c.head

-- ---- the copies of a fork have ports
abbrev pub HasPort : Tables → Sent → Type 0
HasPort t x = (y : ℕ) × (port_at t x.port ≡ Some y)

a_port : (o : Option ℕ) → is_some o ≡ true → (y : ℕ) × (o ≡ Some y)
a_port None e = absurd (both_ways _ refl e)
a_port (Some y) e = (y, refl)

pub sent_have_ports : (t : Tables) (set : PacketSet) → All (HasPort t) (sent_of t set)
sent_have_ports t set =
    All-map (HasPort t) sent (delivered (port_numbers t) set)
    (λ i d l.
    (let k = get_or (filter (goes_out (port_numbers t)) (listed set)) i d in
    a_port (port_at t (slice_index k 1)) (sym (port_is_found t.ports (slice_index k 1)) ∙ filter_passes (goes_out (port_numbers t)) (listed set) i d l)))

module _ (t : Tables) (two : IsTwo t) (dist : ℕ → ℕ → ℕ) (d : ℕ) (far : HasDistances t dist d) where
  -- what a step at switch w does with a copy that has made h hops and st steps
  data Gets (w h st : ℕ) : Action → Type 0 where
    sends : {r n x : ℕ} → st ≡ h → r < ranks t → rank_at t r ≡ Some x → x ≢ w → h + dist w x + (ranks t - r) * d ≤ (ranks t + 1) * d → Gets w h st (Forward (next t w x) (Visit r n))
    brings : {p x : ℕ} → st ≡ h + 1 → port_at t p ≡ Some x → x ≢ w → h + dist w x ≤ (ranks t + 1) * d → Gets w h st (Forward (next t w x) (Out p))
    leaves : {p : ℕ} → Gets w h st (Deliver p)
    splits : (set : PacketSet) → st ≡ h → h + d ≤ (ranks t + 1) * d → Gets w h st (Fork (sent_of t set) (lost_of t set))

  one_less : (r : ℕ) → r < ranks t → (ranks t - r) * d ≡ (ranks t - (r + 1)) * d + d
  one_less r l = ap (λ n. n * d) (omega (arith, l)) ∙ suc-mul (ranks t - (r + 1)) d

  at_visit : {w h st : ℕ} {k : List ℕ} {r n : ℕ} {s s' : Arrays} {a : Action} → st ≡ h → r < ranks t → ((x : ℕ) → rank_at t r ≡ Some x → h + dist w x + (ranks t - r) * d ≤ (ranks t + 1) * d)
      → Handles t w k s (Visit r n) s' a → Gets w h st a
  at_visit e l room (seeks {x = x} own away) = sends e l own away (room x own)
  at_visit {w = w} {h = h} {st = st} {r = r} e l room (visits own visit more rest) =
      at_visit {h = h} {st = st} e more (λ x own'. (let a = room w own in let b = one_less r l in let c = far.most w x in omega (arith, a, b, c))) rest
  at_visit {w = w} {h = h} {k = k} {r = r} e l room (concludes {os = os} own visit last row) = splits (results os k) e (let a = room w own in let b = one_less r l in omega (arith, a, b))

  all_left : (x : ℕ) → x ≤ d → 0 + x + (ranks t - 0) * d ≤ (ranks t + 1) * d
  all_left x a =
      let b = suc-mul (ranks t) d in
      let c : (ranks t + 1) * d ≡ suc (ranks t) * d = ap (λ n. n * d) (omega arith) in
      let f : (ranks t - 0) * d ≡ ranks t * d = ap (λ n. n * d) (omega arith) in
      omega (arith, a, b, c, f)

  at_walk : {w n : ℕ} {k : List ℕ} {s s' : Arrays} {a : Action} → WalkDoes t w k s n s' a → Gets w 0 0 a
  at_walk {w = w} (visits_first some follow rest) = at_visit {h = 0} {st = 0} refl (omega (arith, some)) (λ x own. all_left (dist w x) (far.most w x)) rest
  at_walk {k = k} (forks_at_once {os = os} none follow row) = splits (results os k) refl (let l = all_left d (omega arith) in omega (arith, l))

  at_out : {w h st p : ℕ} {k : List ℕ} {s s' : Arrays} {a : Action} → st ≡ h + 1 → ((x : ℕ) → port_at t p ≡ Some x → h + dist w x ≤ (ranks t + 1) * d) → Handles t w k s (Out p) s' a → Gets w h st a
  at_out e room (delivers own) = leaves
  at_out e room (carries {x = x} own away) = brings e own away (room x own)

  gets : (w h st : ℕ) (k : List ℕ) (s s' : Arrays) (a : Action) (head : Head) → HeadWithin t dist d w h st head → Handles t w k s head s' a → Gets w h st a
  gets w h st k s s' a (Walk n) within does = subst (λ x. Gets w h x a) (sym within.1) (subst (λ x. Gets w x 0 a) (sym within.0) (at_walk (walk_does t two does)))
  gets w h st k s s' a (Stage n i) within does = absurd within
  gets w h st k s s' a (Visit r n) within does = at_visit {h = h} {st = st} within.0 within.1 (λ x own. subst (λ y. h + dist w y + (ranks t - r) * d ≤ (ranks t + 1) * d) (same_Some within.2.0 x (sym within.2.1 ∙ own)) within.2.2) does
  gets w h st k s s' a (Out p) within does = at_out within.0 (λ x own. subst (λ y. h + dist w y ≤ (ranks t + 1) * d) (same_Some within.1.0 x (sym within.1.1 ∙ own)) within.1.2) does

  abbrev Within : Copy → Type 0
  Within c = CopyWithin t dist d c

  pub few : (w h st : ℕ) (head : Head) → HeadWithin t dist d w h st head → (h ≤ (ranks t + 1) * d) × (st + 1 ≤ (ranks t + 1) * d + 2)
  few w h st (Walk n) i = (let a = i.0 in omega (arith, a), let b = i.1 in omega (arith, b))
  few w h st (Stage n j) i = absurd i
  few w h st (Visit r n) i = (let a = i.2.2 in omega (arith, a), let a = i.2.2 in let b = i.0 in omega (arith, a, b))
  few w h st (Out p) i = (let a = i.1.2 in omega (arith, a), let a = i.1.2 in let b = i.0 in omega (arith, a, b))

  forked_copy : (c : Copy) → c.at < switch_count t → c.steps ≡ c.hops → c.hops + d ≤ (ranks t + 1) * d → (x : Sent) → HasPort t x → Within (split_off c x)
  forked_copy c at e room x port = record { at = at; head = (omega (arith, e), (port.0, port.1, (let l = far.most c.at port.0 in omega (arith, room, l)))) }

  only : (c : Copy) → Within c → All Within (c ∷ [])
  only c i = All-cons Within c [] i (All-nil Within)

  moved_within : (c : Copy) (a : Action) → c.at < switch_count t → Gets c.at c.hops c.steps a → All Within (moved c a)
  moved_within c a at (sends {r = r} {x = x} e l own away room) =
      let hop = far.next c.at x at (far.owners r x own) (λ y. away (sym y)) in
      only _ (record { at = hop.0; head = (omega (arith, e), l, (x, own, (let y = hop.1 in omega (arith, room, y)))) })
  moved_within c a at (brings {p = p} {x = x} e own away room) =
      let hop = far.next c.at x at (far.ports p x own) (λ y. away (sym y)) in
      only _ (record { at = hop.0; head = (omega (arith, e), (x, own, (let y = hop.1 in omega (arith, room, y)))) })
  moved_within c a at leaves = All-nil Within
  moved_within c a at (splits set e room) = All-map Within (split_off c) (sent_of t set) (All-weaker (HasPort t) (λ x. Within (split_off c x)) (λ x port. forked_copy c at e room x port) (sent_of t set) (sent_have_ports t set))

  happens_within : (c : Copy) → Within c → (a : Action) → All (IsDeliveredWithin ((ranks t + 1) * d)) (happening c a ∷ [])
  happens_within c i a = All-cons (IsDeliveredWithin ((ranks t + 1) * d)) (happening c a) [] (by a) (All-nil (IsDeliveredWithin ((ranks t + 1) * d)))
    where
      by : (a : Action) → IsDeliveredWithin ((ranks t + 1) * d) (happening c a)
      by (Forward to head) = tt
      by (Deliver port) = few c.at c.hops c.steps c.head i.head
      by (Fork copies l) = tt

  pub one_step : {s s' : Net} {e : Event} {h : List Happening} → Leads t s e s' h → All Within s.flying → All Within s'.flying × All (IsDeliveredWithin ((ranks t + 1) * d)) h
  one_step {s = s} (inject {port = p} {w = w} {k = k} own names) all =
      (All-append Within s.flying _ all (only _ (record { at = far.ports p w own; head = (refl, refl) })), All-nil (IsDeliveredWithin ((ranks t + 1) * d)))
  one_step {s = s} (step {i = i} {c = c} {m = m} {a = a} found does) all =
      let mine : Within c = All-get Within s.flying i c all found in (
        All-append Within (take i s.flying) (moved c a ++ drop (i + 1) s.flying) (All-take Within i s.flying all)
            (All-append Within (moved c a) (drop (i + 1) s.flying) (moved_within c a mine.at (gets c.at c.hops c.steps c.packet (s.stores c.at) m a c.head mine.head does)) (All-drop Within (i + 1) s.flying all)),
        happens_within c mine a,
      )

  -- after every list of events
  pub stays_within : (m : Arrays) (es : List Event) (s : Net) (hs : List Happening) → Run t m es s hs → IsWithin ((ranks t + 1) * d) s hs
  stays_within m es s hs run =
      let all = runs-tell (λ (n : Net). All Within n.flying) (IsDeliveredWithin ((ranks t + 1) * d)) run (λ s s' e h leads kept. one_step leads kept) (All-nil Within) in record {
        flying = All-weaker Within (λ c. (c.hops ≤ (ranks t + 1) * d) × (c.steps ≤ (ranks t + 1) * d + 2)) (λ c i. (let f = few c.at c.hops c.steps c.head i.head in (f.0, (let l = f.1 in omega (arith, l))))) s.flying all.0;
        delivered = all.1;
      }

-- a greater bound holds too
pub more_within : (a b : ℕ) → a ≤ b → (s : Net) (hs : List Happening) → IsWithin a s hs → IsWithin b s hs
more_within a b l s hs w = record {
  flying = All-weaker (λ (c : Copy). (c.hops ≤ a) × (c.steps ≤ a + 2)) (λ c. (c.hops ≤ b) × (c.steps ≤ b + 2)) (λ c i. (let x = i.0 in omega (arith, x, l), let x = i.1 in omega (arith, x, l))) s.flying w.flying;
  delivered = All-weaker (IsDeliveredWithin a) (IsDeliveredWithin b) more hs w.delivered;
}
  where
    more : (h : Happening) → IsDeliveredWithin a h → IsDeliveredWithin b h
    more (Delivered c port) i = (let x = i.0 in omega (arith, x, l), let x = i.1 in omega (arith, x, l))
    more (Crossed c x h) i = tt
    more (Forked c n x) i = tt
