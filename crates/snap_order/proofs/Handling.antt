-- What a worker's step changes at its switch alone: numbers, copies and stores.
use Rattle.std.proofs.Common.{◌≡◌, ◌≢◌, ⊎_elim, inl, inr, ℕ, ◌+◌, ◌<◌, ◌≤◌, ◌/◌, List, [], cond, get_or, length, Some, refl, sym, ap, subst, ◌∙◌}
use Rattle.std.specs.Prelude.{nat_eq}
use Rattle.std.specs.List.{All}
use Rattle.std.proofs.lemmas.Bool.{cases_lt}
use Rattle.std.proofs.Math.ListN.{set}
use Rattle.std.proofs.lemmas.List.{get_or_default, get_or-set_other, get_or-set_same}
use Rattle.std.proofs.lemmas.List.Elements.{All-cons, All-map, All-nil}
use Rattle.snap_core.specs.Arrays.{Arrays}
use Rattle.snap_core.specs.Cells.{Kept, arrays_of}
use Rattle.snap_rows.specs.Actions.{Action, Forward, Deliver, Fork}
use Rattle.snap_rows.specs.declared.head.Head.TheVariants.{Out}
use Rattle.snap_rows.specs.declared.head.Sent.{Sent}
use Rattle.snap_rows.specs.declared.tables.Tables.{Tables}
use Rattle.snap_rows.specs.Entries.{rank_at}
use Rattle.snap_rows.specs.Steps.{Arrives}
use Rattle.snap_net.specs.declared.flying.Flying.{Flying}
use Rattle.snap_net.specs.declared.happened.Moved.{Moved}
use Rattle.snap_net.specs.Moves.{flights}
use Rattle.snap_faithful.specs.InOrder.{Becomes, handled_more, TakesTurns, seeks, waits, visits, concludes}
use Rattle.snap_order.specs.Hands.{InPlace, StepsHere, StepsIn, part_of}
use Rattle.snap_order.specs.Turning.{HasCounted}
use Rattle.snap_order.proofs.Dealing.{same_number}
use Rattle.snap_order.proofs.Taking.{Counts, more_other}

-- ---- turns read the numbers of the switch's own ranks alone
pub record TakenAlike (t : Tables) (w : ℕ) (k : List ℕ) (i : ℕ) (m : Arrays) (g : ℕ → ℕ) (r n : ℕ) (m' : Arrays) (h' : ℕ → ℕ) (b : Becomes) : Type 0 where
  pub numbers : ℕ → ℕ
  pub takes : TakesTurns t w k i m g r n m' numbers b
  pub own : (q : ℕ) → rank_at t q ≡ Some w → numbers q ≡ h' q
  pub others : (q : ℕ) → rank_at t q ≢ Some w → numbers q ≡ g q

module _ (t : Tables) (w : ℕ) (k : List ℕ) (i : ℕ) where
  more_alike : (g h : ℕ → ℕ) (r q : ℕ) → g q ≡ h q → handled_more g r q ≡ handled_more h r q
  more_alike g h r q e = ap (λ v. cond (nat_eq q r) (v + 1) v) e

  -- a rank that another switch owns isn't r
  apart : (r q : ℕ) → rank_at t r ≡ Some w → rank_at t q ≢ Some w → q ≢ r
  apart r q own ne e = ne (ap (rank_at t) e ∙ own)

  pub taken_alike : {m m' : Arrays} {h h' : ℕ → ℕ} {r n : ℕ} {b : Becomes} → TakesTurns t w k i m h r n m' h' b → (g : ℕ → ℕ) → ((q : ℕ) → rank_at t q ≡ Some w → g q ≡ h q) → TakenAlike t w k i m g r n m' h' b
  taken_alike (seeks own away) g same = record { numbers = g; takes = seeks own away; own = same; others = λ q ne. refl }
  taken_alike (waits {r = r} own early) g same = record { numbers = g; takes = waits own (λ e. early (sym (same r own) ∙ e)); own = same; others = λ q ne. refl }
  taken_alike (visits {h = h} {r = r} own now made more rest) g same =
      let on = taken_alike rest (handled_more g r) (λ q mine. more_alike g h r q (same q mine)) in
      record {
        numbers = on.numbers;
        takes = visits own (same r own ∙ now) made more on.takes;
        own = on.own;
        others = λ q ne. on.others q ne ∙ more_other g r q (apart r q own ne);
      }
  taken_alike (concludes {h = h} {r = r} own now made last row) g same = record {
    numbers = handled_more g r;
    takes = concludes own (same r own ∙ now) made last row;
    own = λ q mine. more_alike g h r q (same q mine);
    others = λ q ne. more_other g r q (apart r q own ne);
  }

-- the numbers that were counted
pub counted_so : {t : Tables} {w : ℕ} {k : List ℕ} {i r e e' : ℕ} {h h' : ℕ → ℕ} {old new : List ℕ} → Counts t w k i r e h h' → ((j : ℕ) → h j ≡ get_or old j 0) → e' ≡ e → HasCounted old r e' (i + 1) new → (j : ℕ) → h' j ≡ get_or new j 0
counted_so {r = r} {e' = e'} c shown same counted j =
    ⊎_elim
    (λ (low : j < r). c.low j low ∙ shown j ∙ sym (counted.others j (inl low)))
    (λ (high : r ≤ j). ⊎_elim
    (λ (below : j < e'). (c.mine j high (subst (λ e. j < e) same below)).2 ∙ sym (counted.mine j high below))
    (λ (above : e' ≤ j). c.high j (subst (λ e. e ≤ j) same above) ∙ shown j ∙ sym (counted.others j (inr above)))
    (cases_lt j e'))
    (cases_lt j r)

-- ranks of other switches keep their numbers
pub kept_so : {t : Tables} {w : ℕ} {k : List ℕ} {i r e e' : ℕ} {h h' : ℕ → ℕ} {old new : List ℕ} → Counts t w k i r e h h' → e' ≡ e → HasCounted old r e' (i + 1) new → (j : ℕ) → rank_at t j ≢ Some w → get_or new j 0 ≡ get_or old j 0
kept_so {r = r} {e' = e'} c same counted j ne =
    ⊎_elim
    (λ (low : j < r). counted.others j (inl low))
    (λ (high : r ≤ j). ⊎_elim
    (λ (below : j < e'). absurd (ne (c.mine j high (subst (λ e. j < e) same below)).0))
    (λ (above : e' ≤ j). counted.others j (inr above))
    (cases_lt j e'))
    (cases_lt j r)

-- ---- copies in their places
pub arrived_in_place : (t : Tables) (c : Flying) (a : Action) → InPlace t c → Arrives t c.packet a → All (InPlace t) (flights c a)
arrived_in_place t c (Forward to head) p there = All-cons (InPlace t) _ [] (record { at = there.0; packet = p.packet; home = there.1 }) (All-nil (InPlace t))
arrived_in_place t c (Deliver port) p there = All-nil (InPlace t)
arrived_in_place t c (Fork copies lost) p there =
    All-map (InPlace t) (λ (x : Sent). record { number = c.number; at = c.at; head = Out x.port; packet = x.packet }) copies
    (λ j d l. record { at = p.at; packet = (there j d l).long ∙ p.packet; home = (there j d l).port })

-- ---- a worker
-- of a copy at a worker, whose store of the copy's switch it changes
pub steps_in : (t : Tables) (workers : ℕ) (c : Flying) (stores : List Kept) (k k' : Kept) (counted counted' : List ℕ) (left : List Flying) (told : Moved) → c.at / workers < length stores → k ≡ get_or stores (c.at / workers) k
    → StepsHere t c (arrays_of k) counted (arrays_of k') counted' left told → StepsIn t workers c (part_of workers stores counted) (part_of workers (set stores (c.at / workers) k') counted') left told
steps_in t workers c stores k k' counted counted' left told within is steps =
    let p = c.at / workers in
    record {
      here = subst (λ m. StepsHere t c m counted (arrays_of (get_or (set stores p k') p [])) counted' left told) (ap arrays_of (is ∙ get_or_default stores p k [] within))
          (subst (λ m. StepsHere t c (arrays_of k) counted m counted' left told) (ap arrays_of (sym (get_or-set_same stores p k' [] within))) steps);
      away = λ w own ne. ap arrays_of (get_or-set_other stores p (w / workers) k' [] (λ q. ne (same_number workers w c.at q own)));
    }
