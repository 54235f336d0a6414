-- Turns taken at a switch: which ranks have handled one more packet then, and how that is a step without order.
use Rattle.std.proofs.Common.{◌≡◌, ◌≢◌, ℕ, ◌+◌, ◌<◌, ◌≤◌, Bool, true, false, List, Option, Some, None, refl, sym, ap, subst, ◌∙◌, arith}
use Rattle.std.specs.Prelude.{nat_eq}
use Rattle.std.proofs.lemmas.Bool.{eqb-true, eqb-false, eq-eqb, ne_eqb, cond-true, cond-false}
use Rattle.std.proofs.lemmas.Option.{none-some, same_Some}
use Rattle.snap_core.specs.Arrays.{Arrays}
use Rattle.snap_rows.specs.declared.tables.Tables.{Tables}
use Rattle.snap_rows.specs.declared.head.Head.{Head}
use Rattle.snap_rows.specs.declared.head.Head.TheVariants.{Visit}
use Rattle.snap_rows.specs.Actions.{Action, Forward, Fork}
use Rattle.snap_rows.specs.Entries.{rank_at, ranks}
use Rattle.snap_rows.specs.Home.{IsVisitAtHome}
use Rattle.snap_rows.specs.Handles as handles
use Rattle.snap_rows.specs.Handles.{Handles}
use Rattle.snap_faithful.specs.InOrder.{Becomes, SentOn, Waiting, Forks, handled_more, TakesTurns, seeks, waits, visits, concludes}
use Rattle.snap_faithful.proofs.Nodes.{IsTwo}
use Rattle.snap_faithful.proofs.Chained.{home_on}
use Rattle.snap_rows.specs.Stepping.{ComesTo, visit, walk}
use Rattle.snap_order.specs.Turning.{rank_behind}

pub more_own : (h : ℕ → ℕ) (r q : ℕ) → q ≡ r → handled_more h r q ≡ h q + 1
more_own h r q e = cond-true _ _ _ (eq-eqb q r e)

pub more_other : (h : ℕ → ℕ) (r q : ℕ) → q ≢ r → handled_more h r q ≡ h q
more_other h r q ne = cond-false _ _ _ (ne_eqb q r ne)

module _ (t : Tables) (w : ℕ) (k : List ℕ) (i : ℕ) where
  -- between h and h' the ranks from r on and below e, which the switch owns, have handled packet i
  pub record Counts (r e : ℕ) (h h' : ℕ → ℕ) : Type 0 where
    pub up : r ≤ e
    pub low : (q : ℕ) → q < r → h' q ≡ h q
    pub high : (q : ℕ) → e ≤ q → h' q ≡ h q
    pub mine : (q : ℕ) → r ≤ q → q < e → (rank_at t q ≡ Some w) × (h q ≡ i) × (h' q ≡ i + 1)

  no_count : (r e : ℕ) (h : ℕ → ℕ) → r ≡ e → Counts r e h h
  no_count r e h same = record { up = omega (arith, same); low = λ q l. refl; high = λ q l. refl; mine = λ q a b. absurd (omega (arith, same, a, b)) }

  one_more : (r e : ℕ) (h h' : ℕ → ℕ) → rank_at t r ≡ Some w → h r ≡ i → Counts (r + 1) e (handled_more h r) h' → Counts r e h h'
  one_more r e h h' own turn c = record {
    up = (let u = c.up in omega (arith, u));
    low = λ q l. c.low q (omega (arith, l)) ∙ more_other h r q (λ e. (omega (arith, l, e)));
    high = λ q l. c.high q l ∙ more_other h r q (λ e. (let u = c.up in omega (arith, l, e, u)));
    mine = λ q a b. by q a b (nat_eq q r) refl;
  }
    where
      by : (q : ℕ) → r ≤ q → q < e → (x : Bool) → nat_eq q r ≡ x → (rank_at t q ≡ Some w) × (h q ≡ i) × (h' q ≡ i + 1)
      by q a b true is =
          let same = eqb-true q r is in
          (ap (rank_at t) same ∙ own, ap h same ∙ turn, c.low q (omega (arith, same)) ∙ more_own h r q same ∙ ap (λ n. n + 1) (ap h same ∙ turn))
      by q a b false isnt =
          let ne = eqb-false q r isnt in
          let m = c.mine q (omega (arith, a, ne)) b in
          (m.0, sym (more_other h r q ne) ∙ m.1, m.2)

  pub counts : {s s' : Arrays} {h h' : ℕ → ℕ} {r n : ℕ} {b : Becomes} → TakesTurns t w k i s h r n s' h' b → Counts r (rank_behind t b) h h'
  counts {h = h} {r = r} (seeks own away) = no_count r r h refl
  counts {h = h} {r = r} (waits own early) = no_count r r h refl
  counts {h = h} {h' = h'} {r = r} {b = b} (visits own turn made more rest) = one_more r (rank_behind t b) h h' own turn (counts rest)
  counts {h = h} {r = r} (concludes own turn made last row) = one_more r (ranks t) h (handled_more h r) own turn (no_count (r + 1) (ranks t) (handled_more h r) last)

  -- what it does without order, unless it stays
  abbrev pub acts : Becomes → Option Action
  acts (SentOn to r n) = Some (Forward to (Visit r n))
  acts (Waiting r n) = None
  acts (Forks copies lost) = Some (Fork copies lost)

  pub visit_handles : {s s' : Arrays} {h h' : ℕ → ℕ} {r n : ℕ} {b : Becomes} → TakesTurns t w k i s h r n s' h' b → (a : Action) → acts b ≡ Some a → Handles t w k s (Visit r n) s' a
  visit_handles {s = s} {r = r} {n = n} (seeks own away) a e = subst (Handles t w k s (Visit r n) s) (same_Some _ a e) (handles.seeks own away)
  visit_handles (waits own early) a e = absurd (none-some a e)
  visit_handles (visits own turn made more rest) a e = handles.visits own made more (visit_handles rest a e)
  visit_handles {s = s} {s' = s'} {r = r} {n = n} (concludes own turn made last row) a e = subst (Handles t w k s (Visit r n) s') (same_Some _ a e) (handles.concludes own made last row)

  pub turn_handles : {s s' : Arrays} {h h' : ℕ → ℕ} {head : Head} {r n : ℕ} {b : Becomes} → t.version ≡ 2 → ComesTo t w k s head r n → TakesTurns t w k i s h r n s' h' b → (a : Action) → acts b ≡ Some a
      → Handles t w k s head s' a
  turn_handles two visit takes a e = visit_handles takes a e
  turn_handles two (walk some follow) takes a e = handles.enters two some follow (visit_handles takes a e)

  -- where it stays, its next visit is at home
  abbrev pub StaysAtHome : Becomes → Type 0
  StaysAtHome (SentOn to r n) = Unit {0}
  StaysAtHome (Waiting r n) = IsVisitAtHome t r n
  StaysAtHome (Forks copies lost) = Unit {0}

  pub stays_at_home : IsTwo t → {s s' : Arrays} {h h' : ℕ → ℕ} {r n : ℕ} {b : Becomes} → IsVisitAtHome t r n → TakesTurns t w k i s h r n s' h' b → StaysAtHome b
  stays_at_home two home (seeks own away) = tt
  stays_at_home two home (waits own early) = home
  stays_at_home two {s = s} {r = r} {n = n} home (visits {v = v} {us = us} own turn made more rest) = stays_at_home two (home_on t two k s w r n v us home own made more) rest
  stays_at_home two home (concludes own turn made last row) = tt

  -- where it stays after a visit, that's at the owner of a greater rank
  abbrev pub StaysHere : ℕ → Becomes → Type 0
  StaysHere r (SentOn to q n) = Unit {0}
  StaysHere r (Waiting q n) = (r ≤ q) × (rank_at t q ≡ Some w)
  StaysHere r (Forks copies lost) = Unit {0}

  lower : (r : ℕ) (b : Becomes) → StaysHere (r + 1) b → StaysHere r b
  lower r (SentOn to q n) i = tt
  lower r (Waiting q n) i = (let x = i.0 in omega (arith, x), i.1)
  lower r (Forks copies lost) i = tt

  stays_from : {s s' : Arrays} {h h' : ℕ → ℕ} {r n : ℕ} {b : Becomes} → TakesTurns t w k i s h r n s' h' b → StaysHere r b
  stays_from (seeks own away) = tt
  stays_from (waits own early) = (omega arith, own)
  stays_from {r = r} {b = b} (visits own turn made more rest) = lower r b (stays_from rest)
  stays_from (concludes own turn made last row) = tt

  pub stays_here : {s s' : Arrays} {h : ℕ → ℕ} {r n : ℕ} {h' : ℕ → ℕ} {b : Becomes} → h r ≡ i → TakesTurns t w k i s h r n s' h' b → StaysHere (r + 1) b
  stays_here turn (seeks own away) = tt
  stays_here turn (waits own early) = absurd (early turn)
  stays_here turn (visits own now made more rest) = stays_from rest
  stays_here turn (concludes own now made last row) = tt

-- a head comes to the visit of one rank alone
pub same_rank : {t : Tables} {w : ℕ} {k : List ℕ} {m m' : Arrays} {head : Head} {r q n v : ℕ} → ComesTo t w k m head r n → ComesTo t w k m' head q v → r ≡ q
same_rank visit visit = refl
same_rank (walk some follow) (walk some' follow') = refl
