-- A turn is taken in one way alone.
use Rattle.std.proofs.Common.{◌≡◌, ℕ, List, refl, sym, ap, subst, ◌∙◌, arith}
use Rattle.snap_core.specs.Arrays.{Arrays, updates}
use Rattle.snap_rows.specs.declared.head.Head.{Head}
use Rattle.snap_rows.specs.declared.tables.Row.TheVariants.{Last}
use Rattle.snap_rows.specs.declared.tables.Tables.{Tables}
use Rattle.snap_rows.specs.Entries.{Parts, next, row_at}
use Rattle.std.proofs.lemmas.Option.{same_Some}
use Rattle.snap_rows.proofs.OneWay.{follows_one, visits_one}
use Rattle.snap_core.specs.Tests.{results}
use Rattle.snap_faithful.specs.Agreement.{lost_of, sent_of}
use Rattle.snap_faithful.specs.InOrder.{Becomes, Forks, SentOn, TakesTurns, concludes, seeks, visits, waits}
use Rattle.snap_rows.specs.Stepping.{ComesTo, visit, walk}

-- ---- ways along rows
-- a head comes to a visit at one number
pub comes_one : (t : Tables) (w : ℕ) (k : List ℕ) (m : Arrays) {head : Head} {r q n v : ℕ} → ComesTo t w k m head r n → ComesTo t w k m head q v → n ≡ v
comes_one t w k m visit visit = refl
comes_one t w k m (walk {n = x} {v = n} some way) (walk {v = v} some' way') = follows_one t w k _ m x x n v refl way way'

-- the same arrays, counts and place
pub record SameTurn (s s' : Arrays) (h h' : ℕ → ℕ) (b b' : Becomes) : Type 0 where
  pub arrays : s ≡ s'
  pub handled : h ≡ h'
  pub becomes : b ≡ b'

module _ (t : Tables) (w : ℕ) (k : List ℕ) (i : ℕ) where
  -- the visits that follow, on the same arrays and at the same number
  moved_over : {s s' m : Arrays} {h h' : ℕ → ℕ} {r n n' : ℕ} {b : Becomes} → s ≡ s' → n ≡ n' → TakesTurns t w k i s h r n m h' b → TakesTurns t w k i s' h r n' m h' b
  moved_over {s = s} {s' = s'} {m = m} {h = h} {h' = h'} {r = r} {n = n} {n' = n'} {b = b} same at takes = subst (λ x. TakesTurns t w k i s' h r x m h' b) at (subst (λ x. TakesTurns t w k i x h r n m h' b) same takes)

  pub turns_one : {s m m' : Arrays} {h g g' : ℕ → ℕ} {r n : ℕ} {b b' : Becomes} → TakesTurns t w k i s h r n m g b → TakesTurns t w k i s h r n m' g' b' → SameTurn m m' g g' b b'
  turns_one {r = r} {n = n} (seeks {x = x} own away) (seeks {x = y} own' away') = record { arrays = refl; handled = refl; becomes = ap (λ z. SentOn (next t w z) r n) (same_Some x y (sym own ∙ own')) }
  turns_one (seeks {x = x} own away) (waits own' early) = absurd (away (same_Some x w (sym own ∙ own')))
  turns_one (seeks {x = x} own away) (visits own' turn made more rest) = absurd (away (same_Some x w (sym own ∙ own')))
  turns_one (seeks {x = x} own away) (concludes own' turn made last row) = absurd (away (same_Some x w (sym own ∙ own')))
  turns_one (waits own early) (seeks {x = x} own' away) = absurd (away (same_Some x w (sym own' ∙ own)))
  turns_one (waits own early) (waits own' early') = record { arrays = refl; handled = refl; becomes = refl }
  turns_one (waits own early) (visits own' turn made more rest) = absurd (early turn)
  turns_one (waits own early) (concludes own' turn made last row) = absurd (early turn)
  turns_one (visits own turn made more rest) (seeks {x = x} own' away) = absurd (away (same_Some x w (sym own' ∙ own)))
  turns_one (visits own turn made more rest) (waits own' early) = absurd (early turn)
  turns_one {s = s} {r = r} {n = n} (visits {v = v} {us = us} own turn made more rest) (visits {v = v'} {us = us'} own' turn' made' more' rest') =
      let one = visits_one t w k s r n v v' us us' made made' in
      turns_one rest (moved_over (ap (λ l. updates s l k) (sym one.1)) (sym one.0) rest')
  turns_one (visits own turn made more rest) (concludes own' turn' made' last row) = absurd (omega (arith, more, last))
  turns_one (concludes own turn made last row) (seeks {x = x} own' away) = absurd (away (same_Some x w (sym own' ∙ own)))
  turns_one (concludes own turn made last row) (waits own' early) = absurd (early turn)
  turns_one (concludes own turn made last row) (visits own' turn' made' more rest) = absurd (omega (arith, more, last))
  turns_one {s = s} {r = r} {n = n} (concludes {v = v} {us = us} {ups = ups} {os = os} own turn made last row) (concludes {v = v'} {us = us'} {ups = ups'} {os = os'} own' turn' made' last' row') =
      let one = visits_one t w k s r n v v' us us' made made' in
      let leaf : Last ups os ≡ Last ups' os' = same_Some _ _ (sym row ∙ ap (row_at t w) one.0 ∙ row') in
      let outs : os ≡ os' = cc in
      record { arrays = ap (λ l. updates s l k) one.1; handled = refl; becomes = ap (λ (o : List Parts). Forks (sent_of t (results o k)) (lost_of t (results o k))) outs }
