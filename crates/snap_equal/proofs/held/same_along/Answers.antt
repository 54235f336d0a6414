-- Place by place.
use Rattle.std.proofs.Common.{◌≡◌, ◌<◌, ℕ, List, true, get_or, sym, ◌∙◌, subst, arith}
use Rattle.std.proofs.lemmas.Bool.{true≢false}
use Rattle.std.proofs.lemmas.List.{get_or_default}
use Rattle.snap_core.specs.declared.policy.Update.{Update}
use Rattle.snap_core.specs.Arrays.{Arrays, place_at, updates}
use Rattle.snap_equal.specs.Tally.{is_chosen}
use Rattle.snap_equal.specs.Told.{IsStop, On}
use Rattle.snap_equal.proofs.Telling.{told_true, told_false, open_more_at, closed_all}
use Rattle.snap_equal.proofs.held.same_along.Goals as goal
use Rattle.snap_equal.proofs.held.same_along.Goals.{After-update-item, in-Ok-true, in-Err-Split}

item : (c : After-update-item) (e : Update) → c.update-item.result ≡ get_or c.args.along.now c.loop-update.update-index e
item c e = c.update-item.is ∙ get_or_default c.args.along.now c.loop-update.update-index c.update-item.result e c.loop-update-test.true

abbrev Agree : (c : After-update-item) → Update → Arrays → List ℕ → Type 0
Agree c u m k = is_chosen c.args.only u.var ≡ true → updates m c.args.left.now k (place_at u.var u.index k) ≡ updates m c.args.right.now k (place_at u.var u.index k)

pub returns-in-Ok-false : goal.returns-in-Ok-false
returns-in-Ok-false c = λ m k i all.
    let at = (goal.at.returns-in-Ok-false c).After-update-item in
    told_false c.args.ctx.now (λ m k. updates m c.args.left.now k (place_at c.update-item.result.var c.update-item.result.index k) ≡ updates m c.args.right.now k (place_at c.update-item.result.var c.update-item.result.index k))
    c.in-Ok-false.field-0 c.in-Ok-false.field-0-test c.in-Ok-false.ensures m k i
    (subst (λ (u : Update). Agree at u m k) (sym (item at c.update-item.result)) (all c.loop-update.update-index c.update-item.result c.loop-update-test.true) (sym c.is_chosen.ensures ∙ c.if-not-is_chosen.false))

pub loop-update-preserved : goal.loop-update-preserved
loop-update-preserved c =
    let at = (goal.at.loop-update-preserved c).After-update-item in
    let is = item at in
    elim c.match-same_at.branch [
      | in-Ok-true w ↦ rw w.open-is
          (open_more_at c.args.ctx.now c.args.arrays Update (λ e j. On c.args.ctx.now (λ m k. Agree at (get_or c.args.along.now j e) m k))
          c.loop-update.update-index c.loop-update.open c.loop-update.invariant
          (λ e m k i. subst (λ (u : Update). Agree at u m k) (is e) (λ chosen.
          told_true c.args.ctx.now (λ m k. updates m c.args.left.now k (place_at c.update-item.result.var c.update-item.result.index k) ≡ updates m c.args.right.now k (place_at c.update-item.result.var c.update-item.result.index k))
          w.in-Ok-true.field-0 w.in-Ok-true.field-0-test w.in-Ok-true.ensures m k i)))
      | in-Err-Split w ↦ rw w.open-is (subst (IsStop c.args.ctx.now c.args.arrays) w.in-Err-Split.field-0-is w.in-Err-Split.ensures)
    ]

pub loop-update-preserved-then-not-is_chosen : goal.loop-update-preserved-then-not-is_chosen
loop-update-preserved-then-not-is_chosen c =
    let at = (goal.at.loop-update-preserved-then-not-is_chosen c).After-update-item in
    open_more_at c.args.ctx.now c.args.arrays Update (λ e j. On c.args.ctx.now (λ m k. Agree at (get_or c.args.along.now j e) m k))
    c.loop-update.update-index c.loop-update.open c.loop-update.invariant
    (λ e m k i. subst (λ (u : Update). Agree at u m k) (item at e) (λ chosen. absurd (true≢false (sym chosen ∙ (sym c.is_chosen.ensures ∙ c.if-not-is_chosen.true)))))

pub returns-in-None : goal.returns-in-None
returns-in-None c = λ m k i j e l.
    closed_all c.args.ctx.now c.args.arrays ((e : Update) (j : ℕ) → j < c.loop-update.update-index → On c.args.ctx.now (λ m k. let u : Update = get_or c.args.along.now j e in is_chosen c.args.only u.var ≡ true → updates m c.args.left.now k (place_at u.var u.index k) ≡ updates m c.args.right.now k (place_at u.var u.index k)))
    c.loop-update.open c.in-None.is c.loop-update.invariant e j (omega (arith, l, c.loop-update-test.false)) m k i
