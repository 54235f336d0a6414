-- One more fact stays or agrees with all, or what it breaks, all break.
use Rattle.std.proofs.Common.{rules, ◌≡◌, inl, inr, sym, ◌∙◌, Err, get_or}
use Rattle.snap_context.specs.Closing.{MeetsWith, IsBreach}
use Rattle.snap_context.specs.Meets.{Meets}
use Rattle.snap_context.proofs.Sound.{IsBreach-weaker}
use Rattle.snap_context.proofs.Staying.{begin_walk, newest_met, newest_test, next_walk, test-stays}
use Rattle.snap_context.proofs.look.look_old.Goals as goal

pub looking-init : goal.looking-init
looking-init c = begin_walk c.args.first.now c.args.classes.now c.args.facts.now c.requires.tests

pub returns-then-not-have_common : goal.returns-then-not-have_common
returns-then-not-have_common c =
    c.looking.invariant.all
    (λ i d l. inl (test-stays c.changed-changed.result c.tested.result.comps c.tested.result.arrays c.args.first.now c.args.classes.now c.requires.few c.changed-changed.ensures (sym c.have_common.ensures ∙ c.if-not-have_common.true)
    (get_or c.looking.left.now i d).test (c.looking.invariant.tests i d l) (c.tested.ensures i d l)))

pub look_beside-requires-clause-test : goal.look_beside-requires-clause-test
look_beside-requires-clause-test c = newest_test c.args.first.now c.args.classes.now c.args.facts.now c.looking.left.now c.in-Some.before.now c.in-Some.fact.now c.in-Some.ensures c.looking.invariant

pub returns-in_err-look_beside : goal.returns-in_err-look_beside
returns-in_err-look_beside c =
    let with = newest_met c.args.first.now c.args.classes.now c.args.facts.now c.looking.left.now c.in-Some.before.now c.in-Some.fact.now c.in-Some.ensures c.looking.invariant in
    let h : IsBreach (Meets c.args.facts.now) c.args.classes.now c.in_err-look_beside.field-0.0
    = IsBreach-weaker (MeetsWith c.in-Some.fact.now c.args.facts.now) (Meets c.args.facts.now) c.args.classes.now c.in_err-look_beside.field-0.0 with c.in_err-look_beside.ensures in
    let e : c.from_residual.result ≡ Err c.in_err-look_beside.field-0.0 = search rules in
    rw e h

pub looking-preserved-in_ok-look_beside : goal.looking-preserved-in_ok-look_beside
looking-preserved-in_ok-look_beside c =
    next_walk c.args.first.now c.args.classes.now c.args.facts.now c.looking.left.now c.in-Some.before.now c.in-Some.fact.now c.in-Some.ensures c.looking.invariant (inr c.in_ok-look_beside.ensures)

pub looking-preserved : goal.looking-preserved
looking-preserved c =
    let test = newest_test c.args.first.now c.args.classes.now c.args.facts.now c.looking.left.now c.in-Some.before.now c.in-Some.fact.now c.in-Some.ensures c.looking.invariant in
    next_walk c.args.first.now c.args.classes.now c.args.facts.now c.looking.left.now c.in-Some.before.now c.in-Some.fact.now c.in-Some.ensures c.looking.invariant
    (inl (test-stays c.changed-changed.result c.test_tested.result.comps c.test_tested.result.arrays c.args.first.now c.args.classes.now c.requires.few c.changed-changed.ensures (sym c.have_common-in-Some.ensures ∙ c.if-have_common.false)
    c.in-Some.fact.now.test test (rw c.test.ensures at c.test_tested.ensures.over)))

pub returns : goal.returns
returns c = c.looking.invariant.all (λ i d l. search rules)
