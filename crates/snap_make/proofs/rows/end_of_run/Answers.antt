use Rattle.std.proofs.Common.{◌≡◌, length, sym, subst, ◌∙◌, arith}
use Rattle.snap_faithful.specs.OnDemand.{place_of}
use Rattle.snap_make.proofs.Runs.{AreAt, run_begins, run_on, run_ends}
use Rattle.snap_make.proofs.rows.end_of_run.Goals as goal

pub loop-end-init : goal.loop-end-init
loop-end-init c = run_begins (place_of c.args.tables.now) c.args.ups.now c.args.start c.place-at.result c.index-ups-start.result c.requires c.place-at.ensures

pub loop-end-preserved : goal.loop-end-preserved
loop-end-preserved c =
    run_on (place_of c.args.tables.now) c.args.ups.now c.args.start c.place-at.result c.loop-end.end c.index-ups-end.result c.loop-end-test.true (sym c.place-here.ensures ∙ c.if-here-at.false) c.loop-end.invariant

pub returns : goal.returns
returns c =
    let low = c.requires in
    let stop : c.loop-end.end ≡ length c.args.ups.now = omega (arith, c.loop-end.auto.end-end, c.loop-end-test.false, low) in
    run_ends (place_of c.args.tables.now) c.args.ups.now c.args.start c.place-at.result (length c.args.ups.now) low (omega arith)
    (subst (AreAt (place_of c.args.tables.now) c.args.ups.now c.args.start c.place-at.result) stop c.loop-end.invariant)
    (λ d l. absurd (omega (arith, l)))
