use Rattle.std.proofs.Common.{rules, ◌≡◌, ◌<◌, length, take_all, subst, sym, arith}
use Rattle.std.specs.Prelude.{slice_index_or}
use Rattle.std.specs.List.{All}
use Rattle.std.proofs.lemmas.List.Elements.{All-more}
use Rattle.snap_core.specs.Tests.{IsRisingOut}
use Rattle.snap_make.proofs.known.know_outs.Goals as goal

pub loop-out-preserved : goal.loop-out-preserved
loop-out-preserved c =
    let low : c.loop-out.out-index < length c.args.outs.now = search rules in
    let is : slice_index_or c.args.outs.now c.loop-out.out-index c.out-item.result ≡ c.out-item.result = search rules in
    All-more IsRisingOut c.args.outs.now c.loop-out.out-index c.out-item.result low c.loop-out.invariant (subst IsRisingOut (sym is) c.parts-parts.ensures.rising)

pub returns : goal.returns
returns c = subst (All IsRisingOut) (take_all c.loop-out.out-index c.args.outs.now (let e = c.loop-out-test.false in omega (arith, e))) c.loop-out.invariant
