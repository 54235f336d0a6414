use Rattle.std.proofs.Common.{rules, ◌≡◌, ◌<◌, length, take_all, subst, sym, arith}
use Rattle.std.specs.Prelude.{slice_index_or}
use Rattle.std.specs.List.{All}
use Rattle.std.proofs.lemmas.List.Elements.{All-more}
use Rattle.snap_core.specs.declared.policy.Update.{Update}
use Rattle.snap_core.specs.Laws.{OpIsSmall}
use Rattle.snap_make.proofs.known.know_updates.Goals as goal

pub loop-up-preserved : goal.loop-up-preserved
loop-up-preserved c =
    let low : c.loop-up.up-index < length c.args.ups.now = search rules in
    let is : slice_index_or c.args.ups.now c.loop-up.up-index c.up-item.result ≡ c.up-item.result = search rules in
    All-more (λ (u : Update). OpIsSmall u.op) c.args.ups.now c.loop-up.up-index c.up-item.result low c.loop-up.invariant (subst (λ (u : Update). OpIsSmall u.op) (sym is) c.op_is_small.ensures)

pub returns : goal.returns
returns c = subst (All (λ (u : Update). OpIsSmall u.op)) (take_all c.loop-up.up-index c.args.ups.now (let e = c.loop-up-test.false in omega (arith, e))) c.loop-up.invariant
