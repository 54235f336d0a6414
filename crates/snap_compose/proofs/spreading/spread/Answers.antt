-- Each out, behind the leaf's updates.
use Rattle.std.proofs.Common.{sym}
use Rattle.std.proofs.lemmas.Result.{IfOk-weaker}
use Rattle.snap_diagrams.specs.Diagrams.{diagram}
use Rattle.snap_compose.specs.Spread.{IsRun}
use Rattle.snap_compose.proofs.Sequel.{spread_is}
use Rattle.snap_compose.proofs.spreading.spread.Goals as goal

pub returns-clause-spread : goal.returns-clause-spread
returns-clause-spread c =
    let run : IsRun c.args.groups.now c.args.ctx.now c.args.go.now.outs c.args.go.now.ups (diagram c.args.nodes.now c.args.d) (diagram c.all_after.new.nodes c.in_ok-all.all)
    = rw (sym c.items.ensures, sym c.items-2.ensures) c.in_ok-all.ensures.run in
    IfOk-weaker c.put_behind.result _ _ (λ r p. spread_is c.args.groups.now c.args.ctx.now c.args.go.now (diagram c.args.nodes.now c.args.d) (diagram c.all_after.new.nodes c.in_ok-all.all) (diagram c.put_behind.new.nodes r) run p) c.put_behind.ensures.prefixed
