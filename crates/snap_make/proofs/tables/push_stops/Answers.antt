use Rattle.std.proofs.Common.{refl, arith}
use Rattle.snap_rows.specs.declared.tables.Row.TheVariants as row
use Rattle.snap_make.proofs.Behind.{behind_more, all_behind}
use Rattle.snap_make.proofs.tables.push_stops.Goals as goal

pub loop-preserved : goal.loop-preserved
loop-preserved c =
    behind_more (λ b. row.Stop) c.args.bodies.now.items c.loop.bodies.items c.push.new.self.items c.loop.counter row.Stop row.Stop (omega (arith, c.len-end.ensures)) c.loop.invariant refl c.in_ok-push.ensures.items

pub returns : goal.returns
returns c = all_behind (λ b. row.Stop) c.args.bodies.now.items c.loop.bodies.items c.loop.counter (omega (arith, c.len-end.ensures)) c.loop.invariant
