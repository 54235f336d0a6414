use Rattle.std.proofs.Common.{◌≡◌, ◌+◌, ◌-◌, length, arith}
use Rattle.std.specs.Prelude.{vec_len, get_or}
use Rattle.std.proofs.lemmas.Grind.{common_steps}
use Rattle.std.proofs.lemmas.Result.{on_ok_weaker}
use Rattle.snap_net.proofs.Blocks.{last_grown}
use Rattle.snap_net.proofs.flights.push_at_end.Goals as goal

pub returns-then-count-lt-MOST-clause-ok : goal.returns-then-count-lt-MOST-clause-ok
returns-then-count-lt-MOST-clause-ok c =
    let bs = c.args.blocks.now.items in
    let x = c.in-Some.last.now in
    let last : vec_len c.args.blocks.now - 1 + 1 ≡ length bs = grind (arith, common_steps) in
    let read : x ≡ get_or bs (vec_len c.args.blocks.now - 1) x = c.in-Some.ensures.value in
    on_ok_weaker c.push.result (last_grown bs (vec_len c.args.blocks.now - 1) x c.push.new.self c.args.copy last read) c.push.ensures.ok
