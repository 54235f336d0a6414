use Rattle.std.proofs.Common.{◌≡◌, ◌+◌, ◌-◌, ◌≤◌, [], length, ap, ◌∙◌, arith}
use Rattle.snap_net.specs.Flights.{spliced}
use Rattle.snap_net.specs.Moves.{copies_in_flight}
use Rattle.snap_net.proofs.Splices.{put_none, put_undone, put_length}
use Rattle.snap_net.proofs.moves.put_copies.Goals as goal

pub loop-sent-init : goal.loop-sent-init
loop-sent-init c = put_none c.args.flying.now (copies_in_flight c.args.number c.args.at c.args.copies.items) c.args.k

pub returns-in-Err-clause-err : goal.returns-in-Err-clause-err
returns-in-Err-clause-err c =
    let list = c.args.flying.now in
    let put = c.loop-sent.invariant.put in
    let within : c.args.k + 1 ≤ length list = omega (arith, c.requires) in
    let held : c.insert_behind.new.self ≡ spliced list (c.args.k + 1) 0 put = c.in-Err.ensures.err ∙ c.loop-sent.invariant.held in
    let long : length c.insert_behind.new.self ≡ length put + length list = ap length held ∙ put_length list put (c.args.k + 1) within in
    let more : c.count.result - c.count-before.result ≡ length put = omega (arith, long, c.count.ensures, c.count-before.ensures) in
    c.cut.ensures ∙ ap (λ l. spliced l (c.args.k + 1) (c.count.result - c.count-before.result) []) held ∙ put_undone list put (c.args.k + 1) (c.count.result - c.count-before.result) within more
