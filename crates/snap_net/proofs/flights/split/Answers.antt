use Rattle.std.proofs.Common.{◌≡◌, ◌+◌, ◌<◌, length, ap, ◌∙◌, arith}
use Rattle.std.specs.Prelude.{slice_set}
use Rattle.std.specs.List.{insert}
use Rattle.std.proofs.lemmas.Grind.{common_steps}
use Rattle.snap_net.specs.Flights.{joined}
use Rattle.snap_net.proofs.Blocks.{halved}
use Rattle.snap_net.proofs.flights.split.Goals as goal

pub returns : goal.returns
returns c =
    let bs = c.reserve.new.self.items in
    let put : c.insert.new.self.items ≡ insert (slice_set bs c.args.i c.split.new.self) (c.args.i + 1) c.in_ok-half.half = grind (arith, common_steps) in
    let within : c.args.i < length bs = grind (arith, common_steps) in
    halved bs c.insert.new.self.items c.args.i c.index_mut.result.now c.split.new.self c.in_ok-half.half within c.index_mut.ensures.value c.in_ok-half.ensures.ok put ∙ ap joined c.in_ok-reserve.ensures.items
