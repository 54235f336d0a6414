use Rattle.std.proofs.Common.{◌≡◌, [], ◌++◌, subst, arith}
use Rattle.std.proofs.lemmas.Grind.{common_steps}
use Rattle.snap_io.specs.Outputs.{Waits}
use Rattle.snap_io.proofs.OutputLemmas.{puts-written}
use Rattle.snap_io.proofs.output.Output.put.Goals as goal

pub returns-clause-puts : goal.returns-clause-puts
returns-clause-puts g c =
    let before = g.K.Sink.taken c.args.sink.now in
    let mid = g.K.Sink.taken c.flush.new.sink in
    let same : c.extend_from_slice.new.self.items ≡ c.args.self.now.text.items = grind (arith, common_steps) in
    let first = subst (λ l. Waits before mid (l ++ []) c.flush.new.self.text.items) same c.in_ok-flush.ensures.puts in
    puts-written before mid (g.K.Sink.taken c.write_whole.new.sink) c.args.self.now.text.items c.args.bytes.now c.flush.new.self.text.items c.write_whole.result first c.in_ok-flush.ensures.none c.write_whole.ensures.ok c.write_whole.ensures.err
