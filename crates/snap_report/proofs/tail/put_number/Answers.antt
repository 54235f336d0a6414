use Rattle.std.proofs.Common.{◌≡◌, decimal, subst, ◌∙◌}
use Rattle.std.proofs.lemmas.Result.{err_from_is_err_and}
use Rattle.snap_io.specs.Outputs.{Puts}
use Rattle.snap_io.proofs.OutputLemmas.{puts-short, puts-then}
use Rattle.snap_report.proofs.tail.put_number.Goals as goal

pub returns-in_err-put-clause-puts : goal.returns-in_err-put-clause-puts
returns-in_err-put-clause-puts g c =
    let out = err_from_is_err_and c.from_residual.result c.from_residual.ensures.1 in
    rw out.1 (puts-short _ _ c.args.out.now.text.items c.args.mark.now (decimal c.args.number) c.in_err-put.ensures.puts)

pub returns-clause-puts : goal.returns-clause-puts
returns-clause-puts g c =
    let mid = g.K.Sink.taken c.put.new.sink in
    let now = g.K.Sink.taken c.put-2.new.sink in
    let digits : c.as_bytes.result.now ≡ decimal c.args.number = c.as_bytes.ensures.value ∙ c.format.ensures.text in
    let then = subst (λ l. Puts mid now c.put.new.self.text.items l c.put-2.result c.put-2.new.self.text.items) digits c.put-2.ensures.puts in
    puts-then (g.K.Sink.taken c.args.sink.now) mid now c.args.out.now.text.items c.args.mark.now (decimal c.args.number) c.put.new.self.text.items c.put-2.new.self.text.items c.put-2.result c.in_ok-put.ensures.puts then
