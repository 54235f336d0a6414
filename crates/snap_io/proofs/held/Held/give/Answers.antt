use Rattle.std.proofs.Common.{ap, ◌∙◌, arith}
use Rattle.std.specs.List.{slice_range}
use Rattle.snap_io.specs.Lines.{before_lf}
use Rattle.snap_io.proofs.LinesLemmas.{unwrap_or-memchr, before_lf-slice_range-le}
use Rattle.snap_io.proofs.HeldLemmas.{slice_range-behind}
use Rattle.snap_io.proofs.held.Held.give.Goals as goal

pub invariant_of-self-clause-line_before : goal.invariant_of-self-clause-line_before
invariant_of-self-clause-line_before c =
    let held = c.args.self.now in
    omega (arith, held.scanned, before_lf-slice_range-le held.buffer.items held.start held.end)

pub invariant_of-self-clause-scanned : goal.invariant_of-self-clause-scanned
invariant_of-self-clause-scanned c =
    c.unwrap_or-self.ensures ∙ unwrap_or-memchr _ _ c.memchr.ensures ∙ ap (λ l. before_lf (slice_range l c.min-self.result c.args.self.now.end)) c.deref.ensures.value

pub returns-clause-bytes : goal.returns-clause-bytes
returns-clause-bytes c =
    let held = c.args.self.now in
    slice_range-behind held.buffer.items held.start held.end _ _ (omega arith) (omega (arith, held.buffer.ok.0)) (omega (arith, held.scanned))
