use Rattle.std.proofs.Common.{sym, ap, ◌∙◌, arith}
use Rattle.snap_io.specs.Lines.{before_lf}
use Rattle.snap_io.proofs.HeldLemmas.{slice_range-written}
use Rattle.snap_io.proofs.held.Held.fill.Goals as goal

pub invariant_of-self-clause-scanned : goal.invariant_of-self-clause-scanned
invariant_of-self-clause-scanned g c =
    let held = c.args.self.now in
    held.scanned ∙ ap before_lf (sym (slice_range-written held.buffer _ _ held.end held.start held.end (omega arith) (omega arith) c.deref_mut.ensures.value (omega arith) c.read_behind.ensures.front))

pub returns-clause-bytes : goal.returns-clause-bytes
returns-clause-bytes g c =
    let held = c.args.self.now in
    slice_range-written held.buffer _ _ held.end held.start held.end (omega arith) (omega arith) c.deref_mut.ensures.value (omega arith) c.read_behind.ensures.front

pub returns-clause-line : goal.returns-clause-line
returns-clause-line g c =
    let held = c.args.self.now in
    slice_range-written held.buffer _ _ held.end held.line_start held.line_end (omega arith) (omega arith) c.deref_mut.ensures.value (omega arith) c.read_behind.ensures.front
