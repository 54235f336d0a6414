use Rattle.std.proofs.Common.{sym, ap, ◌∙◌, arith}
use Rattle.snap_io.specs.Lines.{before_lf}
use Rattle.snap_io.proofs.HeldLemmas.{slice_range-moved}
use Rattle.snap_io.proofs.held.Held.make_room.Goals as goal

pub invariant_of-self-clause-scanned : goal.invariant_of-self-clause-scanned
invariant_of-self-clause-scanned c =
    let held = c.args.self.now in
    held.scanned ∙ ap before_lf (sym (slice_range-moved held.buffer.items c.copy_within.new.self.items held.line_start held.end held.start held.end (omega arith) (omega arith) (omega arith) (omega (arith, held.buffer.ok.0)) c.copy_within.ensures.items))

pub returns-then-len-self-lt-PIECE-clause-bytes : goal.returns-then-len-self-lt-PIECE-clause-bytes
returns-then-len-self-lt-PIECE-clause-bytes c =
    let held = c.args.self.now in
    slice_range-moved held.buffer.items c.copy_within.new.self.items held.line_start held.end held.start held.end (omega arith) (omega arith) (omega arith) (omega (arith, held.buffer.ok.0)) c.copy_within.ensures.items
