use Rattle.std.proofs.Common.{◌∙◌, arith}
use Rattle.snap_io.proofs.LinesLemmas.{unwrap_or-memchr}
use Rattle.snap_io.proofs.HeldLemmas.{slice_range-more, before_lf-more}
use Rattle.snap_io.proofs.held.Held.hold.Goals as goal

pub invariant_of-self-clause-scanned : goal.invariant_of-self-clause-scanned
invariant_of-self-clause-scanned c =
    let held = c.args.self.now in
    before_lf-more held.buffer.items _ held.start held.end c.args.count _ _ (omega arith) c.deref.ensures.value held.scanned c.requires.no_line (c.unwrap_or.ensures ∙ unwrap_or-memchr _ _ c.memchr.ensures)

pub returns-clause-bytes : goal.returns-clause-bytes
returns-clause-bytes c =
    let held = c.args.self.now in
    slice_range-more held.buffer.items held.start held.end c.args.count (omega arith)
