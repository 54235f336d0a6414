use Rattle.std.proofs.Common.{arith}
use Rattle.std.proofs.lemmas.Bool.{lt-ltb, ltb-true}
use Rattle.snap_io.specs.LineReaders.{lines_held}
use Rattle.snap_io.proofs.LinesLemmas.{before_lf-lt, before_lf-Contains}
use Rattle.snap_io.proofs.lines.Lines.holds_line.Goals as goal

pub returns : goal.returns
returns c =
    let held = lines_held c.args.self.now in (
      λ less. before_lf-lt held (omega (arith, ltb-true _ _ less)),
      λ has. lt-ltb _ _ (omega (arith, before_lf-Contains held has)),
    )
