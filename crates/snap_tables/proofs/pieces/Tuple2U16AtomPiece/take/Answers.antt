use Rattle.std.proofs.Common.{sym, ◌∙◌, arith}
use Rattle.snap_tables.specs.Reading.{words_left}
use Rattle.snap_tables.proofs.PieceLaws.{part-none, part-piece}
use Rattle.snap_tables.proofs.pieces.Tuple2U16AtomPiece.take.Goals as goal

pub returns-in-None : goal.returns-in-None
returns-in-None c = part-none c.args.counts.comps (omega (arith, c.well_formed)) (words_left c.args.rest) (words_left c.in-Some.behind) c.in-Some.word.now c.in-Some.ensures (sym c.part_said.ensures ∙ c.in-None.is)

pub returns-in-Some-part_said : goal.returns-in-Some-part_said
returns-in-Some-part_said c = part-piece c.args.counts.comps (omega (arith, c.well_formed)) (words_left c.args.rest) (words_left c.in-Some.behind) c.in-Some.word.now c.in-Some-part_said.part c.in-Some.ensures (sym c.part_said.ensures ∙ c.in-Some-part_said.is)
