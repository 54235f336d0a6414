use Rattle.snap_placement.proofs.Marking.{number-of}
use Rattle.snap_placement.proofs.marks.number.Goals as goal

pub returns : goal.returns
returns c = number-of c.args.name.now c.args.numbers.now.keys c.get_index_of.result c.get_index_of.ensures.index c.get_index_of.ensures.found c.get_index_of.ensures.within
