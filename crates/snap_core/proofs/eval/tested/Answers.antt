use Rattle.std.proofs.Common.{ap, sym, ◌∙◌, length, bit_or}
use Rattle.std.specs.Int.Bits.{or_zero_r}
use Rattle.snap_core.specs.Meaning.{vars_of}
use Rattle.snap_core.proofs.FitLemmas.{VarsBelow-fits}
use Rattle.snap_core.proofs.eval.tested.Goals as goal

pub read_by-requires : goal.read_by-requires
read_by-requires c = VarsBelow-fits (length c.args.packet.now) 64 c.args.pred.now c.requires

pub returns-in-Field-clause-reads : goal.returns-in-Field-clause-reads
returns-in-Field-clause-reads c =
    let before = c.args.logs.now.reads in
    sym (ap (λ p. bit_or before (vars_of p)) c.in-Field.is ∙ or_zero_r before)
