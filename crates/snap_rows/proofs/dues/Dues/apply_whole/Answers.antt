use Rattle.std.proofs.Common.{length, sym, subst}
use Rattle.std.specs.List.{All}
use Rattle.snap_core.proofs.Elements.{All-front}
use Rattle.snap_core.specs.Fits.{UpdateReads}
use Rattle.snap_rows.specs.Dues.{first_of, seen}
use Rattle.snap_rows.proofs.dues.Dues.apply_whole.Goals as goal

pub apply_few-requires-clause-reads : goal.apply_few-requires-clause-reads
apply_few-requires-clause-reads c =
    let reads = UpdateReads (length c.args.packet.now) in
    All-front reads (first_of c.self.inside.first) (seen c.self.inside.rest.items) (subst (All reads) (sym c.self.view_is) c.requires)
