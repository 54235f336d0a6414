use Rattle.std.proofs.Common.{length, sym, subst}
use Rattle.std.specs.List.{All}
use Rattle.snap_core.proofs.Elements.{All-front, All-back}
use Rattle.snap_core.specs.Fits.{UpdateReads}
use Rattle.snap_rows.specs.Dues.{first_of, seen}
use Rattle.snap_rows.proofs.dues.Dues.apply.Goals as goal

pub apply_first-requires : goal.apply_first-requires
apply_first-requires c =
    let reads = UpdateReads (length c.args.packet.now) in
    All-front reads (first_of c.self.inside.first) (seen c.self.inside.rest.items) (subst (All reads) (sym c.self.view_is) c.requires)

pub apply_rest-requires : goal.apply_rest-requires
apply_rest-requires c =
    let reads = UpdateReads (length c.args.packet.now) in
    subst (λ l. All reads (seen l)) (sym c.deref.ensures.value)
    (All-back reads (first_of c.self.inside.first) (seen c.self.inside.rest.items) (subst (All reads) (sym c.self.view_is) c.requires))
