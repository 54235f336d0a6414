use Rattle.std.proofs.Common.{◌+◌, drop, length, refl, sym, ap, ◌∙◌}
use Rattle.snap_core.specs.Arrays.{updates}
use Rattle.snap_core.specs.Cells.{arrays_of}
use Rattle.snap_core.specs.Fits.{UpdateReads}
use Rattle.snap_rows.specs.Dues.{seen}
use Rattle.snap_rows.proofs.Lent.{lent_keeps, lent_next}
use Rattle.snap_rows.proofs.dues.apply_rest.Goals as goal

pub update-requires : goal.update-requires
update-requires c =
    let items = c.args.lent.now in
    lent_keeps (UpdateReads (length c.args.packet.now)) items (seen items) c.loop-update.update-index c.update-item.result refl c.loop-update-test.true c.update-item.is c.requires

pub loop-update-preserved : goal.loop-update-preserved
loop-update-preserved c =
    let k = c.args.packet.now in
    let items = c.args.lent.now in
    let i = c.loop-update.update-index in
    ap (λ m. updates m (drop (i + 1) (seen items)) k) c.in_ok-update.ensures.ok
    ∙ ap (λ l. updates (arrays_of c.loop-update.store) l k) (sym (lent_next items (seen items) i c.update-item.result refl c.loop-update-test.true c.update-item.is))
    ∙ c.loop-update.invariant
