use Rattle.std.proofs.Common.{[], ◌∷◌, sym, ap, ◌∙◌}
use Rattle.snap_core.specs.Arrays.{updates}
use Rattle.snap_core.specs.Cells.{arrays_of}
use Rattle.snap_rows.specs.Dues.{first_of}
use Rattle.snap_rows.proofs.dues.apply_first.Goals as goal

pub returns-in_ok-update-in-Two-2 : goal.returns-in_ok-update-in-Two-2
returns-in_ok-update-in-Two-2 c =
    let k = c.args.packet.now in
    c.in_ok-update-in-Two-2.ensures.ok ∙ ap (λ m. updates m (c.in-Two.next.now ∷ []) k) c.in_ok-update-in-Two.ensures.ok
    ∙ ap (λ f. updates (arrays_of c.args.store.now) (first_of f) k) (sym c.in-Two.is)
