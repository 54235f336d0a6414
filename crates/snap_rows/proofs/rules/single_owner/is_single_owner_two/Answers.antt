use Rattle.std.proofs.Common.{subst, sym}
use Rattle.snap_rows.specs.SingleOwner.{IsAtOne}
use Rattle.snap_rows.proofs.Later.{not_one}
use Rattle.snap_rows.proofs.rules.single_owner.is_single_owner_two.Goals as goal

pub returns : goal.returns
returns c =
    let t = c.args.tables.now in (
      λ h. ((λ one. absurd (not_one t c.requires one)), (λ two. subst IsAtOne c.items.ensures (c.stand_together.ensures.0 h))),
      λ single_owner. c.stand_together.ensures.1 (subst IsAtOne (sym c.items.ensures) (single_owner.1 c.requires)),
    )
