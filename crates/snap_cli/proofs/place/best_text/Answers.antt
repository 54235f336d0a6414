use Rattle.std.proofs.Common.{◌∙◌, ap, length}
use Rattle.snap_cli.proofs.place.best_text.Goals as goal

pub print-requires : goal.print-requires
print-requires c = ap length c.items.ensures ∙ (c.in_ok-best.ensures.owners.fits.count ∙ c.requires.groups.count)
