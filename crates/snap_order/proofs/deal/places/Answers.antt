use Rattle.std.proofs.Common.{ap, ◌∙◌}
use Rattle.std.specs.Int.{div_ceil}
use Rattle.snap_order.proofs.Dealing.{counts_places}
use Rattle.snap_order.proofs.deal.places.Goals as goal

pub returns : goal.returns
returns c = counts_places c.args.workers c.args.rest c.args.switches c.div_ceil.result c.requires (c.div_ceil.ensures ∙ ap (λ n. div_ceil n c.args.workers) c.saturating_sub.ensures)
