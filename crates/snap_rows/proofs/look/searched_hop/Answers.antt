use Rattle.std.proofs.Common.{sym, ◌∙◌}
use Rattle.snap_rows.proofs.Places.{hop_there}
use Rattle.snap_rows.proofs.look.searched_hop.Goals as goal

pub returns : goal.returns
returns c = c.hop_said.ensures ∙ sym (hop_there c.args.hops.now c.requires c.args.at c.args.target c.hops_before.result c.hops_before.ensures)
