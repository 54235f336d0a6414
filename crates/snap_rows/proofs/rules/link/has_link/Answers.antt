use Rattle.snap_rows.proofs.Places.{link_there, link_here}
use Rattle.snap_rows.proofs.rules.link.has_link.Goals as goal

pub returns : goal.returns
returns c = (
  λ yes. link_here c.args.links.now c.args.a c.args.b c.links_before.result (c.is_link.ensures.0 yes),
  λ there. c.is_link.ensures.1 (link_there c.args.links.now c.requires c.args.a c.args.b c.links_before.result c.links_before.ensures there),
)
