-- The packet has the components of the context.
use Rattle.std.proofs.Common.{rules}
use Rattle.snap_diagram_tests.proofs.Walkable.{walkable}
use Rattle.snap_diagram_tests.proofs.given.leaf_at.Goals as goal

pub walk-requires-clause-bounds : goal.walk-requires-clause-bounds
walk-requires-clause-bounds c = walkable c.args.d.now.groups c.args.d.now.ctx _ _ _ c.requires (search rules)
