-- The leaf that is there.
use Rattle.std.proofs.Common.{subst}
use Rattle.snap_diagrams.specs.Diagrams.{diagram, IsNodeOf}
use Rattle.snap_compose.proofs.Sequel.{behind_of}
use Rattle.snap_compose.proofs.spreading.leaf_behind.Goals as goal

pub returns-in_ok-go_behind-in-Go : goal.returns-in_ok-go_behind-in-Go
returns-in_ok-go_behind-in-Go c =
    let node = subst (IsNodeOf c.args.nodes.now c.args.d) c.in-Leaf.is c.look.ensures in
    λ l e. behind_of c.args.go.now c.in-Go.later (diagram c.args.nodes.now c.args.d) c.in-Leaf.leaf l c.in_ok-go_behind-in-Go.field-0 node c.in-Go.is e c.in_ok-go_behind-in-Go.ensures
