-- Nothing stands before it.
use Rattle.snap_diagrams.specs.Diagrams.{diagram}
use Rattle.snap_compose.proofs.Sequel.{prefixed_nothing}
use Rattle.snap_compose.proofs.spreading.put_behind.Goals as goal

pub returns-then-only_sends-clause-prefixed : goal.returns-then-only_sends-clause-prefixed
returns-then-only_sends-clause-prefixed c = prefixed_nothing c.args.groups.now c.args.ctx.now c.args.go.now (diagram c.args.nodes.now c.args.d) (c.only_sends.ensures c.if-only_sends.true) c.requires.d.keeps
