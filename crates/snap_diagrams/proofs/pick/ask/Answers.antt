-- One way, or a new node.
use Rattle.snap_diagrams.proofs.Picking.{ask_pick}
use Rattle.snap_diagrams.proofs.Cutting.{ask_shape}
use Rattle.snap_diagrams.proofs.pick.ask.Goals as goal

pub returns-clause-pick : goal.returns-clause-pick
returns-clause-pick c = ask_pick c.args.groups.now.ranks _ c.args.test c.args.nodes.now c.node.new.self c.args.yes c.args.no c.node.result c.node.ensures.extends_arena c.requires.yes.below c.requires.no.below
    c.requires.yes.keeps c.requires.no.keeps c.requires.test c.requires.above_yes c.requires.above_no c.node.ensures.both c.node.ensures.ok c.node.ensures.lower

pub returns-clause-shape : goal.returns-clause-shape
returns-clause-shape c = ask_shape c.args.test c.args.nodes.now c.node.new.self c.args.yes c.args.no c.node.result c.node.ensures.extends_arena c.requires.yes.below c.requires.no.below c.node.ensures.both c.node.ensures.ok c.node.ensures.lower
