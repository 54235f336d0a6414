-- The tests stay.
use Rattle.snap_diagrams.specs.Picks.{sizes}
use Rattle.snap_diagrams.proofs.Shared.{argument_kept}
use Rattle.snap_build.proofs.predicates.turned.Goals as goal

pub returns-clause-link : goal.returns-clause-link
returns-clause-link c =
    let g = c.args.groups.now in let v = c.args.ctx.now in
    record {
      diagram = record { below = c.in_ok-diagram.ensures.number; keeps = c.in_ok-diagram.ensures.diagram g.ranks (sizes g v) c.requires.diagram.keeps };
      last = argument_kept g v c.args.nodes.now c.negate.new.nodes c.args.part.last c.negate.ensures.extends_arena c.requires.last;
      told = record { predicate = c.in_ok-diagram.ensures.predicate; answer = λ m k met. c.in_ok-diagram.ensures.answer m k };
    }
