use Rattle.std.proofs.Common.{refl, option_map}
use Rattle.snap_words.specs.Commands.{in_order, plain}
use Rattle.snap_cli.specs.Statuses.{statuses_of_trace}
use Rattle.snap_cli.proofs.StatusLemmas.{ends-more}
use Rattle.snap_cli.proofs.in_order.report_turns.Goals as goal

pub returns-in-None-clause-statuses : goal.returns-in-None-clause-statuses
returns-in-None-clause-statuses g c = ends-more (statuses_of_trace plain) (statuses_of_trace (in_order (option_map (λ s. s.now) c.args.lines))) c.report_each.result refl c.report_each.ensures.statuses
