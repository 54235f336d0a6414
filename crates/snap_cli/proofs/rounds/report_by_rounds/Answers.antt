use Rattle.std.proofs.Common.{refl}
use Rattle.snap_words.specs.Commands.{plain, rounds}
use Rattle.snap_cli.specs.Statuses.{statuses_of_trace}
use Rattle.snap_cli.proofs.StatusLemmas.{ends-more}
use Rattle.snap_cli.proofs.rounds.report_by_rounds.Goals as goal

pub returns-then-has_turns-clause-statuses : goal.returns-then-has_turns-clause-statuses
returns-then-has_turns-clause-statuses g c = ends-more (statuses_of_trace plain) (statuses_of_trace (rounds c.args.workers.value)) c.report_rounds.result refl c.report_rounds.ensures.statuses
