use Rattle.snap_cli.proofs.Deserves.{StepsAreOne, ending_once, text_of_once}
use Rattle.snap_cli.proofs.InOrderOnce.{TurnsAreOne}
use Rattle.snap_cli.proofs.TraceOnce.{RunsAreOne}
use Rattle.snap_cli.proofs.laws.answers_are_deterministic.Goals as goal

pub returns : goal.returns
returns c =
    let turns : TurnsAreOne = record {
      reports = c.plain_reports_are_one-2.ensures.reports;
      blocks = c.plain_reports_are_one-2.ensures.blocks;
      schedules = c.schedules_are_deterministic-2.ensures.reports;
      lines = c.schedules_are_deterministic-2.ensures.lines;
      apart = c.schedules_are_deterministic-2.ensures.apart;
    } in
    let runs : RunsAreOne = record {
      read = c.reading_is_deterministic.ensures;
      reports = c.plain_reports_are_one.ensures.reports;
      blocks = c.plain_reports_are_one.ensures.blocks;
      schedules = c.schedules_are_deterministic.ensures.reports;
      lines = c.schedules_are_deterministic.ensures.lines;
      apart = c.schedules_are_deterministic.ensures.apart;
      changed = c.changed_reports_are_one.ensures.reports;
      parts = c.changed_reports_are_one.ensures.blocks;
      turns = turns;
      by_rounds = c.rounds_are_deterministic.ensures.reports;
    } in
    let one : StepsAreOne = record {
      spells = c.spells_one_program.ensures;
      lists = c.has_one_listing.ensures;
      text = c.has_one_text.ensures;
      tied = c.tied_is_equivalence.ensures;
      ranks = c.has_one_rank.ensures;
      runs = runs;
    } in
    record { ending = ending_once one; text = text_of_once one }
