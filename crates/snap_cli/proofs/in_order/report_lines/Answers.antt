use Rattle.std.proofs.Common.{Ok, Err, refl, sym, ap, subst}
use Rattle.snap_cli.specs.Causes.{HasCauses}
use Rattle.snap_cli.proofs.ScheduleLemmas.{because}
use Rattle.snap_words.specs.Commands.{schedule}
use Rattle.snap_cli.specs.Statuses.{EndsWith, statuses_of_trace}
use Rattle.snap_cli.proofs.StatusLemmas.{of-scheduled}
use Rattle.std.proofs.lemmas.Option.{IfSome_then}
use Rattle.snap_cli.proofs.in_order.report_lines.Goals as goal

pub returns-in-Ok-clause-meets : goal.returns-in-Ok-clause-meets
returns-in-Ok-clause-meets g c = IfSome_then (g.S.Shelf.files c.args.shelf.now) c.in-Ok.ensures.report (λ files run. (Ok tt, run, refl))

pub returns-in-Err-clause-meets : goal.returns-in-Err-clause-meets
returns-in-Err-clause-meets g c =
    IfSome_then (g.S.Shelf.files c.args.shelf.now) c.in-Err.ensures.report (λ files run. (Err c.in-Err.fault, run, ap (λ e. Err e) c.refusal_of_schedule.ensures))

pub returns-in-Err-clause-devices : goal.returns-in-Err-clause-devices
returns-in-Err-clause-devices g c = record {
  files = c.in-Err.ensures.files;
  later = c.in-Err.ensures.later;
  out_later = c.in-Err.ensures.sink_later;
  causes = subst (λ e. HasCauses (g.S.Shelf.faults c.args.shelf.now) (g.S.Shelf.faults c.schedule_ordered.new.shelf) (g.O.Sink.faults c.args.out.now) (g.O.Sink.faults c.schedule_ordered.new.sink) (Err e)) (sym c.refusal_of_schedule.ensures)
      (because (g.S.Shelf.faults c.args.shelf.now) (g.S.Shelf.faults c.schedule_ordered.new.shelf) (g.O.Sink.faults c.args.out.now) (g.O.Sink.faults c.schedule_ordered.new.sink) c.args.packets c.args.lines c.in-Err.fault
      c.in-Err.ensures.no_write c.in-Err.ensures.read_packets c.in-Err.ensures.read c.in-Err.ensures.write);
}

pub returns-in-Err-clause-statuses : goal.returns-in-Err-clause-statuses
returns-in-Err-clause-statuses g c = subst (λ e. EndsWith (statuses_of_trace (schedule c.args.lines.now)) (Err e)) (sym c.refusal_of_schedule.ensures) (of-scheduled c.args.packets c.args.lines c.in-Err.fault c.in-Err.ensures.defined)
