use Rattle.std.proofs.Common.{Ok, Err, IfSome, refl, sym, subst, ◌∙◌}
use Rattle.snap_words.specs.Commands.{command_of}
use Rattle.snap_words.specs.Said.{bytes_of}
use Rattle.snap_cli.specs.Statuses.{CanAnswer}
use Rattle.snap_cli.proofs.TopLemmas.{only-usage, quiet, read-rose, tells}
use Rattle.snap_cli.proofs.top.snap.Goals as goal

pub returns-in-Err-clause-answer : goal.returns-in-Err-clause-answer
returns-in-Err-clause-answer g c = record {
  ending = Err c.in-Err.refusal;
  status_is = c.status.ensures;
  out = c.in-Err.ensures.meets;
  causes = c.in-Err.ensures.devices.causes;
  err = tells _ _ _ _ _ c.print.result c.print.ensures.ok c.print.ensures.err c.print.ensures.cause;
}

pub returns-in-Err-clause-read : goal.returns-in-Err-clause-read
returns-in-Err-clause-read g c = λ two.
    read-rose (g.S.Shelf.faults c.args.shelf.now) (g.S.Shelf.faults c.run-ending.new.shelf) (g.O.Sink.faults c.args.out.now) (g.O.Sink.faults c.run-ending.new.out) c.in-Err.refusal
    c.in-Err.ensures.devices.causes (sym c.status.ensures ∙ two)

pub returns-in-Ok-clause-demo : goal.returns-in-Ok-clause-demo
returns-in-Ok-clause-demo g c = λ switches is files. record {
  ending = Ok tt;
  status_is = refl;
  out = c.in-Ok.ensures.demo switches is files;
  causes = c.in-Ok.ensures.devices.causes;
  err = quiet (g.E.Sink.faults c.args.err.now) (g.E.Sink.taken c.args.err.now);
}

pub returns-in-Err-clause-demo : goal.returns-in-Err-clause-demo
returns-in-Err-clause-demo g c = λ switches is files. record {
  ending = Err c.in-Err.refusal;
  status_is = c.status.ensures;
  out = c.in-Err.ensures.demo switches is files;
  causes = c.in-Err.ensures.devices.causes;
  err = tells _ _ _ _ _ c.print.result c.print.ensures.ok c.print.ensures.err c.print.ensures.cause;
}

pub returns-in-Err-clause-statuses : goal.returns-in-Err-clause-statuses
returns-in-Err-clause-statuses g c =
    subst (λ status. IfSome (command_of (bytes_of c.args.words.now)) (λ command. CanAnswer command status)) (sym c.status.ensures) c.in-Err.ensures.statuses

pub returns-in-Err-clause-usage : goal.returns-in-Err-clause-usage
returns-in-Err-clause-usage g c = λ one. only-usage (command_of (bytes_of c.args.words.now)) _ c.in-Err.ensures.statuses (sym c.status.ensures ∙ one)

pub returns-in-Err-clause-nothing : goal.returns-in-Err-clause-nothing
returns-in-Err-clause-nothing g c = λ one.
    c.in-Err.ensures.nothing (only-usage (command_of (bytes_of c.args.words.now)) _ c.in-Err.ensures.statuses (sym c.status.ensures ∙ one))
