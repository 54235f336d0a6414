-- What the old facts break, all break.
use Rattle.std.proofs.Common.{rules, ◌≡◌, Err}
use Rattle.snap_context.specs.Meets.{Meets}
use Rattle.snap_context.specs.Closing.{MeetsWith, IsBreach}
use Rattle.snap_context.proofs.Sound.{IsBreach-weaker}
use Rattle.snap_context.proofs.Staying.{rules-stay}
use Rattle.snap_context.proofs.look.look.Goals as goal

pub returns-in_err-look_old : goal.returns-in_err-look_old
returns-in_err-look_old c =
    let h : IsBreach (MeetsWith c.args.fact.now c.args.facts.now) c.args.classes.now c.in_err-look_old.field-0.0 = IsBreach-weaker (Meets c.args.facts.now) (MeetsWith c.args.fact.now c.args.facts.now) c.args.classes.now c.in_err-look_old.field-0.0 (λ m k h. h.1) c.in_err-look_old.ensures in
    let e : c.from_residual.result ≡ Err c.in_err-look_old.field-0.0 = search rules in
    rw e h

pub look_new-requires-clause-rules : goal.look_new-requires-clause-rules
look_new-requires-clause-rules c = rules-stay c.args.first.now c.args.classes.now c.args.facts.now c.requires.rules c.in_ok-look_old.ensures
