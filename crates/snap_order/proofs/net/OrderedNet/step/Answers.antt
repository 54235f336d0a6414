use Rattle.std.proofs.Common.{refl, subst, ◌∙◌}
use Rattle.snap_order.specs.Shown.{StandsTurn}
use Rattle.snap_order.proofs.There.{turn_framed, turn_stands}
use Rattle.snap_order.proofs.net.OrderedNet.step.Goals as goal

pub returns-clause-done : goal.returns-clause-done
returns-clause-done c = λ s shows.
    let cs = c.step_and_count.new.self.net.flying in
    let k = c.args.k in
    let told = c.in_ok-told.told in
    let done = c.in_ok-told.ensures.done s shows in
    let u = done.4.0 in
    let stands = subst (λ l. StandsTurn l k u) done.3.net.flying (turn_stands done.2 u done.4.1) in
    (done.0, done.1, done.2, done.3, (u, done.4.1, c.of.ensures.moved ∙ done.4.2, c.of.ensures.frame ∙ turn_framed cs k u told.moved told.frame.items done.4.2 stands (c.in_ok-told.ensures.frame refl)))
