use Rattle.std.proofs.Common.{true, refl, rules, subst, ◌∙◌}
use Rattle.snap_net.specs.Shown.{StandsThere}
use Rattle.snap_net.proofs.Blocks.{found}
use Rattle.snap_net.proofs.Steps.{done_plain, frame_told, made_unheld, stands_there}
use Rattle.snap_net.proofs.net.Net.step.Goals as goal

pub of-requires : goal.of-requires
of-requires c =
    let v = c.args.self.now in
    let x = found v.flying c.args.k (first_of (search rules, cc)) in
    made_unheld (c.in_ok-told.ensures.stepped x.0 x.1) (λ j. refl)

pub returns-clause-done : goal.returns-clause-done
returns-clause-done c = λ s shows.
    let v = c.args.self.now in
    let new = c.step_admitted.new.self in
    let k = c.args.k in
    let told = c.in_ok-told.told in
    let x = found v.flying k (first_of (search rules, cc)) in
    let done = done_plain (λ j. true) v new k x.0 told.moved (λ j. refl) x.1 c.step_admitted.ensures.tables c.step_admitted.ensures.injected c.in_ok-told.ensures.stepped s shows in
    let y = done.4.0 in
    let stands = subst (λ l. StandsThere l k y) done.3.flying (stands_there y done.2 done.4.1) in
    (done.0, done.1, done.2, done.3, (y, done.4.1, c.of.ensures.moved ∙ done.4.2, c.of.ensures.frame ∙ frame_told new.flying k y told.moved told.frame.items done.4.2 stands (c.in_ok-told.ensures.frame refl)))
