use Rattle.std.proofs.Common.{true, refl, rules}
use Rattle.snap_net.proofs.Blocks.{found}
use Rattle.snap_net.proofs.Steps.{done_plain}
use Rattle.snap_net.proofs.net.Net.advance.Goals as goal

pub returns-clause-done : goal.returns-clause-done
returns-clause-done c = λ s shows.
    let v = c.args.self.now in
    let x = found v.flying c.args.k (first_of (search rules, cc)) in
    done_plain (λ j. true) v c.step_admitted.new.self c.args.k x.0 c.in_ok-told.told.moved (λ j. refl) x.1 c.step_admitted.ensures.tables c.step_admitted.ensures.injected c.in_ok-told.ensures.stepped s shows
