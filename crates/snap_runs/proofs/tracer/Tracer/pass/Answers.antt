use Rattle.std.proofs.Common.{true, sym, subst}
use Rattle.std.proofs.lemmas.Result.{IfOk-weaker}
use Rattle.snap_net.specs.Passing.{IsHeard, lost_in, sent_in}
use Rattle.snap_runs.specs.Crossings.{SeesLines}
use Rattle.snap_runs.specs.Tracing.{IsTraced}
use Rattle.snap_runs.proofs.Taken.{passes-so, traced-seen}
use Rattle.snap_runs.proofs.tracer.Tracer.pass.Goals as goal

pub returns-then-self-clause-passes : goal.returns-then-self-clause-passes
returns-then-self-clause-passes c =
    let v = c.args.self.now in
    let f = v.frames in
    let t = v.net.tables in
    let i = v.net.injected in
    let k = c.args.packet.now in
    let y = c.begin.new.self in
    let y' = c.pass.new.watch in
    let after = c.pass.new.packet in
    IfOk-weaker c.pass.result _ _ (λ passed. passes-so c.args.port k v.net c.pass.new.self (IsHeard (SeesLines t) i y y' (sent_in after passed) (lost_in passed)) (IsTraced f t v.hops i y' (sent_in after passed) (lost_in passed))
    (λ hs heard. subst (λ b. IsTraced f t b i y' (sent_in after passed) (lost_in passed) hs) (sym c.if-self.true) (traced-seen f t i (sent_in after passed) (lost_in passed) hs y y' c.begin.ensures.frames c.begin.ensures.hops heard)))
    c.pass.ensures.passes
