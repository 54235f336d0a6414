use Rattle.std.proofs.Common.{◌≡◌, length, take, subst, arith}
use Rattle.snap_report.proofs.CutLemmas.{name-same}
use Rattle.snap_report.proofs.guess.behind_name.Goals as goal

pub returns-then-text-end-eq61-clause-front : goal.returns-then-text-end-eq61-clause-front
returns-then-text-end-eq61-clause-front c =
    let text = c.args.text.now in
    let name = c.args.name.now in
    let at = c.loop-at.at in
    let end : at ≡ length name = omega (arith, c.loop-at-test.false, c.loop-at.auto.at-end) in
    let same : take (length name) text ≡ take (length name) name = subst (λ n. take n text ≡ take n name) end c.loop-at.invariant.same in
    name-same text name c.if-text-end.false same (λ k l. c.loop-at.invariant.none k (omega (arith, l, end))) c.if-text-end-eq61.true
