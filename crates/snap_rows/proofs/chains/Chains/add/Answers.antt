use Rattle.std.proofs.Common.{sym, subst}
use Rattle.std.specs.Prelude.{IfSome}
use Rattle.std.specs.List.{All}
use Rattle.std.proofs.lemmas.List.Elements.{All-push}
use Rattle.snap_rows.specs.Chains.{IsChain}
use Rattle.snap_rows.proofs.chains.Chains.add.Goals as goal

pub returns-in_ok-push-in-Some-2 : goal.returns-in_ok-push-in-Some-2
returns-in_ok-push-in-Some-2 c = λ t old this.
    subst (All (IsChain t)) (sym c.in_ok-push-in-Some-2.ensures.items)
    (All-push (IsChain t) c.args.self.now.chains.items c.in-Some.chain old (subst (λ o. IfSome o (IsChain t)) c.in-Some.is this))
