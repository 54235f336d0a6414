use Rattle.std.proofs.Common.{sym, subst, inr}
use Rattle.snap_rows.specs.Chains.{Jumps}
use Rattle.snap_rows.proofs.walk.field_next.Goals as goal

pub returns-in-Some-clause-leads : goal.returns-in-Some-clause-leads
returns-in-Some-clause-leads c = λ m h.
    let t = c.args.tables.now in
    let k = c.args.packet.now in
    let chain = c.in-Some.chain.now in
    inr (subst (λ n. Jumps t k n c.pick.result) c.in-Some.ensures.1 (subst (Jumps t k chain.first) (sym c.pick.ensures) (c.in-Some.ensures.0.jumps k)))
