use Rattle.std.proofs.Common.{◌≡◌, ap, sym, subst, ◌∙◌, IfOk}
use Rattle.snap_core.specs.Packets.{union}
use Rattle.snap_core.specs.Runs.{set_in}
use Rattle.snap_core.proofs.PacketSets.{union-one}
use Rattle.snap_core.proofs.copies.Copies.join.Goals as goal

pub returns-in-One : goal.returns-in-One
returns-in-One c =
    let s = set_in c.args.self in
    subst (λ t. IfOk c.with.result (λ both. set_in both ≡ t)) (sym (union-one s c.in-One.packet) ∙ ap (λ x. union s (set_in x)) (sym c.in-One.is)) c.with.ensures

pub returns-in-Many : goal.returns-in-Many
returns-in-Many c =
    let s = set_in c.args.self in
    subst (λ t. IfOk c.with_all.result (λ both. set_in both ≡ t)) (ap (λ x. union s (set_in x)) (sym c.in-Many.is)) c.with_all.ensures
