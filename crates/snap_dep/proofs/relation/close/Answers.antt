use Rattle.std.proofs.Common.{◌≡◌, ◌↔◌, length, subst, arith}
use Rattle.snap_dep.specs.Relations.{Relates}
use Rattle.snap_dep.specs.Dependencies.{Depends}
use Rattle.snap_dep.proofs.Chains.{Via, via_all, via_map}
use Rattle.snap_dep.proofs.Rows.{iff_on}
use Rattle.snap_dep.proofs.relation.close.Goals as goal

pub returns : goal.returns
returns c = λ p below same s t.
    let all : c.loop-var.var ≡ length c.args.rows.now = omega arith in
    let now : Relates c.loop-var.rows s t ↔ Via (Relates c.args.rows.now) (length c.args.rows.now) s t = subst (λ n. Relates c.loop-var.rows s t ↔ Via (Relates c.args.rows.now) n s t) all (c.loop-var.invariant s t) in
    iff_on now (iff_on (via_map (Relates c.args.rows.now) (Depends p) (λ a b. (same a b).0) _ s t, via_map (Depends p) (Relates c.args.rows.now) (λ a b. (same a b).1) _ s t) (via_all p (length c.args.rows.now) below s t))
