use Rattle.std.proofs.Common.{◌≡◌, List, ℕ, sym, subst, arith}
use Rattle.std.specs.Prelude.{◌↔◌, Contains}
use Rattle.snap_rows.specs.Ways.{OwnsBelow}
use Rattle.snap_rows.proofs.Leading.{no_owners, more_owners}
use Rattle.snap_rows.proofs.rules.leads.owners.Goals as goal

pub loop-rank-init : goal.loop-rank-init
loop-rank-init c = subst (λ (xs : List ℕ). (x : ℕ) → OwnsBelow c.args.tables.now 0 x ↔ Contains xs x) (sym c.clear.ensures.items) (no_owners c.args.tables.now)

pub loop-rank-preserved : goal.loop-rank-preserved
loop-rank-preserved c = more_owners c.args.tables.now c.loop-rank.rank c.loop-rank.owners.items c.add_owner.new.owners.items c.loop-rank.invariant c.in_ok-add_owner.ensures

pub returns : goal.returns
returns c = let same : c.loop-rank.rank ≡ c.args.below = let low = c.loop-rank.auto in omega arith in subst (λ (r : ℕ). (x : ℕ) → OwnsBelow c.args.tables.now r x ↔ Contains c.loop-rank.owners.items x) same c.loop-rank.invariant
