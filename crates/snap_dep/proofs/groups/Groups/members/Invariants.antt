use Rattle.std.proofs.Common.{◌≡◌, ◌<◌, get_or}
use Rattle.snap_dep.specs.Relations.{IsSetOf}
use Rattle.snap_dep.proofs.groups.Groups.members.Given as goal

abbrev pub invariant-loop-var : goal.invariant-loop-var
invariant-loop-var l = IsSetOf (λ v. (v < l.var) × (get_or l.ranks.items v 0 ≡ l.rank)) l.members
