use Rattle.std.proofs.Common.{◌≡◌, ◌∙◌, get_or, sym, rules}
use Rattle.std.proofs.lemmas.List.{get_or_read}
use Rattle.snap_dep.proofs.OrderLemmas.{set_more, set_same}
use Rattle.snap_dep.proofs.groups.Groups.members.Goals as goal
use Rattle.snap_dep.proofs.groups.Groups.members.Goals.{then-index-rank, else-index-rank}

pub loop-var-preserved : goal.loop-var-preserved
loop-var-preserved c =
    let read : c.index.result.now ≡ get_or c.self.inside.ranks.items c.loop-var.var 0 = get_or_read c.self.inside.ranks.items c.loop-var.var c.index.result.now (search rules) c.index.ensures 0 in
    elim c.if-index-rank.branch [
      | then-index-rank w ↦
          rw (w.members-is, w.only-members.ensures)
          (set_more (λ v. get_or c.self.inside.ranks.items v 0 ≡ c.args.rank) c.loop-var.members c.loop-var.var c.loop-var.invariant (sym read ∙ w.if-index-rank.true))
      | else-index-rank w ↦
          rw w.members-is
          (set_same (λ v. get_or c.self.inside.ranks.items v 0 ≡ c.args.rank) c.loop-var.members c.loop-var.var c.loop-var.invariant (λ e. w.if-index-rank.false (read ∙ e)))
    ]
