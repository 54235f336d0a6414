use Rattle.std.proofs.Common.{◌∙◌, sym}
use Rattle.snap_dep.specs.Ranks.{rank_of}
use Rattle.snap_cli.specs.Deps.{member_text}
use Rattle.snap_cli.proofs.Rows.{members_more, members_same}
use Rattle.snap_cli.proofs.deps.put_group.Goals as goal
use Rattle.snap_cli.proofs.deps.put_group.Goals.{then-rank+in_ok-put_member, else-rank}

pub loop-var-preserved : goal.loop-var-preserved
loop-var-preserved c =
    let begun = c.extend_from_slice.new.self.items in let before = c.loop-var.out.items in let var = c.loop-var.var in
    elim c.if-rank.branch [
      | then-rank+in_ok-put_member w ↦
          rw w.out-is
          (members_more (member_text c.args.names.now) (rank_of c.args.groups.now) c.args.rank begun before w.put_member.new.out.items var
          (sym c.rank.ensures.rank ∙ w.if-rank.true) c.loop-var.invariant w.in_ok-put_member.ensures)
      | else-rank w ↦
          rw w.out-is
          (members_same (member_text c.args.names.now) (rank_of c.args.groups.now) c.args.rank begun before var
          (λ e. w.if-rank.false (c.rank.ensures.rank ∙ e)) c.loop-var.invariant)
    ]
