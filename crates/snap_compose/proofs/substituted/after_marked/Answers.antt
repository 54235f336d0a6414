-- The updates in order do the same.
use Rattle.std.proofs.Common.{List, subst, sym}
use Rattle.std.specs.Prelude.{All}
use Rattle.std.proofs.lemmas.List.Sorted.{All-permutation}
use Rattle.std.proofs.lemmas.Result.{IfOk-weaker}
use Rattle.snap_core.specs.declared.policy.Update.{Update}
use Rattle.snap_diagrams.proofs.Remembering.{remembers_none}
use Rattle.snap_diagrams.specs.Bounds.{UpdateIn}
use Rattle.snap_diagrams.specs.Diagrams.{diagram}
use Rattle.snap_diagrams.specs.Picks.{sizes}
use Rattle.snap_compose.specs.Substituted.{IsLate}
use Rattle.snap_compose.proofs.Adding.{late_same}
use Rattle.snap_compose.proofs.Lately.{late_itself}
use Rattle.snap_compose.proofs.substituted.after_marked.Goals as goal

pub later-requires : goal.later-requires
later-requires c = record {
  first = c.requires.d;
  fits = c.requires.out;
  updates = subst (λ (us : List Update). All (UpdateIn (sizes c.args.groups.now c.args.ctx.now)) us) (sym c.deref.ensures.value)
      (All-permutation (UpdateIn (sizes c.args.groups.now c.args.ctx.now)) c.args.ups.now c.in_ok-ups.ups.items c.in_ok-ups.ensures.permuted c.requires.ups);
  marked = c.requires.marked;
  known = rw c.new-memo.ensures (remembers_none _);
}

pub returns-then-stays-clause-late : goal.returns-then-stays-clause-late
returns-then-stays-clause-late c =
    let same = c.stays.ensures c.if-stays.true c.args.nodes.now c.requires.marked in
    late_itself c.args.groups.now c.args.ctx.now c.args.out.now c.args.ups.now (diagram c.args.nodes.now c.args.d) same.0 same.1 c.requires.d.keeps

pub returns-clause-late : goal.returns-clause-late
returns-clause-late c =
    IfOk-weaker c.later.result _ _ (λ r l. late_same c.args.groups.now c.args.ctx.now c.args.out.now c.args.ups.now c.in_ok-ups.ups.items (diagram c.args.nodes.now c.args.d) (diagram c.later.new.nodes r) c.in_ok-ups.ensures.same
    (subst (λ (us : List Update). IsLate c.args.groups.now c.args.ctx.now c.args.out.now us (diagram c.args.nodes.now c.args.d) (diagram c.later.new.nodes r)) c.deref.ensures.value l)) c.later.ensures.late
