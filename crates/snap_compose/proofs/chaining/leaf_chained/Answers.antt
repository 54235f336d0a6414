-- The outs give one packet or none, or d writes nothing; else the leaf is settled first.
use Rattle.std.proofs.Common.{◌⊎◌, inl, inr, sym, length, ◌≤◌, arith}
use Rattle.std.proofs.lemmas.Bool.{not-true}
use Rattle.std.proofs.lemmas.Result.{IfOk-weaker}
use Rattle.snap_diagrams.specs.Diagrams.{diagram}
use Rattle.snap_diagrams.proofs.Shared.{kept, argument_kept}
use Rattle.snap_compose.specs.Marks.{WritesNothing}
use Rattle.snap_compose.proofs.Marked.{marked_kept, marked_writes_nothing}
use Rattle.snap_compose.proofs.Sequel.{chained_leaf, chained_once, goes_at}
use Rattle.snap_compose.proofs.chaining.leaf_chained.Goals.{then-items-le1-via-then-items-le1, then-items-le1-via-else-items-le1+then-not-of}
use Rattle.snap_compose.proofs.chaining.leaf_chained.Goals as goal

pub spread_on-requires-clause-d : goal.spread_on-requires-clause-d
spread_on-requires-clause-d c = argument_kept c.args.groups.now c.args.ctx.now c.args.nodes.now c.separate.new.nodes c.args.d c.separate.ensures.extends_arena c.requires.d

pub spread_on-requires-clause-marked : goal.spread_on-requires-clause-marked
spread_on-requires-clause-marked c = marked_kept c.args.nodes.now c.separate.new.nodes c.args.marks.now c.separate.ensures.extends_arena c.requires.marked

pub returns-in_ok-settled-in-Some-clause-chained : goal.returns-in_ok-settled-in-Some-clause-chained
returns-in_ok-settled-in-Some-clause-chained c =
    let e = goes_at (diagram c.args.nodes.now c.args.a) c.requires.leaf.0 c.in_ok-go_of.field-0 c.in-Some.go c.requires.leaf.1 c.in_ok-go_of.ensures c.in-Some.is in
    let kd = kept c.args.nodes.now c.separate.new.nodes c.args.d c.separate.ensures.extends_arena c.requires.d.below in
    IfOk-weaker c.spread_on.result _ _ (λ r s. chained_leaf c.args.groups.now c.args.ctx.now c.in-Some.go (diagram c.args.nodes.now c.args.d) (diagram c.args.nodes.now c.args.a) (diagram c.separate.new.nodes c.in_ok-settled-in-Some.settled) (diagram c.spread_on.new.nodes r) e
    c.in_ok-settled-in-Some.ensures.answer c.in_ok-settled-in-Some.ensures.settled (rw (sym kd) s)) c.spread_on.ensures.sequel

pub returns-then-items-le1-clause-chained : goal.returns-then-items-le1-clause-chained
returns-then-items-le1-clause-chained c =
    let e = goes_at (diagram c.args.nodes.now c.args.a) c.requires.leaf.0 c.in_ok-go_of.field-0 c.in-Some.go c.requires.leaf.1 c.in_ok-go_of.ensures c.in-Some.is in
    let once : (length c.in-Some.go.outs ≤ 1) ⊎ WritesNothing (diagram c.args.nodes.now c.args.d) = elim c.then-items-le1.branch [
      | then-items-le1-via-then-items-le1 w ↦ inl (rw (sym c.items.ensures) (omega (arith, w.if-items-le1.true)))
      | then-items-le1-via-else-items-le1+then-not-of w ↦ inr (marked_writes_nothing w.of.result (diagram c.args.nodes.now c.args.d) (w.of.ensures c.args.nodes.now c.requires.marked) (not-true w.of.result.writes w.if-not-of.true))
    ] in
    IfOk-weaker c.spread.result _ _ (λ r s. chained_once c.args.groups.now c.args.ctx.now c.in-Some.go (diagram c.args.nodes.now c.args.d) (diagram c.args.nodes.now c.args.a) (diagram c.spread.new.nodes r) e once s) c.spread.ensures.spread
