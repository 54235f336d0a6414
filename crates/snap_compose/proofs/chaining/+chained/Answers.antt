-- A leaf, or a test before both.
use Rattle.std.proofs.Common.{[], ◌∷◌, sym, arith, subst}
use Rattle.std.proofs.lemmas.Result.{IfOk-weaker}
use Rattle.snap_diagrams.proofs.Remembering.{remembers_more}
use Rattle.snap_diagrams.specs.Diagrams.{diagram}
use Rattle.snap_core.proofs.Results.{IfOk-both}
use Rattle.snap_diagrams.proofs.Shared.{kept, argument_kept}
use Rattle.snap_compose.specs.ChainMemoed.{ChainedFor}
use Rattle.snap_compose.specs.Spread.{IsChained}
use Rattle.snap_compose.specs.Turns.{IsTurn}
use Rattle.snap_compose.proofs.Ahead.{chained_asked, left_first, left_second}
use Rattle.snap_compose.proofs.Marked.{marked_kept}
use Rattle.snap_compose.proofs.Remembered.{chained_memo, chained_now}
use Rattle.snap_compose.proofs.chaining.+chained.Goals as goal

pub chained_anew-chained-requires : goal.chained_anew-chained-requires
chained_anew-chained-requires t c =
    let u = subst (IsTurn c.args.groups.now c.args.ctx.now c.args.nodes.now c.args.a c.args.d) c.in-Asked.is c.in_ok-next_turn.ensures in (
      omega (arith, u.yes.falls, c.decreases),
      record {
        first = left_first c.args.groups.now c.args.ctx.now c.args.nodes.now c.in-Asked.test _ c.args.a c.args.d c.in-Asked.yes c.requires.first.below u.yes;
        second = left_second c.args.groups.now c.args.ctx.now c.args.nodes.now c.in-Asked.test _ c.args.a c.args.d c.in-Asked.yes c.requires.second.below u.yes;
        marked = c.requires.marked;
        known = c.requires.known;
      },
    )

pub chained_anew-chained-requires-in-Asked : goal.chained_anew-chained-requires-in-Asked
chained_anew-chained-requires-in-Asked t c =
    let u = subst (IsTurn c.args.groups.now c.args.ctx.now c.args.nodes.now c.args.a c.args.d) c.in-Asked.is c.in_ok-next_turn.ensures in
    let a = left_first c.args.groups.now c.args.ctx.now c.args.nodes.now c.in-Asked.test _ c.args.a c.args.d c.in-Asked.no c.requires.first.below u.no in
    let d = left_second c.args.groups.now c.args.ctx.now c.args.nodes.now c.in-Asked.test _ c.args.a c.args.d c.in-Asked.no c.requires.second.below u.no in
    let keep = argument_kept c.args.groups.now c.args.ctx.now c.args.nodes.now c.chained.new.nodes in (
      omega (arith, u.no.falls, c.decreases),
      record {
        first = keep c.in-Asked.no.first c.chained.ensures.extends_arena a;
        second = keep c.in-Asked.no.second c.chained.ensures.extends_arena d;
        marked = marked_kept c.args.nodes.now c.chained.new.nodes c.args.marks.now c.chained.ensures.extends_arena c.requires.marked;
        known = c.in_ok-y-in-Asked.ensures.memo;
      },
    )

pub chained_anew-ite-requires-clause-yes : goal.chained_anew-ite-requires-clause-yes
chained_anew-ite-requires-clause-yes t c =
    argument_kept c.args.groups.now c.args.ctx.now c.chained.new.nodes c.chained-in-Asked.new.nodes c.in_ok-y-in-Asked.y c.chained-in-Asked.ensures.extends_arena (record { below = c.in_ok-y-in-Asked.ensures.number; keeps = c.in_ok-y-in-Asked.ensures.chained.keeps })

pub chained_anew-ite-requires-clause-test : goal.chained_anew-ite-requires-clause-test
chained_anew-ite-requires-clause-test t c =
    (subst (IsTurn c.args.groups.now c.args.ctx.now c.args.nodes.now c.args.a c.args.d) c.in-Asked.is c.in_ok-next_turn.ensures).bounds

pub chained_anew-returns-in_ok-n-in-Asked-clause-chained : goal.chained_anew-returns-in_ok-n-in-Asked-clause-chained
chained_anew-returns-in_ok-n-in-Asked-clause-chained t c =
    let u = subst (IsTurn c.args.groups.now c.args.ctx.now c.args.nodes.now c.args.a c.args.d) c.in-Asked.is c.in_ok-next_turn.ensures in
    let a = left_first c.args.groups.now c.args.ctx.now c.args.nodes.now c.in-Asked.test _ c.args.a c.args.d c.in-Asked.no c.requires.first.below u.no in
    let d = left_second c.args.groups.now c.args.ctx.now c.args.nodes.now c.in-Asked.test _ c.args.a c.args.d c.in-Asked.no c.requires.second.below u.no in
    let ka = kept c.args.nodes.now c.chained.new.nodes c.in-Asked.no.first c.chained.ensures.extends_arena a.below in
    let kd = kept c.args.nodes.now c.chained.new.nodes c.in-Asked.no.second c.chained.ensures.extends_arena d.below in
    let ky = kept c.chained.new.nodes c.chained-in-Asked.new.nodes c.in_ok-y-in-Asked.y c.chained-in-Asked.ensures.extends_arena c.in_ok-y-in-Asked.ensures.number in
    let cn : IsChained c.args.groups.now c.args.ctx.now (diagram c.args.nodes.now c.in-Asked.no.second) (diagram c.args.nodes.now c.in-Asked.no.first) (diagram c.chained-in-Asked.new.nodes c.in_ok-n-in-Asked.n) = rw (sym ka, sym kd) c.in_ok-n-in-Asked.ensures.chained in
    IfOk-both c.ite.result _ _ _ (λ r i w. chained_asked c.args.groups.now c.args.ctx.now c.in-Asked.test (diagram c.args.nodes.now c.args.a) (diagram c.args.nodes.now c.args.d)
    (diagram c.args.nodes.now c.in-Asked.yes.first) (diagram c.args.nodes.now c.in-Asked.yes.second) (diagram c.args.nodes.now c.in-Asked.no.first) (diagram c.args.nodes.now c.in-Asked.no.second)
    (diagram c.chained.new.nodes c.in_ok-y-in-Asked.y) (diagram c.chained-in-Asked.new.nodes c.in_ok-n-in-Asked.n) (diagram c.ite.new.nodes r) u.yes.same u.no.same c.in_ok-y-in-Asked.ensures.chained cn (rw (sym ky) w) i.keeps) c.ite.ensures.diagram c.ite.ensures.walks

pub chained-returns-in-Some-clause-number : goal.chained-returns-in-Some-clause-number
chained-returns-in-Some-clause-number t c = (c.requires.known (c.args.a ∷ c.args.d ∷ []) c.in-Some.r (sym c.in-Some.ensures)).number

pub chained-returns-in-Some-clause-chained : goal.chained-returns-in-Some-clause-chained
chained-returns-in-Some-clause-chained t c = (c.requires.known (c.args.a ∷ c.args.d ∷ []) c.in-Some.r (sym c.in-Some.ensures)).chained

pub chained-returns-clause-memo : goal.chained-returns-clause-memo
chained-returns-clause-memo t c =
    remembers_more (ChainedFor c.args.groups.now c.args.ctx.now c.chained_anew.new.nodes) c.chained_anew.new.memo c.put.new.self (c.args.a ∷ c.args.d ∷ []) c.in_ok-r.r c.in_ok-r.ensures.memo
    (chained_now c.args.groups.now c.args.ctx.now c.args.nodes.now c.chained_anew.new.nodes c.chained_anew.ensures.extends_arena c.args.a c.args.d c.in_ok-r.r c.requires.first.below c.requires.second.below c.in_ok-r.ensures.number c.in_ok-r.ensures.chained)
    c.in_ok-put.ensures.ok

pub chained_anew-returns-in-Whole-clause-memo : goal.chained_anew-returns-in-Whole-clause-memo
chained_anew-returns-in-Whole-clause-memo t c =
    IfOk-weaker c.leaf_chained.result _ _ (λ r x. chained_memo c.args.groups.now c.args.ctx.now c.args.nodes.now c.leaf_chained.new.nodes c.leaf_chained.ensures.extends_arena c.args.memo.now c.requires.known) c.leaf_chained.ensures.number

pub chained_anew-returns-in_ok-n-in-Asked-clause-memo : goal.chained_anew-returns-in_ok-n-in-Asked-clause-memo
chained_anew-returns-in_ok-n-in-Asked-clause-memo t c =
    IfOk-weaker c.ite.result _ _ (λ r x. chained_memo c.args.groups.now c.args.ctx.now c.chained-in-Asked.new.nodes c.ite.new.nodes c.ite.ensures.extends_arena c.chained-in-Asked.new.memo c.in_ok-n-in-Asked.ensures.memo) c.ite.ensures.diagram
