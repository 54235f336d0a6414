-- By the last update.
use Rattle.std.proofs.Common.{refl, [], ◌∷◌, ◌-◌, sym, arith, take}
use Rattle.std.proofs.lemmas.Result.{IfOk-weaker}
use Rattle.snap_diagrams.proofs.Remembering.{remembers_more}
use Rattle.snap_diagrams.specs.Diagrams.{diagram}
use Rattle.snap_diagrams.specs.Picks.{sizes}
use Rattle.snap_diagrams.proofs.Shared.{kept, still_below, argument_kept}
use Rattle.snap_compose.specs.Splits.{same_index_on, with_number}
use Rattle.snap_compose.specs.ChainMemoed.{BehindFor, at_place, passes_behind_op}
use Rattle.snap_compose.proofs.Remembered.{behind_memo, behind_now}
use Rattle.snap_compose.proofs.Splitting.{add_op, behind_always, behind_never, behind_other, behind_same, early_put, hit_found, hit_known, op_fits, put_op, split_nothing}
use Rattle.snap_compose.proofs.pending_updates.+behind.Goals as goal

pub behind-returns-in-Some-clause-number : goal.behind-returns-in-Some-clause-number
behind-returns-in-Some-clause-number t c = (c.requires.asked.known (c.args.left ∷ c.args.num ∷ []) c.in-Some.d (sym c.in-Some.ensures)).number

pub behind-returns-in-Some-clause-split : goal.behind-returns-in-Some-clause-split
behind-returns-in-Some-clause-split t c = (c.requires.asked.known (c.args.left ∷ c.args.num ∷ []) c.in-Some.d (sym c.in-Some.ensures)).split

pub behind-returns-clause-memo : goal.behind-returns-clause-memo
behind-returns-clause-memo t c =
    remembers_more (BehindFor c.args.groups.now c.args.ctx.now c.args.asked.now c.behind_anew.new.nodes) c.behind_anew.new.memo c.put.new.self (c.args.left ∷ c.args.num ∷ []) c.in_ok-d.d c.in_ok-d.ensures.memo
    (behind_now c.args.groups.now c.args.ctx.now c.args.asked.now c.args.nodes.now c.behind_anew.new.nodes c.behind_anew.ensures.extends_arena c.requires.asked.yes.below c.requires.asked.no.below
    c.args.left c.args.num c.in_ok-d.d c.in_ok-d.ensures.number c.in_ok-d.ensures.split)
    c.in_ok-put.ensures.ok

pub behind_anew-returns-then-left-eq0-clause-split : goal.behind_anew-returns-then-left-eq0-clause-split
behind_anew-returns-then-left-eq0-clause-split t c =
    IfOk-weaker c.split.result _ _ (λ d s. split_nothing c.args.groups.now c.args.ctx.now (at_place c.args.asked.now) c.args.asked.now.ups.now c.args.left c.args.asked.now.var c.args.asked.now.index.now (with_number c.args.asked.now.term c.args.num) _ _ _ c.if-left-eq0.true (rw (sym c.in_ok-copy.ensures, sym c.with_number.ensures) s)) c.split.ensures.split

pub behind_anew-returns-then-left-eq0-clause-memo : goal.behind_anew-returns-then-left-eq0-clause-memo
behind_anew-returns-then-left-eq0-clause-memo t c =
    IfOk-weaker c.split.result _ _ (λ d n. behind_memo c.args.groups.now c.args.ctx.now c.args.asked.now c.args.nodes.now c.split.new.nodes c.split.ensures.extends_arena c.requires.asked.yes.below c.requires.asked.no.below c.args.memo.now c.requires.asked.known) c.split.ensures.number

pub behind_anew-returns-then-update-asked-clause-split : goal.behind_anew-returns-then-update-asked-clause-split
behind_anew-returns-then-update-asked-clause-split t c =
    IfOk-weaker c.behind.result _ _ (λ d s. behind_other c.args.groups.now c.args.ctx.now (at_place c.args.asked.now) c.args.asked.now.ups.now c.index-ups-before.result c.args.left (c.args.left - 1) c.args.asked.now.var c.args.asked.now.index.now (with_number c.args.asked.now.term c.args.num) _ _ _
    (omega (arith, c.if-left-eq0.false)) (omega (arith, c.requires.asked.within, c.if-left-eq0.false)) c.index-ups-before.is c.if-update-asked.true s) c.behind.ensures.split

pub behind_anew-returns-in-Always-clause-split : goal.behind_anew-returns-in-Always-clause-split
behind_anew-returns-in-Always-clause-split t c =
    IfOk-weaker c.behind_op.result _ _ (λ d s. behind_always c.args.groups.now c.args.ctx.now c.args.asked.now.at.now c.args.asked.now.ups.now c.index-ups-before.result c.args.left (c.args.left - 1) c.args.asked.now.var c.args.asked.now.index.now (with_number c.args.asked.now.term c.args.num) c.same_place.result _ _ _
    (omega (arith, c.if-left-eq0.false)) (omega (arith, c.requires.asked.within, c.if-left-eq0.false)) c.index-ups-before.is c.if-update-asked.false (rw (c.items.ensures, c.items-2.ensures) at c.same_place.ensures) c.in-Always.is s) c.behind_op.ensures.split

pub behind_anew-returns-in-Never-clause-split : goal.behind_anew-returns-in-Never-clause-split
behind_anew-returns-in-Never-clause-split t c =
    IfOk-weaker c.behind-in-Never.result _ _ (λ d s. behind_never c.args.groups.now c.args.ctx.now c.args.asked.now.at.now c.args.asked.now.ups.now c.index-ups-before.result c.args.left (c.args.left - 1) c.args.asked.now.var c.args.asked.now.index.now (with_number c.args.asked.now.term c.args.num) c.same_place.result _ _ _
    (omega (arith, c.if-left-eq0.false)) (omega (arith, c.requires.asked.within, c.if-left-eq0.false)) c.index-ups-before.is c.if-update-asked.false (rw (c.items.ensures, c.items-2.ensures) at c.same_place.ensures) c.in-Never.is s) c.behind-in-Never.ensures.split

pub behind_anew-behind_hit-requires : goal.behind_anew-behind_hit-requires
behind_anew-behind_hit-requires t c =
    let g = c.behind-in-Unsure.ensures.extends_arena in
    let asked = c.requires.asked in
    let within = asked.within in (
      omega (arith, c.decreases, c.if-left-eq0.false),
      (
        record {
          yes = argument_kept c.args.groups.now c.args.ctx.now c.args.nodes.now c.behind-in-Unsure.new.nodes c.args.asked.now.yes g asked.yes;
          no = argument_kept c.args.groups.now c.args.ctx.now c.args.nodes.now c.behind-in-Unsure.new.nodes c.args.asked.now.no g asked.no;
          updates = asked.updates;
          ranges = asked.ranges;
          test = asked.test;
          within = omega (arith, within);
          known = c.in_ok-other-in-Unsure.ensures.memo;
        },
        op_fits (sizes c.args.groups.now c.args.ctx.now) c.args.asked.now.ups.now c.index-ups-before.result (c.args.left - 1) (omega (arith, within, c.if-left-eq0.false)) c.index-ups-before.is asked.updates,
      ),
    )

pub behind_anew-where_same-requires-clause-no : goal.behind_anew-where_same-requires-clause-no
behind_anew-where_same-requires-clause-no t c =
    argument_kept c.args.groups.now c.args.ctx.now c.behind-in-Unsure.new.nodes c.behind_hit.new.nodes c.in_ok-other-in-Unsure.other c.behind_hit.ensures.extends_arena (record { below = c.in_ok-other-in-Unsure.ensures.number; keeps = c.in_ok-other-in-Unsure.ensures.split.keeps })

pub behind_anew-returns-in_ok-hit-in-Unsure-clause-split : goal.behind_anew-returns-in_ok-hit-in-Unsure-clause-split
behind_anew-returns-in_ok-hit-in-Unsure-clause-split t c =
    let g = c.behind-in-Unsure.ensures.extends_arena in
    let ky = kept c.args.nodes.now c.behind-in-Unsure.new.nodes c.args.asked.now.yes g c.requires.asked.yes.below in
    let kn = kept c.args.nodes.now c.behind-in-Unsure.new.nodes c.args.asked.now.no g c.requires.asked.no.below in
    let ko = kept c.behind-in-Unsure.new.nodes c.behind_hit.new.nodes c.in_ok-other-in-Unsure.other c.behind_hit.ensures.extends_arena c.in_ok-other-in-Unsure.ensures.number in
    IfOk-weaker c.where_same.result _ _ (λ d s. behind_same c.args.groups.now c.args.ctx.now (at_place c.args.asked.now) c.args.asked.now.ups.now c.index-ups-before.result c.args.left (c.args.left - 1) c.args.asked.now.var c.args.asked.now.index.now (with_number c.args.asked.now.term c.args.num)
    (diagram c.args.nodes.now c.args.asked.now.yes) (diagram c.args.nodes.now c.args.asked.now.no) (diagram c.behind_hit.new.nodes c.in_ok-hit-in-Unsure.hit) (diagram c.behind-in-Unsure.new.nodes c.in_ok-other-in-Unsure.other) (diagram c.where_same.new.nodes d)
    (omega (arith, c.if-left-eq0.false)) (omega (arith, c.requires.asked.within, c.if-left-eq0.false)) c.index-ups-before.is c.if-update-asked.false (rw (sym ky, sym kn) c.in_ok-hit-in-Unsure.ensures.split) c.in_ok-other-in-Unsure.ensures.split
    (rw (c.items-in-Unsure.ensures, c.items-in-Unsure-2.ensures, ko) at s)) c.where_same.ensures.split

pub behind_anew-returns-in_ok-hit-in-Unsure-clause-memo : goal.behind_anew-returns-in_ok-hit-in-Unsure-clause-memo
behind_anew-returns-in_ok-hit-in-Unsure-clause-memo t c =
    let hy = still_below _ _ _ c.behind-in-Unsure.ensures.extends_arena c.requires.asked.yes.below in
    let hn = still_below _ _ _ c.behind-in-Unsure.ensures.extends_arena c.requires.asked.no.below in
    IfOk-weaker c.where_same.result _ _ (λ d n. behind_memo c.args.groups.now c.args.ctx.now c.args.asked.now c.behind_hit.new.nodes c.where_same.new.nodes c.where_same.ensures.extends_arena
    (still_below _ _ _ c.behind_hit.ensures.extends_arena hy) (still_below _ _ _ c.behind_hit.ensures.extends_arena hn) c.behind_hit.new.memo c.in_ok-hit-in-Unsure.ensures.memo) c.where_same.ensures.number

pub behind_hit-returns-then-not-is_fixed-clause-split : goal.behind_hit-returns-then-not-is_fixed-clause-split
behind_hit-returns-then-not-is_fixed-clause-split t c =
    IfOk-weaker c.behind_op.result _ _ (λ d s. hit_known c.args.groups.now c.args.ctx.now (at_place c.args.asked.now) (same_index_on c.args.update.now.index c.args.asked.now.index.now)
    (passes_behind_op c.args.asked.now c.args.update.now.op c.args.before c.args.num) _ _ _ s) c.behind_op.ensures.split

pub behind_hit-returns-clause-split : goal.behind_hit-returns-clause-split
behind_hit-returns-clause-split t c =
    IfOk-weaker c.behind_op-2.result _ _ (λ d s. hit_found c.args.groups.now c.args.ctx.now (at_place c.args.asked.now) (same_index_on c.args.update.now.index c.args.asked.now.index.now)
    (passes_behind_op c.args.asked.now c.args.update.now.op c.args.before c.args.num) _ _ _ s) c.behind_op-2.ensures.split

pub behind_hit-returns-clause-memo : goal.behind_hit-returns-clause-memo
behind_hit-returns-clause-memo t c =
    IfOk-weaker c.behind_op-2.result _ _ (λ d n. behind_memo c.args.groups.now c.args.ctx.now c.args.asked.now c.args.nodes.now c.behind_op-2.new.nodes c.behind_op-2.ensures.extends_arena c.requires.asked.yes.below c.requires.asked.no.below c.args.memo.now c.requires.asked.known) c.behind_op-2.ensures.number

pub behind_op-split-requires-clause-test : goal.behind_op-split-requires-clause-test
behind_op-split-requires-clause-test t c =
    (early_put (sizes c.args.groups.now c.args.ctx.now) c.args.op c.in-Put.atom c.args.asked.now.term c.with_number.result c.args.num c.same_value-early.result c.requires.op c.in-Put.is c.requires.asked.test.2 c.with_number.ensures (c.same_value-early.ensures (sizes c.args.groups.now c.args.ctx.now))).is_in

pub behind_op-returns-in-Put-clause-split : goal.behind_op-returns-in-Put-clause-split
behind_op-returns-in-Put-clause-split t c =
    let early = early_put (sizes c.args.groups.now c.args.ctx.now) c.args.op c.in-Put.atom c.args.asked.now.term c.with_number.result c.args.num c.same_value-early.result c.requires.op c.in-Put.is c.requires.asked.test.2 c.with_number.ensures (c.same_value-early.ensures (sizes c.args.groups.now c.args.ctx.now)) in
    IfOk-weaker c.split.result _ _ (λ d s. put_op c.args.groups.now c.args.ctx.now (at_place c.args.asked.now) (take c.args.before c.args.asked.now.ups.now) c.args.asked.now.var c.args.asked.now.index.now (with_number c.args.asked.now.term c.args.num) c.args.op c.in-Put.atom c.same_value-early.result _ _ _ c.in-Put.is early s) c.split.ensures.split

pub behind_op-returns-in-Put-clause-memo : goal.behind_op-returns-in-Put-clause-memo
behind_op-returns-in-Put-clause-memo t c =
    IfOk-weaker c.split.result _ _ (λ d n. behind_memo c.args.groups.now c.args.ctx.now c.args.asked.now c.args.nodes.now c.split.new.nodes c.split.ensures.extends_arena c.requires.asked.yes.below c.requires.asked.no.below c.args.memo.now c.requires.asked.known) c.split.ensures.number

pub behind_op-returns-in-Add-clause-split : goal.behind_op-returns-in-Add-clause-split
behind_op-returns-in-Add-clause-split t c =
    IfOk-weaker c.behind.result _ _ (λ d s. add_op c.args.groups.now c.args.ctx.now (at_place c.args.asked.now) c.args.asked.now.ups.now c.args.before c.args.asked.now.var c.args.asked.now.index.now c.args.asked.now.term c.args.num c.args.op c.in-Add.by _ _ _ _ c.in-Add.is (omega arith) (omega arith) refl
    c.requires.asked.updates c.requires.asked.ranges c.requires.asked.test.2 s) c.behind.ensures.split
