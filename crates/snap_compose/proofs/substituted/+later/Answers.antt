-- A leaf, or a test over two.
use Rattle.std.proofs.Common.{[], ◌∷◌, ◌<◌, sym, subst, arith, length}
use Rattle.std.proofs.lemmas.Result.{IfOk-weaker}
use Rattle.snap_diagrams.proofs.Remembering.{remembers_more}
use Rattle.snap_diagrams.specs.Diagrams.{diagram}
use Rattle.snap_diagrams.specs.Picks.{IsDiagram, IsWellFormedDiagram, sizes}
use Rattle.snap_diagrams.specs.Pruned.{IsPart}
use Rattle.snap_diagrams.proofs.Picking.{no_part}
use Rattle.snap_core.proofs.Results.{IfOk-both}
use Rattle.snap_diagrams.proofs.Shared.{kept, argument_kept}
use Rattle.snap_compose.specs.Substituted.{IsLate}
use Rattle.snap_compose.specs.ChainMemoed.{LateFor}
use Rattle.snap_compose.proofs.Remembered.{late_memo, late_now}
use Rattle.snap_compose.proofs.Lately.{late_itself, late_leaf, late_split}
use Rattle.snap_compose.proofs.Marked.{marked_kept}
use Rattle.snap_compose.proofs.substituted.+later.Goals as goal

pub later-returns-then-stays-clause-late : goal.later-returns-then-stays-clause-late
later-returns-then-stays-clause-late t c =
    let same = c.stays.ensures c.if-stays.true c.args.nodes.now c.requires.marked in
    late_itself c.args.groups.now c.args.ctx.now c.args.out.now c.args.ups.now (diagram c.args.nodes.now c.args.d) same.0 same.1 c.requires.first.keeps

pub later-returns-in-Some-clause-number : goal.later-returns-in-Some-clause-number
later-returns-in-Some-clause-number t c = (c.requires.known (c.args.d ∷ 0 ∷ []) c.in-Some.r (sym c.in-Some.ensures)).number

pub later-returns-in-Some-clause-late : goal.later-returns-in-Some-clause-late
later-returns-in-Some-clause-late t c = (c.requires.known (c.args.d ∷ 0 ∷ []) c.in-Some.r (sym c.in-Some.ensures)).late

pub later-returns-clause-memo : goal.later-returns-clause-memo
later-returns-clause-memo t c =
    remembers_more (LateFor c.args.groups.now c.args.ctx.now c.args.out.now c.args.ups.now c.later_anew.new.nodes) c.later_anew.new.memo c.put.new.self (c.args.d ∷ 0 ∷ []) c.in_ok-r.r c.in_ok-r.ensures.memo
    (late_now c.args.groups.now c.args.ctx.now c.args.out.now c.args.ups.now c.args.nodes.now c.later_anew.new.nodes c.later_anew.ensures.extends_arena c.args.d c.in_ok-r.r c.requires.first.below c.in_ok-r.ensures.number c.in_ok-r.ensures.late)
    c.in_ok-put.ensures.ok

pub later_anew-later-requires-in-Split : goal.later_anew-later-requires-in-Split
later_anew-later-requires-in-Split t c =
    let part = subst (IsPart c.args.nodes.now c.args.d) c.in-Split.is c.in_ok-part_of.ensures in
    let j = subst (IsDiagram c.args.groups.now.ranks (sizes c.args.groups.now c.args.ctx.now)) part.0 c.requires.first.keeps in
    let an : IsWellFormedDiagram c.args.groups.now c.args.ctx.now c.args.nodes.now c.in-Split.no = record { below = omega (arith, part.2, c.requires.first.below); keeps = no_part c.args.groups.now.ranks (sizes c.args.groups.now c.args.ctx.now) _ _ _ j } in (
      omega (arith, part.2, c.decreases),
      record {
        first = argument_kept c.args.groups.now c.args.ctx.now c.args.nodes.now c.later.new.nodes c.in-Split.no c.later.ensures.extends_arena an;
        fits = c.requires.fits;
        updates = c.requires.updates;
        marked = marked_kept c.args.nodes.now c.later.new.nodes c.args.marks.now c.later.ensures.extends_arena c.requires.marked;
        known = c.in_ok-y-in-Split.ensures.memo;
      },
    )

pub later_anew-split_after-requires-clause-yes : goal.later_anew-split_after-requires-clause-yes
later_anew-split_after-requires-clause-yes t c =
    argument_kept c.args.groups.now c.args.ctx.now c.later.new.nodes c.later-in-Split.new.nodes c.in_ok-y-in-Split.y c.later-in-Split.ensures.extends_arena (record { below = c.in_ok-y-in-Split.ensures.number; keeps = c.in_ok-y-in-Split.ensures.late.keeps })

pub later_anew-split_after-requires-clause-test : goal.later_anew-split_after-requires-clause-test
later_anew-split_after-requires-clause-test t c =
    let part = subst (IsPart c.args.nodes.now c.args.d) c.in-Split.is c.in_ok-part_of.ensures in
    let j = subst (IsDiagram c.args.groups.now.ranks (sizes c.args.groups.now c.args.ctx.now)) part.0 c.requires.first.keeps in
    (c.in_ok-early-in-Split.ensures (sizes c.args.groups.now c.args.ctx.now) c.requires.fits j.bounds.0).is_in

pub later_anew-returns-in_ok-leaf-in-Whole-clause-memo : goal.later_anew-returns-in_ok-leaf-in-Whole-clause-memo
later_anew-returns-in_ok-leaf-in-Whole-clause-memo t c =
    IfOk-weaker c.only.result _ _ (λ d n. late_memo c.args.groups.now c.args.ctx.now c.args.out.now c.args.ups.now c.args.nodes.now c.only.new.nodes c.only.ensures.extends_arena c.args.memo.now c.requires.known) c.only.ensures.is

pub later_anew-returns-in_ok-early-in-Split-clause-late : goal.later_anew-returns-in_ok-early-in-Split-clause-late
later_anew-returns-in_ok-early-in-Split-clause-late t c =
    let part = subst (IsPart c.args.nodes.now c.args.d) c.in-Split.is c.in_ok-part_of.ensures in
    let j = subst (IsDiagram c.args.groups.now.ranks (sizes c.args.groups.now c.args.ctx.now)) part.0 c.requires.first.keeps in
    let hn : c.in-Split.no < length c.args.nodes.now = omega (arith, part.2, c.requires.first.below) in
    let kn = kept c.args.nodes.now c.later.new.nodes c.in-Split.no c.later.ensures.extends_arena hn in
    let ky = kept c.later.new.nodes c.later-in-Split.new.nodes c.in_ok-y-in-Split.y c.later-in-Split.ensures.extends_arena c.in_ok-y-in-Split.ensures.number in
    let ln : IsLate c.args.groups.now c.args.ctx.now c.args.out.now c.args.ups.now (diagram c.args.nodes.now c.in-Split.no) (diagram c.later-in-Split.new.nodes c.in_ok-n-in-Split.n) = rw (sym kn) c.in_ok-n-in-Split.ensures.late in
    IfOk-weaker c.split_after.result _ _ (λ r s. late_split c.args.groups.now c.args.ctx.now c.args.out.now c.args.ups.now c.in-Split.test (diagram c.args.nodes.now c.in-Split.yes) (diagram c.args.nodes.now c.in-Split.no) (diagram c.args.nodes.now c.args.d)
    (diagram c.later.new.nodes c.in_ok-y-in-Split.y) (diagram c.later-in-Split.new.nodes c.in_ok-n-in-Split.n) (diagram c.split_after.new.nodes r) c.in_ok-early-in-Split.early part.0 c.in_ok-y-in-Split.ensures.late ln
    (c.in_ok-early-in-Split.ensures (sizes c.args.groups.now c.args.ctx.now) c.requires.fits j.bounds.0) (rw (sym ky) s)) c.split_after.ensures.split

pub later_anew-returns-in_ok-early-in-Split-clause-memo : goal.later_anew-returns-in_ok-early-in-Split-clause-memo
later_anew-returns-in_ok-early-in-Split-clause-memo t c =
    IfOk-weaker c.split_after.result _ _ (λ d n. late_memo c.args.groups.now c.args.ctx.now c.args.out.now c.args.ups.now c.later-in-Split.new.nodes c.split_after.new.nodes c.split_after.ensures.extends_arena c.later-in-Split.new.memo c.in_ok-n-in-Split.ensures.memo) c.split_after.ensures.number

pub later_anew-returns-in_ok-leaf-in-Whole-clause-late : goal.later_anew-returns-in_ok-leaf-in-Whole-clause-late
later_anew-returns-in_ok-leaf-in-Whole-clause-late t c =
    let part = subst (IsPart c.args.nodes.now c.args.d) c.in-Whole.is c.in_ok-part_of.ensures in
    IfOk-both c.only.result _ _ _ (λ r a is. late_leaf c.args.groups.now c.args.ctx.now c.args.out.now c.args.ups.now part.0 c.in_ok-leaf-in-Whole.leaf (diagram c.args.nodes.now c.args.d) (diagram c.only.new.nodes r) part.1 is
    (c.in_ok-leaf-in-Whole.ensures.leaf part.0 part.1) (c.in_ok-leaf-in-Whole.ensures.logs part.0 part.1) a.keeps) c.only.ensures.diagram c.only.ensures.is
