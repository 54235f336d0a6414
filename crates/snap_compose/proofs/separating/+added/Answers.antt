-- At a leaf, or on both ways.
use Rattle.std.proofs.Common.{[], ◌∷◌, sym, arith, subst, length, ◌<◌}
use Rattle.std.proofs.lemmas.Result.{IfOk-weaker}
use Rattle.snap_diagrams.proofs.Remembering.{remembers_more}
use Rattle.snap_diagrams.specs.Diagrams.{diagram}
use Rattle.snap_diagrams.specs.Picks.{IsDiagram, IsWellFormedDiagram, sizes}
use Rattle.snap_diagrams.specs.Pruned.{IsPart}
use Rattle.snap_diagrams.proofs.Picking.{no_part}
use Rattle.snap_core.proofs.Results.{IfOk-both}
use Rattle.snap_diagrams.proofs.Shared.{kept, argument_kept}
use Rattle.snap_compose.specs.ChainMemoed.{WiderFor}
use Rattle.snap_compose.specs.Separating.{IsWider}
use Rattle.snap_compose.proofs.Remembered.{wider_memo, wider_now}
use Rattle.snap_compose.proofs.Settled.{wider_split}
use Rattle.snap_compose.proofs.separating.+added.Goals as goal

pub added-returns-in-Some-clause-number : goal.added-returns-in-Some-clause-number
added-returns-in-Some-clause-number t c = (c.requires.known (c.args.d ∷ 0 ∷ []) c.in-Some.r (sym c.in-Some.ensures)).number

pub added-returns-in-Some-clause-wider : goal.added-returns-in-Some-clause-wider
added-returns-in-Some-clause-wider t c = (c.requires.known (c.args.d ∷ 0 ∷ []) c.in-Some.r (sym c.in-Some.ensures)).wider

pub added-returns-clause-memo : goal.added-returns-clause-memo
added-returns-clause-memo t c =
    remembers_more (WiderFor c.args.groups.now c.args.ctx.now c.args.out.now c.added_anew.new.nodes) c.added_anew.new.memo c.put.new.self (c.args.d ∷ 0 ∷ []) c.in_ok-r.r c.in_ok-r.ensures.memo
    (wider_now c.args.groups.now c.args.ctx.now c.args.out.now c.args.nodes.now c.added_anew.new.nodes c.added_anew.ensures.extends_arena c.args.d c.in_ok-r.r c.requires.first.below c.in_ok-r.ensures.number c.in_ok-r.ensures.wider)
    c.in_ok-put.ensures.ok

pub added_anew-added-requires-in-Split : goal.added_anew-added-requires-in-Split
added_anew-added-requires-in-Split t c =
    let part = subst (IsPart c.args.nodes.now c.args.d) c.in-Split.is c.in_ok-part_of.ensures in
    let j = subst (IsDiagram c.args.groups.now.ranks (sizes c.args.groups.now c.args.ctx.now)) part.0 c.requires.first.keeps in
    let an : IsWellFormedDiagram c.args.groups.now c.args.ctx.now c.args.nodes.now c.in-Split.no = record { below = omega (arith, part.2, c.requires.first.below); keeps = no_part c.args.groups.now.ranks (sizes c.args.groups.now c.args.ctx.now) _ _ _ j } in
    (omega (arith, part.2, c.decreases), record { first = argument_kept c.args.groups.now c.args.ctx.now c.args.nodes.now c.added.new.nodes c.in-Split.no c.added.ensures.extends_arena an; fits = c.requires.fits; known = c.in_ok-y-in-Split.ensures.memo })

pub added_anew-ite-requires-clause-yes : goal.added_anew-ite-requires-clause-yes
added_anew-ite-requires-clause-yes t c =
    argument_kept c.args.groups.now c.args.ctx.now c.added.new.nodes c.added-in-Split.new.nodes c.in_ok-y-in-Split.y c.added-in-Split.ensures.extends_arena (record { below = c.in_ok-y-in-Split.ensures.number; keeps = c.in_ok-y-in-Split.ensures.wider.keeps })

pub added_anew-returns-in-Whole-clause-memo : goal.added_anew-returns-in-Whole-clause-memo
added_anew-returns-in-Whole-clause-memo t c = IfOk-weaker c.widened.result _ _ (λ r x. wider_memo c.args.groups.now c.args.ctx.now c.args.out.now c.args.nodes.now c.widened.new.nodes c.widened.ensures.extends_arena c.args.memo.now c.requires.known) c.widened.ensures.number

pub added_anew-returns-in_ok-n-in-Split-clause-wider : goal.added_anew-returns-in_ok-n-in-Split-clause-wider
added_anew-returns-in_ok-n-in-Split-clause-wider t c =
    let part = subst (IsPart c.args.nodes.now c.args.d) c.in-Split.is c.in_ok-part_of.ensures in
    let hn : c.in-Split.no < length c.args.nodes.now = omega (arith, part.2, c.requires.first.below) in
    let kn = kept c.args.nodes.now c.added.new.nodes c.in-Split.no c.added.ensures.extends_arena hn in
    let ky = kept c.added.new.nodes c.added-in-Split.new.nodes c.in_ok-y-in-Split.y c.added-in-Split.ensures.extends_arena c.in_ok-y-in-Split.ensures.number in
    let wn : IsWider c.args.groups.now c.args.ctx.now _ (diagram c.args.nodes.now c.in-Split.no) (diagram c.added-in-Split.new.nodes c.in_ok-n-in-Split.n) = rw (sym kn) c.in_ok-n-in-Split.ensures.wider in
    IfOk-both c.ite.result _ _ _ (λ r a w. wider_split c.args.groups.now c.args.ctx.now _ c.in-Split.test (diagram c.args.nodes.now c.in-Split.yes) (diagram c.args.nodes.now c.in-Split.no) (diagram c.args.nodes.now c.args.d)
    (diagram c.added.new.nodes c.in_ok-y-in-Split.y) (diagram c.added-in-Split.new.nodes c.in_ok-n-in-Split.n) (diagram c.ite.new.nodes r) part.0 c.in_ok-y-in-Split.ensures.wider wn (rw (sym ky) w) a.keeps) c.ite.ensures.diagram c.ite.ensures.walks

pub added_anew-returns-in_ok-n-in-Split-clause-memo : goal.added_anew-returns-in_ok-n-in-Split-clause-memo
added_anew-returns-in_ok-n-in-Split-clause-memo t c = IfOk-weaker c.ite.result _ _ (λ r x. wider_memo c.args.groups.now c.args.ctx.now c.args.out.now c.added-in-Split.new.nodes c.ite.new.nodes c.ite.ensures.extends_arena c.added-in-Split.new.memo c.in_ok-n-in-Split.ensures.memo) c.ite.ensures.diagram
