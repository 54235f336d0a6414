-- By the predicate's tests.
use Rattle.std.proofs.Common.{[], ◌∷◌, ◌<◌, sym, subst, arith, length}
use Rattle.std.proofs.lemmas.Result.{IfOk-weaker}
use Rattle.snap_diagrams.specs.Diagrams.{diagram}
use Rattle.snap_diagrams.specs.Picks.{IsDiagram, IsWellFormedDiagram, sizes}
use Rattle.snap_diagrams.specs.Pruned.{IsPart}
use Rattle.snap_diagrams.proofs.Picking.{no_part}
use Rattle.snap_diagrams.proofs.Shared.{kept, argument_kept}
use Rattle.snap_diagrams.proofs.Remembering.{remembers_more}
use Rattle.snap_compose.specs.Chosen.{IsChosen}
use Rattle.snap_compose.specs.JoinMemoed.{DecidedFor}
use Rattle.snap_compose.proofs.Memoed.{decided_memo, decided_now}
use Rattle.snap_compose.proofs.Chosen.{chosen_both}
use Rattle.snap_compose.proofs.choosing.+chosen.Goals as goal

pub chosen_anew-chosen-requires-in-Split : goal.chosen_anew-chosen-requires-in-Split
chosen_anew-chosen-requires-in-Split t c =
    let part = subst (IsPart c.args.nodes.now c.args.x) c.in-Split.is c.in_ok-part_of.ensures in
    let j = subst (IsDiagram c.args.groups.now.ranks (sizes c.args.groups.now c.args.ctx.now)) part.0 c.requires.test.keeps in
    let g = c.chosen.ensures.extends_arena in
    let an : IsWellFormedDiagram c.args.groups.now c.args.ctx.now c.args.nodes.now c.in-Split.no = record { below = omega (arith, part.2, c.requires.test.below); keeps = no_part c.args.groups.now.ranks (sizes c.args.groups.now c.args.ctx.now) _ _ _ j } in
    let keep = argument_kept c.args.groups.now c.args.ctx.now c.args.nodes.now c.chosen.new.nodes in
    (omega (arith, part.2, c.decreases), record { test = keep c.in-Split.no g an; yes = keep c.args.p g c.requires.yes; no = keep c.args.q g c.requires.no; known = c.in_ok-y-in-Split.ensures.memo })

pub chosen_anew-pick-requires-clause-a : goal.chosen_anew-pick-requires-clause-a
chosen_anew-pick-requires-clause-a t c =
    argument_kept c.args.groups.now c.args.ctx.now c.chosen.new.nodes c.chosen-in-Split.new.nodes c.in_ok-y-in-Split.y c.chosen-in-Split.ensures.extends_arena (record { below = c.in_ok-y-in-Split.ensures.number; keeps = c.in_ok-y-in-Split.ensures.chosen.keeps })

pub chosen_anew-returns-in_ok-n-in-Split-clause-chosen : goal.chosen_anew-returns-in_ok-n-in-Split-clause-chosen
chosen_anew-returns-in_ok-n-in-Split-clause-chosen t c =
    let part = subst (IsPart c.args.nodes.now c.args.x) c.in-Split.is c.in_ok-part_of.ensures in
    let g = c.chosen.ensures.extends_arena in
    let hn : c.in-Split.no < length c.args.nodes.now = omega (arith, part.2, c.requires.test.below) in
    let kn = kept c.args.nodes.now c.chosen.new.nodes c.in-Split.no g hn in
    let kp = kept c.args.nodes.now c.chosen.new.nodes c.args.p g c.requires.yes.below in
    let kq = kept c.args.nodes.now c.chosen.new.nodes c.args.q g c.requires.no.below in
    let ky = kept c.chosen.new.nodes c.chosen-in-Split.new.nodes c.in_ok-y-in-Split.y c.chosen-in-Split.ensures.extends_arena c.in_ok-y-in-Split.ensures.number in
    let cn : IsChosen c.args.groups.now.ranks (sizes c.args.groups.now c.args.ctx.now) (diagram c.args.nodes.now c.in-Split.no) (diagram c.args.nodes.now c.args.p) (diagram c.args.nodes.now c.args.q) (diagram c.chosen-in-Split.new.nodes c.in_ok-n-in-Split.n)
    = rw (sym kn, sym kp, sym kq) c.in_ok-n-in-Split.ensures.chosen in
    IfOk-weaker c.pick.result _ _ (λ d k. chosen_both c.args.groups.now.ranks (sizes c.args.groups.now c.args.ctx.now) c.in-Split.test (diagram c.args.nodes.now c.args.x) (diagram c.args.nodes.now c.in-Split.yes) (diagram c.args.nodes.now c.in-Split.no) (diagram c.args.nodes.now c.args.p) (diagram c.args.nodes.now c.args.q)
    (diagram c.chosen.new.nodes c.in_ok-y-in-Split.y) (diagram c.chosen-in-Split.new.nodes c.in_ok-n-in-Split.n) (diagram c.pick.new.nodes d) part.0 c.in_ok-y-in-Split.ensures.chosen cn (rw (sym ky) k)) c.pick.ensures.pick

pub chosen_anew-returns-else-reads_nothing-clause-memo : goal.chosen_anew-returns-else-reads_nothing-clause-memo
chosen_anew-returns-else-reads_nothing-clause-memo t c = IfOk-weaker c.combine.result _ _ (λ d n. decided_memo c.args.groups.now.ranks (sizes c.args.groups.now c.args.ctx.now) c.args.nodes.now c.combine.new.nodes c.args.p c.args.q c.args.memo.now c.combine.ensures.extends_arena c.requires.known) c.combine.ensures.number

pub chosen_anew-returns-in_ok-n-in-Split-clause-memo : goal.chosen_anew-returns-in_ok-n-in-Split-clause-memo
chosen_anew-returns-in_ok-n-in-Split-clause-memo t c = IfOk-weaker c.pick.result _ _ (λ d n. decided_memo c.args.groups.now.ranks (sizes c.args.groups.now c.args.ctx.now) c.chosen-in-Split.new.nodes c.pick.new.nodes c.args.p c.args.q c.chosen-in-Split.new.memo c.pick.ensures.extends_arena c.in_ok-n-in-Split.ensures.memo) c.pick.ensures.number

pub chosen-returns-in-Some-clause-number : goal.chosen-returns-in-Some-clause-number
chosen-returns-in-Some-clause-number t c = (c.requires.known (c.args.x ∷ 0 ∷ []) c.in-Some.d (sym c.in-Some.ensures)).number

pub chosen-returns-in-Some-clause-chosen : goal.chosen-returns-in-Some-clause-chosen
chosen-returns-in-Some-clause-chosen t c = (c.requires.known (c.args.x ∷ 0 ∷ []) c.in-Some.d (sym c.in-Some.ensures)).chosen

pub chosen-returns-clause-memo : goal.chosen-returns-clause-memo
chosen-returns-clause-memo t c =
    remembers_more (DecidedFor c.args.groups.now.ranks (sizes c.args.groups.now c.args.ctx.now) c.chosen_anew.new.nodes c.args.p c.args.q) c.chosen_anew.new.memo c.put.new.self (c.args.x ∷ 0 ∷ []) c.in_ok-d.d c.in_ok-d.ensures.memo
    (decided_now c.args.groups.now.ranks (sizes c.args.groups.now c.args.ctx.now) c.args.nodes.now c.chosen_anew.new.nodes c.args.x c.args.p c.args.q c.in_ok-d.d c.chosen_anew.ensures.extends_arena c.requires.test.below c.requires.yes.below c.requires.no.below c.in_ok-d.ensures.number c.in_ok-d.ensures.chosen)
    c.in_ok-put.ensures.ok
