-- A leaf, or both ways.
use Rattle.std.proofs.Common.{[], ◌∷◌, sym, arith, subst, length, ◌<◌}
use Rattle.std.proofs.lemmas.Result.{IfOk-weaker}
use Rattle.snap_diagrams.proofs.Remembering.{remembers_more}
use Rattle.snap_diagrams.specs.Diagrams.{diagram}
use Rattle.snap_diagrams.specs.Picks.{IsDiagram, IsWellFormedDiagram, sizes}
use Rattle.snap_diagrams.specs.Pruned.{IsPart}
use Rattle.snap_diagrams.proofs.Picking.{no_part}
use Rattle.snap_core.proofs.Results.{IfOk-both}
use Rattle.snap_diagrams.proofs.Shared.{kept, argument_kept}
use Rattle.snap_compose.specs.Spread.{IsPrefixed}
use Rattle.snap_compose.proofs.Sequel.{behind_in, prefixed_leaf, prefixed_split, behind_at, goes_fits}
use Rattle.snap_compose.specs.ChainMemoed.{PrefixedFor}
use Rattle.snap_compose.proofs.Remembered.{prefixed_memo, prefixed_now}
use Rattle.snap_compose.proofs.spreading.+prefixed.Goals as goal

pub prefixed_anew-only-requires : goal.prefixed_anew-only-requires
prefixed_anew-only-requires t c =
    let part = subst (IsPart c.args.nodes.now c.args.d) c.in-Whole.is c.in_ok-part_of.ensures in
    let b = behind_at c.args.go.now (diagram c.args.nodes.now c.args.d) part.0 c.in-Some.leaf c.in_ok-leaf_behind-in-Whole.field-0 part.1 c.in_ok-leaf_behind-in-Whole.ensures c.in-Some.is in
    behind_in (sizes c.args.groups.now c.args.ctx.now) c.args.go.now b.0 c.in-Some.leaf b.2 c.requires.leaf (goes_fits (sizes c.args.groups.now c.args.ctx.now) (diagram c.args.nodes.now c.args.d) b.0 b.1 c.requires.first.keeps.bounds)

pub prefixed_anew-prefixed-requires-in-Split : goal.prefixed_anew-prefixed-requires-in-Split
prefixed_anew-prefixed-requires-in-Split t c =
    let part = subst (IsPart c.args.nodes.now c.args.d) c.in-Split.is c.in_ok-part_of.ensures in
    let j = subst (IsDiagram c.args.groups.now.ranks (sizes c.args.groups.now c.args.ctx.now)) part.0 c.requires.first.keeps in
    let an : IsWellFormedDiagram c.args.groups.now c.args.ctx.now c.args.nodes.now c.in-Split.no = record { below = omega (arith, part.2, c.requires.first.below); keeps = no_part c.args.groups.now.ranks (sizes c.args.groups.now c.args.ctx.now) _ _ _ j } in
    (omega (arith, part.2, c.decreases), record { first = argument_kept c.args.groups.now c.args.ctx.now c.args.nodes.now c.prefixed.new.nodes c.in-Split.no c.prefixed.ensures.extends_arena an; leaf = c.requires.leaf; known = c.in_ok-y-in-Split.ensures.memo })

pub prefixed_anew-ite-requires-clause-yes : goal.prefixed_anew-ite-requires-clause-yes
prefixed_anew-ite-requires-clause-yes t c =
    argument_kept c.args.groups.now c.args.ctx.now c.prefixed.new.nodes c.prefixed-in-Split.new.nodes c.in_ok-y-in-Split.y c.prefixed-in-Split.ensures.extends_arena (record { below = c.in_ok-y-in-Split.ensures.number; keeps = c.in_ok-y-in-Split.ensures.prefixed.keeps })

pub prefixed_anew-returns-in-Some-clause-prefixed : goal.prefixed_anew-returns-in-Some-clause-prefixed
prefixed_anew-returns-in-Some-clause-prefixed t c =
    let part = subst (IsPart c.args.nodes.now c.args.d) c.in-Whole.is c.in_ok-part_of.ensures in
    let b = behind_at c.args.go.now (diagram c.args.nodes.now c.args.d) part.0 c.in-Some.leaf c.in_ok-leaf_behind-in-Whole.field-0 part.1 c.in_ok-leaf_behind-in-Whole.ensures c.in-Some.is in
    let fits = behind_in (sizes c.args.groups.now c.args.ctx.now) c.args.go.now b.0 c.in-Some.leaf b.2 c.requires.leaf (goes_fits (sizes c.args.groups.now c.args.ctx.now) (diagram c.args.nodes.now c.args.d) b.0 b.1 c.requires.first.keeps.bounds) in
    IfOk-weaker c.only.result _ _ (λ r is. prefixed_leaf c.args.groups.now c.args.ctx.now c.args.go.now b.0 c.in-Some.leaf (diagram c.args.nodes.now c.args.d) (diagram c.only.new.nodes r) b.2 b.1 is fits) c.only.ensures.is

pub prefixed_anew-returns-in_ok-n-in-Split-clause-prefixed : goal.prefixed_anew-returns-in_ok-n-in-Split-clause-prefixed
prefixed_anew-returns-in_ok-n-in-Split-clause-prefixed t c =
    let part = subst (IsPart c.args.nodes.now c.args.d) c.in-Split.is c.in_ok-part_of.ensures in
    let hn : c.in-Split.no < length c.args.nodes.now = omega (arith, part.2, c.requires.first.below) in
    let kn = kept c.args.nodes.now c.prefixed.new.nodes c.in-Split.no c.prefixed.ensures.extends_arena hn in
    let ky = kept c.prefixed.new.nodes c.prefixed-in-Split.new.nodes c.in_ok-y-in-Split.y c.prefixed-in-Split.ensures.extends_arena c.in_ok-y-in-Split.ensures.number in
    let pn : IsPrefixed c.args.groups.now c.args.ctx.now c.args.go.now (diagram c.args.nodes.now c.in-Split.no) (diagram c.prefixed-in-Split.new.nodes c.in_ok-n-in-Split.n) = rw (sym kn) c.in_ok-n-in-Split.ensures.prefixed in
    IfOk-both c.ite.result _ _ _ (λ r a w. prefixed_split c.args.groups.now c.args.ctx.now c.args.go.now c.in-Split.test (diagram c.args.nodes.now c.in-Split.yes) (diagram c.args.nodes.now c.in-Split.no) (diagram c.args.nodes.now c.args.d)
    (diagram c.prefixed.new.nodes c.in_ok-y-in-Split.y) (diagram c.prefixed-in-Split.new.nodes c.in_ok-n-in-Split.n) (diagram c.ite.new.nodes r) part.0 c.in_ok-y-in-Split.ensures.prefixed pn (rw (sym ky) w) a.keeps) c.ite.ensures.diagram c.ite.ensures.walks

pub prefixed-returns-in-Some-clause-number : goal.prefixed-returns-in-Some-clause-number
prefixed-returns-in-Some-clause-number t c = (c.requires.known (c.args.d ∷ 0 ∷ []) c.in-Some.r (sym c.in-Some.ensures)).number

pub prefixed-returns-in-Some-clause-prefixed : goal.prefixed-returns-in-Some-clause-prefixed
prefixed-returns-in-Some-clause-prefixed t c = (c.requires.known (c.args.d ∷ 0 ∷ []) c.in-Some.r (sym c.in-Some.ensures)).prefixed

pub prefixed-returns-clause-memo : goal.prefixed-returns-clause-memo
prefixed-returns-clause-memo t c =
    remembers_more (PrefixedFor c.args.groups.now c.args.ctx.now c.args.go.now c.prefixed_anew.new.nodes) c.prefixed_anew.new.memo c.put.new.self (c.args.d ∷ 0 ∷ []) c.in_ok-r.r c.in_ok-r.ensures.memo
    (prefixed_now c.args.groups.now c.args.ctx.now c.args.go.now c.args.nodes.now c.prefixed_anew.new.nodes c.prefixed_anew.ensures.extends_arena c.args.d c.in_ok-r.r c.requires.first.below c.in_ok-r.ensures.number c.in_ok-r.ensures.prefixed)
    c.in_ok-put.ensures.ok

pub prefixed_anew-returns-in-Some-clause-memo : goal.prefixed_anew-returns-in-Some-clause-memo
prefixed_anew-returns-in-Some-clause-memo t c = IfOk-weaker c.only.result _ _ (λ r x. prefixed_memo c.args.groups.now c.args.ctx.now c.args.go.now c.args.nodes.now c.only.new.nodes c.only.ensures.extends_arena c.args.memo.now c.requires.known) c.only.ensures.is

pub prefixed_anew-returns-in_ok-n-in-Split-clause-memo : goal.prefixed_anew-returns-in_ok-n-in-Split-clause-memo
prefixed_anew-returns-in_ok-n-in-Split-clause-memo t c = IfOk-weaker c.ite.result _ _ (λ r x. prefixed_memo c.args.groups.now c.args.ctx.now c.args.go.now c.prefixed-in-Split.new.nodes c.ite.new.nodes c.ite.ensures.extends_arena c.prefixed-in-Split.new.memo c.in_ok-n-in-Split.ensures.memo) c.ite.ensures.diagram
