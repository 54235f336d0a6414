-- A leaf, or both ways.
use Rattle.std.proofs.Common.{[], ◌∷◌, sym, arith, subst, length, ◌<◌}
use Rattle.std.proofs.lemmas.Result.{IfOk-weaker}
use Rattle.snap_diagrams.proofs.Remembering.{remembers_more}
use Rattle.snap_diagrams.specs.Diagrams.{diagram}
use Rattle.snap_diagrams.specs.Picks.{IsDiagram, IsWellFormedDiagram, sizes}
use Rattle.snap_diagrams.specs.Pruned.{IsPart}
use Rattle.snap_diagrams.proofs.Picking.{no_part}
use Rattle.snap_core.proofs.Results.{IfOk-both}
use Rattle.snap_diagrams.proofs.Shared.{kept, argument_kept}
use Rattle.snap_compose.specs.ChainMemoed.{SequelFor}
use Rattle.snap_compose.specs.Spread.{IsSequel}
use Rattle.snap_compose.proofs.Marked.{marked_kept}
use Rattle.snap_compose.proofs.Remembered.{sequel_memo, sequel_now}
use Rattle.snap_compose.proofs.Sequel.{sequel_split}
use Rattle.snap_compose.proofs.spreading.+followed.Goals as goal

pub followed-returns-in-Some-clause-number : goal.followed-returns-in-Some-clause-number
followed-returns-in-Some-clause-number t c = (c.requires.known (c.args.a ∷ 0 ∷ []) c.in-Some.r (sym c.in-Some.ensures)).number

pub followed-returns-in-Some-clause-sequel : goal.followed-returns-in-Some-clause-sequel
followed-returns-in-Some-clause-sequel t c = (c.requires.known (c.args.a ∷ 0 ∷ []) c.in-Some.r (sym c.in-Some.ensures)).sequel

pub followed-returns-clause-memo : goal.followed-returns-clause-memo
followed-returns-clause-memo t c =
    remembers_more (SequelFor c.args.groups.now c.args.ctx.now c.args.d c.followed_anew.new.nodes) c.followed_anew.new.memo c.put.new.self (c.args.a ∷ 0 ∷ []) c.in_ok-r.r c.in_ok-r.ensures.memo
    (sequel_now c.args.groups.now c.args.ctx.now c.args.d c.args.nodes.now c.followed_anew.new.nodes c.followed_anew.ensures.extends_arena c.args.a c.in_ok-r.r c.requires.first.below c.requires.second.below c.in_ok-r.ensures.number c.in_ok-r.ensures.sequel)
    c.in_ok-put.ensures.ok

pub followed_anew-followed-requires-in-Split : goal.followed_anew-followed-requires-in-Split
followed_anew-followed-requires-in-Split t c =
    let part = subst (IsPart c.args.nodes.now c.args.a) c.in-Split.is c.in_ok-part_of.ensures in
    let j = subst (IsDiagram c.args.groups.now.ranks (sizes c.args.groups.now c.args.ctx.now)) part.0 c.requires.first.keeps in
    let an : IsWellFormedDiagram c.args.groups.now c.args.ctx.now c.args.nodes.now c.in-Split.no = record { below = omega (arith, part.2, c.requires.first.below); keeps = no_part c.args.groups.now.ranks (sizes c.args.groups.now c.args.ctx.now) _ _ _ j } in (
      omega (arith, part.2, c.decreases),
      record {
        first = argument_kept c.args.groups.now c.args.ctx.now c.args.nodes.now c.followed.new.nodes c.in-Split.no c.followed.ensures.extends_arena an;
        second = argument_kept c.args.groups.now c.args.ctx.now c.args.nodes.now c.followed.new.nodes c.args.d c.followed.ensures.extends_arena c.requires.second;
        marked = marked_kept c.args.nodes.now c.followed.new.nodes c.args.marks.now c.followed.ensures.extends_arena c.requires.marked;
        known = c.in_ok-y-in-Split.ensures.memo;
      },
    )

pub followed_anew-ite-requires-clause-yes : goal.followed_anew-ite-requires-clause-yes
followed_anew-ite-requires-clause-yes t c =
    argument_kept c.args.groups.now c.args.ctx.now c.followed.new.nodes c.followed-in-Split.new.nodes c.in_ok-y-in-Split.y c.followed-in-Split.ensures.extends_arena (record { below = c.in_ok-y-in-Split.ensures.number; keeps = c.in_ok-y-in-Split.ensures.sequel.keeps })

pub followed_anew-returns-in-Some-clause-memo : goal.followed_anew-returns-in-Some-clause-memo
followed_anew-returns-in-Some-clause-memo t c = IfOk-weaker c.spread.result _ _ (λ r x. sequel_memo c.args.groups.now c.args.ctx.now c.args.d c.args.nodes.now c.spread.new.nodes c.spread.ensures.extends_arena c.args.memo.now c.requires.known) c.spread.ensures.number

pub followed_anew-returns-in_ok-n-in-Split-clause-sequel : goal.followed_anew-returns-in_ok-n-in-Split-clause-sequel
followed_anew-returns-in_ok-n-in-Split-clause-sequel t c =
    let part = subst (IsPart c.args.nodes.now c.args.a) c.in-Split.is c.in_ok-part_of.ensures in
    let hn : c.in-Split.no < length c.args.nodes.now = omega (arith, part.2, c.requires.first.below) in
    let kn = kept c.args.nodes.now c.followed.new.nodes c.in-Split.no c.followed.ensures.extends_arena hn in
    let kd = kept c.args.nodes.now c.followed.new.nodes c.args.d c.followed.ensures.extends_arena c.requires.second.below in
    let ky = kept c.followed.new.nodes c.followed-in-Split.new.nodes c.in_ok-y-in-Split.y c.followed-in-Split.ensures.extends_arena c.in_ok-y-in-Split.ensures.number in
    let sn : IsSequel c.args.groups.now c.args.ctx.now (diagram c.args.nodes.now c.args.d) (diagram c.args.nodes.now c.in-Split.no) (diagram c.followed-in-Split.new.nodes c.in_ok-n-in-Split.n) = rw (sym kd, sym kn) c.in_ok-n-in-Split.ensures.sequel in
    IfOk-both c.ite.result _ _ _ (λ r a w. sequel_split c.args.groups.now c.args.ctx.now c.in-Split.test (diagram c.args.nodes.now c.args.d) (diagram c.args.nodes.now c.in-Split.yes) (diagram c.args.nodes.now c.in-Split.no) (diagram c.args.nodes.now c.args.a)
    (diagram c.followed.new.nodes c.in_ok-y-in-Split.y) (diagram c.followed-in-Split.new.nodes c.in_ok-n-in-Split.n) (diagram c.ite.new.nodes r) part.0 c.in_ok-y-in-Split.ensures.sequel sn (rw (sym ky) w) a.keeps) c.ite.ensures.diagram c.ite.ensures.walks

pub followed_anew-returns-in_ok-n-in-Split-clause-memo : goal.followed_anew-returns-in_ok-n-in-Split-clause-memo
followed_anew-returns-in_ok-n-in-Split-clause-memo t c = IfOk-weaker c.ite.result _ _ (λ r x. sequel_memo c.args.groups.now c.args.ctx.now c.args.d c.followed-in-Split.new.nodes c.ite.new.nodes c.ite.ensures.extends_arena c.followed-in-Split.new.memo c.in_ok-n-in-Split.ensures.memo) c.ite.ensures.diagram
