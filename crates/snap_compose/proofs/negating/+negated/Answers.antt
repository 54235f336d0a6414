-- A leaf, or a test over two.
use Rattle.std.proofs.Common.{[], ◌∷◌, ◌<◌, sym, subst, arith, length}
use Rattle.std.proofs.lemmas.Result.{IfOk-weaker}
use Rattle.snap_diagrams.specs.Diagrams.{diagram}
use Rattle.snap_diagrams.specs.Pruned.{IsPart}
use Rattle.snap_diagrams.proofs.Shared.{kept, still_below, new_leaf}
use Rattle.snap_diagrams.proofs.Cutting.{ask_shape}
use Rattle.snap_diagrams.proofs.Remembering.{remembers_more}
use Rattle.snap_compose.specs.Predicates.{IsNegated}
use Rattle.snap_compose.specs.JoinMemoed.{TurnedFor}
use Rattle.snap_compose.proofs.Memoed.{turned_memo, turned_now}
use Rattle.snap_compose.proofs.Turning.{negated_leaf, negated_both}
use Rattle.snap_compose.proofs.negating.+negated.Goals as goal

pub negated_anew-returns-in_ok-leaf-in-Whole-clause-negated : goal.negated_anew-returns-in_ok-leaf-in-Whole-clause-negated
negated_anew-returns-in_ok-leaf-in-Whole-clause-negated t c =
    let part = subst (IsPart c.args.nodes.now c.args.a) c.in-Whole.is c.in_ok-part_of.ensures in
    IfOk-weaker c.leaf.result _ _ (λ d n. negated_leaf (diagram c.args.nodes.now c.args.a) (diagram c.leaf.new.self d) part.0 c.in_ok-leaf-in-Whole.leaf part.1 (c.in_ok-leaf-in-Whole.ensures part.0 part.1) (new_leaf c.leaf.new.self d c.in_ok-leaf-in-Whole.leaf n.at)) c.leaf.ensures.ok

pub negated_anew-returns-in_ok-n-in-Split-clause-negated : goal.negated_anew-returns-in_ok-n-in-Split-clause-negated
negated_anew-returns-in_ok-n-in-Split-clause-negated t c =
    let part = subst (IsPart c.args.nodes.now c.args.a) c.in-Split.is c.in_ok-part_of.ensures in
    let hn : c.in-Split.no < length c.args.nodes.now = omega (arith, part.2, c.requires.a) in
    let kn = kept c.args.nodes.now c.negated.new.nodes c.in-Split.no c.negated.ensures.extends_arena hn in
    let ky = kept c.negated.new.nodes c.negated-in-Split.new.nodes c.in_ok-y-in-Split.y c.negated-in-Split.ensures.extends_arena c.in_ok-y-in-Split.ensures.number in
    let hy : IsNegated (diagram c.args.nodes.now c.in-Split.yes) (diagram c.negated-in-Split.new.nodes c.in_ok-y-in-Split.y) = rw ky c.in_ok-y-in-Split.ensures.negated in
    let jn : IsNegated (diagram c.args.nodes.now c.in-Split.no) (diagram c.negated-in-Split.new.nodes c.in_ok-n-in-Split.n) = rw (sym kn) c.in_ok-n-in-Split.ensures.negated in
    let below = still_below _ _ _ c.negated-in-Split.ensures.extends_arena c.in_ok-y-in-Split.ensures.number in
    IfOk-weaker c.node.result _ _ (λ d s. negated_both c.in-Split.test (diagram c.args.nodes.now c.args.a) (diagram c.args.nodes.now c.in-Split.yes) (diagram c.args.nodes.now c.in-Split.no)
    (diagram c.negated-in-Split.new.nodes c.in_ok-y-in-Split.y) (diagram c.negated-in-Split.new.nodes c.in_ok-n-in-Split.n) (diagram c.node.new.self d) part.0 hy jn s)
    (ask_shape c.in-Split.test c.negated-in-Split.new.nodes c.node.new.self c.in_ok-y-in-Split.y c.in_ok-n-in-Split.n c.node.result c.node.ensures.extends_arena below c.in_ok-n-in-Split.ensures.number c.node.ensures.both c.node.ensures.ok c.node.ensures.lower)

pub negated_anew-returns-in_ok-leaf-in-Whole-clause-memo : goal.negated_anew-returns-in_ok-leaf-in-Whole-clause-memo
negated_anew-returns-in_ok-leaf-in-Whole-clause-memo t c = IfOk-weaker c.leaf.result _ _ (λ d n. turned_memo c.args.nodes.now c.leaf.new.self c.args.memo.now c.leaf.ensures.extends_arena c.requires.memo) c.leaf.ensures.number

pub negated_anew-returns-in_ok-n-in-Split-clause-memo : goal.negated_anew-returns-in_ok-n-in-Split-clause-memo
negated_anew-returns-in_ok-n-in-Split-clause-memo t c = IfOk-weaker c.node.result _ _ (λ d n. turned_memo c.negated-in-Split.new.nodes c.node.new.self c.negated-in-Split.new.memo c.node.ensures.extends_arena c.in_ok-n-in-Split.ensures.memo) c.node.ensures.both

pub negated-returns-in-Some-clause-number : goal.negated-returns-in-Some-clause-number
negated-returns-in-Some-clause-number t c = (c.requires.memo (c.args.a ∷ 0 ∷ []) c.in-Some.d (sym c.in-Some.ensures)).number

pub negated-returns-in-Some-clause-negated : goal.negated-returns-in-Some-clause-negated
negated-returns-in-Some-clause-negated t c = (c.requires.memo (c.args.a ∷ 0 ∷ []) c.in-Some.d (sym c.in-Some.ensures)).negated

pub negated-returns-clause-memo : goal.negated-returns-clause-memo
negated-returns-clause-memo t c =
    remembers_more (TurnedFor c.negated_anew.new.nodes) c.negated_anew.new.memo c.put.new.self (c.args.a ∷ 0 ∷ []) c.in_ok-d.d c.in_ok-d.ensures.memo
    (turned_now c.args.nodes.now c.negated_anew.new.nodes c.args.a c.in_ok-d.d c.negated_anew.ensures.extends_arena c.requires.a c.in_ok-d.ensures.number c.in_ok-d.ensures.negated)
    c.in_ok-put.ensures.ok
