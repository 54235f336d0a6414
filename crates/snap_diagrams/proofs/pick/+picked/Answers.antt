-- A test before two diagrams, asked at once or after another.
use Rattle.std.proofs.Common.{[], ◌∷◌, ◌≡◌, ◌≢◌, ◌<◌, sym, rules, arith, length, true, false}
use Rattle.std.proofs.lemmas.Result.{IfOk-weaker}
use Rattle.std.proofs.lemmas.Bool.{false≢true}
use Rattle.snap_diagrams.specs.Diagrams.{diagram}
use Rattle.snap_diagrams.specs.Picks.{IsLeast, IsPick, Where, Anywhere, sizes}
use Rattle.snap_diagrams.proofs.Picking.{picked_here, picked_later, falls_both, later, side_argument}
use Rattle.snap_diagrams.proofs.Remembering.{remembers_more}
use Rattle.snap_diagrams.specs.Memoed.{PickedFor}
use Rattle.snap_diagrams.proofs.Memoed.{memo_kept, picked_now}
use Rattle.snap_diagrams.proofs.Shared.{kept, argument_kept}
use Rattle.snap_diagrams.proofs.pick.+picked.Goals as goal

pub picked_anew-ask-requires-clause-yes : goal.picked_anew-ask-requires-clause-yes
picked_anew-ask-requires-clause-yes t c =
    side_argument c.args.groups.now c.args.ctx.now c.args.nodes.now c.in_ok-first.first true c.args.a c.side-ay.result c.requires.first c.side-ay.ensures.within c.side-ay.ensures.side

pub picked_anew-ask-requires-clause-no : goal.picked_anew-ask-requires-clause-no
picked_anew-ask-requires-clause-no t c =
    side_argument c.args.groups.now c.args.ctx.now c.args.nodes.now c.in_ok-first.first false c.args.b c.side-bn.result c.requires.second c.side-bn.ensures.within c.side-bn.ensures.side

pub picked_anew-ask-requires-clause-above_yes : goal.picked_anew-ask-requires-clause-above_yes
picked_anew-ask-requires-clause-above_yes t c =
    let i : IsLeast c.args.groups.now.ranks (sizes c.args.groups.now c.args.ctx.now) c.args.test.now (diagram c.args.nodes.now c.args.a) (diagram c.args.nodes.now c.args.b) c.in_ok-first.first = rw c.in_ok-first.ensures c.least.ensures in
    (c.side-ay.ensures.side c.args.groups.now.ranks (sizes c.args.groups.now c.args.ctx.now) c.requires.first.keeps).over i.first

pub picked_anew-ask-requires-clause-above_no : goal.picked_anew-ask-requires-clause-above_no
picked_anew-ask-requires-clause-above_no t c =
    let i : IsLeast c.args.groups.now.ranks (sizes c.args.groups.now c.args.ctx.now) c.args.test.now (diagram c.args.nodes.now c.args.a) (diagram c.args.nodes.now c.args.b) c.in_ok-first.first = rw c.in_ok-first.ensures c.least.ensures in
    (c.side-bn.ensures.side c.args.groups.now.ranks (sizes c.args.groups.now c.args.ctx.now) c.requires.second.keeps).over i.second

pub picked_anew-returns-then-same_test-clause-pick : goal.picked_anew-returns-then-same_test-clause-pick
picked_anew-returns-then-same_test-clause-pick t c =
    let same : c.args.test.now ≡ c.in_ok-first.first = search rules in
    IfOk-weaker c.ask.result _ _ (λ d p. picked_here c.args.groups.now.ranks _ Anywhere c.args.test.now (diagram c.args.nodes.now c.args.a) (diagram c.args.nodes.now c.args.b) (diagram c.args.nodes.now c.side-ay.result) (diagram c.args.nodes.now c.side-bn.result) (diagram c.ask.new.nodes d)
    (rw same (c.side-ay.ensures.side c.args.groups.now.ranks (sizes c.args.groups.now c.args.ctx.now) c.requires.first.keeps)) (rw same (c.side-bn.ensures.side c.args.groups.now.ranks (sizes c.args.groups.now c.args.ctx.now) c.requires.second.keeps)) (rw same p)) c.ask.ensures.pick

pub picked_anew-picked_under-requires : goal.picked_anew-picked_under-requires
picked_anew-picked_under-requires t c =
    let i : IsLeast c.args.groups.now.ranks (sizes c.args.groups.now c.args.ctx.now) c.args.test.now (diagram c.args.nodes.now c.args.a) (diagram c.args.nodes.now c.args.b) c.in_ok-first.first = rw c.in_ok-first.ensures c.least.ensures in
    let differ : c.args.test.now ≢ c.in_ok-first.first = λ e. (let t = c.same_test.ensures.1 e in false≢true (rw c.if-same_test.false at t)) in
    let l = later c.args.groups.now.ranks _ c.args.test.now (diagram c.args.nodes.now c.args.a) (diagram c.args.nodes.now c.args.b) c.in_ok-first.first i differ in
    let f = falls_both c.args.a c.args.b c.side-ay.result c.side-by.result _ _ c.side-ay.ensures.within c.side-by.ensures.within c.side-ay.ensures.falls c.side-by.ensures.falls l.1 in
    (omega (arith, f), record { first = side_argument c.args.groups.now c.args.ctx.now c.args.nodes.now c.in_ok-first.first true c.args.a c.side-ay.result c.requires.first c.side-ay.ensures.within c.side-ay.ensures.side; second = side_argument c.args.groups.now c.args.ctx.now c.args.nodes.now c.in_ok-first.first true c.args.b c.side-by.result c.requires.second c.side-by.ensures.within c.side-by.ensures.side; test = c.requires.test; known = c.requires.known })

pub picked_anew-picked_under-requires-2 : goal.picked_anew-picked_under-requires-2
picked_anew-picked_under-requires-2 t c =
    let i : IsLeast c.args.groups.now.ranks (sizes c.args.groups.now c.args.ctx.now) c.args.test.now (diagram c.args.nodes.now c.args.a) (diagram c.args.nodes.now c.args.b) c.in_ok-first.first = rw c.in_ok-first.ensures c.least.ensures in
    let differ : c.args.test.now ≢ c.in_ok-first.first = λ e. (let t = c.same_test.ensures.1 e in false≢true (rw c.if-same_test.false at t)) in
    let l = later c.args.groups.now.ranks _ c.args.test.now (diagram c.args.nodes.now c.args.a) (diagram c.args.nodes.now c.args.b) c.in_ok-first.first i differ in
    let f = falls_both c.args.a c.args.b c.side-an.result c.side-bn.result _ _ c.side-an.ensures.within c.side-bn.ensures.within c.side-an.ensures.falls c.side-bn.ensures.falls l.1 in
    let keep = argument_kept c.args.groups.now c.args.ctx.now c.args.nodes.now c.picked_under.new.nodes in (
      omega (arith, f),
      record {
        first = keep c.side-an.result c.picked_under.ensures.extends_arena (side_argument c.args.groups.now c.args.ctx.now c.args.nodes.now c.in_ok-first.first false c.args.a c.side-an.result c.requires.first c.side-an.ensures.within c.side-an.ensures.side);
        second = keep c.side-bn.result c.picked_under.ensures.extends_arena (side_argument c.args.groups.now c.args.ctx.now c.args.nodes.now c.in_ok-first.first false c.args.b c.side-bn.result c.requires.second c.side-bn.ensures.within c.side-bn.ensures.side);
        test = c.requires.test;
        known = c.in_ok-y.ensures.memo;
      },
    )

pub picked_anew-ask-requires-2-clause-yes : goal.picked_anew-ask-requires-2-clause-yes
picked_anew-ask-requires-2-clause-yes t c =
    argument_kept c.args.groups.now c.args.ctx.now c.picked_under.new.nodes c.picked_under-2.new.nodes c.in_ok-y.y c.picked_under-2.ensures.extends_arena (record { below = c.in_ok-y.ensures.number; keeps = c.in_ok-y.ensures.pick.keeps })

pub picked_anew-ask-requires-2-clause-above_yes : goal.picked_anew-ask-requires-2-clause-above_yes
picked_anew-ask-requires-2-clause-above_yes t c =
    let i : IsLeast c.args.groups.now.ranks (sizes c.args.groups.now c.args.ctx.now) c.args.test.now (diagram c.args.nodes.now c.args.a) (diagram c.args.nodes.now c.args.b) c.in_ok-first.first = rw c.in_ok-first.ensures c.least.ensures in
    let differ : c.args.test.now ≢ c.in_ok-first.first = λ e. (let t = c.same_test.ensures.1 e in false≢true (rw c.if-same_test.false at t)) in
    let l = later c.args.groups.now.ranks _ c.args.test.now (diagram c.args.nodes.now c.args.a) (diagram c.args.nodes.now c.args.b) c.in_ok-first.first i differ in
    let ky = kept c.picked_under.new.nodes c.picked_under-2.new.nodes c.in_ok-y.y c.picked_under-2.ensures.extends_arena c.in_ok-y.ensures.number in
    rw ky (c.in_ok-y.ensures.pick.above c.in_ok-first.first l.0 ((c.side-ay.ensures.side c.args.groups.now.ranks (sizes c.args.groups.now c.args.ctx.now) c.requires.first.keeps).over i.first) ((c.side-by.ensures.side c.args.groups.now.ranks (sizes c.args.groups.now c.args.ctx.now) c.requires.second.keeps).over i.second))

pub picked_anew-ask-requires-2-clause-above_no : goal.picked_anew-ask-requires-2-clause-above_no
picked_anew-ask-requires-2-clause-above_no t c =
    let i : IsLeast c.args.groups.now.ranks (sizes c.args.groups.now c.args.ctx.now) c.args.test.now (diagram c.args.nodes.now c.args.a) (diagram c.args.nodes.now c.args.b) c.in_ok-first.first = rw c.in_ok-first.ensures c.least.ensures in
    let differ : c.args.test.now ≢ c.in_ok-first.first = λ e. (let t = c.same_test.ensures.1 e in false≢true (rw c.if-same_test.false at t)) in
    let l = later c.args.groups.now.ranks _ c.args.test.now (diagram c.args.nodes.now c.args.a) (diagram c.args.nodes.now c.args.b) c.in_ok-first.first i differ in
    let ha : c.side-an.result < length c.args.nodes.now = omega (arith, c.side-an.ensures.within, c.requires.first.below) in
    let hb : c.side-bn.result < length c.args.nodes.now = omega (arith, c.side-bn.ensures.within, c.requires.second.below) in
    let ka = kept c.args.nodes.now c.picked_under.new.nodes c.side-an.result c.picked_under.ensures.extends_arena ha in
    let kb = kept c.args.nodes.now c.picked_under.new.nodes c.side-bn.result c.picked_under.ensures.extends_arena hb in
    let pn : IsPick c.args.groups.now.ranks (sizes c.args.groups.now c.args.ctx.now) (Where c.in_ok-first.first false) c.args.test.now (diagram c.args.nodes.now c.side-an.result) (diagram c.args.nodes.now c.side-bn.result) (diagram c.picked_under-2.new.nodes c.in_ok-n.n)
    = rw (sym ka, sym kb) c.in_ok-n.ensures.pick in
    pn.above c.in_ok-first.first l.0 ((c.side-an.ensures.side c.args.groups.now.ranks (sizes c.args.groups.now c.args.ctx.now) c.requires.first.keeps).over i.first) ((c.side-bn.ensures.side c.args.groups.now.ranks (sizes c.args.groups.now c.args.ctx.now) c.requires.second.keeps).over i.second)

pub picked_anew-returns-clause-pick : goal.picked_anew-returns-clause-pick
picked_anew-returns-clause-pick t c =
    let i : IsLeast c.args.groups.now.ranks (sizes c.args.groups.now c.args.ctx.now) c.args.test.now (diagram c.args.nodes.now c.args.a) (diagram c.args.nodes.now c.args.b) c.in_ok-first.first = rw c.in_ok-first.ensures c.least.ensures in
    let differ : c.args.test.now ≢ c.in_ok-first.first = λ e. (let t = c.same_test.ensures.1 e in false≢true (rw c.if-same_test.false at t)) in
    let l = later c.args.groups.now.ranks _ c.args.test.now (diagram c.args.nodes.now c.args.a) (diagram c.args.nodes.now c.args.b) c.in_ok-first.first i differ in
    let ha : c.side-an.result < length c.args.nodes.now = omega (arith, c.side-an.ensures.within, c.requires.first.below) in
    let hb : c.side-bn.result < length c.args.nodes.now = omega (arith, c.side-bn.ensures.within, c.requires.second.below) in
    let ka = kept c.args.nodes.now c.picked_under.new.nodes c.side-an.result c.picked_under.ensures.extends_arena ha in
    let kb = kept c.args.nodes.now c.picked_under.new.nodes c.side-bn.result c.picked_under.ensures.extends_arena hb in
    let ky = kept c.picked_under.new.nodes c.picked_under-2.new.nodes c.in_ok-y.y c.picked_under-2.ensures.extends_arena c.in_ok-y.ensures.number in
    let pn : IsPick c.args.groups.now.ranks (sizes c.args.groups.now c.args.ctx.now) (Where c.in_ok-first.first false) c.args.test.now (diagram c.args.nodes.now c.side-an.result) (diagram c.args.nodes.now c.side-bn.result) (diagram c.picked_under-2.new.nodes c.in_ok-n.n)
    = rw (sym ka, sym kb) c.in_ok-n.ensures.pick in
    IfOk-weaker c.ask-2.result _ _ (λ d p. picked_later c.args.groups.now.ranks _ Anywhere c.args.test.now c.in_ok-first.first (diagram c.args.nodes.now c.args.a) (diagram c.args.nodes.now c.args.b)
    (diagram c.args.nodes.now c.side-ay.result) (diagram c.args.nodes.now c.side-an.result) (diagram c.args.nodes.now c.side-by.result) (diagram c.args.nodes.now c.side-bn.result)
    (diagram c.picked_under.new.nodes c.in_ok-y.y) (diagram c.picked_under-2.new.nodes c.in_ok-n.n) (diagram c.ask-2.new.nodes d)
    l.0 l.1 i.first i.second (c.side-ay.ensures.side c.args.groups.now.ranks (sizes c.args.groups.now c.args.ctx.now) c.requires.first.keeps) (c.side-an.ensures.side c.args.groups.now.ranks (sizes c.args.groups.now c.args.ctx.now) c.requires.first.keeps) (c.side-by.ensures.side c.args.groups.now.ranks (sizes c.args.groups.now c.args.ctx.now) c.requires.second.keeps) (c.side-bn.ensures.side c.args.groups.now.ranks (sizes c.args.groups.now c.args.ctx.now) c.requires.second.keeps) c.in_ok-y.ensures.pick pn (rw (sym ky) p)) c.ask-2.ensures.pick

pub picked_anew-returns-then-same_test-clause-memo : goal.picked_anew-returns-then-same_test-clause-memo
picked_anew-returns-then-same_test-clause-memo t c =
    IfOk-weaker c.ask.result _ _ (λ d p. memo_kept c.args.groups.now.ranks (sizes c.args.groups.now c.args.ctx.now) c.args.test.now c.args.nodes.now c.ask.new.nodes c.args.memo.now c.ask.ensures.extends_arena c.requires.known) c.ask.ensures.number

pub picked_anew-returns-clause-memo : goal.picked_anew-returns-clause-memo
picked_anew-returns-clause-memo t c =
    IfOk-weaker c.ask-2.result _ _ (λ d p. memo_kept c.args.groups.now.ranks (sizes c.args.groups.now c.args.ctx.now) c.args.test.now c.picked_under-2.new.nodes c.ask-2.new.nodes c.picked_under-2.new.memo c.ask-2.ensures.extends_arena c.in_ok-n.ensures.memo) c.ask-2.ensures.number

pub picked-returns-in-Some-clause-number : goal.picked-returns-in-Some-clause-number
picked-returns-in-Some-clause-number t c = (c.requires.known (c.args.a ∷ c.args.b ∷ []) c.in-Some.d (sym c.in-Some.ensures)).number

pub picked-returns-in-Some-clause-pick : goal.picked-returns-in-Some-clause-pick
picked-returns-in-Some-clause-pick t c = (c.requires.known (c.args.a ∷ c.args.b ∷ []) c.in-Some.d (sym c.in-Some.ensures)).pick

pub picked-returns-clause-memo : goal.picked-returns-clause-memo
picked-returns-clause-memo t c =
    remembers_more (PickedFor c.args.groups.now.ranks (sizes c.args.groups.now c.args.ctx.now) c.args.test.now c.picked_anew.new.nodes) c.picked_anew.new.memo c.put.new.self (c.args.a ∷ c.args.b ∷ []) c.in_ok-d.d c.in_ok-d.ensures.memo
    (picked_now c.args.groups.now.ranks (sizes c.args.groups.now c.args.ctx.now) c.args.test.now c.args.nodes.now c.picked_anew.new.nodes c.args.a c.args.b c.in_ok-d.d c.picked_anew.ensures.extends_arena c.requires.first.below c.requires.second.below c.in_ok-d.ensures.number c.in_ok-d.ensures.pick)
    c.in_ok-put.ensures.ok
