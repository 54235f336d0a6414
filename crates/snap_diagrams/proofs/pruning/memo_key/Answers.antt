-- The mark is that of the number's place, and there is room for its diagram's tests.
use Rattle.std.proofs.Common.{◌≡◌, ◌≤◌, ◌^◌, ◌∷◌, ℕ, List, length, subst, arith, Option, Some, None}
use Rattle.std.specs.Prelude.{Result, Ok, Err, IfOk, IfSome, slice_get}
use Rattle.std.specs.Global.{Vec}
use Rattle.snap_context.specs.declared.fact.Fact.{Fact}
use Rattle.snap_context.specs.Known.{IsKnown}
use Rattle.snap_context.specs.declared.tested.Tested.{Tested}
use Rattle.snap_diagrams.specs.Memoed.{IsKey}
use Rattle.snap_diagrams.proofs.Quieting.{depth_le}
use Rattle.snap_diagrams.proofs.pruning.memo_key.Goals as goal

behind : {E : Type 0} (r : Result (Option (Vec ℕ)) E) (P Q : List ℕ → Type 0) (place : ℕ) → ((key q : List ℕ) → key ≡ place ∷ q → P q → Q key)
    → IfOk r (λ o. IfSome o (λ key. (q : List ℕ) × (key.items ≡ place ∷ q) × P q)) → IfOk r (λ o. IfSome o (λ key. Q key.items))
behind (Ok (Some key)) P Q place f h = f key.items h.0 h.1 h.2
behind (Ok None) P Q place f h = tt
behind (Err e) P Q place f h = tt

pub returns-in-Some-noted_mark : goal.returns-in-Some-noted_mark
returns-in-Some-noted_mark c =
    let place = c.in-Some.place in
    let mark = c.in-Some-noted_mark.mark in
    let low = depth_le c.args.nodes.now c.count-arena.ensures.arena c.args.d c.requires.d in
    let count : length c.facts.result.now ≤ 2 ^ 31 = omega (arith, c.len.ensures, c.if-len-gt-MOST_FACTS.false) in
    let at : slice_get c.args.plan.now.tested.items place ≡ Some (Some mark)
    = subst (λ (marks : List (Option Tested)). slice_get marks place ≡ Some (Some mark)) c.deref-2.ensures.value c.in-Some-noted_mark.ensures in
    behind c.known.result (IsKnown c.args.ctx.now mark.comps mark.arrays) (IsKey c.args.plan.now c.args.nodes.now c.args.ctx.now c.args.d) place
    (λ key q is k. record {
      place = place;
      told = q;
      tested = mark;
      is = is;
      noted = record { number = c.in-Some.ensures; mark = at };
      tells = record {
        context = c.known.ensures.context;
        few = subst (λ (fs : List Fact). length fs ≤ 2 ^ 31) c.facts.ensures.facts count;
        low = omega (arith, low, c.if-d-gt-MOST_NODES.false);
        over = (c.requires.plan.tested place c.args.d (Some mark) c.in-Some.ensures at).1;
        known = k;
      };
    })
    c.known.ensures.known
