-- One way, the other, or both.
use Rattle.std.proofs.Common.{◌<◌, ℕ, List, Option, refl, sym, subst, arith, length, true, false}
use Rattle.std.specs.Global.{Vec}
use Rattle.std.specs.Prelude.{IfSome}
use Rattle.snap_diagrams.proofs.Remembering.{remembers_more}
use Rattle.snap_context.specs.View.{View}
use Rattle.snap_diagrams.specs.Forgotten.{IsForgotten}
use Rattle.snap_diagrams.proofs.Forgotten.{asked_lean, memo_lean, pruned_lean}
use Rattle.snap_diagrams.specs.Memoed.{IsKey, PrunedFor}
use Rattle.std.proofs.lemmas.Result.{IfOk-weaker}
use Rattle.snap_context.specs.Answers.{IsAssumed}
use Rattle.snap_diagrams.specs.Diagrams.{diagram}
use Rattle.snap_diagrams.specs.Picks.{IsDiagram, sizes}
use Rattle.snap_diagrams.specs.Pruned.{IsPart, IsPruned}
use Rattle.snap_diagrams.proofs.Picking.{no_part, yes_part}
use Rattle.snap_diagrams.proofs.Alike.{memo_back, memo_under, plan_kept, pruned_before, pruned_memo_kept, pruned_now}
use Rattle.snap_diagrams.proofs.Shared.{kept, still_below, argument_kept}
use Rattle.snap_core.proofs.Results.{IfOk-both}
use Rattle.snap_diagrams.proofs.Cutting.{IsMore, under_more, keeps_of, pruned_no, pruned_yes, pruned_both}
use Rattle.snap_diagrams.proofs.pruning.+pruned.Goals as goal

pub pruned_anew-pruned-requires-in-More-2-2 : goal.pruned_anew-pruned-requires-in-More-2-2
pruned_anew-pruned-requires-in-More-2-2 t c =
    let part = subst (IsPart c.args.nodes.now c.args.d) c.in-Split.is c.in_ok-part_of.ensures in
    let j = subst (IsDiagram c.args.groups.now.ranks (sizes c.args.groups.now c.args.ctx.now)) part.0 c.requires.first.keeps in
    let o = j.ordered in
    let a2 = subst (IsAssumed c.args.ctx.now c.in-Split.test false) c.in-More-2.is c.in_ok-assume-in-More.ensures in
    let m2 : IsMore c.args.ctx.now c.in-More-2.no_ctx c.in-Split.test false = record { facts = a2.0; count = a2.1; met = a2.2 } in
    let a1 = subst (IsAssumed c.args.ctx.now c.in-Split.test true) c.in-More.is c.in_ok-assume-in-Split.ensures in
    let m1 : IsMore c.args.ctx.now c.in-More.yes_ctx c.in-Split.test true = record { facts = a1.0; count = a1.1; met = a1.2 } in
    let hn : c.in-Split.no < length c.args.nodes.now = omega (arith, part.2, c.requires.first.below) in
    let kn = kept c.args.nodes.now c.pruned-in-More-2.new.nodes c.in-Split.no c.pruned-in-More-2.ensures.extends_arena hn in
    let under = under_more c.args.groups.now c.args.ctx.now c.in-More-2.no_ctx c.in-Split.test false (diagram c.args.nodes.now c.in-Split.no) m2 (no_part c.args.groups.now.ranks (sizes c.args.groups.now c.args.ctx.now) _ _ _ j) in (
      omega (arith, part.2, c.decreases),
      record {
        first = record { below = still_below _ _ _ c.pruned-in-More-2.ensures.extends_arena hn; keeps = rw kn under };
        planned = plan_kept c.args.plan.now c.args.nodes.now c.pruned-in-More-2.new.nodes c.pruned-in-More-2.ensures.extends_arena c.requires.planned;
        known = memo_under c.args.groups.now c.args.plan.now c.pruned-in-More-2.new.nodes c.pruned-in-More-2.new.memo c.args.ctx.now c.in-More-2.no_ctx c.in-Split.test false m2
            (memo_back c.args.groups.now c.args.plan.now c.pruned-in-More-2.new.nodes c.pruned-in-More-2.new.memo c.args.ctx.now c.in-More.yes_ctx c.in-Split.test true m1 c.in_ok-y-in-More-2.ensures.memo);
      },
    )

pub pruned_anew-pruned-requires-in-More-2 : goal.pruned_anew-pruned-requires-in-More-2
pruned_anew-pruned-requires-in-More-2 t c =
    let part = subst (IsPart c.args.nodes.now c.args.d) c.in-Split.is c.in_ok-part_of.ensures in
    let j = subst (IsDiagram c.args.groups.now.ranks (sizes c.args.groups.now c.args.ctx.now)) part.0 c.requires.first.keeps in
    let a1 = subst (IsAssumed c.args.ctx.now c.in-Split.test true) c.in-More.is c.in_ok-assume-in-Split.ensures in
    let m1 : IsMore c.args.ctx.now c.in-More.yes_ctx c.in-Split.test true = record { facts = a1.0; count = a1.1; met = a1.2 } in (
      omega (arith, part.1, c.decreases),
      record {
        first = record {
          below = omega (arith, part.1, c.requires.first.below);
          keeps = under_more c.args.groups.now c.args.ctx.now c.in-More.yes_ctx c.in-Split.test true (diagram c.args.nodes.now c.in-Split.yes) m1 (yes_part c.args.groups.now.ranks (sizes c.args.groups.now c.args.ctx.now) _ _ _ j);
        };
        planned = c.requires.planned;
        known = memo_under c.args.groups.now c.args.plan.now c.args.nodes.now c.args.memo.now c.args.ctx.now c.in-More.yes_ctx c.in-Split.test true m1 c.requires.known;
      },
    )

pub pruned_anew-ask-requires-clause-yes : goal.pruned_anew-ask-requires-clause-yes
pruned_anew-ask-requires-clause-yes t c =
    let a1 = subst (IsAssumed c.args.ctx.now c.in-Split.test true) c.in-More.is c.in_ok-assume-in-Split.ensures in
    let m1 : IsMore c.args.ctx.now c.in-More.yes_ctx c.in-Split.test true = record { facts = a1.0; count = a1.1; met = a1.2 } in
    argument_kept c.args.groups.now c.args.ctx.now c.pruned-in-More-2.new.nodes c.pruned-in-More-2-2.new.nodes c.in_ok-y-in-More-2.y c.pruned-in-More-2-2.ensures.extends_arena
    (record { below = c.in_ok-y-in-More-2.ensures.number; keeps = keeps_of c.args.groups.now c.args.ctx.now c.in-More.yes_ctx c.in-Split.test true (diagram c.args.nodes.now c.in-Split.yes) (diagram c.pruned-in-More-2.new.nodes c.in_ok-y-in-More-2.y) m1 c.in_ok-y-in-More-2.ensures.pruned })

pub pruned_anew-ask-requires-clause-above_yes : goal.pruned_anew-ask-requires-clause-above_yes
pruned_anew-ask-requires-clause-above_yes t c =
    let part = subst (IsPart c.args.nodes.now c.args.d) c.in-Split.is c.in_ok-part_of.ensures in
    let j = subst (IsDiagram c.args.groups.now.ranks (sizes c.args.groups.now c.args.ctx.now)) part.0 c.requires.first.keeps in
    let o = j.ordered in
    let ky = kept c.pruned-in-More-2.new.nodes c.pruned-in-More-2-2.new.nodes c.in_ok-y-in-More-2.y c.pruned-in-More-2-2.ensures.extends_arena c.in_ok-y-in-More-2.ensures.number in
    rw ky (c.in_ok-y-in-More-2.ensures.pruned.above c.in-Split.test o.0)

pub pruned_anew-ask-requires-clause-above_no : goal.pruned_anew-ask-requires-clause-above_no
pruned_anew-ask-requires-clause-above_no t c =
    let part = subst (IsPart c.args.nodes.now c.args.d) c.in-Split.is c.in_ok-part_of.ensures in
    let j = subst (IsDiagram c.args.groups.now.ranks (sizes c.args.groups.now c.args.ctx.now)) part.0 c.requires.first.keeps in
    let o = j.ordered in
    let hn : c.in-Split.no < length c.args.nodes.now = omega (arith, part.2, c.requires.first.below) in
    let kn = kept c.args.nodes.now c.pruned-in-More-2.new.nodes c.in-Split.no c.pruned-in-More-2.ensures.extends_arena hn in
    let pn : IsPruned c.args.groups.now.ranks (sizes c.args.groups.now c.in-More-2.no_ctx) c.in-More-2.no_ctx (diagram c.args.nodes.now c.in-Split.no) (diagram c.pruned-in-More-2-2.new.nodes c.in_ok-n-in-More-2.n)
    = rw (sym kn) c.in_ok-n-in-More-2.ensures.pruned in
    pn.above c.in-Split.test o.1

pub pruned_anew-returns-in-Impossible-clause-pruned : goal.pruned_anew-returns-in-Impossible-clause-pruned
pruned_anew-returns-in-Impossible-clause-pruned t c =
    let part = subst (IsPart c.args.nodes.now c.args.d) c.in-Split.is c.in_ok-part_of.ensures in
    let none = subst (IsAssumed c.args.ctx.now c.in-Split.test true) c.in-Impossible.is c.in_ok-assume-in-Split.ensures in
    IfOk-weaker c.pruned.result _ _ (λ r p. pruned_no c.args.groups.now.ranks (sizes c.args.groups.now c.args.ctx.now) c.args.ctx.now c.in-Split.test (diagram c.args.nodes.now c.in-Split.yes) (diagram c.args.nodes.now c.in-Split.no) (diagram c.args.nodes.now c.args.d) (diagram c.pruned.new.nodes r) part.0 c.requires.first.keeps none p) c.pruned.ensures.pruned

pub pruned_anew-returns-in-Impossible-2-clause-pruned : goal.pruned_anew-returns-in-Impossible-2-clause-pruned
pruned_anew-returns-in-Impossible-2-clause-pruned t c =
    let part = subst (IsPart c.args.nodes.now c.args.d) c.in-Split.is c.in_ok-part_of.ensures in
    let none = subst (IsAssumed c.args.ctx.now c.in-Split.test false) c.in-Impossible-2.is c.in_ok-assume-in-More.ensures in
    IfOk-weaker c.pruned-in-Impossible-2.result _ _ (λ r p. pruned_yes c.args.groups.now.ranks (sizes c.args.groups.now c.args.ctx.now) c.args.ctx.now c.in-Split.test (diagram c.args.nodes.now c.in-Split.yes) (diagram c.args.nodes.now c.in-Split.no) (diagram c.args.nodes.now c.args.d) (diagram c.pruned-in-Impossible-2.new.nodes r) part.0 c.requires.first.keeps none p) c.pruned-in-Impossible-2.ensures.pruned

pub pruned_anew-returns-in_ok-n-in-More-2-clause-pruned : goal.pruned_anew-returns-in_ok-n-in-More-2-clause-pruned
pruned_anew-returns-in_ok-n-in-More-2-clause-pruned t c =
    let part = subst (IsPart c.args.nodes.now c.args.d) c.in-Split.is c.in_ok-part_of.ensures in
    let a1 = subst (IsAssumed c.args.ctx.now c.in-Split.test true) c.in-More.is c.in_ok-assume-in-Split.ensures in
    let m1 : IsMore c.args.ctx.now c.in-More.yes_ctx c.in-Split.test true = record { facts = a1.0; count = a1.1; met = a1.2 } in
    let a2 = subst (IsAssumed c.args.ctx.now c.in-Split.test false) c.in-More-2.is c.in_ok-assume-in-More.ensures in
    let m2 : IsMore c.args.ctx.now c.in-More-2.no_ctx c.in-Split.test false = record { facts = a2.0; count = a2.1; met = a2.2 } in
    let hn : c.in-Split.no < length c.args.nodes.now = omega (arith, part.2, c.requires.first.below) in
    let kn = kept c.args.nodes.now c.pruned-in-More-2.new.nodes c.in-Split.no c.pruned-in-More-2.ensures.extends_arena hn in
    let ky = kept c.pruned-in-More-2.new.nodes c.pruned-in-More-2-2.new.nodes c.in_ok-y-in-More-2.y c.pruned-in-More-2-2.ensures.extends_arena c.in_ok-y-in-More-2.ensures.number in
    let pn : IsPruned c.args.groups.now.ranks (sizes c.args.groups.now c.in-More-2.no_ctx) c.in-More-2.no_ctx (diagram c.args.nodes.now c.in-Split.no) (diagram c.pruned-in-More-2-2.new.nodes c.in_ok-n-in-More-2.n)
    = rw (sym kn) c.in_ok-n-in-More-2.ensures.pruned in
    IfOk-both c.ask.result _ _ _ (λ r p h. pruned_both c.args.groups.now.ranks (sizes c.args.groups.now c.args.ctx.now) _ _ c.args.ctx.now c.in-More.yes_ctx c.in-More-2.no_ctx c.in-Split.test (diagram c.args.nodes.now c.in-Split.yes) (diagram c.args.nodes.now c.in-Split.no) (diagram c.args.nodes.now c.args.d)
    (diagram c.pruned-in-More-2.new.nodes c.in_ok-y-in-More-2.y) (diagram c.pruned-in-More-2-2.new.nodes c.in_ok-n-in-More-2.n) (diagram c.ask.new.nodes r) part.0 c.requires.first.keeps m1 m2 c.in_ok-y-in-More-2.ensures.pruned pn (rw (sym ky) p) (rw (sym ky) h)) c.ask.ensures.pick c.ask.ensures.shape

pub pruned_anew-returns-in_ok-n-in-More-2-clause-memo : goal.pruned_anew-returns-in_ok-n-in-More-2-clause-memo
pruned_anew-returns-in_ok-n-in-More-2-clause-memo t c =
    let a2 = subst (IsAssumed c.args.ctx.now c.in-Split.test false) c.in-More-2.is c.in_ok-assume-in-More.ensures in
    let m2 : IsMore c.args.ctx.now c.in-More-2.no_ctx c.in-Split.test false = record { facts = a2.0; count = a2.1; met = a2.2 } in
    IfOk-weaker c.ask.result _ _ (λ d p. pruned_memo_kept c.args.groups.now.ranks (sizes c.args.groups.now c.args.ctx.now) c.args.plan.now c.pruned-in-More-2-2.new.nodes c.ask.new.nodes c.pruned-in-More-2-2.new.memo c.ask.ensures.extends_arena
    (memo_back c.args.groups.now c.args.plan.now c.pruned-in-More-2-2.new.nodes c.pruned-in-More-2-2.new.memo c.args.ctx.now c.in-More-2.no_ctx c.in-Split.test false m2 c.in_ok-n-in-More-2.ensures.memo)) c.ask.ensures.number

pub pruned_under-returns-in-Some-get-clause-number : goal.pruned_under-returns-in-Some-get-clause-number
pruned_under-returns-in-Some-get-clause-number t c =
    let k = subst (λ (o : Option (Vec ℕ)). IfSome o (λ key. IsKey c.args.plan.now c.args.nodes.now c.args.ctx.now c.args.d key.items)) c.in-Some.is c.in_ok-key.ensures in
    (pruned_before c.args.groups.now.ranks (sizes c.args.groups.now c.args.ctx.now) c.args.plan.now c.args.nodes.now c.args.ctx.now c.args.d c.in-Some.key.items c.in-Some-get.r refl c.requires.first.keeps k
    (subst (λ (q : List ℕ). PrunedFor c.args.groups.now.ranks (sizes c.args.groups.now c.args.ctx.now) c.args.plan.now c.args.nodes.now q c.in-Some-get.r) c.deref.ensures.value
    (c.requires.known c.deref.result.now c.in-Some-get.r (sym c.in-Some-get.ensures)))).0

pub pruned_under-returns-in-Some-get-clause-pruned : goal.pruned_under-returns-in-Some-get-clause-pruned
pruned_under-returns-in-Some-get-clause-pruned t c =
    let k = subst (λ (o : Option (Vec ℕ)). IfSome o (λ key. IsKey c.args.plan.now c.args.nodes.now c.args.ctx.now c.args.d key.items)) c.in-Some.is c.in_ok-key.ensures in
    (pruned_before c.args.groups.now.ranks (sizes c.args.groups.now c.args.ctx.now) c.args.plan.now c.args.nodes.now c.args.ctx.now c.args.d c.in-Some.key.items c.in-Some-get.r refl c.requires.first.keeps k
    (subst (λ (q : List ℕ). PrunedFor c.args.groups.now.ranks (sizes c.args.groups.now c.args.ctx.now) c.args.plan.now c.args.nodes.now q c.in-Some-get.r) c.deref.ensures.value
    (c.requires.known c.deref.result.now c.in-Some-get.r (sym c.in-Some-get.ensures)))).1

pub pruned_under-returns-clause-memo : goal.pruned_under-returns-clause-memo
pruned_under-returns-clause-memo t c =
    let k = subst (λ (o : Option (Vec ℕ)). IfSome o (λ key. IsKey c.args.plan.now c.args.nodes.now c.args.ctx.now c.args.d key.items)) c.in-Some.is c.in_ok-key.ensures in
    remembers_more (PrunedFor c.args.groups.now.ranks (sizes c.args.groups.now c.args.ctx.now) c.args.plan.now c.pruned_anew-2.new.nodes) c.pruned_anew-2.new.memo c.put.new.self c.in-Some.key.items c.in_ok-r.r c.in_ok-r.ensures.memo
    (pruned_now c.args.groups.now.ranks (sizes c.args.groups.now c.args.ctx.now) c.args.plan.now c.args.nodes.now c.pruned_anew-2.new.nodes c.args.ctx.now c.args.d c.in-Some.key.items c.in_ok-r.r c.in_ok-r.ensures.extends_arena c.requires.first.below c.in_ok-r.ensures.number refl k c.in_ok-r.ensures.pruned)
    c.in_ok-put.ensures.ok

pub pruned-pruned_under-requires : goal.pruned-pruned_under-requires
pruned-pruned_under-requires t c =
    let f = subst (λ (o : Option View). IfSome o (λ lean. IsForgotten c.args.groups.now.ranks c.args.ctx.now lean (diagram c.args.nodes.now c.args.d))) c.in-Some.is c.in_ok-lean.ensures in (
      omega (arith, c.decreases),
      asked_lean c.args.groups.now c.args.ctx.now c.in-Some.lean (diagram c.args.nodes.now c.args.d) f c.args.plan.now c.args.nodes.now c.args.memo.now c.args.d c.requires,
    )

pub pruned-returns-in-Some-clause-pruned : goal.pruned-returns-in-Some-clause-pruned
pruned-returns-in-Some-clause-pruned t c =
    let f = subst (λ (o : Option View). IfSome o (λ lean. IsForgotten c.args.groups.now.ranks c.args.ctx.now lean (diagram c.args.nodes.now c.args.d))) c.in-Some.is c.in_ok-lean.ensures in
    IfOk-weaker c.pruned_under.result _ _ (λ r p. pruned_lean c.args.groups.now c.args.ctx.now c.in-Some.lean (diagram c.args.nodes.now c.args.d) f (diagram c.pruned_under.new.nodes r) p) c.pruned_under.ensures.pruned

pub pruned-returns-in-Some-clause-memo : goal.pruned-returns-in-Some-clause-memo
pruned-returns-in-Some-clause-memo t c =
    let f = subst (λ (o : Option View). IfSome o (λ lean. IsForgotten c.args.groups.now.ranks c.args.ctx.now lean (diagram c.args.nodes.now c.args.d))) c.in-Some.is c.in_ok-lean.ensures in
    IfOk-weaker c.pruned_under.result _ _ (λ r p. memo_lean c.args.groups.now c.args.ctx.now c.in-Some.lean (diagram c.args.nodes.now c.args.d) f c.args.plan.now c.pruned_under.new.nodes c.pruned_under.new.memo p) c.pruned_under.ensures.memo
