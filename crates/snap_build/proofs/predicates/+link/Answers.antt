-- A predicate's parts, and their links.
use Rattle.std.proofs.Common.{◌≡◌, ◌<◌, ◌++◌, ◌∷◌, [], false, true, sym, ap, subst, ◌∙◌, arith, bit_or, rules}
use Rattle.std.specs.Prelude.{All, not}
use Rattle.std.proofs.lemmas.Result.{IfOk-weaker}
use Rattle.std.proofs.lemmas.Nat.{pow_below}
use Rattle.snap_core.specs.declared.policy.Pred.{size-Pred, the_lemmas}
use Rattle.snap_core.specs.Meaning.{truth, vars_of}
use Rattle.snap_diagrams.specs.Picks.{sizes}
use Rattle.snap_build.specs.Chains.{AreLinks, IsLink, IsSplit, joined}
use Rattle.snap_build.specs.Parts.{PredIn}
use Rattle.snap_build.proofs.Chained.{chain_told, one_link, own_kept, own_link, pair_told, pushed_all, pushed_links, true_link, turned_told}
use Rattle.snap_build.proofs.predicates.+link.Goals as goal

pub link-tested-requires-in-State-clause-reads : goal.link-tested-requires-in-State-clause-reads
link-tested-requires-in-State-clause-reads t c =
    let h = subst (PredIn (sizes c.args.groups.now c.args.ctx.now)) c.in-State.is c.requires in
    rw c.bit.ensures (pow_below c.in-State.var _ h.0)

pub link-turned-requires : goal.link-turned-requires
link-turned-requires t c = own_link c.args.groups.now c.args.ctx.now _ _ c.link.new.nodes c.in_ok-part-in-Not.part c.in_ok-part-in-Not.ensures.link

pub link-returns-in_ok-part-in-Not-clause-link : goal.link-returns-in_ok-part-in-Not-clause-link
link-returns-in_ok-part-in-Not-clause-link t c =
    let x = c.args.pred.now in let y = c.deref.result.now in
    IfOk-weaker c.turned.result _ _ (λ l h. turned_told c.args.groups.now c.args.ctx.now x y c.link.new.nodes c.turned.new.nodes c.in_ok-part-in-Not.part l
    (λ m k. ap (λ q. truth q m k) c.in-Not.is ∙ ap (λ q. not (truth q m k)) (sym c.deref.ensures)) (ap vars_of c.in-Not.is ∙ ap vars_of (sym c.deref.ensures)) c.in_ok-part-in-Not.ensures.link h) c.turned.ensures.link

pub link-chain-requires : goal.link-chain-requires
link-chain-requires t c =
    let s = sizes c.args.groups.now c.args.ctx.now in
    let fits = subst (PredIn s) c.in-And.is c.requires in
    let first : size-Pred c.deref-in-And.result.now < size-Pred c.args.pred.now = search (rules, the_lemmas) in
    let second : size-Pred c.deref-in-And-2.result.now < size-Pred c.args.pred.now = search (rules, the_lemmas) in
    (omega (arith, first, second), (subst (PredIn s) (sym c.deref-in-And.ensures) fits.0, subst (PredIn s) (sym c.deref-in-And-2.ensures) fits.1))

pub link-chain-requires-in-Or : goal.link-chain-requires-in-Or
link-chain-requires-in-Or t c =
    let s = sizes c.args.groups.now c.args.ctx.now in
    let fits = subst (PredIn s) c.in-Or.is c.requires in
    let first : size-Pred c.deref-in-Or.result.now < size-Pred c.args.pred.now = search (rules, the_lemmas) in
    let second : size-Pred c.deref-in-Or-2.result.now < size-Pred c.args.pred.now = search (rules, the_lemmas) in
    (omega (arith, first, second), (subst (PredIn s) (sym c.deref-in-Or.ensures) fits.0, subst (PredIn s) (sym c.deref-in-Or-2.ensures) fits.1))

pub link-returns-in-And-clause-link : goal.link-returns-in-And-clause-link
link-returns-in-And-clause-link t c =
    let x = c.deref-in-And.ensures in let y = c.deref-in-And-2.ensures in
    IfOk-weaker c.chain.result _ _ (λ l h. true_link c.args.groups.now c.args.ctx.now c.args.pred.now _ _ c.chain.new.nodes l
    (λ m k. ap (λ q. truth q m k) c.in-And.is ∙ (λ i. joined false (truth (sym x i) m k) (truth (sym y i) m k))) (λ m k. ap vars_of c.in-And.is ∙ (λ i. bit_or (vars_of (sym x i)) (vars_of (sym y i)))) h) c.chain.ensures.link

pub link-returns-in-Or-clause-link : goal.link-returns-in-Or-clause-link
link-returns-in-Or-clause-link t c =
    let x = c.deref-in-Or.ensures in let y = c.deref-in-Or-2.ensures in
    IfOk-weaker c.chain-in-Or.result _ _ (λ l h. true_link c.args.groups.now c.args.ctx.now c.args.pred.now _ _ c.chain-in-Or.new.nodes l
    (λ m k. ap (λ q. truth q m k) c.in-Or.is ∙ (λ i. joined true (truth (sym x i) m k) (truth (sym y i) m k))) (λ m k. ap vars_of c.in-Or.is ∙ (λ i. bit_or (vars_of (sym x i)) (vars_of (sym y i)))) h) c.chain-in-Or.ensures.link

pub chain-join_two-requires-clause-a : goal.chain-join_two-requires-clause-a
chain-join_two-requires-clause-a t c =
    let g = c.args.groups.now in let v = c.args.ctx.now in
    own_kept g v c.link.new.nodes c.link-then-is_none.new.nodes c.in_ok-first.first c.link-then-is_none.ensures.extends_arena (own_link g v _ _ c.link.new.nodes c.in_ok-first.first c.in_ok-first.ensures.link)

pub chain-returns-then-is_none-clause-link : goal.chain-returns-then-is_none-clause-link
chain-returns-then-is_none-clause-link t c =
    IfOk-weaker c.join_two.result _ _ (λ l h. pair_told c.args.any c.args.groups.now c.args.ctx.now c.args.left.now c.args.right.now c.link.new.nodes c.link-then-is_none.new.nodes c.join_two.new.nodes c.in_ok-first.first c.in_ok-second.second l
    c.link-then-is_none.ensures.extends_arena c.in_ok-first.ensures.link c.in_ok-second.ensures.link h) c.join_two.ensures.link

pub chain-join_all-requires-clause-links : goal.chain-join_all-requires-clause-links
chain-join_all-requires-clause-links t c =
    let g = c.args.groups.now in let v = c.args.ctx.now in
    subst (All (IsLink g v c.link-2.new.nodes)) (sym (c.deref.ensures.value ∙ c.in_ok-push.ensures.items))
    (pushed_links c.args.any g v c.args.left.now c.args.right.now c.links.new.nodes c.link-2.new.nodes c.in_ok-links.links.items c.in_ok-last.last c.link-2.ensures.extends_arena c.in_ok-links.ensures.links c.in_ok-last.ensures.link)

pub chain-returns-clause-link : goal.chain-returns-clause-link
chain-returns-clause-link t c =
    IfOk-weaker c.join_all.result _ _ (λ l h. chain_told c.args.any c.args.groups.now c.args.ctx.now c.args.left.now c.args.right.now c.links.new.nodes c.link-2.new.nodes c.join_all.new.nodes c.in_ok-links.links.items c.deref.result.now c.in_ok-last.last l
    c.link-2.ensures.extends_arena c.in_ok-links.ensures.links c.in_ok-last.ensures.link (c.deref.ensures.value ∙ c.in_ok-push.ensures.items) h) c.join_all.ensures.link

pub links-links-requires : goal.links-links-requires
links-links-requires t c =
    let s = sizes c.args.groups.now c.args.ctx.now in
    let parts : IsSplit c.args.any c.args.pred.now c.in-Some.left.now c.in-Some.right.now = c.in-Some.ensures in
    let less = parts.left in
    (omega (arith, less), (parts.fits s c.requires).0)

pub links-link-requires-in-Some : goal.links-link-requires-in-Some
links-link-requires-in-Some t c =
    let s = sizes c.args.groups.now c.args.ctx.now in
    let parts : IsSplit c.args.any c.args.pred.now c.in-Some.left.now c.in-Some.right.now = c.in-Some.ensures in
    let less = parts.right in
    (omega (arith, less), (parts.fits s c.requires).1)

pub links-returns-in_ok-push-in-None-clause-links : goal.links-returns-in_ok-push-in-None-clause-links
links-returns-in_ok-push-in-None-clause-links t c =
    let g = c.args.groups.now in let v = c.args.ctx.now in
    let items : c.push.new.self.items ≡ c.in_ok-only-in-None.only ∷ [] = c.in_ok-push-in-None.ensures.items ∙ ap (λ ls. ls ++ c.in_ok-only-in-None.only ∷ []) c.new-links.ensures.items in
    subst (AreLinks c.args.any g v c.args.pred.now c.link.new.nodes) (sym items) (one_link c.args.any g v c.args.pred.now c.link.new.nodes c.in_ok-only-in-None.only c.in_ok-only-in-None.ensures.link)

pub links-returns-in_ok-push-in-Some-clause-links : goal.links-returns-in_ok-push-in-Some-clause-links
links-returns-in_ok-push-in-Some-clause-links t c =
    let parts : IsSplit c.args.any c.args.pred.now c.in-Some.left.now c.in-Some.right.now = c.in-Some.ensures in
    pushed_all c.args.any c.args.groups.now c.args.ctx.now c.args.pred.now c.in-Some.left.now c.in-Some.right.now c.links.new.nodes c.link-in-Some.new.nodes c.in_ok-links-in-Some.links.items c.push-in-Some.new.self.items c.in_ok-last-in-Some.last
    parts c.link-in-Some.ensures.extends_arena c.in_ok-links-in-Some.ensures.links c.in_ok-last-in-Some.ensures.link c.in_ok-push-in-Some.ensures.items
