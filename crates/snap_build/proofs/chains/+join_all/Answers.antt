-- One link, or both halves.
use Rattle.std.proofs.Common.{◌≡◌, ◌++◌, List, [], ◌∷◌, get_or, length, refl, sym, subst, ◌∙◌, arith, take-append-drop}
use Rattle.std.specs.Prelude.{All}
use Rattle.std.proofs.lemmas.List.Elements.{All-drop, All-take}
use Rattle.std.proofs.lemmas.Result.{IfOk-weaker}
use Rattle.snap_build.specs.declared.chains.Link.{Link}
use Rattle.snap_build.specs.Chains.{holding, reading, IsLink}
use Rattle.snap_build.proofs.Chained.{holding_kept, link_kept, link_same, links_kept, only_link, own_kept, own_link, reading_kept, two_links, whole_chain}
use Rattle.snap_build.proofs.chains.+join_all.Goals as goal

alone : (ls : List Link) (d : Link) → length ls ≡ 1 → ls ≡ get_or ls 0 d ∷ []
alone [] d one = absurd (let z : ⊥ = omega (arith, one) in z)
alone (l ∷ []) d one = refl
alone (l ∷ k ∷ ls) d one = absurd (let z : ⊥ = omega (arith, one) in z)

pub join_all-requires : goal.join_all-requires
join_all-requires t c =
    let L = IsLink c.args.groups.now c.args.ctx.now c.args.nodes.now in
    let n = c.split_at.ensures.front_len in let cut = c.cut.ensures in (
      omega (arith, n, cut, c.decreases),
      (omega (arith, n, cut), subst (All L) (sym c.split_at.ensures.front) (All-take L _ c.args.links.now c.requires.links)),
    )

pub join_all-requires-2 : goal.join_all-requires-2
join_all-requires-2 t c =
    let g = c.args.groups.now in let v = c.args.ctx.now in
    let L = IsLink g v c.join_all.new.nodes in
    let n = c.split_at.ensures.back_len in let cut = c.cut.ensures in (
      omega (arith, n, cut, c.decreases),
      (
        omega (arith, n, cut),
        subst (All L) (sym c.split_at.ensures.back) (All-drop L _ c.args.links.now (links_kept g v c.args.nodes.now c.join_all.new.nodes c.args.links.now c.join_all.ensures.extends_arena c.requires.links)),
      ),
    )

pub join_two-requires : goal.join_two-requires
join_two-requires t c =
    let g = c.args.groups.now in let v = c.args.ctx.now in
    record {
      a = own_kept g v c.join_all.new.nodes c.join_all-2.new.nodes c.in_ok-first.first c.join_all-2.ensures.extends_arena (own_link g v _ _ c.join_all.new.nodes c.in_ok-first.first c.in_ok-first.ensures.link);
      b = own_link g v _ _ c.join_all-2.new.nodes c.in_ok-second.second c.in_ok-second.ensures.link;
    }

pub returns-then-links-eq1-clause-link : goal.returns-then-links-eq1-clause-link
returns-then-links-eq1-clause-link t c =
    let ls = c.args.links.now in let d : Link = record { diagram = 0; last = 0 } in
    only_link c.args.any c.args.groups.now c.args.ctx.now c.args.nodes.now ls (get_or ls 0 d) (alone ls d c.if-links-eq1.true) (c.requires.links 0 d c.requires.some)

pub returns-clause-link : goal.returns-clause-link
returns-clause-link t c =
    let any = c.args.any in let g = c.args.groups.now in let v = c.args.ctx.now in
    let old = c.args.nodes.now in let mid = c.join_all.new.nodes in let new = c.join_all-2.new.nodes in
    let front = c.split_at.result.0.now in let back = c.split_at.result.1.now in
    let L = IsLink g v old in
    let backs = subst (All L) (sym c.split_at.ensures.back) (All-drop L _ c.args.links.now c.requires.links) in
    let first = link_kept g v (holding any old front) (reading old front) mid new c.in_ok-first.first c.join_all-2.ensures.extends_arena c.in_ok-first.ensures.link in
    let second = link_same g v (holding any mid back) (holding any old back) (reading mid back) (reading old back) new c.in_ok-second.second
    (λ m k met. (holding_kept any g v old mid back c.join_all.ensures.extends_arena backs m k, reading_kept g v old mid back c.join_all.ensures.extends_arena backs m k)) c.in_ok-second.ensures.link in
    let whole : front ++ back ≡ c.args.links.now = (λ i. c.split_at.ensures.front i ++ c.split_at.ensures.back i) ∙ take-append-drop _ c.args.links.now in
    IfOk-weaker c.join_two.result _ _ (λ l h. whole_chain any g v old c.join_two.new.nodes front back c.args.links.now l whole
    (two_links any g v (holding any old front) (holding any old back) (reading old front) (reading old back) new c.join_two.new.nodes c.in_ok-first.first c.in_ok-second.second l first second h)) c.join_two.ensures.link
