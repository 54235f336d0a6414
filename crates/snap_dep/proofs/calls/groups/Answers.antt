use Rattle.std.proofs.Common.{◌≡◌, ◌<◌, length, subst, sym, ap, ◌∙◌, arith}
use Rattle.std.specs.Prelude.{slice_index}
use Rattle.std.proofs.lemmas.List.{get_or_default}
use Rattle.snap_core.specs.Fields.{count}
use Rattle.snap_dep.specs.Dependencies.{UsesBelow}
use Rattle.snap_dep.specs.Ranks.{IsRank, IsRankIn, IsGrouping}
use Rattle.snap_dep.proofs.Below.{UsesBelow-fits}
use Rattle.snap_dep.proofs.Taking.{grouping}
use Rattle.snap_dep.proofs.calls.groups.Goals as goal

pub new-requires-clause-below : goal.new-requires-clause-below
new-requires-clause-below c = λ k d l.
    let p = c.args.program.now.body in
    let below : UsesBelow (length c.in_ok-rows.rows.items) p = subst (λ n. UsesBelow n p) (sym c.in_ok-rows.ensures.count) (UsesBelow-fits (count c.args.program.now.fields) (length c.args.program.now.arrays) p c.requires.fits) in
    let rank : IsRank p (length c.in_ok-rows.rows.items) c.in_ok-order.order.items = (rw c.deref.ensures.value at c.in_ok-order.ensures.rank) p below c.in_ok-rows.ensures.rows in
    let own : IsRankIn p (length c.in_ok-rows.rows.items) c.in_ok-order.order.items (slice_index c.in_ok-ranks.ranks.items) = (rw (c.deref-2.ensures.value, c.deref-3.ensures.value) at c.in_ok-ranks.ensures.ranks) p below c.in_ok-rows.ensures.rows rank in
    let long : length c.in_ok-ranks.ranks.items ≡ length c.in_ok-rows.rows.items = c.in_ok-ranks.ensures.count ∙ ap length c.deref-2.ensures.value in
    let fits = own.below k (omega (arith, l, long)) in
    subst (λ r. r < length c.in_ok-order.order.items) (get_or_default c.in_ok-ranks.ranks.items k 0 d l) fits

pub returns : goal.returns
returns c =
    let p = c.args.program.now.body in
    let below : UsesBelow (length c.in_ok-rows.rows.items) p = subst (λ n. UsesBelow n p) (sym c.in_ok-rows.ensures.count) (UsesBelow-fits (count c.args.program.now.fields) (length c.args.program.now.arrays) p c.requires.fits) in
    let rank : IsRank p (length c.in_ok-rows.rows.items) c.in_ok-order.order.items = (rw c.deref.ensures.value at c.in_ok-order.ensures.rank) p below c.in_ok-rows.ensures.rows in
    let own : IsRankIn p (length c.in_ok-rows.rows.items) c.in_ok-order.order.items (slice_index c.in_ok-ranks.ranks.items) = (rw (c.deref-2.ensures.value, c.deref-3.ensures.value) at c.in_ok-ranks.ensures.ranks) p below c.in_ok-rows.ensures.rows rank in
    let long : length c.in_ok-ranks.ranks.items ≡ length c.in_ok-rows.rows.items = c.in_ok-ranks.ensures.count ∙ ap length c.deref-2.ensures.value in
    subst (IsGrouping p (length c.args.program.now.arrays)) (sym c.new.ensures)
    (subst (λ n. IsGrouping p n (record { ranks = c.in_ok-ranks.ranks.items; order = c.in_ok-order.order.items })) c.in_ok-rows.ensures.count
    (grouping p (length c.in_ok-rows.rows.items) c.in_ok-ranks.ranks.items c.in_ok-order.order.items long rank own))
