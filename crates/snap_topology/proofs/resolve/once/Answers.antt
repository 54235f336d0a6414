use Rattle.std.proofs.Common.{◌≡◌, subst, sym, List, ℕ, Contains}
use Rattle.std.specs.List.{dedup}
use Rattle.std.specs.List.Sorted.{IsStrictlySortedBy}
use Rattle.std.proofs.lemmas.List.Filters.{dedup_is}
use Rattle.std.proofs.lemmas.List.Kept.{Contains-dedup, Contains-from_dedup, IsStrictlySortedBy-dedup}
use Rattle.std.proofs.lemmas.List.Sorted.{Contains-permutation, IsPermutation-sym}
use Rattle.snap_core.specs.Ports.{link_cmp}
use Rattle.snap_core.proofs.Pairs.{pair_eq}
use Rattle.snap_topology.proofs.Pairs.{pair_eq_equiv, pair_eq-link_cmp, link_cmp_total, link_same}
use Rattle.snap_topology.proofs.resolve.once.Goals as goal

pub returns-clause-rise : goal.returns-clause-rise
returns-clause-rise c =
    let kept : c.dedup.new.self.items ≡ dedup pair_eq c.sort_unstable.new.self.items = dedup_is pair_eq _ _ c.dedup.ensures.filtered in
    subst (λ (xs : List (ℕ × ℕ)). IsStrictlySortedBy link_cmp xs) (sym kept) (IsStrictlySortedBy-dedup link_cmp_total pair_eq-link_cmp _ c.sort_unstable.ensures.sorted)

pub returns-clause-same : goal.returns-clause-same
returns-clause-same c =
    let kept : c.dedup.new.self.items ≡ dedup pair_eq c.sort_unstable.new.self.items = dedup_is pair_eq _ _ c.dedup.ensures.filtered in
    let old = c.args.links.items in
    let sorted = c.sort_unstable.new.self.items in
    λ link. (
      λ here. Contains-permutation sorted old link (IsPermutation-sym old sorted c.sort_unstable.ensures.permutation)
          (Contains-from_dedup pair_eq sorted link (subst (λ (xs : List (ℕ × ℕ)). Contains xs link) kept here)),
      λ there. subst (λ (xs : List (ℕ × ℕ)). Contains xs link) (sym kept)
          (Contains-dedup pair_eq_equiv link_same sorted link (Contains-permutation old sorted link c.sort_unstable.ensures.permutation there)),
    )
