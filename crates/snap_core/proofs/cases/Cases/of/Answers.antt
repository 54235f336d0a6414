use Rattle.std.proofs.Common.{rules}
use Rattle.std.proofs.lemmas.List.Sorted.{IsNonDecreasingBy-from_sort_by_key, answers_always}
use Rattle.snap_core.proofs.CaseLemmas.{case_at-stable}
use Rattle.snap_core.proofs.cases.Cases.of.Goals as goal

pub invariant_of-result : goal.invariant_of-result
invariant_of-result c = IsNonDecreasingBy-from_sort_by_key (λ p. p.0) _ c.in_ok-sort_by_key.ensures.sorted (λ a r f k. search rules)

pub returns : goal.returns
returns c = case_at-stable _ _ (c.sort_by_key.ensures.stable (λ p. p.0) (answers_always _ _ _ (λ f a r g h. search rules)))
