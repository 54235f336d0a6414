use Rattle.std.proofs.Common.{nat_lt, true, false, subst, sym, ◌≡◌, ◌∙◌, rules}
use Rattle.std.specs.List.Sorted.{IsNonDecreasingBy, IsPartitionPoint}
use Rattle.std.proofs.lemmas.List.Sorted.{IsPartitionPoint-from_clause, IsPartitionedBy-ltb}
use Rattle.snap_core.proofs.cases.Cases.before.Goals as goal

pub returns : goal.returns
returns c =
    let n = c.args.number in
    let cs = c.deref.result.now in
    let point = IsPartitionPoint-from_clause (λ p. nat_lt p.0 n) cs _ c.partition_point.ensures.partitioned (IsPartitionedBy-ltb (λ p. p.0) cs n (subst (IsNonDecreasingBy (λ p. p.0)) (sym c.deref.ensures.value) c.self.invariant)) (λ a r q k. search rules) in
    subst (λ l. IsPartitionPoint (λ p. nat_lt p.0 n ≡ true) (λ p. nat_lt p.0 n ≡ false) l c.partition_point.result) (c.deref.ensures.value ∙ c.self.view_is) point
