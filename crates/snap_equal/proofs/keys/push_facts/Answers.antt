-- One fact more.
use Rattle.std.proofs.Common.{◌++◌, List, ap, sym, ◌∙◌, append_assoc}
use Rattle.snap_context.specs.declared.fact.Fact.{Fact}
use Rattle.snap_equal.specs.Weaker.{fact_code, facts_code}
use Rattle.snap_equal.proofs.keys.push_facts.Goals as goal

pub loop-fact-preserved : goal.loop-fact-preserved
loop-fact-preserved c =
    let f : Fact = c.in-Some.fact.now in
    let others = c.next.new.self.left.now in
    rw c.in_ok-push_fact.ensures
    (append_assoc c.loop-fact.code.items (fact_code f) (facts_code others)
    ∙ (ap (λ (xs : List Fact). c.loop-fact.code.items ++ facts_code xs) (sym c.in-Some.ensures.steps) ∙ c.loop-fact.invariant))
