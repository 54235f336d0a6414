-- One fact more.
use Rattle.std.proofs.Common.{◌≡◌, [], ◌∷◌, ◌++◌, ℕ, List, length, ap, sym, ◌∙◌, Option, Some, None, append_assoc}
use Rattle.std.specs.Prelude.{All}
use Rattle.snap_context.specs.declared.fact.Fact.{Fact}
use Rattle.snap_context.specs.Classes.{IsTest}
use Rattle.snap_context.specs.Known.{Normal, all_known, known, normals_key, some_key, with_some}
use Rattle.snap_context.proofs.Walks.{others_are}
use Rattle.snap_context.proofs.known.push_facts.Goals as goal
use Rattle.snap_context.proofs.known.push_facts.Goals.{In_ok-push_fact}

pushed : (old : List ℕ) (o : Option Normal) (ns : List Normal) → (old ++ some_key o) ++ normals_key ns ≡ old ++ normals_key (with_some o ns)
pushed old None ns = append_assoc old [] (normals_key ns)
pushed old (Some n) ns = append_assoc old (some_key (Some n)) (normals_key ns)

-- what is added and what is left
added : (c : In_ok-push_fact) → All (λ (g : Fact). IsTest (length c.args.classes.now) g.test) c.next.new.self.left.now
    × (c.push_fact.new.key.items ++ normals_key (all_known c.args.classes.now c.args.roots c.args.settled c.next.new.self.left.now) ≡ c.args.key.now.items ++ normals_key (all_known c.args.classes.now c.args.roots c.args.settled c.args.facts.now))
added c =
    let cl = c.args.classes.now in
    let f : Fact = c.in-Some.fact.now in
    let left = c.loop-fact.fact-iterator.left.now in
    let others = c.next.new.self.left.now in
    let next : left ≡ f ∷ others = c.in-Some.ensures.steps in
    let ns = all_known cl c.args.roots c.args.settled others in (
      others_are (λ (g : Fact). IsTest (length cl) g.test) f left others next c.loop-fact.invariant.0,
      rw c.in_ok-push_fact.ensures
          (pushed c.loop-fact.key.items (known cl c.args.roots c.args.settled f.test f.yes) ns
          ∙ (ap (λ (xs : List Fact). c.loop-fact.key.items ++ normals_key (all_known cl c.args.roots c.args.settled xs)) (sym next) ∙ c.loop-fact.invariant.1)),
    )

pub loop-fact-preserved-then-len-next : goal.loop-fact-preserved-then-len-next
loop-fact-preserved-then-len-next c = added (goal.at.loop-fact-preserved-then-len-next c).In_ok-push_fact

pub loop-fact-preserved : goal.loop-fact-preserved
loop-fact-preserved c = added (goal.at.loop-fact-preserved c).In_ok-push_fact
