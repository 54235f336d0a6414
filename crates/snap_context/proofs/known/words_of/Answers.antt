-- One fact more, with its word or none.
use Rattle.std.proofs.Common.{◌≡◌, ℕ, ◌<◌, ◌∷◌, [], ◌++◌, List, length, get_or, ap, sym, ◌∙◌, arith, append_assoc}
use Rattle.snap_context.specs.declared.fact.Fact.{Fact}
use Rattle.snap_context.specs.Classes.{IsTest}
use Rattle.snap_context.specs.Known.{all_known, known, some_key}
use Rattle.snap_context.proofs.Walks.{others_are}
use Rattle.snap_context.proofs.Words.{all_known-push, words_more, words_same}
use Rattle.snap_context.proofs.known.words_of.Goals as goal
use Rattle.snap_context.proofs.known.words_of.Goals.{In_ok-push_fact}

tests_left : (c : In_ok-push_fact) → (i : ℕ) (d : Fact) → i < length c.next.new.self.left.now → IsTest (length c.args.classes.now) (get_or c.next.new.self.left.now i d).test
tests_left c = others_are (λ (g : Fact). IsTest (length c.args.classes.now) g.test) c.in-Some.fact.now c.loop-fact.fact-iterator.left.now c.next.new.self.left.now c.in-Some.ensures.steps c.loop-fact.invariant.0

seen : (c : In_ok-push_fact) → (c.loop-fact.invariant.1 ++ c.in-Some.fact.now ∷ []) ++ c.next.new.self.left.now ≡ c.args.facts.now
seen c =
    append_assoc c.loop-fact.invariant.1 (c.in-Some.fact.now ∷ []) c.next.new.self.left.now
    ∙ (ap (λ (xs : List Fact). c.loop-fact.invariant.1 ++ xs) (sym c.in-Some.ensures.steps) ∙ c.loop-fact.invariant.2)

word : (c : In_ok-push_fact) → c.push_fact.new.key.items ≡ some_key (known c.args.classes.now c.args.roots c.args.settled c.in-Some.fact.now.test c.in-Some.fact.now.yes)
word c = rw c.new-word.ensures.items at c.in_ok-push_fact.ensures

pub loop-fact-preserved-in-Continue-branch-2 : goal.loop-fact-preserved-in-Continue-branch-2
loop-fact-preserved-in-Continue-branch-2 c =
    let d = (goal.at.loop-fact-preserved-in-Continue-branch-2 c).In_ok-push_fact in
    let f : Fact = c.in-Some.fact.now in
    let o = known c.args.classes.now c.args.roots c.args.settled f.test f.yes in
    let before = all_known c.args.classes.now c.args.roots c.args.settled c.loop-fact.invariant.1 in (
      tests_left d,
      c.loop-fact.invariant.1 ++ f ∷ [],
      seen d,
      rw (c.in_ok-push.ensures.items, all_known-push c.args.classes.now c.args.roots c.args.settled c.loop-fact.invariant.1 f)
          (words_more c.loop-fact.words.items before c.push_fact.new.key o c.loop-fact.invariant.3 (word d) (λ e. absurd (omega (arith, c.len.ensures, c.if-len-gt0.true, e)))),
    )

pub loop-fact-preserved : goal.loop-fact-preserved
loop-fact-preserved c =
    let d = (goal.at.loop-fact-preserved c).In_ok-push_fact in
    let f : Fact = c.in-Some.fact.now in
    let o = known c.args.classes.now c.args.roots c.args.settled f.test f.yes in
    let before = all_known c.args.classes.now c.args.roots c.args.settled c.loop-fact.invariant.1 in (
      tests_left d,
      c.loop-fact.invariant.1 ++ f ∷ [],
      seen d,
      rw (all_known-push c.args.classes.now c.args.roots c.args.settled c.loop-fact.invariant.1 f)
          (words_same c.loop-fact.words.items before c.push_fact.new.key.items o c.loop-fact.invariant.3 (word d) (omega (arith, c.len.ensures, c.if-len-gt0.false))),
    )
