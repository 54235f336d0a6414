-- One answer of a test, and fewer facts.
use Rattle.std.proofs.Common.{◌∷◌, arith, ℕ, List, length, sym, ap, ◌∙◌, subst}
use Rattle.std.specs.Prelude.{IfSome, OnOk}
use Rattle.std.proofs.lemmas.Result.{IfOk-weaker}
use Rattle.snap_core.specs.Arrays.{Arrays}
use Rattle.snap_context.specs.declared.fact.Fact.{Fact}
use Rattle.snap_context.specs.Answers.{IsAssumed}
use Rattle.snap_diagrams.proofs.Remembering.{remembers_more}
use Rattle.snap_diagrams.specs.Diagrams.{diagram}
use Rattle.snap_equal.specs.declared.comparing.Compared.TheVariants.{Same}
use Rattle.snap_equal.specs.Inputs.{IsComparable}
use Rattle.snap_equal.specs.Leaves.{ArePairsKnown, ArePairsMet, AreRemembered, DiagramsDoSame, PairMet}
use Rattle.snap_equal.specs.Weaker.{IsWeaker, facts_code}
use Rattle.snap_equal.proofs.Answering.{nowhere, under_more}
use Rattle.snap_equal.proofs.Alike.{pair_met, under_weaker}
use Rattle.snap_equal.proofs.sure.+same.Goals as goal

pub same_where-returns-in-Impossible : goal.same_where-returns-in-Impossible
same_where-returns-in-Impossible t c = record {
  same = λ e. nowhere c.args.ctx.now c.args.arrays c.args.test.now c.args.yes (DiagramsDoSame (diagram c.args.left.now c.args.first) (diagram c.args.right.now c.args.second))
      (subst (IsAssumed c.args.ctx.now c.args.test.now c.args.yes) c.in-Impossible.is c.in_ok-assume.ensures);
  memos = c.requires.asked.memos;
}

pub same_where-returns-in-More : goal.same_where-returns-in-More
same_where-returns-in-More t c =
    let a = subst (IsAssumed c.args.ctx.now c.args.test.now c.args.yes) c.in-More.is c.in_ok-assume.ensures in
    let P : Arrays → List ℕ → Type 0 = DiagramsDoSame (diagram c.args.left.now c.args.first) (diagram c.args.right.now c.args.second) in
    record {
      same = IfOk-weaker c.same.result _ _ (λ yes h e. under_more c.args.ctx.now c.args.arrays c.args.test.now c.args.yes P c.in-More.more a Same (h e)) c.same.ensures.same;
      memos = subst (λ n. OnOk c.same.result (AreRemembered n c.args.left.now c.args.right.now c.same.new.memos)) a.1 c.same.ensures.memos;
    }

-- ---- fewer facts
pub same-same_met-requires : goal.same-same_met-requires
same-same_met-requires t c =
    let is : IsWeaker c.args.ctx.now c.in-Some.weak = subst (λ o. IfSome o (IsWeaker c.args.ctx.now)) c.in-Some.is c.in_ok-weaker.ensures in (
      omega (arith, c.decreases),
      record {
        few = c.requires.few;
        plain = c.requires.plain;
        comps = c.requires.comps ∙ sym is.same;
        first = c.requires.first;
        second = c.requires.second;
        left = subst (λ n. IsComparable (record { comps = n; arrays = c.args.arrays }) (diagram c.args.left.now c.args.first)) (sym is.same) c.requires.left;
        right = subst (λ n. IsComparable (record { comps = n; arrays = c.args.arrays }) (diagram c.args.right.now c.args.second)) (sym is.same) c.requires.right;
        memos = record {
          agreed = subst (λ n. ArePairsKnown n c.args.left.now c.args.right.now c.agree.new.known) (c.requires.comps ∙ sym is.same) c.in_ok-agree.ensures.known;
          met = subst (λ n. ArePairsMet n c.args.left.now c.args.right.now c.args.memos.now.met) (sym is.same) c.requires.memos.met;
        };
      },
    )

pub same-returns-in-Some-clause-same : goal.same-returns-in-Some-clause-same
same-returns-in-Some-clause-same t c =
    let is : IsWeaker c.args.ctx.now c.in-Some.weak = subst (λ o. IfSome o (IsWeaker c.args.ctx.now)) c.in-Some.is c.in_ok-weaker.ensures in
    let P : Arrays → List ℕ → Type 0 = DiagramsDoSame (diagram c.args.left.now c.args.first) (diagram c.args.right.now c.args.second) in
    IfOk-weaker c.same_met.result _ _ (λ yes h e. under_weaker c.args.ctx.now c.in-Some.weak P is (h e)) c.same_met.ensures.same

-- ---- what is found is remembered
pub same_met-returns-clause-memos : goal.same_met-returns-clause-memos
same_met-returns-clause-memos t c =
    let ns = c.args.left.now in
    let os = c.args.right.now in
    let key = c.in_ok-key.ensures ∙ ap (λ (fs : List Fact). c.args.first ∷ c.args.second ∷ facts_code fs) c.facts.ensures.facts in
    record {
      agreed = c.in_ok-yes.ensures.memos.agreed;
      met = remembers_more (PairMet (length c.args.ctx.now.classes) ns os) c.same_anew.new.memos.met c.put.new.self c.in_ok-key.key.items _ c.in_ok-yes.ensures.memos.met
          (pair_met c.args.ctx.now ns os c.args.first c.args.second c.in_ok-key.key.items key _ (λ e. c.in_ok-yes.ensures.same (c.number_of.ensures e))) c.in_ok-put.ensures.ok;
    }
