-- Those that go are done, and so plain.
use Rattle.std.proofs.Common.{List, subst, sym}
use Rattle.std.specs.List.{All}
use Rattle.std.proofs.lemmas.List.Elements.{All-weaker}
use Rattle.snap_context.specs.declared.fact.Fact.{Fact}
use Rattle.snap_context.specs.Lean.{IsBeside, IsLean, IsPlain}
use Rattle.snap_diagrams.specs.Forgotten.{Simulates}
use Rattle.snap_diagrams.proofs.forgetting.leaner.Goals as goal
use Rattle.snap_diagrams.proofs.forgetting.leaner.Goals.{Else-not-are_beside}

lean : (c : Else-not-are_beside) → IsLean c.args.ctx.now.facts c.deal_all.new.stay.items c.deal_all.new.gone.items
lean c =
    let gone = c.deal_all.new.gone.items in
    let P : Fact → Type 0 = Simulates c.args.groups.now.ranks c.args.ctx.now.classes c.args.mark c.args.test.now in
    record {
      parted = c.in_ok-deal_all.ensures.parted;
      plain = All-weaker P (λ f. IsPlain f.test) (λ f h. h.0) gone c.in_ok-deal_all.ensures.done;
      beside = subst (λ (fs : List Fact). All (λ f. All (IsBeside f) c.deal_all.new.stay.items) fs) c.deref.ensures.value
          (subst (λ (fs : List Fact). All (λ f. All (IsBeside f) fs) c.deref.result.now) c.deref-2.ensures.value (c.are_beside.ensures c.if-not-are_beside.false));
    }

pub with_only-requires : goal.with_only-requires
with_only-requires c = (c.deal_all.new.gone.items, lean c)

pub returns : goal.returns
returns c =
    let d = (goal.at.returns c).Else-not-are_beside in
    record {
      gone = c.deal_all.new.gone.items;
      done = c.in_ok-deal_all.ensures.done;
      context = c.facts-context.ensures.context;
      classes = c.in_ok-with_only.ensures.classes;
      lean = subst (λ (fs : List Fact). IsLean c.args.ctx.now.facts fs c.deal_all.new.gone.items) (sym c.in_ok-with_only.ensures.facts) (lean d);
    }
