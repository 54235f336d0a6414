-- Each fact in turn: left, or its place settled.
use Rattle.std.proofs.Common.{rules, ◌≡◌, true, false, not, Bool, Some, List, ◌++◌, ◌∷◌, [], append_assoc, append-nil, sym, ap, subst, ◌∙◌}
use Rattle.std.proofs.Math.Bool.{beq}
use Rattle.snap_core.specs.Arrays.{put}
use Rattle.snap_core.specs.Cells.{arrays_of}
use Rattle.snap_context.specs.declared.fact.Fact.{Fact}
use Rattle.snap_context.specs.Classes.{is_state}
use Rattle.snap_context.specs.View.{View}
use Rattle.snap_context.specs.declared.ask.Ask.TheVariants.{At}
use Rattle.snap_context.specs.declared.ask.Settled.{Settled}
use Rattle.snap_context.specs.Asks.{IsSettled}
use Rattle.snap_context.specs.Models.{place_of, Settles}
use Rattle.snap_context.proofs.Drafts.{settles_none, settles_skip, settles_more}
use Rattle.snap_context.proofs.example.choose_places.Goals as goal
use Rattle.snap_context.proofs.example.choose_places.Goals.{In-Some, After-choose_fact}

differ : (a b : Bool) → not (beq a b) ≡ true → a ≡ b → ⊥
differ true true h e = cc
differ true false h e = cc
differ false true h e = cc
differ false false h e = cc

pub loop-fact-init : goal.loop-fact-init
loop-fact-init c =
    let e : c.into_iter-fact-iterator.result.left.now ≡ c.args.ctx.now.facts = search rules in
    ([], e, settles_none c.args.ctx.now c.args.yes c.args.draft c.requires)

-- the fact is the next one
item : (c : In-Some) → (c.loop-fact.invariant.0 ++ c.in-Some.fact.now ∷ []) ++ c.next.new.self.left.now ≡ c.args.ctx.now.facts
item c =
    append_assoc c.loop-fact.invariant.0 (c.in-Some.fact.now ∷ []) c.next.new.self.left.now
    ∙ (ap (λ (xs : List Fact). c.loop-fact.invariant.0 ++ xs) (sym c.in-Some.ensures.steps) ∙ c.loop-fact.invariant.1)

pub loop-fact-preserved-then-fact-yes : goal.loop-fact-preserved-then-fact-yes
loop-fact-preserved-then-fact-yes c =
    let d = (goal.at.loop-fact-preserved-then-fact-yes c).In-Some in (
      c.loop-fact.invariant.0 ++ c.in-Some.fact.now ∷ [],
      item d,
      settles_skip c.args.ctx.now c.args.yes c.loop-fact.invariant.0 c.args.draft c.loop-fact.draft c.in-Some.fact.now
          (λ e. absurd (differ c.in-Some.fact.now.yes c.args.yes c.if-fact-yes.true e)) c.loop-fact.invariant.2,
    )

-- the place settled
settled : (c : After-choose_fact) (s : Settled) → is_state c.in-Some.fact.now.test ≡ true → IsSettled c.current-known.result.now (At (place_of c.in-Some.fact.now c.loop-fact.draft.packet)) s
    → arrays_of c.choose_fact.new.store ≡ put (arrays_of c.loop-fact.draft.store) (place_of c.in-Some.fact.now c.loop-fact.draft.packet) s.num
    → Settles c.args.ctx.now c.args.yes (c.loop-fact.invariant.0 ++ c.in-Some.fact.now ∷ []) c.args.draft (record { packet = c.loop-fact.draft.packet; store = c.choose_fact.new.store; grown = Some s.ctx })
settled c s st h written =
    settles_more c.args.ctx.now c.args.yes c.loop-fact.invariant.0 c.args.draft c.loop-fact.draft c.in-Some.fact.now s c.choose_fact.new.store st
    (subst (λ (v : View). IsSettled v (At (place_of c.in-Some.fact.now c.loop-fact.draft.packet)) s) c.current-known.ensures h) written c.loop-fact.invariant.2

pub loop-fact-preserved-in-Some-2 : goal.loop-fact-preserved-in-Some-2
loop-fact-preserved-in-Some-2 c =
    let e = (goal.at.loop-fact-preserved-in-Some-2 c).In-Some in
    let d = (goal.at.loop-fact-preserved-in-Some-2 c).After-choose_fact in
    let h = rw c.in-Some-2.is at c.in_ok-settled.ensures in
    (c.loop-fact.invariant.0 ++ c.in-Some.fact.now ∷ [], item e, settled d c.in-Some-2.settled h.0 h.1 h.2)

pub loop-fact-preserved-in-Some-2-2 : goal.loop-fact-preserved-in-Some-2-2
loop-fact-preserved-in-Some-2-2 c =
    let e = (goal.at.loop-fact-preserved-in-Some-2-2 c).In-Some in
    let d = (goal.at.loop-fact-preserved-in-Some-2-2 c).After-choose_fact in
    let h = rw c.in-Some-2.is at c.in_ok-settled.ensures in
    (c.loop-fact.invariant.0 ++ c.in-Some.fact.now ∷ [], item e, settled d c.in-Some-2.settled h.0 h.1 h.2)

pub loop-fact-preserved : goal.loop-fact-preserved
loop-fact-preserved c =
    let e = (goal.at.loop-fact-preserved c).In-Some in
    let off = rw c.in_default.is at c.in_ok-settled.ensures in (
      c.loop-fact.invariant.0 ++ c.in-Some.fact.now ∷ [],
      item e,
      rw off.1
          (settles_skip c.args.ctx.now c.args.yes c.loop-fact.invariant.0 c.args.draft c.loop-fact.draft c.in-Some.fact.now
          (λ _ st. let a : is_state c.in-Some.fact.now.test ≡ false = off.0 in absurd (cc)) c.loop-fact.invariant.2),
    )

pub returns : goal.returns
returns c =
    let all : c.loop-fact.invariant.0 ≡ c.args.ctx.now.facts
    = sym (append-nil c.loop-fact.invariant.0) ∙ (ap (λ (xs : List Fact). c.loop-fact.invariant.0 ++ xs) (sym c.in-None.ensures.steps.0) ∙ c.loop-fact.invariant.1) in
    subst (λ (xs : List Fact). Settles c.args.ctx.now c.args.yes xs c.args.draft c.loop-fact.draft) all c.loop-fact.invariant.2
