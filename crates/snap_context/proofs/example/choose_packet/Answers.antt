-- One component more.
use Rattle.std.proofs.Common.{◌≡◌, ◌+◌, ℕ, ◌++◌, ◌∷◌, [], length, sym, subst, ap, ◌∙◌, arith, length-append, List}
use Rattle.snap_core.specs.Arrays.{Arrays}
use Rattle.snap_core.specs.Inputs.{IsStore}
use Rattle.snap_context.specs.View.{View}
use Rattle.snap_context.specs.declared.ask.Ask.TheVariants.{Component}
use Rattle.snap_context.specs.Asks.{IsSettled}
use Rattle.snap_context.specs.Models.{current, IsRun}
use Rattle.snap_context.proofs.Settling.{run_more}
use Rattle.snap_context.proofs.example.choose_packet.Goals as goal

pub loop-comp-preserved : goal.loop-comp-preserved
loop-comp-preserved c =
    let h = c.loop-comp.invariant in
    let e : c.push.new.self.items ≡ c.loop-comp.comps.items ++ c.in_ok-settled.settled.num ∷ [] = c.in_ok-push.ensures.items in
    let w : View = current c.args.ctx.now c.loop-comp.grown in
    let s : IsSettled (current c.args.ctx.now c.loop-comp.grown) (Component (length c.loop-comp.comps.items)) c.in_ok-settled.settled
    = subst (λ (i : ℕ). IsSettled (current c.args.ctx.now c.loop-comp.grown) (Component i) c.in_ok-settled.settled) (sym h.1)
    (subst (λ (v : View). IsSettled v (Component c.loop-comp.comp) c.in_ok-settled.settled) c.current.ensures c.in_ok-settled.ensures) in (
      run_more c.args.ctx.now c.loop-comp.comps.items c.push.new.self.items (current c.args.ctx.now c.loop-comp.grown) c.in_ok-settled.settled e h.0 s,
      (let l : length c.push.new.self.items ≡ length c.loop-comp.comps.items + 1 = ap length e ∙ length-append c.loop-comp.comps.items (c.in_ok-settled.settled.num ∷ []) in
          let m : length c.loop-comp.comps.items ≡ c.loop-comp.comp = h.1 in
          omega (arith, l, m)),
    )

pub returns-clause-empty : goal.returns-clause-empty
returns-clause-empty c = λ q. ap (λ (m : Arrays). m q) c.new-2.ensures

pub returns-clause-draft : goal.returns-clause-draft
returns-clause-draft c =
    let h = c.loop-comp.invariant in
    let end : c.loop-comp.comp ≡ length c.args.ctx.now.classes = omega (arith, c.loop-comp-test.false, c.loop-comp.auto.comp-end, c.comps-comp-end.ensures) in
    record {
      run = subst (λ (k : List ℕ). IsRun c.args.ctx.now k (current c.args.ctx.now c.loop-comp.grown)) (sym c.new.ensures) h.0;
      whole = ap length c.new.ensures ∙ (h.1 ∙ end);
      small = subst IsStore (sym c.new-2.ensures) (λ p. omega arith);
    }
