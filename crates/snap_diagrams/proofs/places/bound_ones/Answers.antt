-- One component more.
use Rattle.std.proofs.Common.{◌≡◌, inl, inr, ℕ, ◌+◌, ◌<◌, true, sym, subst, arith, bit_or}
use borrow.Author.Count.{below_more}
use Rattle.snap_core.specs.declared.policy.Atom.TheVariants.{Comp}
use Rattle.snap_core.specs.Arrays.{has}
use Rattle.snap_context.proofs.Testing.{among_right}
use Rattle.snap_diagrams.specs.Places.{IsKept}
use Rattle.snap_diagrams.proofs.Placing.{kept_more}
use Rattle.snap_diagrams.proofs.places.bound_ones.Goals as goal
use Rattle.snap_diagrams.proofs.places.bound_ones.Goals.{then-is_in+then-not-is_own, else-is_in, else-is_in-via-then-is_in+else-not-is_own, else-is_in-via-else-is_in}

pub loop-comp-preserved : goal.loop-comp-preserved
loop-comp-preserved c =
    let classes = c.args.ctx.now.classes in
    let comp = c.loop-comp.comp in
    let old = c.loop-comp.bound in
    let P : ℕ → ℕ → Type 0 = λ bound d. has c.args.comps d ≡ true → IsKept classes bound (Comp d) in
    let few : comp < 64 = omega (arith, c.loop-comp-test.true, c.comps-comp-end.ensures, c.facts-few.ensures.context.few) in
    elim c.if-is_in.branch [
      | then-is_in+then-not-is_own w ↦
          let more = w.bit-bound.result in
          subst (λ (b : ℕ). (d : ℕ) → d < comp + 1 → P b d) (sym w.bound-is)
          (below_more (P (bit_or old more)) comp
          (λ d l h. kept_more classes old more d (c.loop-comp.invariant d l h))
          (λ h. inr (among_right old more comp w.bit-bound.ensures few)))
      | else-is_in w ↦
          subst (λ (b : ℕ). (d : ℕ) → d < comp + 1 → P b d) (sym w.bound-is)
          (below_more (P old) comp c.loop-comp.invariant
          (λ h. elim w.else-is_in.branch [
            | else-is_in-via-then-is_in+else-not-is_own v ↦ inl (v.is_own.ensures v.if-not-is_own.false)
            | else-is_in-via-else-is_in v ↦ absurd (let e = v.if-is_in.false in let i = c.is_in.ensures in cc)
          ]))
    ]
