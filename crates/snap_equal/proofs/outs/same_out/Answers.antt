-- Component by component.
use Rattle.std.proofs.Common.{◌≡◌, ◌<◌, ℕ, Bool, length, sym, subst, arith}
use Rattle.snap_core.specs.declared.policy.Atom.TheVariants.{Comp}
use Rattle.snap_core.specs.Arrays.{value_of}
use Rattle.snap_compose.specs.PulledBack.{atom_from}
use Rattle.snap_equal.specs.Told.{IsStop, On, Decides}
use Rattle.snap_equal.proofs.Telling.{told_true, told_false, open_more, closed_all}
use Rattle.snap_equal.proofs.Making.{same_after, component_after}
use Rattle.snap_equal.proofs.outs.same_out.Goals as goal
use Rattle.snap_equal.proofs.outs.same_out.Goals.{After-same_atoms, in-Ok-true, in-Err-Split}

told : (c : After-same_atoms) (b : Bool) → Decides c.args.ctx.now (λ m k. value_of c.atom_in-first.result k ≡ value_of c.atom_in-second.result k) b
    → Decides c.args.ctx.now (λ m k. value_of (atom_from (Comp c.loop-comp.comp) c.args.left.now c.loop-comp.comp) k ≡ value_of (atom_from (Comp c.loop-comp.comp) c.args.right.now c.loop-comp.comp) k) b
told c b h = rw (sym c.parts.ensures.list, sym c.parts-in-loop-comp.ensures.list, sym c.atom_in-first.ensures.atom, sym c.atom_in-second.ensures.atom) h

pub returns-in-Ok-false : goal.returns-in-Ok-false
returns-in-Ok-false c = λ m k i e.
    told_false c.args.ctx.now (λ m k. value_of (atom_from (Comp c.loop-comp.comp) c.args.left.now c.loop-comp.comp) k ≡ value_of (atom_from (Comp c.loop-comp.comp) c.args.right.now c.loop-comp.comp) k)
    c.in-Ok-false.field-0 c.in-Ok-false.field-0-test (told (goal.at.returns-in-Ok-false c).After-same_atoms c.in-Ok-false.field-0 c.in-Ok-false.ensures) m k i
    (component_after c.args.left.now c.args.right.now k c.loop-comp.comp (let n : length k ≡ length c.args.ctx.now.classes = i.packet.long in omega (arith, n, c.loop-comp-test.true, c.comps-comps.ensures)) e)

pub loop-comp-preserved : goal.loop-comp-preserved
loop-comp-preserved c =
    let at = (goal.at.loop-comp-preserved c).After-same_atoms in
    elim c.match-same_atoms.branch [
      | in-Ok-true w ↦ rw w.open-is
          (open_more c.args.ctx.now 0 (λ j. On c.args.ctx.now (λ m k. value_of (atom_from (Comp j) c.args.left.now j) k ≡ value_of (atom_from (Comp j) c.args.right.now j) k)) c.loop-comp.comp c.loop-comp.open c.loop-comp.invariant
          (told_true c.args.ctx.now (λ m k. value_of (atom_from (Comp c.loop-comp.comp) c.args.left.now c.loop-comp.comp) k ≡ value_of (atom_from (Comp c.loop-comp.comp) c.args.right.now c.loop-comp.comp) k)
          w.in-Ok-true.field-0 w.in-Ok-true.field-0-test (told at w.in-Ok-true.field-0 w.in-Ok-true.ensures)))
      | in-Err-Split w ↦ rw w.open-is (subst (IsStop c.args.ctx.now 0) w.in-Err-Split.field-0-is w.in-Err-Split.ensures)
    ]

pub returns-in-None : goal.returns-in-None
returns-in-None c = λ m k i. same_after c.args.left.now c.args.right.now k (λ j l.
    closed_all c.args.ctx.now 0 ((j : ℕ) → j < c.loop-comp.comp → On c.args.ctx.now (λ m k. value_of (atom_from (Comp j) c.args.left.now j) k ≡ value_of (atom_from (Comp j) c.args.right.now j) k)) c.loop-comp.open c.in-None.is c.loop-comp.invariant
    j (let n : length k ≡ length c.args.ctx.now.classes = i.packet.long in omega (arith, n, l, c.comps-comps.ensures, c.loop-comp-test.false)) m k i)
