use Rattle.std.proofs.Common.{◌≡◌, ◌≤◌, Bool, true, false, cond, length, max, ap, sym, subst, ◌∙◌, rules, arith}
use Rattle.snap_core.specs.declared.policy.Pol.{Pol, size-Pol, the_lemmas}
use Rattle.snap_core.specs.Cells.{arrays_of}
use Rattle.snap_core.specs.Fits.{PolFits}
use Rattle.snap_core.specs.Meaning.{eval, truth}
use Rattle.snap_core.specs.Runs.{within}
use Rattle.snap_core.proofs.WithinLemmas.{within-chosen}
use Rattle.snap_core.proofs.eval.last_branch.Goals as goal

-- what holds of both branches holds of the one that is picked
either : (P : Pol → Type 0) (t : Bool) (a b p : Pol) → p ≡ cond t a b → P a → P b → P p
either P true a b p e y n = subst P (sym e) y
either P false a b p e y n = subst P (sym e) n

pub loop-pol-init : goal.loop-pol-init
loop-pol-init c =
    let m = arrays_of c.args.store.now in let k = c.args.packet.now in
    let x = c.args.test.now in let yes = c.args.yes.now in let no = c.args.no.now in
    let p = c.in_ok-pol.pol.now in let picked = c.in_ok-pol.ensures.picked in
    let least : size-Pol yes ≤ max (size-Pol yes) (size-Pol no) = omega arith in
    let other : size-Pol no ≤ max (size-Pol yes) (size-Pol no) = omega arith in
    record {
      fits = either (PolFits (length k) 64) (truth x m k) yes no p picked c.requires.yes c.requires.no;
      same = within-chosen c.args.logs.now c.picked_branch.new.logs x yes no p m k picked c.in_ok-pol.ensures.reads c.in_ok-pol.ensures.writes;
      inner = either (λ q. size-Pol q ≤ max (size-Pol yes) (size-Pol no)) (truth x m k) yes no p picked least other;
    }

pub loop-pol-preserved : goal.loop-pol-preserved
loop-pol-preserved c =
    let m = arrays_of c.args.store.now in let k = c.args.packet.now in let n = length k in
    let x = c.in-If.test in let yes = c.in-If.yes.value in let no = c.in-If.no.value in
    let most = max (size-Pol c.args.yes.now) (size-Pol c.args.no.now) in
    let p = c.in_ok-pol-2.pol.now in
    let picked : p ≡ cond (truth x m k) yes no = c.in_ok-pol-2.ensures.picked ∙ (λ i. cond (truth x m k) (c.deref.ensures i) (c.deref-in-If.ensures i)) in
    let fits = subst (PolFits n 64) c.in-If.is c.loop-pol.invariant.fits in
    let before = c.loop-pol.invariant.inner in
    let first : size-Pol yes ≤ size-Pol c.loop-pol.pol.now = search (rules, the_lemmas) in let second : size-Pol no ≤ size-Pol c.loop-pol.pol.now = search (rules, the_lemmas) in
    let least : size-Pol yes ≤ most = omega (arith, first, before) in let other : size-Pol no ≤ most = omega (arith, second, before) in
    record {
      fits = either (PolFits n 64) (truth x m k) yes no p picked fits.1 fits.2;
      same =
          c.loop-pol.invariant.same
          ∙ ap (λ q. within c.loop-pol.logs (eval q m k)) c.in-If.is
          ∙ within-chosen c.loop-pol.logs c.picked_branch-in-If.new.logs x yes no p m k picked c.in_ok-pol-2.ensures.reads c.in_ok-pol-2.ensures.writes;
      inner = either (λ q. size-Pol q ≤ most) (truth x m k) yes no p picked least other;
    }
