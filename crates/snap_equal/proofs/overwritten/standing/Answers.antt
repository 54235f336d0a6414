-- One update more.
use Rattle.std.proofs.Common.{◌≡◌, ◌<◌, ◌++◌, ◌∷◌, ◌+◌, ◌-◌, [], List, length, take, drop, arith, length-drop, sym, ap, ◌∙◌, subst}
use Rattle.std.specs.Prelude.{All}
use Rattle.std.proofs.lemmas.List.{take_all}
use Rattle.std.proofs.lemmas.List.Elements.{All-push}
use Rattle.snap_core.specs.declared.policy.Update.{Update}
use Rattle.snap_core.specs.Arrays.{update, updates}
use Rattle.snap_equal.specs.Inputs.{AreOf, IsUpdate}
use Rattle.snap_equal.proofs.Overwriting.{kept_less, kept_more}
use Rattle.snap_equal.proofs.overwritten.standing.Goals as goal
use Rattle.snap_equal.proofs.overwritten.standing.Goals.{then-not-is_overwritten+in_ok-copy+in_ok-push, else-not-is_overwritten}

pub loop-i-preserved : goal.loop-i-preserved
loop-i-preserved c =
    let u : Update = c.index-all-i.result in
    let kept : List Update = c.loop-i.kept.items in
    let size = length-drop (c.loop-i.i + 1) c.args.all.now in
    let whole : take (length c.args.all.now - (c.loop-i.i + 1)) (drop (c.loop-i.i + 1) c.args.all.now) ≡ drop (c.loop-i.i + 1) c.args.all.now = take_all _ _ (omega (arith, size)) in
    let P : Update → Type 0 = IsUpdate (length c.args.ctx.now.classes) in
    elim c.if-not-is_overwritten.branch [
      | then-not-is_overwritten+in_ok-copy+in_ok-push w ↦
          let items = w.in_ok-push.ensures.items ∙ ap (λ (x : Update). kept ++ x ∷ []) w.in_ok-copy.ensures in
          rw w.kept-is (record {
            fits = subst (All P) (sym items) (All-push P kept u c.loop-i.invariant.fits (subst P (sym c.index-all-i.is) (c.requires c.loop-i.i u c.loop-i-test.true)));
            arrays = λ vs h. let Q : Update → Type 0 = λ x. x.var < vs in
                subst (AreOf vs) (sym items) (All-push Q kept u (c.loop-i.invariant.arrays vs h) (subst Q (sym c.index-all-i.is) (h c.loop-i.i u c.loop-i-test.true)));
            same = λ m k i.
                ap (λ (us : List Update). updates m (us ++ drop (c.loop-i.i + 1) c.args.all.now) k) items
                ∙ kept_more k m kept c.args.all.now c.loop-i.i u c.loop-i-test.true c.index-all-i.is
                ∙ c.loop-i.invariant.same m k i;
          })
      | else-not-is_overwritten w ↦ rw w.kept-is (record {
        fits = c.loop-i.invariant.fits;
        arrays = c.loop-i.invariant.arrays;
        same = λ m k i.
            kept_less k m kept c.args.all.now c.loop-i.i u c.loop-i-test.true c.index-all-i.is
            (λ n. subst (λ (us : List Update). updates (update n u k) us k ≡ updates n us k) whole (c.is_overwritten.ensures w.if-not-is_overwritten.false m k i n))
            ∙ c.loop-i.invariant.same m k i;
      })
    ]
