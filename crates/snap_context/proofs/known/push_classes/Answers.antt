-- One class more, or none.
use Rattle.std.proofs.Common.{◌≡◌, ◌∷◌, [], ◌++◌, ◌+◌, List, cond, drop, ap, refl, sym, ◌∙◌, add-one, append_assoc, append-nil, arith}
use Rattle.std.proofs.Math.Seq.{drop-cons}
use Rattle.snap_core.specs.declared.policy.Term.{Term}
use Rattle.snap_core.specs.declared.policy.Term.TheVariants.{Plus}
use Rattle.snap_core.specs.Arrays.{has}
use Rattle.snap_context.specs.Classes.{class_of}
use Rattle.snap_core.specs.Terms.{term_code}
use Rattle.snap_context.specs.Known.{classes_key}
use Rattle.snap_context.proofs.known.push_classes.Goals.{then-is_in+in_ok-push_term, else-is_in}
use Rattle.snap_context.proofs.known.push_classes.Goals as goal

pub loop-comp-preserved : goal.loop-comp-preserved
loop-comp-preserved c =
    let cl = c.args.classes.now in
    let i = c.loop-comp.comp in
    let old = c.loop-comp.key.items in
    let rest = classes_key c.args.comps (i + 1) (drop (i + 1) cl) in
    let cut : drop i cl ≡ class_of cl i ∷ drop (i + 1) cl = rw add-one (drop-cons cl i (Plus i 0) (omega arith)) in
    let step : c.if-is_in.key.items ≡ old ++ cond (has c.args.comps i) (term_code (class_of cl i)) []
    = elim c.if-is_in.branch [
      | then-is_in+in_ok-push_term w ↦ rw (w.key-is, w.in_ok-push_term.ensures, w.class_at.ensures, (sym c.is_in.ensures ∙ w.if-is_in.true)) refl
      | else-is_in w ↦ rw (w.key-is, (sym c.is_in.ensures ∙ w.if-is_in.false)) (sym (append-nil old))
    ] in
    rw step
    (append_assoc old (cond (has c.args.comps i) (term_code (class_of cl i)) []) rest
    ∙ (ap (λ (xs : List Term). old ++ classes_key c.args.comps i xs) (sym cut) ∙ c.loop-comp.invariant))
