use Rattle.std.proofs.Common.{◌≡◌, ◌≢◌, ◌<◌, false, true, inr, ⊎_elim, length, get_or, sym, subst, ◌∙◌, arith}
use Rattle.std.proofs.lemmas.List.{length-set, get_or-set_same}
use Rattle.std.proofs.lemmas.Grind.{common_steps}
use Rattle.std.proofs.Math.ListN.{set}
use Rattle.snap_rows.specs.Entries.{next}
use Rattle.snap_rows.specs.Form.{switch_count}
use Rattle.snap_rows.specs.Reach.{Reaches}
use Rattle.snap_rows.proofs.Arrives.{next_below}
use Rattle.snap_rows.proofs.Marking.{marks_more, onward, not_target, set_true}
use Rattle.snap_rows.proofs.rules.loops.mark_way.Goals as goal

pub loop-marks-preserved : goal.loop-marks-preserved
loop-marks-preserved c =
    let t = c.args.tables.now in
    let x = c.args.target in
    let w = c.loop-marks.here in
    let from = c.args.from in
    let marks = c.loop-marks.marks.items in
    let within : w < length marks = let h = c.loop-marks.invariant.low in let long = c.loop-marks.invariant.long in omega arith in
    let none : get_or marks w false ≡ false = grind (arith, common_steps) in
    let away : w ≢ x = not_target t x marks w c.loop-marks.invariant.marks none in
    let to : c.next-here.result ≡ next t w x = c.next-here.ensures in
    record {
      low = subst (λ v. v < switch_count t) (sym to) (next_below t c.requires.form w x c.loop-marks.invariant.low);
      long = length-set marks w true ∙ c.loop-marks.invariant.long;
      marks = marks_more t x marks w within c.loop-marks.invariant.marks c.loop-marks.invariant.reached;
      reached = subst (Reaches t x) (sym to) (onward t x w away c.loop-marks.invariant.reached);
      kept = λ v e. set_true marks w v within (c.loop-marks.invariant.kept v e);
      first = inr (⊎_elim (λ same. subst (λ v. get_or (set marks w true) v false ≡ true) same (get_or-set_same marks w true false within)) (λ e. set_true marks w from within e) c.loop-marks.invariant.first);
    }
