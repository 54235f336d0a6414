use Rattle.std.proofs.Common.{◌≡◌, ◌≢◌, ◌+◌, ◌<◌, ◌≤◌, false, length, get_or, sym, subst, arith}
use Rattle.std.proofs.lemmas.Bool.{false≢true}
use Rattle.std.proofs.lemmas.Grind.{common_steps}
use Rattle.snap_rows.specs.Entries.{next}
use Rattle.snap_rows.specs.Form.{switch_count}
use Rattle.snap_rows.specs.Reach.{Reaches}
use Rattle.snap_rows.proofs.Arrives.{next_below}
use Rattle.snap_rows.proofs.Leading.{next_left}
use Rattle.snap_rows.proofs.Marking.{one_way, onward, not_target}
use Rattle.snap_rows.proofs.Short.{short}
use Rattle.snap_rows.proofs.rules.loops.reaches.Goals as goal

pub loop-step-init : goal.loop-step-init
loop-step-init c =
    let t = c.args.tables.now in
    record {
      low = c.requires.from;
      back = λ r. r;
      forth = λ r. r;
      left = λ vs way. let h : length vs < switch_count t = short t c.requires.form c.args.target c.args.from vs c.requires.from way in omega arith;
    }

pub loop-step-preserved : goal.loop-step-preserved
loop-step-preserved c =
    let t = c.args.tables.now in
    let x = c.args.target in
    let w = c.loop-step.here in
    let none : get_or c.args.marks.now w false ≡ false = grind (arith, common_steps) in
    let away : w ≢ x = not_target t x c.args.marks.now w c.requires.marks none in
    let to : c.next-here.result ≡ next t w x = c.next-here.ensures in
    record {
      low = subst (λ v. v < switch_count t) (sym to) (next_below t c.requires.form w x c.loop-step.invariant.low);
      back = λ r. c.loop-step.invariant.back (one_way t x w (subst (Reaches t x) to r));
      forth = λ r. subst (Reaches t x) (sym to) (onward t x w away (c.loop-step.invariant.forth r));
      left = next_left t x w c.next-here.result c.loop-step.step away to c.loop-step.invariant.left;
    }

pub returns : goal.returns
returns c = (
  λ h. absurd (false≢true h),
  λ reached.
      let way = c.loop-step.invariant.forth reached in
      let left : length way.0 + c.loop-step.step < switch_count c.args.tables.now = c.loop-step.invariant.left way.0 way.1 in
      let past : length c.args.marks.now ≤ c.loop-step.step = c.loop-step-test.false in
      let long : length c.args.marks.now ≡ switch_count c.args.tables.now = c.requires.long in
      absurd (let no' : ⊥ = omega arith in no'),
)
