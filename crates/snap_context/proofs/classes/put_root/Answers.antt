-- One more class is replaced.
use Rattle.std.proofs.Common.{◌<◌, length, get_or, arith}
use Rattle.std.proofs.lemmas.List.Edits.{map_over_more}
use Rattle.std.proofs.lemmas.Grind.{common_steps}
use Rattle.snap_core.specs.declared.policy.Term.{Term}
use Rattle.snap_core.specs.declared.policy.Term.TheVariants.{Num}
use Rattle.snap_context.specs.Closing.{replace}
use Rattle.snap_context.proofs.classes.put_root.Goals as goal

pub loop-class-preserved : goal.loop-class-preserved
loop-class-preserved c =
    let at : Term = get_or c.loop-class.classes c.loop-class.class-index (Num 0) in
    let lt : c.loop-class.class-index < length c.loop-class.classes = omega arith in
    rw c.replaced.ensures
    (map_over_more (replace c.args.root c.args.to) c.args.classes.now c.loop-class.classes c.loop-class.class-index
    (get_or c.loop-class.classes c.loop-class.class-index (Num 0)) c.loop-class-test.true c.loop-class.invariant
    (grind (arith, common_steps)))
