-- The classes before the index are replaced, and the others are as they were.
use Rattle.std.proofs.Common.{◌≡◌, ◌++◌, take, drop, map}
use Rattle.snap_context.specs.Closing.{replace}
use Rattle.snap_context.proofs.classes.put_root.Given as goal

abbrev pub invariant-loop-class : goal.invariant-loop-class
invariant-loop-class l = l.classes ≡ map (replace l.root l.to) (take l.class-index l.initial.classes) ++ drop l.class-index l.initial.classes
