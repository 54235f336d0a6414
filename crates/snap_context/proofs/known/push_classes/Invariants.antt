-- What is pushed so far and what is left are the key.
use Rattle.std.proofs.Common.{◌≡◌, ◌++◌, drop}
use Rattle.snap_context.specs.Known.{classes_key}
use Rattle.snap_context.proofs.known.push_classes.Given as goal

abbrev pub invariant-loop-comp : goal.invariant-loop-comp
invariant-loop-comp l = l.key.items ++ classes_key l.comps l.comp (drop l.comp l.classes) ≡ l.fn.key.items ++ classes_key l.comps 0 l.classes
