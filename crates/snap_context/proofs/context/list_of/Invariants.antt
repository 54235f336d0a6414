-- Those left, before those that are shared.
use Rattle.std.proofs.Common.{◌≡◌, ◌<◌, ◌^◌, ◌++◌, length}
use Rattle.snap_context.proofs.context.list_of.Given as goal

abbrev pub invariant-loop-fact : goal.invariant-loop-fact
invariant-loop-fact l = record {
  all : l.list.items ++ l.facts.value ≡ l.initial.list.items;
  few : length l.initial.list.items < 2 ^ 32;
}

abbrev pub decreases-loop-fact : goal.decreases-loop-fact
decreases-loop-fact l = length l.list.items
