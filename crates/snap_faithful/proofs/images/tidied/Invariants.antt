-- All numbered nodes from here on have images.
use Rattle.std.proofs.Common.{◌-◌}
use Rattle.snap_faithful.specs.Images.{HaveImages}
use Rattle.snap_faithful.proofs.images.tidied.Given as goal

abbrev pub invariant-loop-step : goal.invariant-loop-step
invariant-loop-step l = HaveImages l.groups l.fn.nodes l.nodes l.numbered.ids.items l.images.items (l.count - l.step)
