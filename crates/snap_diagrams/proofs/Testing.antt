-- What marks of tests say of diagrams.
use Rattle.std.proofs.Common.{◌≡◌}
use Rattle.snap_core.specs.declared.policy.Test.{Test}
use Rattle.snap_context.proofs.Testing.{test_left, test_right}
use Rattle.snap_context.specs.Known.{TestOver}
use Rattle.snap_core.specs.Ranges.{TestInRange}
use Rattle.snap_context.specs.declared.tested.Tested.{Tested}
use Rattle.snap_context.specs.Tested.{either_tested}
use Rattle.snap_diagrams.specs.Diagrams.{Diagram, Only, Asks}
use Rattle.snap_diagrams.specs.Tested.{TestsOver}

over_left : (a b : Tested) (d : Diagram) → TestsOver a d → TestsOver (either_tested a b) d
over_left a b (Only l) h = tt
over_left a b (Asks t y n) h = (test_left a b t h.0, h.1, over_left a b y h.2, over_left a b n h.3)

over_right : (a b : Tested) (d : Diagram) → TestsOver b d → TestsOver (either_tested a b) d
over_right a b (Only l) h = tt
over_right a b (Asks t y n) h = (test_right a b t h.0, h.1, over_right a b y h.2, over_right a b n h.3)

pub over_asks : (s a b : Tested) (t : Test) (y n d : Diagram) → d ≡ Asks t y n → TestOver s.comps s.arrays t → TestInRange t → TestsOver a y → TestsOver b n → TestsOver (either_tested s (either_tested a b)) d
over_asks s a b t y n d e ht range hy hn = rw e (
  test_left s (either_tested a b) t ht,
  range,
  over_right s (either_tested a b) y (over_left a b y hy),
  over_right s (either_tested a b) n (over_right a b n hn),
)
