-- The tables of the changes so far can come into force, and stand before those of the others.
use Rattle.std.proofs.Common.{◌≡◌, IfSome, take}
use Rattle.snap_io.specs.Causes.{NoneFell}
use Rattle.snap_runs.specs.Changing.{HaveShapeOf}
use Rattle.snap_cli.specs.ChangesSteps.{afters, afters_of}
use Rattle.snap_cli.proofs.ChangesLemmas.{Loaded}
use Rattle.snap_cli.proofs.changes.load_all.Given as goal

abbrev pub invariant-loop-change : goal.invariant-loop-change
invariant-loop-change g l =
    let shelf = g.S.Shelf in
    record {
      loaded : IfSome (shelf.files l.fn.shelf) (λ files. Loaded files l.first l.changes l.change-index l.later.items);
      shapes : HaveShapeOf l.first l.later.items;
      afters_same : afters l.later.items ≡ afters_of (take l.change-index l.changes);
      files : shelf.files l.shelf ≡ shelf.files l.fn.shelf;
      none_fell : NoneFell (shelf.faults l.fn.shelf) (shelf.faults l.shelf);
    }
