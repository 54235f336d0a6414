-- The spot that was found.
use Rattle.std.proofs.Common.{◌≡◌, subst}
use Rattle.snap_diagrams.specs.declared.spots.TestedPlace.{TestedPlace}
use Rattle.snap_diagrams.specs.Spots.{AskedFor}
use Rattle.snap_diagrams.proofs.Spotted.{at_number}
use Rattle.snap_diagrams.proofs.spots.is_at.Goals as goal

pub returns-then-is_spot : goal.returns-then-is_spot
returns-then-is_spot c = λ _.
    let h = subst (λ (a : TestedPlace). (a.index ≡ c.args.index.now) × AskedFor a.asked c.args.term) c.index-spots-i.is (c.is_spot.ensures c.if-is_spot.true) in
    at_number c.args.spots.now c.loop-i.i c.index-spots-i.result c.args.index.now c.args.term c.loop-i-test.true h.0 h.1
