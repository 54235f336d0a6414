-- One place more.
use Rattle.std.proofs.Common.{take, subst, sym}
use Rattle.std.proofs.lemmas.List.{take_more}
use Rattle.std.specs.List.{All}
use Rattle.snap_diagrams.specs.declared.spots.TestedPlace.{TestedPlace}
use Rattle.snap_diagrams.specs.Spots.{IndicesApart, SpotsApart}
use Rattle.snap_diagrams.proofs.Spotted.{apart_push}
use Rattle.snap_diagrams.proofs.spots.spots_apart.Goals as goal

pub loop-i-preserved : goal.loop-i-preserved
loop-i-preserved c =
    let apart : All (λ (other : TestedPlace). IndicesApart c.args.values other.index c.index-spots-i.result.index) (take c.loop-i.i c.args.spots.now)
    = c.is_apart.ensures c.if-not-is_apart.false in
    subst (SpotsApart c.args.values) (sym (take_more c.args.spots.now c.loop-i.i c.index-spots-i.result c.loop-i-test.true))
    (apart_push c.args.values (take c.loop-i.i c.args.spots.now) _ c.loop-i.invariant
    (subst (λ (a : TestedPlace). All (λ (other : TestedPlace). IndicesApart c.args.values other.index a.index) (take c.loop-i.i c.args.spots.now)) c.index-spots-i.is apart))
