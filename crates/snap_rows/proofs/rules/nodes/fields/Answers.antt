use Rattle.std.proofs.Common.{subst, arith}
use Rattle.snap_rows.specs.Bodies.{lent}
use Rattle.snap_rows.specs.Standing.{AreFieldsTo, place_in}
use Rattle.snap_rows.proofs.Nodes.{more_fields}
use Rattle.snap_rows.proofs.rules.nodes.fields.Goals as goal

pub loop-place-preserved : goal.loop-place-preserved
loop-place-preserved c =
    more_fields c.args.tables.now (place_in c.loop-place.fields) (place_in c.add_field.new.fields) c.loop-place.place (lent c.at.result) c.at.ensures c.loop-place.invariant c.in_ok-add_field.ensures

pub returns : goal.returns
returns c = subst (λ k. AreFieldsTo c.args.tables.now k (place_in c.loop-place.fields)) (omega (arith, c.loop-place-test.false, c.len-place-end.ensures, c.loop-place.auto.place-end)) c.loop-place.invariant
