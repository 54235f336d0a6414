use Rattle.snap_rows.specs.Standing.{AreFieldsTo, place_in}
use Rattle.snap_rows.proofs.rules.nodes.fields.Given as goal

abbrev pub invariant-loop-place : goal.invariant-loop-place
invariant-loop-place l = AreFieldsTo l.tables l.place (place_in l.fields)
