use Rattle.snap_refinement.proofs.Pieces.{follow, one_report, one_reported, piece}
use Rattle.snap_refinement.proofs.change_laws.pieces_are_one_switch.Goals as goal

pub returns : goal.returns
returns c = record { piece = piece; follow = follow; report = one_report; reported = one_reported }
