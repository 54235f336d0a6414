use Rattle.std.proofs.Common.{◌<◌, ◌^◌, arith}
use Rattle.std.proofs.lemmas.Result.{IfOk-weaker}
use Rattle.snap_tables.specs.Reading.{words_left}
use Rattle.snap_rows.proofs.Growing.{MatchOption-weaker}
use Rattle.snap_tables.proofs.PieceLaws.{update-none, update-piece}
use Rattle.snap_tables.proofs.pieces.UpdatePiece.take.Goals as goal

pub returns : goal.returns
returns c =
    let comps = c.args.counts.comps in
    let arrays = c.args.counts.arrays in
    let fits : comps < 2 ^ 64 = omega (arith, c.well_formed) in
    let few : arrays < 2 ^ 64 = omega (arith, c.well_formed) in
    let ws = words_left c.args.rest in
    IfOk-weaker c.take_update.result _ _ (λ said h. MatchOption-weaker said (λ e. update-none comps fits arrays few ws e) (λ pair e. update-piece comps fits arrays few ws (words_left pair.1) pair.0 e) h) c.take_update.ensures
