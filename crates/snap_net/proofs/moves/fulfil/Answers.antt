use Rattle.std.proofs.Common.{◌≡◌, sym, subst}
use Rattle.snap_rows.specs.Stepping.{FateFits}
use Rattle.snap_net.specs.Flights.{spliced}
use Rattle.snap_net.specs.Moves.{left_by, told_by}
use Rattle.snap_net.proofs.Blocks.{found}
use Rattle.snap_net.proofs.moves.fulfil.Goals as goal

pub part-requires-clause-outs : goal.part-requires-clause-outs
part-requires-clause-outs c = let x = found c.args.flying.now c.args.k c.requires.k in subst (FateFits c.args.tables.now x.0.at) c.in-Fork.is (c.requires.fits x.0 x.1)

pub returns-in_ok-update_for-in-Stay-clause-gone : goal.returns-in_ok-update_for-in-Stay-clause-gone
returns-in_ok-update_for-in-Stay-clause-gone c = λ x is.
    let t = c.args.tables.now in
    subst (λ f. (c.stay.new.flying ≡ spliced c.args.flying.now c.args.k 1 (left_by t x f)) × (c.stay.result ≡ told_by t x f)) (sym c.in-Stay.is) (c.stay.ensures t x is)

pub returns-in_ok-update_for-in-Wait-clause-gone : goal.returns-in_ok-update_for-in-Wait-clause-gone
returns-in_ok-update_for-in-Wait-clause-gone c = λ x is.
    let t = c.args.tables.now in
    subst (λ f. (c.args.flying.now ≡ spliced c.args.flying.now c.args.k 1 (left_by t x f)) × (c.wait.result ≡ told_by t x f)) (sym c.in-Wait.is) (c.wait.ensures t x is)
