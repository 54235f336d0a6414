use Rattle.std.proofs.Common.{sym}
use Rattle.snap_report.proofs.DraftLemmas.{sets-named, sets_nothing-unknown}
use Rattle.snap_report.proofs.guess.find_anywhere.Goals as goal

pub returns-in_err-found-clause-found : goal.returns-in_err-found-clause-found
returns-in_err-found-clause-found c =
    let nothing = sets_nothing-unknown c.args.fields.now c.args.text.now c.in_ok-name.name.now c.in_ok-name.rest.now c.in_ok-name.ensures.name (sym c.in_err-found.ensures.found) in
    rw c.from_residual-in_err-found.ensures nothing

pub returns-clause-found : goal.returns-clause-found
returns-clause-found c =
    sets-named c.args.fields.now c.args.text.now c.in_ok-name.name.now c.in_ok-name.rest.now c.in_ok-found.found c.in_ok-name.ensures.name (sym c.in_ok-found.ensures.found)
