use Rattle.std.proofs.Common.{◌∙◌, sym, ap}
use Rattle.snap_topology.proofs.NumberLemmas.{is_switch-texts, number-found}
use Rattle.snap_topology.specs.Shape.{Unknown}
use Rattle.snap_topology.proofs.resolve.number.Goals as goal

pub returns-in-Some-clause-ok : goal.returns-in-Some-clause-ok
returns-in-Some-clause-ok c = number-found c.args.name.now c.args.numbers.now.keys c.in-Some.i c.in-Some.ensures.index c.in-Some.ensures.found

pub returns-in_ok-name_of-in-None-clause-unknown :
    goal.returns-in_ok-name_of-in-None-clause-unknown
returns-in_ok-name_of-in-None-clause-unknown c = λ _. (is_switch-texts c.args.name.now c.args.numbers.now.keys ∙ sym c.in-None.ensures.found, ap Unknown c.in_ok-name_of-in-None.ensures)
