use Rattle.snap_cli.proofs.AnsweringLemmas.{changes_answer, traces_answer}
use Rattle.snap_cli.proofs.laws.traces_answer.Goals as goal

pub returns : goal.returns
returns c =
    let spells = c.spells_one_program.ensures in
    let exactly = c.answers_exactly.ensures in
    let compiles = c.compiles_exactly.ensures in
    record { orders = traces_answer spells exactly compiles; changes = changes_answer spells exactly compiles }
