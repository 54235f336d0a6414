use Rattle.std.proofs.Common.{◌∙◌, ap, subst, sym, List, ℕ, Ok, Err}
use Rattle.std.proofs.lemmas.Result.{err_from_is_err_and}
use Rattle.snap_dep.specs.Dependencies.{Tied}
use Rattle.snap_topology.specs.Spells.{document}
use Rattle.snap_placement.specs.Answer.{GivesSwitches, IsAnswer}
use Rattle.snap_placement.specs.Shape.{entries_of}
use Rattle.snap_placement.specs.Texts.{entry_texts, vec_texts}
use Rattle.snap_placement.specs.Together.{TiedBy}
use Rattle.snap_placement.proofs.InOrder.{least-not-toml, least-out-of-shape, least-of-answer}
use Rattle.snap_placement.proofs.Placed.{read-answer, read-placed}
use Rattle.snap_placement.proofs.reading.read.Goals as goal

pub returns-in_err-owners-clause-answer : goal.returns-in_err-owners-clause-answer
returns-in_err-owners-clause-answer c =
    let p = err_from_is_err_and c.from_residual-in_err-owners.result c.from_residual-in_err-owners.ensures.1 in
    let program = c.args.program.now in
    let shape = ap entries_of c.in_ok-table.ensures ∙ c.in_ok-entries.ensures.entries in
    rw (p.1, p.2) (λ memory. read-answer (TiedBy c.args.groups.now) (Tied program.body) program.arrays c.args.topology.now.switches c.items.result.now c.items-2.result.now (vec_texts c.in_ok-entries.entries) (entry_texts c.as_slice.result.now)
    (entries_of (document c.args.text.now)) (Err c.in_err-owners.field-0.0) c.items.ensures c.items-2.ensures (ap entry_texts c.as_slice.ensures.value) shape c.requires.groups.tied (c.in_err-owners.ensures memory))

pub returns-clause-answer : goal.returns-clause-answer
returns-clause-answer c =
    let program = c.args.program.now in
    let shape = ap entries_of c.in_ok-table.ensures ∙ c.in_ok-entries.ensures.entries in
    subst (λ (p : List ℕ). IsAnswer program c.args.topology.now c.args.text.now (Ok p)) (sym c.new.ensures)
    (read-answer (TiedBy c.args.groups.now) (Tied program.body) program.arrays c.args.topology.now.switches c.items.result.now c.items-2.result.now (vec_texts c.in_ok-entries.entries) (entry_texts c.as_slice.result.now)
    (entries_of (document c.args.text.now)) (Ok c.in_ok-owners.owners.items) c.items.ensures c.items-2.ensures (ap entry_texts c.as_slice.ensures.value) shape c.requires.groups.tied c.in_ok-owners.ensures)

pub returns-clause-switches : goal.returns-clause-switches
returns-clause-switches c =
    let program = c.args.program.now in
    let shape = ap entries_of c.in_ok-table.ensures ∙ c.in_ok-entries.ensures.entries in
    let answer = read-answer (TiedBy c.args.groups.now) (Tied program.body) program.arrays c.args.topology.now.switches c.items.result.now c.items-2.result.now (vec_texts c.in_ok-entries.entries) (entry_texts c.as_slice.result.now)
    (entries_of (document c.args.text.now)) (Ok c.in_ok-owners.owners.items) c.items.ensures c.items-2.ensures (ap entry_texts c.as_slice.ensures.value) shape c.requires.groups.tied c.in_ok-owners.ensures in
    let placed = read-placed (Tied program.body) program.arrays c.args.topology.now.switches (vec_texts c.in_ok-entries.entries) (entries_of (document c.args.text.now)) c.in_ok-owners.owners.items shape answer in
    subst (λ (p : List ℕ). GivesSwitches program c.args.topology.now p) (sym c.new.ensures) (record { count = placed.size; below = placed.below; together = placed.together })

pub returns-in_err-table-clause-least : goal.returns-in_err-table-clause-least
returns-in_err-table-clause-least c =
    let p = err_from_is_err_and c.from_residual.result c.from_residual.ensures.1 in
    rw (p.1, p.2) (least-not-toml c.args.program.now.arrays c.args.text.now _ _ c.in_err-table.ensures)

pub returns-in_err-entries-clause-least : goal.returns-in_err-entries-clause-least
returns-in_err-entries-clause-least c =
    let p = err_from_is_err_and c.from_residual-in_err-entries.result c.from_residual-in_err-entries.ensures.1 in
    rw (p.1, p.2) (least-out-of-shape c.args.program.now.arrays c.args.text.now _ (λ memory. ap entries_of c.in_ok-table.ensures ∙ c.in_err-entries.ensures.entries memory))

pub returns-in_err-owners-clause-least : goal.returns-in_err-owners-clause-least
returns-in_err-owners-clause-least c =
    let p = err_from_is_err_and c.from_residual-in_err-owners.result c.from_residual-in_err-owners.ensures.1 in
    let shape = ap entries_of c.in_ok-table.ensures ∙ c.in_ok-entries.ensures.entries in
    rw (p.1, p.2) (least-of-answer (TiedBy c.args.groups.now) c.args.program.now.arrays c.items.result.now c.items-2.result.now (vec_texts c.in_ok-entries.entries) (entry_texts c.as_slice.result.now) c.args.text.now c.in_err-owners.field-0.0
    c.items.ensures (ap entry_texts c.as_slice.ensures.value) shape c.in_ok-entries.ensures.order c.in_err-owners.ensures)
