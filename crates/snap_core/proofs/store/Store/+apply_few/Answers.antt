use Rattle.std.proofs.Common.{rules, ◌≡◌, ap, sym, ◌∙◌, map}
use Rattle.snap_core.specs.declared.place.Place.{Place}
use Rattle.snap_core.specs.Arrays.{updates, value_of}
use Rattle.snap_core.specs.Cells.{arrays_of, written}
use Rattle.snap_core.proofs.CellsStay.{update-done, update-undone}
use Rattle.snap_core.proofs.store.Store.+apply_few.Goals as goal

pub put_back-requires : goal.put_back-requires
put_back-requires t c =
    let p : Place = record { var = c.in-Some.first.now.var; index = c.as_slice-index.result.now } in
    c.apply_few.ensures.kept p c.in_ok-before.ensures.cell

pub returns-in-Err-clause-err : goal.returns-in-Err-clause-err
returns-in-Err-clause-err t c =
    let p : Place = record { var = c.in-Some.first.now.var; index = c.as_slice-index.result.now } in
    let m = arrays_of c.args.self.now in
    update-undone m (arrays_of c.write-2.new.self) (arrays_of c.apply_few.new.self) (arrays_of c.put_back.new.self) p
    (written c.write.result (m p)) c.in_ok-before.before
    c.in_ok-before.ensures.before c.in_ok-before.ensures.ok c.in-Err.ensures.err c.put_back.ensures.arrays

pub returns-clause-ok : goal.returns-clause-ok
returns-clause-ok t c =
    let u = c.in-Some.first.now in let k = c.args.packet.now in let ix = c.as_slice-index.result.now in
    let m = arrays_of c.args.self.now in
    let at : ix ≡ map (λ e. value_of e k) u.index = search rules in
    c.in_default-apply_few.ensures.ok
    ∙ ap (λ n. updates n c.in-Some.rest.now k) (update-done m (arrays_of c.write-2.new.self) u k ix c.write.result at c.write.ensures c.in_ok-before.ensures.ok)
    ∙ sym (ap (λ us. updates m us k) c.in-Some.ensures.cases.0)
