use Rattle.std.proofs.Common.{◌≡◌, Result, Ok, Err, OnErr, ap, sym, ◌∙◌, None, Some, cond}
use Rattle.std.proofs.lemmas.Bool.{false≢true}
use Rattle.std.specs.Prelude.{is_some, unwrap_or}
use Rattle.std.specs.Str.{bytes_eq}
use Rattle.snap_core.specs.Cells.{cell, beside, written}
use Rattle.snap_core.proofs.Beside.{beside-found, beside-not_first, beside-first, beside-second, beside-same}
use Rattle.snap_core.proofs.array.Array.write.Goals as goal

pub returns-in-Some-clause-before : goal.returns-in-Some-clause-before
returns-in-Some-clause-before c =
    let ix = c.args.index.now in let t = c.self.inside.table.0 in let d = c.self.inside.crowded in
    let found = c.in-Some.ensures.before in
    ap (λ o. unwrap_or o 0) (found ∙ sym (beside-found t d ix (ap is_some found)) ∙ ap (λ a. cell a.0 ix) c.self.view_is)

pub returns-in-Some-clause-ok : goal.returns-in-Some-clause-ok
returns-in-Some-clause-ok c = λ q.
    let ix = c.args.index.now in let t = c.self.inside.table.0 in let d = c.self.inside.crowded in
    beside-first ix (written c.args.write c.in-Some.before) t c.write.new.self.0 d c.in-Some.ensures.cells q
    ∙ ap (λ n. cond (bytes_eq ix q) (Some (written c.args.write n)) (cell (beside t d) q)) (returns-in-Some-clause-before c)
    ∙ ap (λ a. cond (bytes_eq ix q) (Some (written c.args.write (unwrap_or (cell c.args.self.now.0 ix) 0))) (cell a.0 q)) c.self.view_is

pub returns-in-Some-write-clause-before : goal.returns-in-Some-write-clause-before
returns-in-Some-write-clause-before c =
    let ix = c.args.index.now in let t = c.self.inside.table.0 in let d = c.self.inside.crowded in
    ap (λ o. unwrap_or o 0)
    (c.in-Some-write.ensures.before ∙ sym (beside-not_first t d ix (sym c.in_default.ensures.before)) ∙ ap (λ a. cell a.0 ix) c.self.view_is)

pub returns-in-Some-write-clause-ok : goal.returns-in-Some-write-clause-ok
returns-in-Some-write-clause-ok c = λ q.
    let ix = c.args.index.now in let t = c.self.inside.table.0 in let d = c.self.inside.crowded in
    beside-second ix (written c.args.write c.in-Some-write.before) t c.write.new.self.0 d c.write-2.new.self
    (sym c.in_default.ensures.before) c.in_default.ensures.cells c.in-Some-write.ensures.cells q
    ∙ ap (λ n. cond (bytes_eq ix q) (Some (written c.args.write n)) (cell (beside t d) q)) (returns-in-Some-write-clause-before c)
    ∙ ap (λ a. cond (bytes_eq ix q) (Some (written c.args.write (unwrap_or (cell c.args.self.now.0 ix) 0))) (cell a.0 q)) c.self.view_is

pub make-requires : goal.make-requires
make-requires c =
    let ix = c.args.index.now in let t = c.self.inside.table.0 in let d = c.self.inside.crowded in
    beside-same t c.write.new.self.0 d c.write-2.new.self c.in_default.ensures.cells c.in_default-write.ensures.cells ix
    ∙ beside-not_first t d ix (sym c.in_default.ensures.before)
    ∙ sym c.in_default-write.ensures.before

on_err_of : {T E P : Type 0} (r : Result T E) → P → OnErr r P
on_err_of (Ok x) h = tt
on_err_of (Err e) h = h

pub returns-in_err-make-clause-err : goal.returns-in_err-make-clause-err
returns-in_err-make-clause-err c =
    let t = c.self.inside.table.0 in let d = c.self.inside.crowded in
    on_err_of c.from_residual.result
    (λ q. c.in_err-make.ensures.err q
    ∙ beside-same t c.write.new.self.0 d c.write-2.new.self c.in_default.ensures.cells c.in_default-write.ensures.cells q
    ∙ ap (λ a. cell a.0 q) c.self.view_is)

pub returns-in_err-make-clause-there : goal.returns-in_err-make-clause-there
returns-in_err-make-clause-there c = λ h.
    let ix = c.args.index.now in let t = c.self.inside.table.0 in let d = c.self.inside.crowded in
    let none : cell (beside t d) ix ≡ None = beside-not_first t d ix (sym c.in_default.ensures.before) ∙ sym c.in_default-write.ensures.before in
    absurd (false≢true (sym (ap is_some none) ∙ ap (λ a. is_some (cell a.0 ix)) c.self.view_is ∙ h))

pub returns-clause-before : goal.returns-clause-before
returns-clause-before c =
    let ix = c.args.index.now in let t = c.self.inside.table.0 in let d = c.self.inside.crowded in
    ap (λ o. unwrap_or o 0)
    (c.in_default-write.ensures.before ∙ sym (beside-not_first t d ix (sym c.in_default.ensures.before)) ∙ ap (λ a. cell a.0 ix) c.self.view_is)

pub returns-clause-ok : goal.returns-clause-ok
returns-clause-ok c = λ q.
    let ix = c.args.index.now in let t = c.self.inside.table.0 in let d = c.self.inside.crowded in let w = c.args.write in
    c.in_ok-make.ensures.ok q
    ∙ ap (λ v. cond (bytes_eq ix q) (Some v) (cell (beside c.write.new.self.0 c.write-2.new.self) q)) (c.number.ensures ∙ ap (written w) (returns-clause-before c))
    ∙ ap (cond (bytes_eq ix q) (Some (written w (unwrap_or (cell c.args.self.now.0 ix) 0)))) (beside-same t c.write.new.self.0 d c.write-2.new.self c.in_default.ensures.cells c.in_default-write.ensures.cells q)
    ∙ ap (λ a. cond (bytes_eq ix q) (Some (written w (unwrap_or (cell c.args.self.now.0 ix) 0))) (cell a.0 q)) c.self.view_is
