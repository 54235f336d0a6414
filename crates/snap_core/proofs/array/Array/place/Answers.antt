use Rattle.std.proofs.Common.{◌≡◌, Result, Ok, Err, OnOk, ap, ◌∙◌, Some, cond}
use Rattle.std.specs.Str.{bytes_eq}
use Rattle.snap_core.specs.Cells.{cell}
use Rattle.snap_core.proofs.Beside.{beside-first}
use Rattle.snap_core.proofs.array.Array.place.Goals as goal

on_ok_at : {T E P : Type 0} (r : Result T E) (x : T) → r ≡ Ok x → OnOk r P → P
on_ok_at (Ok y) x e h = h
on_ok_at (Err y) x e h = absurd (cc)

pub returns-clause-cells : goal.returns-clause-cells
returns-clause-cells c = λ q.
    let ix = c.args.index.items in
    beside-first ix c.args.value c.self.inside.table.0 c.put-put.new.self.0 c.self.inside.crowded (on_ok_at c.put-put.result c.unwrap.result c.unwrap.ensures c.put-put.ensures.ok) q
    ∙ ap (λ a. cond (bytes_eq ix q) (Some c.args.value) (cell a.0 q)) c.self.view_is
    ∙ ap (cond (bytes_eq ix q) (Some c.args.value)) (c.if-write_crowded.ensures.cells q)
