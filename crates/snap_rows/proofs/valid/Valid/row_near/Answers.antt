use Rattle.std.proofs.Common.{ap, ◌∙◌}
use Rattle.snap_rows.specs.declared.tables.Tables.{Tables}
use Rattle.snap_rows.specs.Form.{IsRowWellFormed}
use Rattle.snap_rows.specs.Entries.{row_at}
use Rattle.snap_rows.proofs.Rows.{IfSome-found, row_form}
use Rattle.snap_rows.proofs.valid.Valid.row_near.Goals as goal

pub returns-clause-form : goal.returns-clause-form
returns-clause-form c =
    let t = c.args.self.now in
    IfSome-found (λ r. r.now) (IsRowWellFormed t) c.row.result (row_at t c.args.at c.args.number)
    (c.row.ensures ∙ ap (λ (t : Tables). row_at t c.args.at c.args.number) c.tables.ensures.tables)
    (row_form t c.tables.ensures.form c.args.at c.args.number)
