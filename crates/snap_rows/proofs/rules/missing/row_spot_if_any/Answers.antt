use Rattle.snap_rows.specs.declared.tables.Rule.TheVariants.{Missing}
use Rattle.snap_rows.proofs.Nexts.{all_have_rows}
use Rattle.snap_rows.proofs.Spots.{rows_all}
use Rattle.snap_rows.proofs.rules.missing.row_spot_if_any.Goals as goal

pub returns-then-branch : goal.returns-then-branch
returns-then-branch c =
    let t = c.args.tables.now in
    rows_all t Missing (record { hop = λ h. tt; port = c.requires.ports; array = λ i a. tt }) (λ i below. all_have_rows t c.requires.form c.requires.kind (c.in_ok-all_next_have_rows.ensures c.if-branch.true) i)
