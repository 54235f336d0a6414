use Rattle.std.proofs.Common.{subst, sym, ◌∙◌, arith}
use Rattle.snap_rows.specs.Form.{IsWellFormed}
use Rattle.snap_rows.specs.Rules.{IsFirstBroken, IsValid}
use Rattle.snap_tables.specs.Drafts.{tables_of}
use Rattle.snap_tables.proofs.ReadLemmas.{place-small, read-breaks, read-form, read-valid}
use Rattle.snap_tables.proofs.read.read.Goals as goal

pub tables-requires : goal.tables-requires
tables-requires c = (read-form c.args.text.now c.in_ok-draft.draft c.in_ok-draft.ensures.ok).fields

pub valid-requires : goal.valid-requires
valid-requires c = subst IsWellFormed (sym c.in_ok-tables.ensures) (read-form c.args.text.now c.in_ok-draft.draft c.in_ok-draft.ensures.ok)

pub line_of-requires : goal.line_of-requires
line_of-requires c =
    let broken = rw c.in-Err-Broken.field-0-is at c.in-Err-Broken.ensures.broken in
    let first = subst (λ t. IsFirstBroken t c.in-Err-Broken.rule c.in-Err-Broken.spot) c.in_ok-tables.ensures broken in
    let small = place-small (tables_of c.in_ok-draft.draft) c.of-places.result c.of-places.ensures c.in-Err-Broken.rule c.in-Err-Broken.spot first.broken in
    omega (arith, c.well_formed, small, c.in_ok-draft.ensures.ok.few)

pub returns-in-Err-Broken : goal.returns-in-Err-Broken
returns-in-Err-Broken c =
    let broken = rw c.in-Err-Broken.field-0-is at c.in-Err-Broken.ensures.broken in
    let first = subst (λ t. IsFirstBroken t c.in-Err-Broken.rule c.in-Err-Broken.spot) c.in_ok-tables.ensures broken in
    rw c.line_of.ensures (read-breaks c.args.text.now c.in_ok-draft.draft c.of-places.result c.in_ok-draft.ensures.ok c.of-places.ensures c.in-Err-Broken.rule c.in-Err-Broken.spot first)

pub returns-in-Ok : goal.returns-in-Ok
returns-in-Ok c =
    let is = c.in-Ok.ensures.valid.0 ∙ c.in_ok-tables.ensures in
    read-valid c.args.text.now c.in_ok-draft.draft c.in-Ok.valid c.in_ok-draft.ensures.ok is (subst IsValid (sym c.in-Ok.ensures.valid.0) c.in-Ok.ensures.valid.1)
