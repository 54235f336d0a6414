use Rattle.std.proofs.Common.{◌≡◌, sym, subst}
use Rattle.snap_rows.specs.declared.tables.Tables.{Tables}
use Rattle.snap_faithful.specs.Faithful.{Faithful}
use Rattle.snap_make.proofs.Given.{few_groups}
use Rattle.snap_make.proofs.Making.{rows_made}
use Rattle.snap_make.proofs.tables.tidy_tables.Goals as goal

pub outline-requires-clause-few : goal.outline-requires-clause-few
outline-requires-clause-few c = few_groups c.args.program.now c.args.groups.now c.requires.form c.requires.groups

pub new-requires : goal.new-requires
new-requires c =
    let made =
    rows_made c.args.program.now c.args.topology.now c.args.placement.now c.args.routes.now c.args.groups.now c.args.built.now.nodes c.args.built.now.root
    c.requires.form c.requires.small c.requires.groups c.requires.topology c.requires.routes c.requires.placement c.requires.tidy
    c.in_ok-tables.tables c.in_ok-tables-2.field-0 c.in_ok-tables.ensures c.in_ok-tables-2.ensures.arena c.in_ok-tables-2.ensures.rows in
    record { form = made.shape.form; valid = made.shape.valid }

pub returns : goal.returns
returns c =
    subst (λ (t : Tables). Faithful c.args.program.now c.args.topology.now c.args.placement.now t × (t.version ≡ 2)) (sym c.new.ensures) (
      rows_made c.args.program.now c.args.topology.now c.args.placement.now c.args.routes.now c.args.groups.now c.args.built.now.nodes c.args.built.now.root
          c.requires.form c.requires.small c.requires.groups c.requires.topology c.requires.routes c.requires.placement c.requires.tidy
          c.in_ok-tables.tables c.in_ok-tables-2.field-0 c.in_ok-tables.ensures c.in_ok-tables-2.ensures.arena c.in_ok-tables-2.ensures.rows,
      c.in_ok-tables.ensures.version,
    )
