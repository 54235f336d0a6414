use Rattle.std.proofs.Common.{sym, subst}
use Rattle.std.proofs.lemmas.Option.{MatchOption-at_some}
use Rattle.snap_tables.specs.Known.{AreKnown, row_next}
use Rattle.snap_tables.specs.declared.item.Item.TheVariants as item
use Rattle.snap_tables.proofs.read.take_row.Goals as goal

pub put_row-requires-clause-placed : goal.put_row-requires-clause-placed
put_row-requires-clause-placed c = MatchOption-at_some _ _ _ c.in-Some.is c.in_ok-row.ensures.placed

pub returns-clause-known : goal.returns-clause-known
returns-clause-known c = subst (λ t. AreKnown t c.next_row.new.known.rows.items) (sym c.in_ok-put_row.ensures.tables) (MatchOption-at_some _ _ _ c.in-Some.is c.in_ok-row.ensures.known)

pub returns-clause-line : goal.returns-clause-line
returns-clause-line c = (item.Row (row_next c.args.draft.now.rows c.in-Some.row), MatchOption-at_some _ _ _ c.in-Some.is c.in_ok-row.ensures.line, c.in_ok-put_row.ensures)
