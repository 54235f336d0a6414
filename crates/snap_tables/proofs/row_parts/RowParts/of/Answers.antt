use Rattle.std.proofs.Common.{◌≡◌, map, length, subst}
use Rattle.std.specs.List.{range_with_len}
use Rattle.snap_tables.specs.RowParts.{ending_of}
use Rattle.snap_tables.proofs.row_parts.RowParts.of.Goals as goal

pub numbers-requires : goal.numbers-requires
numbers-requires c = c.requires

pub returns-clause-endings : goal.returns-clause-endings
returns-clause-endings c = subst (λ ns. c.in_ok-endings.endings ≡ map (ending_of ns c.args.bodies.now) (range_with_len 0 (length c.args.bodies.now))) c.deref.ensures.value c.in_ok-endings.ensures
