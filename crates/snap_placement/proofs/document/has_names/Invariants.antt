use Rattle.std.proofs.Common.{◌≡◌}
use Rattle.toml.specs.View.{members_view, table_view}
use Rattle.snap_placement.specs.Shape.{has_names}
use Rattle.snap_placement.proofs.document.has_names.Given as goal

-- the keys so far are names
abbrev pub invariant-loop-key : goal.invariant-loop-key
invariant-loop-key l = has_names (members_view l.key-iterator) ≡ has_names (table_view l.table)
