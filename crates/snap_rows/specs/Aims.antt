-- Where a head sends its copy.
use Rattle.std.specs.Prelude.{ℕ, Option, None}
use Rattle.snap_rows.specs.declared.tables.Tables.{Tables}
use Rattle.snap_rows.specs.declared.head.Head.{Head}
use Rattle.snap_rows.specs.declared.head.Head.TheVariants.{Out, Visit}
use Rattle.snap_rows.specs.Entries.{port_at, rank_at}

-- the switch to which a copy with this head goes before anything else is done with it, if its head says one
abbrev pub aim_of : Tables → Head → Option ℕ
aim_of t (Out p) = port_at t p
aim_of t (Visit r n) = rank_at t r
aim_of t _ = None
