-- The valid tables that a file spells, or why it spells none.
use Rattle.std.specs.Prelude.{◌≡◌, ◌⊎◌, ℕ, ◌<◌, ◌≤◌, List, length, Result, Ok, Err}
use Rattle.snap_core.specs.declared.program.Which.TheVariants.{Bytes}
use Rattle.snap_rows.specs.declared.tables.Tables.{Tables}
use Rattle.snap_tables.specs.Lines.{IsRead}
use Rattle.snap_tables.specs.declared.fault.TablesFault.{TablesFault}
use Rattle.snap_tables.specs.declared.fault.TablesFault.TheVariants as tables
use Rattle.snap_cli.specs.declared.refusal.NoTables.{NoTables}
use Rattle.snap_cli.specs.declared.refusal.NoTables.TheVariants.{Line, Broken}
use Rattle.snap_cli.specs.declared.refusal.Refusal.{Refusal}
use Rattle.snap_cli.specs.declared.refusal.Refusal.TheVariants as refused

-- the fault of a text
abbrev pub fault_of : NoTables → TablesFault
fault_of (Line line) = tables.Line line
fault_of (Broken rule line) = tables.Broken rule line

-- the text spells these tables, or none for this reason
abbrev pub SpellsTables : List ℕ → Result Tables Refusal → Type 0
SpellsTables text (Ok t) = IsRead text (Ok t)
SpellsTables text (Err (refused.Tables fault)) = IsRead text (Err (fault_of fault))
SpellsTables text (Err (refused.Limit which count)) = IsRead text (Err (tables.Limit which count))
SpellsTables text (Err refusal) = ⊥

-- A file of more than 67,108,864 bytes is refused, whatever it spells.
abbrev pub TablesOf : List ℕ → Result Tables Refusal → Type 0
TablesOf file result =
    ((67108864 < length file) × (result ≡ Err (refused.Limit Bytes 67108865)))
    ⊎ ((length file ≤ 67108864) × SpellsTables file result)
