-- What is read of the text of tables that were written.
use Rattle.std.specs.Prelude.{◌≡◌, ◌⊎◌, Result, Ok, Err}
use Rattle.snap_rows.specs.declared.tables.Tables.{Tables}
use Rattle.snap_rows.specs.Form.{IsWellFormed}
use Rattle.snap_rows.specs.Rules.{IsValid}
use Rattle.snap_tables.specs.Ranges.{TablesInRange}
use Rattle.snap_tables.specs.Lines.{IsBeginning, IsRead, IsWhole}
use Rattle.snap_tables.specs.Text.{text}
use Rattle.snap_tables.specs.declared.fault.TablesFault.{TablesFault}
use Rattle.snap_tables.specs.declared.fault.TablesFault.TheVariants.{NoMemory}

-- of the text of these tables these are read, memory aside
abbrev pub IsReadBack : Tables → Type 0
IsReadBack t = (r : Result Tables TablesFault) → IsRead (text t) r → (r ≡ Ok t) ⊎ (r ≡ Err NoMemory)

-- tables in form, with numbers of 64 bits, are spelled by lines in their order
abbrev pub AreSpelled : Type 0
AreSpelled = (t : Tables) → IsWellFormed t → TablesInRange t → IsBeginning t × IsWhole t

abbrev pub AreReadBack : Type 0
AreReadBack = (t : Tables) → IsWellFormed t → IsValid t → TablesInRange t → IsReadBack t
