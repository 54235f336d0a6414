-- Laws of reading: a text spells one tables, is read in one way, and the text of valid tables is read as these.
use Rattle.std.specs.Prelude.{◌≡◌, ◌≢◌, ◌⊎◌, ℕ, List, Result, Ok, Err}
use Rattle.snap_rows.specs.declared.tables.Tables.{Tables}
use Rattle.snap_rows.specs.Rules.{IsValid}
use Rattle.snap_tables.specs.Lines.{IsBeginning, IsRead, IsWhole}
use Rattle.snap_tables.specs.Text.{text}
use Rattle.snap_tables.specs.declared.fault.TablesFault.{TablesFault}
use Rattle.snap_tables.specs.declared.fault.TablesFault.TheVariants.{NoMemory}

abbrev pub SpellsOne : Type 0
SpellsOne = (t u : Tables) → IsBeginning t → IsWhole t → IsBeginning u → IsWhole u → text t ≡ text u → t ≡ u

-- what is read of a text is one answer, memory aside
abbrev pub ReadsOneWay : Type 0
ReadsOneWay = (bytes : List ℕ) (a b : Result Tables TablesFault)
    → IsRead bytes a → IsRead bytes b → a ≢ Err NoMemory → b ≢ Err NoMemory → a ≡ b

abbrev pub ReadsEach : Type 0
ReadsEach = (t : Tables) (r : Result Tables TablesFault) → IsBeginning t
    → IsWhole t → IsValid t → IsRead (text t) r → (r ≡ Ok t) ⊎ (r ≡ Err NoMemory)
