-- What `demo` deserves, whatever the files: the summary.
use Rattle.std.specs.Prelude.{◌≡◌, ℕ, List, [], Ok, Err}
use Rattle.std.specs.declared.option.Option.{Option}
use Rattle.std.specs.Io.KnownBytes.{Appends}
use Rattle.snap_io.specs.Sinks.{AppendsPart}
use Rattle.snap_demo.specs.Summary.{IsSummary}
use Rattle.snap_cli.specs.declared.refusal.Refusal.TheVariants.{Write, NoMemory}
use Rattle.snap_cli.specs.Refusals.{Ending}

-- how the command ends where no device fails and memory is there
abbrev pub EndsDemo : (switches : ℕ) → Ending → Type 0
EndsDemo switches ending = ending ≡ Ok tt

-- the text that has gone out then
abbrev pub IsDemoText : (switches : ℕ) → List ℕ → Type 0
IsDemoText switches text = IsSummary switches text

-- What was done: the whole summary went out, or some first bytes of it where the sink failed, or nothing where memory was
-- short.
abbrev pub MeetsSummary : (switches : ℕ) → Ending → Option (List ℕ) → Option (List ℕ) → Type 0
MeetsSummary switches (Ok u) old new = (text : List ℕ) × IsSummary switches text × Appends old new text
MeetsSummary switches (Err Write) old new = (text : List ℕ) × IsSummary switches text × AppendsPart old new text
MeetsSummary switches (Err NoMemory) old new = Appends old new []
MeetsSummary switches ending old new = ⊥
