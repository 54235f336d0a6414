-- What a command's words and files deserve, and what a call did for it.
use Rattle.std.specs.Prelude.{◌≡◌, ◌⊎◌, ℕ, List, [], Err}
use Rattle.std.specs.declared.option.Option.{Option}
use Rattle.std.specs.Io.KnownBytes.{Appends}
use Rattle.snap_io.specs.Causes.{Rose}
use Rattle.snap_io.specs.Files.{Files}
use Rattle.snap_io.specs.Sinks.{AppendsPart, AppendsSome}
use Rattle.snap_words.specs.Commands.{Command, check, compile, demo, deps, equal, obs, routes, place, trace}
use Rattle.snap_cli.specs.declared.refusal.Refusal.TheVariants.{Read, ReadChange, Write, NoMemory}
use Rattle.snap_cli.specs.Check.{EndsCheck, IsCheckText}
use Rattle.snap_cli.specs.Compile.{EndsCompile, IsCompileText, MayPrecedeCompile}
use Rattle.snap_cli.specs.Demo.{EndsDemo, IsDemoText}
use Rattle.snap_cli.specs.Deps.{EndsDeps, IsDepsText}
use Rattle.snap_cli.specs.Equal.{EndsEqual, IsEqualText, MayPrecedeReadEqual}
use Rattle.snap_cli.specs.Obs.{EndsObs, IsObsText, MayPrecedeObs, MayPrecedeReadObs}
use Rattle.snap_cli.specs.Place.{EndsPlace, IsPlaceText}
use Rattle.snap_cli.specs.Reached.{IsReached}
use Rattle.snap_cli.specs.Refusals.{Ending}
use Rattle.snap_cli.specs.Routes.{EndsRoutes, IsRoutesText, MayPrecedeRoutes}
use Rattle.snap_cli.specs.Trace.{EndsTrace, IsTraceText, MayPrecedeReadTrace, MayPrecedeTrace}

-- how each command ends on these files where no device fails and memory is there
abbrev pub Ends : Files → Command → Ending → Type 0
Ends files (obs program packets) ending = EndsObs files program packets ending
Ends files (deps program) ending = EndsDeps files program ending
Ends files (check program) ending = EndsCheck files program ending
Ends files (equal left right) ending = EndsEqual files left right ending
Ends files (routes topology) ending = EndsRoutes files topology ending
Ends files (place program topology demand) ending = EndsPlace files program topology demand ending
Ends files (compile program topology placement on_demand) ending = EndsCompile files program topology placement on_demand ending
Ends files (trace tables packets hops order) ending = EndsTrace files tables packets hops order ending
Ends files (demo switches) ending = EndsDemo switches ending

-- the text that has gone out then
abbrev pub IsText : Files → Command → List ℕ → Type 0
IsText files (obs program packets) text = IsObsText files program packets text
IsText files (deps program) text = IsDepsText files program text
IsText files (check program) text = IsCheckText files program text
IsText files (equal left right) text = IsEqualText files left right text
IsText files (routes topology) text = IsRoutesText files topology text
IsText files (place program topology demand) text = IsPlaceText files program topology demand text
IsText files (compile program topology placement on_demand) text = IsCompileText files program topology placement on_demand text
IsText files (trace tables packets hops order) text = IsTraceText files tables packets hops order text
IsText files (demo switches) text = IsDemoText switches text

-- of this text some first bytes may have gone out where memory is short
abbrev pub MayPrecede : Files → Command → List ℕ → Type 0
MayPrecede files (obs program packets) text = MayPrecedeObs files program packets text
MayPrecede files (deps program) text = text ≡ []
MayPrecede files (check program) text = text ≡ []
MayPrecede files (equal left right) text = text ≡ []
MayPrecede files (routes topology) text = MayPrecedeRoutes files topology text
MayPrecede files (place program topology demand) text = text ≡ []
MayPrecede files (compile program topology placement on_demand) text = MayPrecedeCompile files program topology placement on_demand text
MayPrecede files (trace tables packets hops order) text = MayPrecedeTrace files tables packets hops order text
MayPrecede files (demo switches) text = text ≡ []

-- the file with this name is one of the command's, and of this text some first bytes may have gone out where it can't be read
abbrev pub MayPrecedeRead : Files → Command → (name : List ℕ) → List ℕ → Type 0
MayPrecedeRead files (obs program packets) name text = MayPrecedeReadObs files program packets name text
MayPrecedeRead files (deps program) name text = (name ≡ program) × (text ≡ [])
MayPrecedeRead files (check program) name text = (name ≡ program) × (text ≡ [])
MayPrecedeRead files (equal left right) name text = MayPrecedeReadEqual files left right name text
MayPrecedeRead files (routes topology) name text = (name ≡ topology) × (text ≡ [])
MayPrecedeRead files (place program topology demand) name text = IsReached files program topology demand name × (text ≡ [])
MayPrecedeRead files (compile program topology placement on_demand) name text = IsReached files program topology placement name
    × (text ≡ [])
MayPrecedeRead files (trace tables packets hops order) name text = MayPrecedeReadTrace files tables packets hops order name text
MayPrecedeRead files (demo switches) name text = ⊥

-- The ending is one that the command deserves, and its whole text went out. Or a file of the command couldn't be read,
-- memory was short or the sink failed, and some first bytes of what may have gone out by then did.
abbrev pub Meets : Files → Command → Ending → Option (List ℕ) → Option (List ℕ) → Type 0
Meets files command (Err (Read name)) old new = AppendsSome (MayPrecedeRead files command name.now) old new
Meets files command (Err (ReadChange name)) old new = AppendsSome (MayPrecedeRead files command name) old new
Meets files command (Err NoMemory) old new = AppendsSome (MayPrecede files command) old new
Meets files command (Err Write) old new = AppendsSome (MayPrecede files command) old new ⊎ AppendsSome (IsText files command) old new
Meets files command ending old new = Ends files command ending × ((text : List ℕ) × IsText files command text × Appends old new text)

-- the whole message went out, or the sink failed and a first part did
pub record WritesMessage (before now : ℕ) (old new : Option (List ℕ)) (message : List ℕ) : Type 0 where
  pub part : AppendsPart old new message
  pub whole : Rose before now ⊎ Appends old new message
