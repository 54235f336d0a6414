-- How a run over a packets file ends, and how far it has come. A run takes packets one after another with a machine; of a
-- machine in which it began, `stands` tells where it stands behind some packets, and what their blocks are.
use Rattle.std.specs.Prelude.{◌≡◌, ◌⊎◌, ℕ, Bool, true, false, List, [], ◌∷◌, ◌++◌, length, take, IfSome, Result, Ok, Err, Some, None}
use Rattle.std.specs.declared.option.Option.{Option}
use Rattle.std.specs.Io.KnownBytes.{Appends}
use Rattle.snap_core.specs.declared.program.Field.{Field}
use Rattle.snap_io.specs.Files.{Files, file_of}
use Rattle.snap_io.specs.Sinks.{AppendsPart, AppendsSome}
use Rattle.snap_io.specs.declared.output.Output.{Output}
use Rattle.snap_io.specs.Outputs.{Waits}
use Rattle.snap_report.specs.declared.fault.TraceFault.{TraceFault}
use Rattle.snap_report.specs.declared.fault.TraceFault.TheVariants.{Read, Write, Limit, Packets, Undefined, NoMemory}
use Rattle.snap_report.specs.declared.line.Line.{Line}
use Rattle.snap_report.specs.declared.packets.PacketLines.{PacketLines}
use Rattle.snap_report.specs.OneSwitch.{RunEnding}
use Rattle.snap_report.specs.Reading.{file_in, left_for, packet_in, spelled_where, with_line}
use Rattle.snap_report.specs.Spelled.{Spelled, ended, refused, stops}

-- ---- how a run ends
-- the run has come to its end, with no device's failure and no want of memory
abbrev pub is_complete : RunEnding → Bool
is_complete (Err Read) = false
is_complete (Err Write) = false
is_complete (Err NoMemory) = false
is_complete ending = true

-- a machine stands behind some first packets, of which these are the blocks
pub record FirstBlocks {M : Type 0} (stands : List (List ℕ) → List ℕ → M → Type 0) (all : Spelled) (text : List ℕ) : Type 0 where
  pub count : ℕ
  pub machine : M
  pub stood : stands (take count all.packets) text machine

-- all packets that were read were taken, and this stopped reading
pub record IsStopped {M : Type 0} (stands : List (List ℕ) → List ℕ → M → Type 0)
    (all : Spelled) (fault : TraceFault) (text : List ℕ) : Type 0 where
  pub machine : M
  pub stood : stands all.packets text machine
  pub stop : all.stop ≡ refused fault

-- behind some packets the next one was refused
pub record IsCut {M : Type 0} (stands : List (List ℕ) → List ℕ → M → Type 0)
    (refuses : List (List ℕ) → List ℕ → TraceFault → Type 0) (packets : List (List ℕ)) (fault : TraceFault) (text : List ℕ) : Type 0 where
  pub before : List (List ℕ)
  pub packet : List ℕ
  pub behind : List (List ℕ)
  pub are : packets ≡ before ++ packet ∷ behind
  pub machine : M
  pub stood : stands before text machine
  pub refused_so : refuses before packet fault

-- the run over what a file spells ends so, with this report
abbrev pub Ends : {M : Type 0} → (stands : List (List ℕ) → List ℕ → M → Type 0) → (reports : List (List ℕ) → List ℕ → Type 0)
    → (refuses : List (List ℕ) → List ℕ → TraceFault → Type 0) → Spelled → RunEnding → List ℕ → Type 0
Ends stands reports refuses all (Ok u) text = (all.stop ≡ ended) × reports all.packets text
Ends stands reports refuses all (Err fault) text = IsStopped stands all fault text ⊎ IsCut stands refuses all.packets fault text

-- The run has ended, and what is left of its text waits. Or a device failed or memory was short, and some first bytes of
-- blocks have gone out; where the sink failed, perhaps of what stands behind them too.
abbrev pub EndsRun : (Blocks : List ℕ → Type 0) → (Ended : RunEnding → List ℕ → Type 0)
    → RunEnding → (old now : Option (List ℕ)) → (waiting : List ℕ) → Type 0
EndsRun Blocks Ended (Err Read) old now waiting = AppendsSome Blocks old now
EndsRun Blocks Ended (Err NoMemory) old now waiting = AppendsSome Blocks old now
EndsRun Blocks Ended (Err Write) old now waiting = AppendsSome Blocks old now
    ⊎ AppendsSome (λ text. (ending : RunEnding) × Ended ending text) old now
EndsRun Blocks Ended ending old now waiting = (text : List ℕ) × Ended ending text × Waits old now text waiting

-- the same where nothing waits any more
abbrev pub WritesOut : (Blocks : List ℕ → Type 0) → (Ended : RunEnding → List ℕ → Type 0) → RunEnding → (old now : Option (List ℕ)) → Type 0
WritesOut Blocks Ended (Err Read) old now = AppendsSome Blocks old now
WritesOut Blocks Ended (Err NoMemory) old now = AppendsSome Blocks old now
WritesOut Blocks Ended (Err Write) old now = AppendsSome Blocks old now
    ⊎ AppendsSome (λ text. (ending : RunEnding) × Ended ending text) old now
WritesOut Blocks Ended ending old now = (text : List ℕ) × Ended ending text × Appends old now text

abbrev pub WritesRun : {M : Type 0} → (stands : List (List ℕ) → List ℕ → M → Type 0) → (reports : List (List ℕ) → List ℕ → Type 0)
    → (refuses : List (List ℕ) → List ℕ → TraceFault → Type 0) → Spelled → RunEnding → (old now : Option (List ℕ)) → Type 0
WritesRun stands reports refuses all ending old now = WritesOut (FirstBlocks stands all) (Ends stands reports refuses all) ending old now

-- ---- how far it has come
-- packets were taken, of whose blocks the last part waits, and this is left behind them
pub record Comes {M : Type 0} (stands : List (List ℕ) → List ℕ → M → Type 0) (all : Spelled)
    (left : ℕ → Spelled) (machine : M) (old now : Option (List ℕ)) (waiting : List ℕ) : Type 0 where
  pub packets : List (List ℕ)
  pub spelled : all ≡ record { packets = packets ++ (left (length packets)).packets; stop = (left (length packets)).stop }
  pub text : List ℕ
  pub stood : stands packets text machine
  pub waits : Waits old now text waiting

abbrev pub Closes : {M : Type 0} → (stands : List (List ℕ) → List ℕ → M → Type 0) → (reports : List (List ℕ) → List ℕ → Type 0)
    → (refuses : List (List ℕ) → List ℕ → TraceFault → Type 0) → Spelled
    → RunEnding → (old now : Option (List ℕ)) → (waiting : List ℕ) → Type 0
Closes stands reports refuses all ending old now waiting = EndsRun
    (FirstBlocks stands all) (Ends stands reports refuses all) ending old now waiting

-- the line was taken, or the run has ended
abbrev pub ComesOn : {M : Type 0} → (stands : List (List ℕ) → List ℕ → M → Type 0)
    → (reports : List (List ℕ) → List ℕ → Type 0) → (refuses : List (List ℕ) → List ℕ → TraceFault → Type 0)
    → Spelled → (rest : ℕ → Spelled) → M → (old now : Option (List ℕ)) → (waiting : List ℕ) → RunEnding → Type 0
ComesOn stands reports refuses all rest machine old now waiting (Ok u) = Comes stands all rest machine old now waiting
ComesOn stands reports refuses all rest machine old now waiting (Err fault) = Closes stands reports refuses all (Err fault) old now waiting

-- the next line stands before the others, or none is left, or the run has ended
abbrev pub Follows : {M : Type 0} → (stands : List (List ℕ) → List ℕ → M → Type 0) → (reports : List (List ℕ) → List ℕ → Type 0)
    → (refuses : List (List ℕ) → List ℕ → TraceFault → Type 0) → Spelled → List Field → (accepts : ℕ → List ℕ → Bool)
    → (file : List ℕ) → PacketLines → M → (old now : Option (List ℕ)) → (waiting : List ℕ) → Result (Option Line) TraceFault → Type 0
Follows stands reports refuses all fields accepts file reader machine old now waiting (Ok (Some line)) = Comes stands all
    (with_line accepts reader.read (packet_in reader) line (left_for fields accepts file reader)) machine old now waiting
Follows stands reports refuses all fields accepts file reader machine old now waiting
    (Ok None) = Comes stands all (λ before. stops ended) machine old now waiting
Follows stands reports refuses all fields accepts file reader machine old now waiting
    (Err fault) = Closes stands reports refuses all (Err fault) old now waiting

-- ---- what a machine does
-- a packet of the line with this number was taken behind these packets with these blocks, or it can't be
abbrev pub Takes : {M : Type 0} → (stands : List (List ℕ) → List ℕ → M → Type 0)
    → (refuses : List (List ℕ) → List ℕ → TraceFault → Type 0) → (accepts : List ℕ → Bool) → (line : ℕ)
    → (packet : List ℕ) → (packets : List (List ℕ)) → (text : List ℕ) → (new : M) → (before after : List ℕ) → RunEnding → Type 0
Takes stands refuses accepts line packet packets text new before after (Ok u) = (accepts packet ≡ true)
    × ((block : List ℕ) × stands (packets ++ packet ∷ []) (text ++ block) new × (after ≡ before ++ block))
Takes stands refuses accepts line packet packets text new before after (Err (Packets l)) = (l ≡ line)
    × (accepts packet ≡ false) × (after ≡ before)
Takes stands refuses accepts line packet packets text new before after (Err (Undefined n)) = (accepts packet ≡ true)
    × refuses packets packet (Undefined n) × (after ≡ before)
Takes stands refuses accepts line packet packets text new before after (Err NoMemory) = Unit {0}
Takes stands refuses accepts line packet packets text new before after (Err Read) = ⊥
Takes stands refuses accepts line packet packets text new before after (Err Write) = ⊥
Takes stands refuses accepts line packet packets text new before after (Err (Limit which count)) = ⊥

-- the end of the report was put behind what waited, or some first bytes of both went out, or nothing did
abbrev pub PutsEnd : (Report : List ℕ → Type 0) → (text : List ℕ)
    → (old now : Option (List ℕ)) → (before after : List ℕ) → RunEnding → Type 0
PutsEnd Report text old now before after (Ok u) = (tail : List ℕ) × Report (text ++ tail) × Waits old now (before ++ tail) after
PutsEnd Report text old now before after (Err Write) = (tail : List ℕ) × Report (text ++ tail) × AppendsPart old now (before ++ tail)
PutsEnd Report text old now before after (Err NoMemory) = now ≡ old
PutsEnd Report text old now before after (Err fault) = ⊥

-- ---- the same in each run, whatever machine it began with
-- the packet was taken behind those that were, or it can't be
abbrev pub TakesEach : {M : Type 0} → (stands : M → List (List ℕ) → List ℕ → M → Type 0)
    → (refuses : M → List (List ℕ) → List ℕ → TraceFault → Type 0) → (accepts : M → ℕ → List ℕ → Bool) → (line : ℕ)
    → (packet : List ℕ) → (old new : M) → (before after : List ℕ) → RunEnding → Type 0
TakesEach {M} stands refuses accepts line packet old new before after ending = (first : M) (packets : List (List ℕ)) (blocks : List ℕ)
    → stands first packets blocks old
    → Takes (stands first) (refuses first) (accepts first (length packets)) line packet packets blocks new before after ending

-- the end of the report was put behind the blocks of those that were taken
abbrev pub EndsEach : {M : Type 0} → (stands : M → List (List ℕ) → List ℕ → M → Type 0)
    → (reports : M → List (List ℕ) → List ℕ → Type 0) → M
    → (old now : Option (List ℕ)) → (before after : List ℕ) → RunEnding → Type 0
EndsEach {M} stands reports machine old now before after ending = (first : M) (packets : List (List ℕ)) (blocks : List ℕ)
    → stands first packets blocks machine → PutsEnd (reports first packets) blocks old now before after ending

-- the line was taken, or the run has ended
abbrev pub ComesEach : {M : Type 0} → (stands : M → List (List ℕ) → List ℕ → M → Type 0) → (reports : M → List (List ℕ) → List ℕ → Type 0)
    → (refuses : M → List (List ℕ) → List ℕ → TraceFault → Type 0) → (accepts : M → ℕ → List ℕ → Bool) → (number : ℕ)
    → (packet : List ℕ) → Line → (old new : M) → (before after : Output) → RunEnding → Type 0
ComesEach {M} stands reports refuses accepts number packet line old new before after ending =
    (first : M) (all : Spelled) (rest : ℕ → Spelled) (start now : Option (List ℕ))
    → Comes (stands first) all (with_line (accepts first) number packet line rest) old start now before.text.items
    → ComesOn (stands first) (reports first) (refuses first) all rest new start now after.text.items ending

-- the next line stands before the others of the reader's file, or none is left, or the run has ended
abbrev pub FollowsEach : {M : Type 0} → (stands : M → List (List ℕ) → List ℕ → M → Type 0) → (reports : M → List (List ℕ) → List ℕ → Type 0)
    → (refuses : M → List (List ℕ) → List ℕ → TraceFault → Type 0) → (fields : M → List Field) → (accepts : M → ℕ → List ℕ → Bool)
    → Option Files → (old new : PacketLines) → M → (taken now : Option (List ℕ))
    → (before after : Output) → Result (Option Line) TraceFault → Type 0
FollowsEach {M} stands reports refuses fields accepts told old new machine taken now before after answer = IfSome told (λ files.
    (first : M) (all : Spelled) (start : Option (List ℕ)) → fields machine ≡ fields first
    → Comes (stands first) all (left_for (fields first) (accepts first) (file_in files old) old) machine start taken before.text.items
    → Follows (stands first) (reports first) (refuses first) all (fields first) (accepts first)
    (file_in files old) new machine start now after.text.items answer)

-- the run over the reader's file began with this machine, and has ended, or a device failed or memory was short
abbrev pub ClosesEach : {M : Type 0} → (stands : M → List (List ℕ) → List ℕ → M → Type 0) → (reports : M → List (List ℕ) → List ℕ → Type 0)
    → (refuses : M → List (List ℕ) → List ℕ → TraceFault → Type 0) → (fields : M → List Field) → (accepts : M → ℕ → List ℕ → Bool)
    → Option Files → PacketLines → M → RunEnding → (old now : Option (List ℕ)) → Output → Type 0
ClosesEach {M} stands reports refuses fields accepts told reader machine ending old now out = IfSome told (λ files.
    (first : M) → stands first [] [] machine → fields machine ≡ fields first
    → Closes (stands first) (reports first) (refuses first)
    (spelled_where (fields first) (accepts first) (file_in files reader)) ending old now out.text.items)

-- the same of the file with this name, where nothing waits any more
abbrev pub WritesEach : {M : Type 0} → (stands : M → List (List ℕ) → List ℕ → M → Type 0) → (reports : M → List (List ℕ) → List ℕ → Type 0)
    → (refuses : M → List (List ℕ) → List ℕ → TraceFault → Type 0) → (fields : M → List Field) → (accepts : M → ℕ → List ℕ → Bool)
    → Option Files → (name : List ℕ) → M → RunEnding → (old now : Option (List ℕ)) → Type 0
WritesEach {M} stands reports refuses fields accepts told name machine ending old now = IfSome told (λ files.
    (first : M) → stands first [] [] machine → fields machine ≡ fields first
    → WritesRun (stands first) (reports first) (refuses first)
    (spelled_where (fields first) (accepts first) (file_of files name)) ending old now)
