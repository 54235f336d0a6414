-- How far a changes file is read, and how far a run with changes has come.
use Rattle.std.specs.Prelude.{◌≡◌, ℕ, ◌+◌, ◌≤◌, ◌≢◌, List, [], ◌∷◌, ◌++◌, length, reverse, Result, Ok, Err}
use Rattle.snap_core.specs.Arrays.{zero_arrays}
use Rattle.snap_core.specs.declared.program.Which.TheVariants.{Changes}
use Rattle.snap_rows.specs.declared.tables.Tables.{Tables}
use Rattle.snap_rows.specs.Network.{Net, start}
use Rattle.snap_net.specs.Shown.{Represents}
use Rattle.snap_runs.specs.declared.frames.Frames.TheVariants.{Plain}
use Rattle.snap_runs.specs.declared.change.Change.{Change}
use Rattle.snap_runs.specs.declared.change.ChangesFault.{ChangesFault}
use Rattle.snap_runs.specs.declared.change.ChangesFault.TheVariants.{Line, Limit, NoMemory}
use Rattle.snap_runs.specs.declared.change.Read.{Read}
use Rattle.snap_runs.specs.declared.later.Later.{Later}
use Rattle.snap_runs.specs.declared.mover.Mover.{Mover}
use Rattle.snap_runs.specs.Changing.{AreBlocksFrom, HaveShapeOf, IsAhead, IsRising, RunsThrough, Passage, in_force}
use Rattle.snap_runs.specs.ChangeLines.{behind, changes_from}
use Rattle.snap_runs.specs.Shapes.{HaveOneShape}

-- ---- a changes file
-- what a file says of which some lines were read, and these are left
abbrev pub read_on : Read → List (List ℕ) → Result (List Change) ChangesFault
read_on r lines = behind r.changes.items (changes_from (r.lines + 1) r.least (length r.changes.items) lines)

-- a line was taken, or it ends the reading
abbrev pub TakesChange : List ℕ → (old new : Read) → Result (Unit {0}) ChangesFault → Type 0
TakesChange line old new (Ok u) = (lines : List (List ℕ)) → read_on old (line ∷ lines) ≡ read_on new lines
TakesChange line old new (Err (Line number)) = (lines : List (List ℕ)) → read_on old (line ∷ lines) ≡ Err (Line number)
TakesChange line old new (Err (Limit which count)) = (lines : List (List ℕ)) → read_on old (line ∷ lines) ≡ Err (Limit which count)
TakesChange line old new (Err NoMemory) = Unit {0}

-- a change stands behind the others, or there are too many
abbrev pub AddsChange : (after : ℕ) → (name : List ℕ) → (old new : Read) → Result (Unit {0}) ChangesFault → Type 0
AddsChange after name old new (Ok u) =
    (length old.changes.items ≢ 16)
    × (new.changes.items ≡ old.changes.items ++ record { after = after; line = old.lines; name = name } ∷ []) × (new.least ≡ after + 1)
AddsChange after name old new (Err (Line number)) = ⊥
AddsChange after name old new (Err (Limit which count)) = (length old.changes.items ≡ 16) × (which ≡ Changes) × (count ≡ 17)
AddsChange after name old new (Err NoMemory) = Unit {0}

-- ---- a run
-- the changes that are still to come, the next one first
abbrev pub left_in : Mover → List Later
left_in m = reverse m.later.items

-- the first change comes behind so many packets at the earliest
abbrev pub IsFrom : List Later → ℕ → Type 0
IsFrom [] n = Unit {0}
IsFrom (l ∷ ls) n = n ≤ l.after

-- the last of these changes comes behind another number of packets
abbrev pub IsNotDue : List Later → ℕ → Type 0
IsNotDue items n = (before : List Later) (next : Later) → items ≡ before ++ next ∷ [] → next.after ≢ n

-- the changes that are still to come have the tables' shape, and rise from the number of packets on
pub record Keeps (m : Mover) : Type 0 where
  pub shapes : HaveShapeOf m.tracer.net.tables (left_in m)
  pub rising : IsRising (left_in m)
  pub from : IsFrom (left_in m) m.tracer.net.injected

-- These packets have gone through, and the network shows the state behind them.
pub record Stands (first : Tables) (later : List Later) (packets : List (List ℕ)) (turns : List Passage) (m : Mover) : Type 0 where
  pub state : Net
  pub run : RunsThrough m.tracer.net.tables (left_in m) state first later (start first zero_arrays) packets turns
  pub shows : Represents m.tracer.net state
  pub rests : state.flying ≡ []
  pub injected : state.injected ≡ length packets
  pub as_many : length turns ≡ length packets
  pub shape : HaveOneShape m.tracer.net.tables first
  pub force : (i : ℕ) → length packets ≤ i → in_force first later i ≡ in_force m.tracer.net.tables (left_in m) i

-- no change is due
abbrev pub IsSettled : Mover → Type 0
IsSettled m = IsAhead (left_in m) m.tracer.net.injected

-- a change that was due is made
abbrev pub HasSettled : (old new : Mover) → Type 0
HasSettled old new = (first : Tables) (later : List Later) (packets : List (List ℕ)) (turns : List Passage)
    → Stands first later packets turns old → Stands first later packets turns new

-- In a run that began with the first of these networks these packets were taken, of which these are the blocks.
pub record StandsBehind (first : Mover) (packets : List (List ℕ)) (text : List ℕ) (m : Mover) : Type 0 where
  pub hops_same : m.tracer.hops ≡ first.tracer.hops
  pub frames_same : m.tracer.frames ≡ Plain
  pub turns : List Passage
  pub stood : Stands first.tracer.net.tables (left_in first) packets turns m
  pub blocks : AreBlocksFrom first.tracer.hops 0 turns text
