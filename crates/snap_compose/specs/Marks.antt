-- What a diagram's leaves set, update and write, and which arrays it tests, as marks tell.
use Rattle.std.specs.Prelude.{◌≡◌, ℕ, ◌<◌, true, false, List, bit_or, ◌||◌, ◌&&◌}
use Rattle.std.specs.List.{All}
use Rattle.snap_core.specs.declared.policy.Atom.{Atom}
use Rattle.snap_core.specs.declared.policy.Atom.TheVariants.{Num as Number, Comp}
use Rattle.snap_core.specs.declared.policy.Term.{Term}
use Rattle.snap_core.specs.declared.policy.Term.TheVariants.{Num, Plus}
use Rattle.snap_core.specs.declared.policy.Test.{Test}
use Rattle.snap_core.specs.declared.policy.Test.TheVariants.{Value, Equal, State}
use Rattle.snap_core.specs.declared.policy.Update.{Update}
use Rattle.snap_core.specs.Arrays.{has}
use Rattle.snap_context.specs.Known.{IsAmong}
use Rattle.snap_diagrams.specs.declared.node.Node.{Node}
use Rattle.snap_diagrams.specs.declared.leaf.Leaf.{Leaf}
use Rattle.snap_diagrams.specs.declared.leaf.Leaf.TheVariants.{Race, Go as Goes}
use Rattle.snap_diagrams.specs.Diagrams.{Diagram, Only, Asks}
use Rattle.snap_diagrams.specs.Reached.{AreNoted}
use Rattle.snap_compose.specs.declared.marks.Mark.{Mark}
use Rattle.snap_compose.specs.declared.marks.Marks.{Marks}

-- a set of 64 bits tells that the number isn't in it
abbrev pub IsMissed : ℕ → ℕ → Type 0
IsMissed set n = (n < 64) × (has set n ≡ false)

abbrev pub SetsAmong : ℕ → List (ℕ × Atom) → Type 0
SetsAmong set o = All (λ (p : ℕ × Atom). IsAmong set p.0) o

abbrev pub UpdatesAmong : ℕ → List Update → Type 0
UpdatesAmong set us = All (λ (u : Update). IsAmong set u.var) us

-- the variables that updates change are in a set
abbrev pub AreLogged : ℕ → List Update → Type 0
AreLogged set us = All (λ (u : Update). has set u.var ≡ true) us

-- the leaf logs all that it updates
abbrev pub LeafLogsUpdates : Leaf → Type 0
LeafLogsUpdates Race = Unit {0}
LeafLogsUpdates (Goes g) = AreLogged g.writes g.ups

-- the leaf sets and updates no more than is marked, logs no write where none is marked, and all updates where that is marked
abbrev pub LeafMarked : Mark → Leaf → Type 0
LeafMarked k Race = Unit {0}
LeafMarked k (Goes g) = All (SetsAmong k.sets) g.outs × UpdatesAmong k.updates g.ups
    × (k.writes ≡ false → g.writes ≡ 0) × (k.framed ≡ true → AreLogged g.writes g.ups)

abbrev pub TestMarked : Mark → Test → Type 0
TestMarked k (Value c n) = Unit {0}
TestMarked k (Equal l r p) = Unit {0}
TestMarked k (State v ix t) = IsAmong k.tests v

-- no leaf and no test of the diagram does more than is marked
abbrev pub IsMarkedBy : Mark → Diagram → Type 0
IsMarkedBy k (Only l) = LeafMarked k l
IsMarkedBy k (Asks t y n) = TestMarked k t × IsMarkedBy k y × IsMarkedBy k n

-- each number's diagram by what is noted at its place
abbrev pub AreMarked : List (Node Leaf) → Marks → Type 0
AreMarked ns marks = AreNoted IsMarkedBy ns marks.reached.ids.items marks.noted.items

-- what either of two marks says
abbrev pub either_mark : Mark → Mark → Mark
either_mark a b = record {
  sets = bit_or a.sets b.sets;
  updates = bit_or a.updates b.updates;
  tests = bit_or a.tests b.tests;
  writes = a.writes || b.writes;
  framed = a.framed && b.framed;
}

-- a test of nothing that the marked leaves set or update
abbrev pub AtomMissed : Mark → Atom → Type 0
AtomMissed k (Number n) = Unit {0}
AtomMissed k (Comp c) = IsMissed k.sets c

abbrev pub TermMissed : Mark → Term → Type 0
TermMissed k (Num n) = Unit {0}
TermMissed k (Plus c p) = IsMissed k.sets c

abbrev pub TestMissed : Mark → Test → Type 0
TestMissed k (Value c n) = IsMissed k.sets c
TestMissed k (Equal l r p) = IsMissed k.sets l × IsMissed k.sets r
TestMissed k (State v ix t) = IsMissed k.updates v × All (AtomMissed k) ix × TermMissed k t

-- no leaf logs a write
abbrev pub LeafWritesNothing : Leaf → Type 0
LeafWritesNothing Race = Unit {0}
LeafWritesNothing (Goes g) = g.writes ≡ 0

abbrev pub WritesNothing : Diagram → Type 0
WritesNothing (Only l) = LeafWritesNothing l
WritesNothing (Asks t y n) = WritesNothing y × WritesNothing n

-- each leaf logs all that it updates
abbrev pub LogsUpdates : Diagram → Type 0
LogsUpdates (Only l) = LeafLogsUpdates l
LogsUpdates (Asks t y n) = LogsUpdates y × LogsUpdates n
