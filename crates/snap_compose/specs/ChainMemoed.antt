-- What a memo of one call remembers. Where it goes by one number, the second is 0.
use Rattle.std.specs.Prelude.{ℕ, Bool, ◌<◌, ◌≤◌, List, [], ◌∷◌, length, take, All, ⊤}
use Rattle.snap_dep.specs.Ranks.{Grouping}
use Rattle.snap_core.specs.declared.policy.Atom.{Atom}
use Rattle.snap_core.specs.declared.policy.Op.{Op}
use Rattle.snap_core.specs.declared.policy.Test.TheVariants.{State}
use Rattle.snap_core.specs.declared.policy.Update.{Update}
use Rattle.snap_core.specs.Arrays.{Arrays}
use Rattle.snap_core.specs.Cells.{Cells}
use Rattle.snap_core.specs.Ranges.{UpdateInRange}
use Rattle.snap_core.specs.Tests.{OutFits}
use Rattle.snap_context.specs.View.{View}
use Rattle.snap_diagrams.specs.declared.node.Node.{Node}
use Rattle.snap_diagrams.specs.Memos.{Remembers}
use Rattle.snap_diagrams.specs.declared.leaf.Leaf.{Leaf}
use Rattle.snap_diagrams.specs.Bounds.{TestIn, UpdateIn, LeafIn}
use Rattle.snap_diagrams.specs.Diagrams.{Diagram, diagram}
use Rattle.snap_diagrams.specs.Picks.{IsWellFormedDiagram, sizes}
use Rattle.snap_compose.specs.Substituted.{IsLate}
use Rattle.snap_diagrams.specs.declared.leaf.Go.{Go}
use Rattle.snap_diagrams.specs.declared.leaf.Leaf.TheVariants.{Go as Goes}
use Rattle.snap_compose.specs.declared.marks.Marks.{Marks}
use Rattle.snap_compose.specs.declared.pending_updates.Pending.{Pending}
use Rattle.snap_compose.specs.Marks.{AreMarked}
use Rattle.snap_compose.specs.Separating.{IsWider}
use Rattle.snap_compose.specs.Spread.{IsPrefixed, IsSequel, IsChained}
use Rattle.snap_compose.specs.Splits.{also, IsSplitOn, passes_after, passes_after_op, same_index_on, with_number}

-- the two indices of a pending test give one place, and so does that of an update
abbrev pub at_place : Pending → Arrays → List ℕ → Bool
at_place a = same_index_on a.at.now a.index.now

abbrev pub also_at : Pending → Update → Arrays → List ℕ → Bool
also_at a u = also (at_place a) (same_index_on u.index a.index.now)

-- a pending test, with a number, behind the first updates, and behind an operation on its place after these
abbrev pub passes_behind : Pending → ℕ → ℕ → Arrays → List ℕ → Bool
passes_behind a left num = passes_after (take left a.ups.now) a.var a.index.now (with_number a.term num)

abbrev pub passes_behind_op : Pending → Op → ℕ → ℕ → Arrays → List ℕ → Bool
passes_behind_op a op left num = passes_after_op op (take left a.ups.now) a.var a.index.now (with_number a.term num)

-- where C holds, r goes as the diagrams of a pending test, as P says
abbrev pub IsPendingSplit : Grouping → View → Pending → (C P : Arrays → List ℕ → Bool) → List (Node Leaf) → Diagram → Type 0
IsPendingSplit groups v a C P ns r = IsSplitOn groups v C P (diagram ns a.yes) (diagram ns a.no) r

-- the number d is that of a pending test behind the first updates
pub record IsBehind (groups : Grouping) (v : View) (a : Pending) (ns : List (Node Leaf)) (left num d : ℕ) : Type 0 where
  pub number : d < length ns
  pub split : IsPendingSplit groups v a (at_place a) (passes_behind a left num) ns (diagram ns d)

abbrev pub BehindFor : Grouping → View → Pending → List (Node Leaf) → List ℕ → ℕ → Type 0
BehindFor groups v a ns (left ∷ num ∷ []) d = IsBehind groups v a ns left num d
BehindFor groups v a ns key d = ⊤

-- what is asked for a state test behind the first updates, before two diagrams: all fit, and the memo is theirs
pub record IsAskedBehind (groups : Grouping) (v : View) (ns : List (Node Leaf)) (memo : Cells) (a : Pending) (left : ℕ) : Type 0 where
  pub yes : IsWellFormedDiagram groups v ns a.yes
  pub no : IsWellFormedDiagram groups v ns a.no
  pub updates : All (UpdateIn (sizes groups v)) a.ups.now
  pub ranges : All UpdateInRange a.ups.now
  pub test : TestIn (sizes groups v) (State a.var a.index.now a.term)
  pub within : left ≤ length a.ups.now
  pub known : Remembers (BehindFor groups v a ns) memo

-- the number d is that of a diagram behind an out and updates
pub record IsLateFor (groups : Grouping) (v : View) (out : List (ℕ × Atom))
    (ups : List Update) (ns : List (Node Leaf)) (a d : ℕ) : Type 0 where
  pub first : a < length ns
  pub number : d < length ns
  pub late : IsLate groups v out ups (diagram ns a) (diagram ns d)

abbrev pub LateFor : Grouping → View → List (ℕ × Atom) → List Update → List (Node Leaf) → List ℕ → ℕ → Type 0
LateFor groups v out ups ns (a ∷ b ∷ []) d = IsLateFor groups v out ups ns a d
LateFor groups v out ups ns key d = ⊤

-- what is asked for a diagram behind an out and updates: all fit, the diagram is marked, and the memo is theirs
pub record IsAskedLate (groups : Grouping) (v : View) (out : List (ℕ × Atom))
    (ups : List Update) (ns : List (Node Leaf)) (marks : Marks) (memo : Cells) (d : ℕ) : Type 0 where
  pub first : IsWellFormedDiagram groups v ns d
  pub fits : OutFits (sizes groups v).comps out
  pub updates : All (UpdateIn (sizes groups v)) ups
  pub marked : AreMarked ns marks
  pub known : Remembers (LateFor groups v out ups ns) memo

-- the number d is that of a diagram behind a leaf's updates and logs
pub record IsPrefixedFor (groups : Grouping) (v : View) (g : Go) (ns : List (Node Leaf)) (a d : ℕ) : Type 0 where
  pub first : a < length ns
  pub number : d < length ns
  pub prefixed : IsPrefixed groups v g (diagram ns a) (diagram ns d)

abbrev pub PrefixedFor : Grouping → View → Go → List (Node Leaf) → List ℕ → ℕ → Type 0
PrefixedFor groups v g ns (a ∷ b ∷ []) d = IsPrefixedFor groups v g ns a d
PrefixedFor groups v g ns key d = ⊤

-- what is asked for a diagram behind a leaf's updates and logs: both fit, and the memo is the leaf's
pub record IsAskedPrefix (groups : Grouping) (v : View) (g : Go) (ns : List (Node Leaf)) (memo : Cells) (d : ℕ) : Type 0 where
  pub first : IsWellFormedDiagram groups v ns d
  pub leaf : LeafIn (sizes groups v) (Goes g)
  pub known : Remembers (PrefixedFor groups v g ns) memo

-- the number r is that of the diagram a with one out more at each leaf
pub record IsWiderFor (groups : Grouping) (v : View) (out : List (ℕ × Atom)) (ns : List (Node Leaf)) (a r : ℕ) : Type 0 where
  pub first : a < length ns
  pub number : r < length ns
  pub wider : IsWider groups v (out ∷ []) (diagram ns a) (diagram ns r)

abbrev pub WiderFor : Grouping → View → List (ℕ × Atom) → List (Node Leaf) → List ℕ → ℕ → Type 0
WiderFor groups v out ns (a ∷ b ∷ []) r = IsWiderFor groups v out ns a r
WiderFor groups v out ns key r = ⊤

-- what is asked for one out more at each leaf: both fit, and the memo is the out's
pub record IsAskedWider (groups : Grouping) (v : View) (out : List (ℕ × Atom)) (ns : List (Node Leaf)) (memo : Cells) (d : ℕ) : Type 0 where
  pub first : IsWellFormedDiagram groups v ns d
  pub fits : OutFits (sizes groups v).comps out
  pub known : Remembers (WiderFor groups v out ns) memo

-- the number r is that of the settled diagram a, and then the diagram d
pub record IsSequelFor (groups : Grouping) (v : View) (d : ℕ) (ns : List (Node Leaf)) (a r : ℕ) : Type 0 where
  pub first : a < length ns
  pub second : d < length ns
  pub number : r < length ns
  pub sequel : IsSequel groups v (diagram ns d) (diagram ns a) (diagram ns r)

abbrev pub SequelFor : Grouping → View → ℕ → List (Node Leaf) → List ℕ → ℕ → Type 0
SequelFor groups v d ns (a ∷ b ∷ []) r = IsSequelFor groups v d ns a r
SequelFor groups v d ns key r = ⊤

-- what is asked for a settled diagram, and then another: both fit, the second is marked, and the memo is the second's
pub record IsAskedSequel (groups : Grouping) (v : View) (d : ℕ)
    (ns : List (Node Leaf)) (marks : Marks) (memo : Cells) (a : ℕ) : Type 0 where
  pub first : IsWellFormedDiagram groups v ns a
  pub second : IsWellFormedDiagram groups v ns d
  pub marked : AreMarked ns marks
  pub known : Remembers (SequelFor groups v d ns) memo

-- the number r is that of the diagram a, and then the diagram d
pub record IsChainedFor (groups : Grouping) (v : View) (ns : List (Node Leaf)) (a d r : ℕ) : Type 0 where
  pub first : a < length ns
  pub second : d < length ns
  pub number : r < length ns
  pub chained : IsChained groups v (diagram ns d) (diagram ns a) (diagram ns r)

abbrev pub ChainedFor : Grouping → View → List (Node Leaf) → List ℕ → ℕ → Type 0
ChainedFor groups v ns (a ∷ d ∷ []) r = IsChainedFor groups v ns a d r
ChainedFor groups v ns key r = ⊤

-- what is asked for a diagram, and then another: both fit and are marked, and the memo is that of such pairs
pub record IsAskedChain (groups : Grouping) (v : View) (ns : List (Node Leaf)) (marks : Marks) (memo : Cells) (a d : ℕ) : Type 0 where
  pub first : IsWellFormedDiagram groups v ns a
  pub second : IsWellFormedDiagram groups v ns d
  pub marked : AreMarked ns marks
  pub known : Remembers (ChainedFor groups v ns) memo
