-- What the parts of a step answer.
use Rattle.std.specs.Prelude.{◌≡◌, ℕ, ◌<◌, Bool, Option, Some, List, ◌++◌, IsSome, IfSome, is_some, length}
use Rattle.std.specs.List.{All}
use Rattle.snap_core.specs.Arrays.{Arrays}
use Rattle.snap_core.specs.Tests.{TestFits}
use Rattle.snap_rows.specs.declared.tables.Tables.{Tables}
use Rattle.snap_rows.specs.declared.tables.Row.{Row}
use Rattle.snap_rows.specs.declared.tables.Row.TheVariants.{Field, State, Go, Leaf, Last}
use Rattle.snap_rows.specs.Entries.{Parts, row_at, port_at}
use Rattle.snap_rows.specs.declared.head.Sent.{Sent}
use Rattle.snap_core.specs.declared.policy.Update.{Update}
use Rattle.snap_rows.specs.Form.{IsFieldTest, switch_count}
use Rattle.snap_rows.specs.Home.{AtHome, IsVisited}
use Rattle.snap_rows.specs.Actions.{Action, Forward, Deliver, Fork}
use Rattle.snap_rows.specs.Handles.{Follows, Visits, forked}

-- the components of a test row are below c
abbrev pub TestRowFits : ℕ → Row → Type 0
TestRowFits c (Field test y z) = TestFits c test
TestRowFits c (State test y z) = TestFits c test
TestRowFits c _ = Unit {0}

-- at switch w a walk along rows that pass p goes on from number n to number x, which is above and has a row
pub record GoesOn (t : Tables) (w : ℕ) (k : List ℕ) (p : Row → Bool) (m : Arrays) (n x : ℕ) : Type 0 where
  pub up : n < x
  pub there : IsSome (row_at t w x)
  pub way : (v : ℕ) → Follows t w k p m x v → Follows t w k p m n v

-- one more number on a way along rows that pass p, or none where the row doesn't pass it
pub record IsStep (t : Tables) (w : ℕ) (k : List ℕ) (p : Row → Bool) (m : Arrays) (n : ℕ) (x : Option ℕ) : Type 0 where
  pub body : Row
  pub row : row_at t w n ≡ Some body
  pub test : p body ≡ is_some x
  pub goes : IfSome x (GoesOn t w k p m n)

-- a packet as long as k on its way to a port that exists
pub record IsSent (t : Tables) (k : List ℕ) (x : Sent) : Type 0 where
  pub port : IsSome (port_at t x.port)
  pub long : length x.packet ≡ length k

-- a forwarded head is at home at the switch where it goes, and copies of a fork are as long as k and have ports
abbrev pub Arrives : Tables → List ℕ → Action → Type 0
Arrives t k (Forward to head) = (to < switch_count t) × AtHome t to head
Arrives t k (Deliver port) = Unit {0}
Arrives t k (Fork copies lost) = All (IsSent t k) copies

-- the test of a field row is no state test
abbrev pub IsFieldRowWellFormed : Row → Type 0
IsFieldRowWellFormed (Field test y z) = IsFieldTest test
IsFieldRowWellFormed _ = Unit {0}

-- a visit of number v, with its updates after those before
abbrev pub AppendsVisit : Tables → ℕ → List ℕ → Arrays → ℕ → ℕ → ℕ → List Update → List Update → Type 0
AppendsVisit t w k m r n v before after = (us : List Update) × Visits t w k m r n v us × (after ≡ before ++ us)

-- a row that says where a number is decided, or a leaf of version 1
abbrev pub IsGoOrLeaf : Option Row → Type 0
IsGoOrLeaf (Some (Go x)) = Unit {0}
IsGoOrLeaf (Some (Leaf ss os)) = Unit {0}
IsGoOrLeaf _ = ⊥

-- a leaf of version 2
abbrev pub IsLast : Row → Type 0
IsLast b = (us : List Update) × (os : List Parts) × (b ≡ Last us os)

-- the number has a row at w that is a leaf of version 2
abbrev pub HasLast : Tables → ℕ → ℕ → Type 0
HasLast t w n = (us : List Update) × (os : List Parts) × (row_at t w n ≡ Some (Last us os))

-- the action is the fork at that leaf
abbrev pub ForksAt : Tables → ℕ → List ℕ → ℕ → Action → Type 0
ForksAt t w k n a = (us : List Update) × (os : List Parts) × (row_at t w n ≡ Some (Last us os)) × (a ≡ forked t os k)

-- the number has a row at w from which rank r can be visited
abbrev pub IsVisitedAt : Tables → ℕ → ℕ → ℕ → Type 0
IsVisitedAt t w r n = (b : Row) × (row_at t w n ≡ Some b) × IsVisited t r b
