-- One of two diagrams, by a truth over stores and packets.
use Rattle.std.specs.Prelude.{◌≡◌, ◌==◌, ℕ, ◌&&◌, Bool, true, false, nat_eq, List, map, if◌then◌else◌}
use lib.Pointwise.{pointwise}
use Rattle.snap_dep.specs.Ranks.{Grouping}
use Rattle.snap_core.specs.declared.policy.Atom.{Atom}
use Rattle.snap_core.specs.declared.policy.Op.{Op}
use Rattle.snap_core.specs.declared.policy.Term.{Term}
use Rattle.snap_core.specs.declared.policy.Term.TheVariants.{Num, Plus}
use Rattle.snap_core.specs.declared.policy.Test.TheVariants.{State}
use Rattle.snap_core.specs.declared.policy.Update.{Update}
use Rattle.snap_core.specs.Arrays.{Arrays, number_after, place_at, updates, value_of}
use Rattle.snap_core.specs.Tests.{passes, term_value}
use Rattle.snap_context.specs.declared.context.Verdict.{Verdict}
use Rattle.snap_context.specs.declared.context.Verdict.TheVariants.{Always, Never, Unsure}
use Rattle.snap_context.specs.View.{View}
use Rattle.snap_diagrams.specs.Diagrams.{Diagram, walk}
use Rattle.snap_diagrams.specs.Picks.{IsDiagram, sizes}
use Rattle.snap_compose.specs.Substituted.{OnStores}

-- r goes as a where P holds, and else as b
pub record IsSplit (groups : Grouping) (v : View) (P : Arrays → List ℕ → Bool) (a b r : Diagram) : Type 0 where
  pub walks : OnStores v (λ m k. walk r m k ≡ (if P m k then walk a m k else walk b m k))
  pub keeps : IsDiagram groups.ranks (sizes groups v) r

-- both truths hold
abbrev pub also : (Arrays → List ℕ → Bool) → (Arrays → List ℕ → Bool) → Arrays → List ℕ → Bool
also P Q m k = P m k && Q m k

-- where C holds, r goes as a where P holds, and else as b
pub record IsSplitOn (groups : Grouping) (v : View) (C P : Arrays → List ℕ → Bool) (a b r : Diagram) : Type 0 where
  pub walks : OnStores v (λ m k. C m k ≡ true → walk r m k ≡ (if P m k then walk a m k else walk b m k))
  pub keeps : IsDiagram groups.ranks (sizes groups v) r

-- two indices give one place of an array
abbrev pub same_index_on : List Atom → List Atom → Arrays → List ℕ → Bool
same_index_on ix iy m k = pointwise nat_eq (map (λ a. value_of a k) ix) (map (λ a. value_of a k) iy)

-- what may be said of a truth: it holds always, or never, or nothing is said
abbrev pub MayBeSaid : (Arrays → List ℕ → Bool) → Verdict → Type 0
MayBeSaid P Always = (m : Arrays) (k : List ℕ) → P m k ≡ true
MayBeSaid P Never = (m : Arrays) (k : List ℕ) → P m k ≡ false
MayBeSaid P Unsure = Unit {0}

-- a state test behind updates
abbrev pub passes_after : List Update → ℕ → List Atom → Term → Arrays → List ℕ → Bool
passes_after ups v ix t m k = passes (State v ix t) (updates m ups k) k

-- a state test behind updates and then an operation on its place
abbrev pub passes_after_op : Op → List Update → ℕ → List Atom → Term → Arrays → List ℕ → Bool
passes_after_op op ups v ix t m k = number_after op (updates m ups k (place_at v ix k)) k == term_value t k

-- the number of a term, and the term with another number
abbrev pub number_of : Term → ℕ
number_of (Num n) = n
number_of (Plus c p) = p

abbrev pub with_number : Term → ℕ → Term
with_number (Num n) x = Num x
with_number (Plus c p) x = Plus c x
