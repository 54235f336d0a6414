-- Updates at numbers.
use Rattle.std.specs.Prelude.{◌≡◌, ℕ, List, ◌++◌}
use Rattle.std.specs.List.{All}
use Rattle.std.specs.List.Sorted.{IsPermutation}
use Rattle.std.specs.Ordering.{nat_cmp}
use Rattle.std.specs.Cmp.Lexicographic.{slice_cmp}
use Rattle.std.specs.declared.cmp.Ordering.{Ordering}
use Rattle.snap_core.specs.declared.policy.Update.{Update}
use Rattle.snap_core.specs.Arrays.{Arrays, updates}
use Rattle.snap_context.specs.Known.{IsFixed}
use Rattle.snap_diagrams.specs.Codes.{index_code}

-- an update at numbers alone
abbrev pub IsFixedUpdate : Update → Type 0
IsFixedUpdate u = All IsFixed u.index

-- updates that do the same, in another order
pub record AreReordered (us vs : List Update) : Type 0 where
  pub same : (m : Arrays) (k : List ℕ) → updates m vs k ≡ updates m us k
  pub permuted : IsPermutation us vs

-- some, and then a run of updates at numbers, do the same as us
pub record EndInRun (us some run : List Update) : Type 0 where
  pub fixed : All IsFixedUpdate run
  pub same : AreReordered us (some ++ run)

-- the order of two updates' indices, the other way round
abbrev pub falling : Update → Update → Ordering
falling u v = slice_cmp nat_cmp (index_code v.index) (index_code u.index)
