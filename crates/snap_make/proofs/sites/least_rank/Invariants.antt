-- The least rank so far, and what is left.
use Rattle.std.proofs.Common.{◌≡◌, ℕ, drop}
use Rattle.std.specs.Prelude.{◌==◌, ◌&&◌, ◌||◌, nat_le}
use Rattle.std.specs.List.{list_any}
use Rattle.snap_rows.specs.declared.tables.ArrayAt.{ArrayAt}
use Rattle.snap_make.specs.Sites.{is_within}
use Rattle.snap_make.proofs.sites.least_rank.Given as goal

abbrev pub invariant-loop-array : goal.invariant-loop-array
invariant-loop-array l = (q : ℕ) → (is_within l.least q || list_any (λ (a : ArrayAt). (a.at == l.fn.at) && nat_le a.rank q) (drop l.array-index l.fn.arrays))
    ≡ list_any (λ (a : ArrayAt). (a.at == l.fn.at) && nat_le a.rank q) l.fn.arrays
