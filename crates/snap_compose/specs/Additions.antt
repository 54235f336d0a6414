-- Updates that add, and updates that do the same.
use Rattle.std.specs.Prelude.{◌≡◌, ℕ, ◌+◌, ◌%◌, ◌^◌, ◌<◌, ◌≤◌, List, All, get_or, length}
use Rattle.snap_core.specs.declared.policy.Op.{Op}
use Rattle.snap_core.specs.declared.policy.Op.TheVariants.{Put, Add}
use Rattle.snap_core.specs.declared.policy.Update.{Update}
use Rattle.snap_core.specs.Arrays.{Arrays, updates}
use Rattle.snap_diagrams.specs.Bounds.{Sizes, UpdateIn}

-- what an operation adds
abbrev pub added : Op → ℕ
added (Put a) = 0
added (Add n) = n

abbrev pub IsAddition : Op → Type 0
IsAddition (Put a) = ⊥
IsAddition (Add n) = Unit {0}

abbrev pub Adds : Update → Type 0
Adds u = IsAddition u.op

-- the same arrays after either, on every packet, and the first within the bounds of the second
pub record AreSame (us vs : List Update) : Type 0 where
  pub after : (m : Arrays) (k : List ℕ) → updates m us k ≡ updates m vs k
  pub fits : (s : Sizes) → All (UpdateIn s) vs → All (UpdateIn s) us

-- an array, and an index that is spelled the same
pub record IsSpelledAt (u v : Update) : Type 0 where
  pub var : u.var ≡ v.var
  pub index : u.index ≡ v.index

-- the update i is at the place of another, and it and all after it add
pub record IsAddend (us : List Update) (v : Update) (i : ℕ) : Type 0 where
  pub within : i < length us
  pub place : (d : Update) → IsSpelledAt (get_or us i d) v
  pub adds : (j : ℕ) (d : Update) → i ≤ j → j < length us → Adds (get_or us j d)

-- an operation with so much more added
abbrev pub added_up : Op → ℕ → Op
added_up (Put a) n = Put a
added_up (Add x) n = Add ((x + n) % 2 ^ 64)
