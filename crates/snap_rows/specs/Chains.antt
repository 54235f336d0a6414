-- Runs of value tests of one component, taken in one step.
use Rattle.std.specs.Prelude.{◌≡◌, ◌⊎◌, ℕ, ◌<◌, Bool, true, Some, List, IsSome, slice_index, unwrap_or}
use Rattle.std.specs.List.{All}
use Rattle.snap_core.specs.Arrays.{Arrays}
use Rattle.snap_core.specs.Cases.{case_at}
use Rattle.snap_core.specs.declared.policy.Test.{Test}
use Rattle.snap_rows.specs.declared.chains.Chain.{Chain}
use Rattle.snap_rows.specs.declared.chains.Chains.{Chains}
use Rattle.snap_rows.specs.declared.tables.Tables.{Tables}
use Rattle.snap_rows.specs.declared.tables.Row.{Row}
use Rattle.snap_rows.specs.declared.tables.Row.TheVariants.{Field}
use Rattle.snap_rows.specs.Entries.{row_at}
use Rattle.snap_rows.specs.Form.{comps}
use Rattle.snap_rows.specs.Handles.{side}
use Rattle.snap_rows.specs.Steps.{GoesOn}

-- the number to which a chain leads a packet
abbrev pub picked : Chain → List ℕ → ℕ
picked c k = unwrap_or (case_at c.cases (slice_index k c.comp)) c.rest

-- each field row passes p
abbrev pub PassesFields : (Row → Bool) → Type 0
PassesFields p = (test : Test) (y z : ℕ) → p (Field test y z) ≡ true

-- field rows lead packet k from number n to number x, at each switch that has a row of n
abbrev pub Jumps : Tables → List ℕ → ℕ → ℕ → Type 0
Jumps t k n x = (w : ℕ) → IsSome (row_at t w n) → (p : Row → Bool) → PassesFields p → (m : Arrays) → GoesOn t w k p m n x

-- a chain leads each packet where field rows lead it
pub record IsChain (t : Tables) (c : Chain) : Type 0 where
  pub comp : c.comp < comps t
  pub jumps : (k : List ℕ) → Jumps t k c.first (picked c k)

abbrev pub AreChains : Tables → Chains → Type 0
AreChains t c = All (IsChain t) c.chains.items

-- a row of number n leads packet k to number x: by its test, or by the chain that begins there
abbrev pub LeadsOn : Tables → List ℕ → ℕ → Row → Arrays → ℕ → Type 0
LeadsOn t k n b m x = (side b m k ≡ Some x) ⊎ Jumps t k n x
