-- Choices among the numbers of one component, and policies part by part.
use Rattle.std.specs.Prelude.{◌≡◌, ℕ, ◌<◌, ◌==◌, List, [], ◌∷◌, map, slice_get, slice_index, if◌then◌else◌, option_and_then, unwrap_or, IfSome}
use Rattle.std.proofs.Common.{Bor}
use Rattle.snap_core.specs.declared.policy.Pol.{Pol}
use Rattle.snap_core.specs.Arrays.{Arrays}
use Rattle.snap_core.specs.Cases.{case_at}
use Rattle.snap_core.specs.Fits.{PolFits}
use Rattle.snap_core.specs.Meaning.{eval}
use Rattle.snap_core.specs.Runs.{after_first}
use Rattle.snap_report.specs.declared.choice.Choice.{Choice}
use Rattle.snap_report.specs.declared.laid.Part.{Part}

-- on a packet a policy does what another one does, which fits where it fits
pub record ComesTo (pol other : Pol) (k : List ℕ) : Type 0 where
  pub fits : (n v : ℕ) → PolFits n v pol → PolFits n v other
  pub same : (m : Arrays) → eval pol m k ≡ eval other m k

-- a policy tests whether a component is a number
pub record IsTest (pol : Pol) (c num : ℕ) (yes no : Pol) : Type 0 where
  pub comp : (n v : ℕ) → PolFits n v pol → c < n
  pub comes : (k : List ℕ) → ComesTo pol (if slice_index k c == num then yes else no) k

-- ---- many numbers
abbrev pub seen : List (Bor Pol) → List Pol
seen ps = map (λ p. p.now) ps

-- the branch of a packet
abbrev pub picked : Choice → List ℕ → Pol
picked c k = unwrap_or (option_and_then (slice_get (seen c.branches.items)) (case_at c.cases (slice_index k c.comp))) c.rest.now

pub record IsChoice (pol : Pol) (c : Choice) : Type 0 where
  pub comp : (n v : ℕ) → PolFits n v pol → c.comp < n
  pub comes : (k : List ℕ) → ComesTo pol (picked c k) k

-- ---- part by part
-- a policy is a first one and then another on each packet that it gives
pub record IsSequence (whole first next : Pol) : Type 0 where
  pub fits : (n v : ℕ) → PolFits n v whole → PolFits n v first × PolFits n v next
  pub same : (m : Arrays) (k : List ℕ) → eval whole m k ≡ option_and_then (after_first next) (eval first m k)

-- the choice of a part is that part
abbrev pub IsPart : Part → Type 0
IsPart x = IfSome x.choice (IsChoice x.pol.now)

-- a policy is a first one and then these parts in order
abbrev pub AreParts : Pol → List Part → Pol → Type 0
AreParts first [] whole = whole ≡ first
AreParts first (x ∷ xs) whole = (more : Pol) × IsSequence more first x.pol.now × AreParts more xs whole
