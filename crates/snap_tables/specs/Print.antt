-- When a sink may be said to have failed.
use Rattle.std.specs.Prelude.{◌≡◌, ◌≤◌, ℕ, Result, IfErr}
use Rattle.snap_io.specs.Causes.{Rose}
use Rattle.snap_tables.specs.declared.fault.PrintFault.{PrintFault}
use Rattle.snap_tables.specs.declared.fault.PrintFault.TheVariants.{Write}

-- the count of faults did not fall, and the sink is said to have failed only where it rose
pub record Blames (before now : ℕ) (result : Result (Unit {0}) PrintFault) : Type 0 where
  pub later : before ≤ now
  pub failed : IfErr result (λ e. e ≡ Write → Rose before now)
