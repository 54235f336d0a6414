-- Updates at one switch, next to each other.
use Rattle.std.specs.Prelude.{◌≡◌, ◌≢◌, ℕ, ◌<◌, ◌≤◌, List, length, get_or}
use Rattle.snap_core.specs.declared.policy.Update.{Update}

-- the updates from `start` on and below `end` are at the switch of the first, and the one at `end` isn't
pub record IsRun (place : ℕ → ℕ) (us : List Update) (start stop : ℕ) : Type 0 where
  pub more : start < stop
  pub within : stop ≤ length us
  pub same : (k : ℕ) (d : Update) → start ≤ k → k < stop → place (get_or us k d).var ≡ place (get_or us start d).var
  pub apart : (d : Update) → stop < length us → place (get_or us stop d).var ≢ place (get_or us start d).var
