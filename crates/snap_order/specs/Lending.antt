-- A network whose stores and copies are with its workers.
use Rattle.std.specs.Prelude.{◌≡◌, ℕ, ◌<◌, false, List, get_or, length, map}
use Rattle.std.specs.List.{AllZip}
use Rattle.snap_core.specs.Cells.{Kept}
use Rattle.snap_rows.specs.declared.tables.Tables.{Tables}
use Rattle.snap_net.specs.declared.flying.Flying.{Flying}
use Rattle.snap_net.specs.Shown.{NetView, IsNetView}
use Rattle.snap_order.specs.declared.job.Job.{Job}
use Rattle.snap_order.specs.declared.lent.Lent.{Lent}
use Rattle.snap_order.specs.declared.weave.Web.{Web}
use Rattle.snap_order.specs.Dealing.{AreDealt, AreExchanged}
use Rattle.snap_order.specs.Jobs.{HasWorked}
use Rattle.snap_order.specs.Shown.{IsOrderedNetView, OrderedNetView}

-- the jobs have the copies of an ordered network and the stores of its switches, and here are the stores that jobs had
pub record IsLent (workers : ℕ) (v : OrderedNetView) (t : Tables) (packets : ℕ)
    (numbers : List ℕ) (left : List Kept) (given : List Job) : Type 0 where
  pub held : IsNetView v.net
  pub ordered : IsOrderedNetView v
  pub tables : v.net.tables ≡ t
  pub injected : v.net.injected ≡ packets
  pub counts : v.counts ≡ numbers
  pub jobs : List Job
  pub dealt : AreDealt workers (length v.net.stores) v.net.flying jobs
  pub lent : AreExchanged workers (length v.net.stores) v.net.stores jobs left given

-- and they have done their work
pub record IsWorked (workers : ℕ) (v : OrderedNetView) (t : Tables) (packets : ℕ)
    (numbers : List ℕ) (left : List Kept) (given : List Job) : Type 0 where
  pub before : List Job
  pub begun : IsLent workers v t packets numbers left before
  pub worked : AllZip (HasWorked t numbers) before given
  pub enough : (j : ℕ) (d : Job) → j < length given → (get_or given j d).is_short ≡ false

-- so it is of a network whose copies stand at these switches
abbrev pub IsWorkedAt : (workers : ℕ) → (switches : List ℕ) → Lent → OrderedNetView → Type 0
IsWorkedAt workers switches lent v = IsWorked workers v lent.tables lent.injected lent.counts.items lent.stores.items lent.jobs.items
    × (map (λ (c : Flying). c.at) v.net.flying ≡ switches)

-- the network that is put together again, once the stores are back and the copies are woven
abbrev pub held_again : Lent → Web → NetView
held_again lent web = record { tables = lent.tables; stores = lent.stores.items; injected = lent.injected; flying = web.flying.items }

-- it is put together so, with its numbers
abbrev pub IsHeldAgain : Lent → Web → OrderedNetView → Type 0
IsHeldAgain lent web v = (v.net ≡ held_again lent web) × (v.counts ≡ lent.counts.items)
