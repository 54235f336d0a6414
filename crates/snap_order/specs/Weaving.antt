-- What the workers of a round made, put together.
use Rattle.std.specs.Prelude.{◌≡◌, ℕ, ◌%◌, Some, None, List, [], get_or, map}
use Rattle.std.specs.List.{flat_map}
use Rattle.snap_rows.specs.declared.tables.Tables.{Tables}
use Rattle.snap_rows.specs.Entries.{rank_at}
use Rattle.snap_net.specs.declared.flying.Flying.{Flying}
use Rattle.snap_order.specs.declared.hand.Stepped.{Stepped}
use Rattle.snap_order.specs.declared.job.Job.{Job}
use Rattle.snap_order.specs.declared.weave.Web.{Web}
use Rattle.snap_order.specs.Hands.{Woven}

-- what the steps of each job gave
abbrev pub queues_of : List Job → ℕ → List Stepped
queues_of jobs j = get_or (map (λ (job : Job). job.done.items) jobs) j []

-- so it was put together
pub record AreWoven (workers : ℕ) (copies : List Flying) (queues : ℕ → List Stepped) (web : Web) : Type 0 where
  pub steps : List Stepped
  pub woven : Woven workers copies queues steps
  pub done : web.done.items ≡ map (λ (x : Stepped). x.moved) steps
  pub flying : web.flying.items ≡ flat_map (λ (x : Stepped). x.left.items) steps

-- rank r has handled so many packets, and had handled so many before
pub record HasCounts (t : Tables) (workers : ℕ) (jobs : List Job) (r before after : ℕ) : Type 0 where
  pub own : (w : ℕ) (d : Job) → rank_at t r ≡ Some w → after ≡ get_or (get_or jobs (w % workers) d).counts.items r before
  pub none : rank_at t r ≡ None → after ≡ before
