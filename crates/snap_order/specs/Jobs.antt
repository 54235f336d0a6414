-- What a worker has in a round, and its work.
use Rattle.std.specs.Prelude.{◌≡◌, ℕ, ◌<◌, ◌/◌, false, List, [], ◌∷◌, get_or, length}
use Rattle.std.specs.List.{All}
use Rattle.snap_rows.specs.declared.tables.Tables.{Tables}
use Rattle.snap_rows.specs.Entries.{ranks}
use Rattle.snap_net.specs.declared.flying.Flying.{Flying}
use Rattle.snap_order.specs.declared.job.Job.{Job}
use Rattle.snap_order.specs.Hands.{InPlace, IsTwo, Works, part_of}

-- a job that isn't begun
pub record IsJob (t : Tables) (job : Job) : Type 0 where
  pub some : 0 < job.workers
  pub places : All (λ (c : Flying). c.at / job.workers < length job.stores.items) job.copies.items
  pub copies : All (InPlace t) job.copies.items
  pub fresh : job.counts.items ≡ []
  pub undone : job.done.items ≡ []

-- what ranks have handled: a job that has made no step counts nothing
abbrev pub counts_after : (counts own : List ℕ) → List ℕ
counts_after counts [] = counts
counts_after counts (n ∷ own) = n ∷ own

-- its copies have made their steps, from these numbers on
pub record WorkedOn (t : Tables) (counts : List ℕ) (old new : Job) : Type 0 where
  pub works : Works t old.workers (part_of old.workers old.stores.items counts) old.copies.items
      (part_of old.workers new.stores.items (counts_after counts new.counts.items)) new.done.items
  pub counted : (r : ℕ) → get_or (counts_after counts new.counts.items) r 0 ≡ get_or new.counts.items r (get_or counts r 0)
  pub long : length new.stores.items ≡ length old.stores.items

-- so they have, if memory wasn't short
abbrev pub HasWorked : (t : Tables) (counts : List ℕ) (old new : Job) → Type 0
HasWorked t counts old new = new.is_short ≡ false → WorkedOn t counts old new

-- jobs that aren't begun can be worked at, over such tables, from these numbers on
pub record AreReady (t : Tables) (counts : List ℕ) (jobs : List Job) : Type 0 where
  pub tables : IsTwo t
  pub long : length counts ≡ ranks t
  pub each : All (IsJob t) jobs
