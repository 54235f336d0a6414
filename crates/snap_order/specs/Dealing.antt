-- A network in parts, and what each worker gets of it for a round.
use Rattle.std.specs.Prelude.{◌≡◌, ℕ, ◌<◌, ◌≤◌, ◌↔◌, ◌/◌, ◌%◌, false, List, [], get_or, length}
use Rattle.snap_core.specs.Cells.{Kept}
use Rattle.snap_net.specs.declared.flying.Flying.{Flying}
use Rattle.snap_order.specs.declared.job.Job.{Job}
use Rattle.snap_order.specs.Hands.{share}

-- so many places are there for the stores of those switches below n whose numbers have this remainder: the quotient is the place
abbrev pub ArePlaces : (workers rest n places : ℕ) → Type 0
ArePlaces workers rest n places = (w : ℕ) → w % workers ≡ rest → (w < n) ↔ (w / workers < places)

-- the job of this remainder isn't begun, has these copies, and places for the stores of its switches below n
pub record IsDealt (workers rest n : ℕ) (cs : List Flying) (job : Job) : Type 0 where
  pub number : job.workers ≡ workers
  pub places : ArePlaces workers rest n (length job.stores.items)
  pub copies : job.copies.items ≡ cs
  pub fresh : job.counts.items ≡ []
  pub undone : job.done.items ≡ []
  pub enough : job.is_short ≡ false

-- there is a job for each remainder, which has the copies at its switches
pub record AreDealt (workers switches : ℕ) (copies : List Flying) (jobs : List Job) : Type 0 where
  pub count : length jobs ≡ workers
  pub each : (j : ℕ) (d : Job) → j < workers → IsDealt workers j switches (share workers j copies) (get_or jobs j d)

-- the same job, but for its copies
pub record SameButCopies (old new : Job) : Type 0 where
  pub workers : new.workers ≡ old.workers
  pub stores : new.stores.items ≡ old.stores.items
  pub counts : new.counts.items ≡ old.counts.items
  pub done : new.done.items ≡ old.done.items
  pub is_short : new.is_short ≡ old.is_short

-- the same job, but for its stores, which are as many
pub record SameButStores (old new : Job) : Type 0 where
  pub workers : new.workers ≡ old.workers
  pub long : length new.stores.items ≡ length old.stores.items
  pub counts : new.counts.items ≡ old.counts.items
  pub copies : new.copies.items ≡ old.copies.items
  pub done : new.done.items ≡ old.done.items
  pub is_short : new.is_short ≡ old.is_short

-- the store in the place of switch w at its job
abbrev pub kept_at : (workers : ℕ) → List Job → Job → ℕ → Kept
kept_at workers jobs d w = get_or (get_or jobs (w % workers) d).stores.items (w / workers) []

-- the stores of the switches below n have changed places with those of the jobs
pub record AreExchanged (workers n : ℕ) (stores : List Kept) (jobs : List Job) (stores' : List Kept) (jobs' : List Job) : Type 0 where
  pub long : length stores' ≡ length stores
  pub count : length jobs' ≡ length jobs
  pub lent : (w : ℕ) (d : Job) → w < n → kept_at workers jobs' d w ≡ get_or stores w []
  pub given : (w : ℕ) (d : Job) → w < n → get_or stores' w [] ≡ kept_at workers jobs d w
  pub still_here : (w : ℕ) → n ≤ w → get_or stores' w [] ≡ get_or stores w []
  pub still_there : (w : ℕ) (d : Job) → n ≤ w → kept_at workers jobs' d w ≡ kept_at workers jobs d w
  pub same : (j : ℕ) (d : Job) → j < length jobs → SameButStores (get_or jobs j d) (get_or jobs' j d)
