-- Which ranks have handled a packet after a step.
use Rattle.std.specs.Prelude.{◌≡◌, ◌⊎◌, ℕ, ◌<◌, ◌≤◌, Option, Some, None, List, length, get_or, slice_get}
use Rattle.snap_rows.specs.declared.head.Fate.{Fate}
use Rattle.snap_rows.specs.declared.head.Fate.TheVariants as fate
use Rattle.snap_rows.specs.declared.head.Head.{Head}
use Rattle.snap_rows.specs.declared.head.Head.TheVariants.{Walk, Stage, Out, Visit}
use Rattle.snap_rows.specs.declared.tables.Tables.{Tables}
use Rattle.snap_rows.specs.Entries.{ranks}
use Rattle.snap_faithful.specs.InOrder.{Becomes, SentOn, Waiting, Forks}
use Rattle.snap_net.specs.declared.flying.Flying.{Flying}
use Rattle.snap_net.specs.declared.happened.Moved.{Moved}
use Rattle.snap_net.specs.declared.happened.Moved.TheVariants as bare

-- ---- the ranks whose visits a step makes
-- the rank of the visit to which a head comes first, or behind all
abbrev pub first_of : Tables → Head → ℕ
first_of t (Walk n) = 0
first_of t (Visit r n) = r
first_of t (Stage n i) = ranks t
first_of t (Out p) = ranks t

-- the rank for whose visit a head goes on, or else this one
abbrev pub next_rank : ℕ → Head → ℕ
next_rank first (Visit r n) = r
next_rank first _ = first

abbrev pub behind_at : ℕ → Option Flying → ℕ
behind_at first None = first
behind_at first (Some c) = next_rank first c.head

-- the rank behind the visits of a step of the copy at a place, which told this
abbrev pub behind_after : Tables → (first : ℕ) → List Flying → ℕ → Moved → ℕ
behind_after t first cs place (bare.Forwarded number from to) = behind_at first (slice_get cs place)
behind_after t first cs place (bare.Delivered number port k) = first
behind_after t first cs place (bare.Forked number copies lost) = ranks t
behind_after t first cs place (bare.Stayed number r) = r
behind_after t first cs place (bare.Waited number r) = first

-- the same by what becomes of the copy
abbrev pub fate_behind : Tables → (first : ℕ) → Fate → ℕ
fate_behind t first (fate.Seek x head) = next_rank first head
fate_behind t first (fate.Deliver port) = first
fate_behind t first (fate.Fork outs) = ranks t
fate_behind t first (fate.Stay r n) = r
fate_behind t first (fate.Wait r) = first

-- the rank behind the last one that was visited
abbrev pub rank_behind : Tables → Becomes → ℕ
rank_behind t (SentOn to r n) = r
rank_behind t (Waiting r n) = r
rank_behind t (Forks copies lost) = ranks t

-- the ranks from r on below e have handled so many packets, and the others as many as before
pub record HasCounted (old : List ℕ) (r e number : ℕ) (new : List ℕ) : Type 0 where
  pub long : length new ≡ length old
  pub mine : (j : ℕ) → r ≤ j → j < e → get_or new j 0 ≡ number
  pub others : (j : ℕ) → (j < r) ⊎ (e ≤ j) → get_or new j 0 ≡ get_or old j 0
