-- How far the packet has come that is alone on its way in a plain run in order.
use Rattle.std.specs.Prelude.{◌≡◌, ℕ, ◌+◌, ◌<◌, ◌≤◌, [], ◌∷◌}
use Rattle.std.specs.List.{All}
use Rattle.snap_rows.specs.declared.head.Head.{Head}
use Rattle.snap_rows.specs.declared.head.Head.TheVariants.{Walk, Stage, Out, Visit}
use Rattle.snap_rows.specs.declared.tables.Tables.{Tables}
use Rattle.snap_rows.specs.Entries.{ranks}
use Rattle.snap_rows.specs.Network.{Copy}
use Rattle.snap_order.specs.Laws.{HasForked}
use Rattle.snap_order.specs.Ordered.{Ordered}

-- the head is before its visit of rank r, or on its way there
abbrev pub StandsBefore : Head → ℕ → Type 0
StandsBefore (Walk n) r = r ≡ 0
StandsBefore (Visit q n) r = r ≡ q
StandsBefore (Stage n i) r = ⊥
StandsBefore (Out p) r = ⊥

-- packet i alone is on its way: the ranks before its next visit have handled it, and the others the packets before it; or it has forked
pub data Serves (t : Tables) (i : ℕ) (s : Ordered) : Type 0 where
  comes : {c : Copy} {r : ℕ} → s.net.flying ≡ c ∷ [] → c.number ≡ i → StandsBefore c.head r
      → ((q : ℕ) → q < r → s.handled q ≡ i + 1) → ((q : ℕ) → r ≤ q → q < ranks t → s.handled q ≡ i) → Serves t i s
  leaves : All HasForked s.net.flying → ((q : ℕ) → q < ranks t → s.handled q ≡ i + 1) → Serves t i s

-- each rank has handled all packets
abbrev pub IsRested : Tables → Ordered → Type 0
IsRested t s = (q : ℕ) → q < ranks t → s.handled q ≡ s.net.injected
