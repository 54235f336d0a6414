-- Where a copy of the list stands in its blocks.
use Rattle.std.specs.Prelude.{◌≡◌, ℕ, ◌+◌, ◌<◌, List, [], take, length, get_or}
use Rattle.snap_net.specs.declared.flying.Flying.{Flying}
use Rattle.snap_net.specs.declared.flights.Slot.{Slot}
use Rattle.snap_net.specs.Flights.{joined}

-- the number of the copy at a spot: so many stand before it
abbrev pub number_at : List (List Flying) → Slot → ℕ
number_at blocks s = length (joined (take s.block blocks)) + s.place

-- copy k stands at this spot
pub record IsSpot (blocks : List (List Flying)) (k : ℕ) (s : Slot) : Type 0 where
  pub block : s.block < length blocks
  pub place : s.place < length (get_or blocks s.block [])
  pub number : number_at blocks s ≡ k
