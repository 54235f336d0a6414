-- How far a run in order has come.
use Rattle.std.specs.Prelude.{◌≡◌, ℕ, ◌<◌, Bool, List, [], reverse, if◌then◌else◌}
use Rattle.std.specs.List.{All}
use Rattle.snap_rows.specs.declared.tables.Tables.{Tables}
use Rattle.snap_rows.specs.Network.{Copy}
use Rattle.snap_net.specs.declared.flying.Flying.{Flying}
use Rattle.snap_runs.specs.declared.frames.Frames.TheVariants.{Numbered}
use Rattle.snap_runs.specs.declared.tally.Tally.{Tally}
use Rattle.snap_runs.specs.Playing.{AreTallied, HasNoted, IsReady, packets_in}
use Rattle.snap_runs.specs.Tallies.{line_after, number_by}
use Rattle.snap_order.specs.declared.play.OrderedPlay.{OrderedPlay}
use Rattle.snap_net.specs.declared.happened.Moved.{Moved}
use Rattle.snap_order.specs.Ordered.{Ordered, OrderedHappening, happenings}
use Rattle.snap_order.specs.Shown.{RepresentsInOrder}

-- the packets that wait stand with the next one last
abbrev pub left_in : OrderedPlay → List (List ℕ)
left_in v = packets_in (reverse v.waiting.items)

-- The network shows the state after all this happened, and there is a tally of each packet that was injected.
pub record Plays (t : Tables) (hops : Bool) (s : Ordered) (us : List OrderedHappening) (v : OrderedPlay) : Type 0 where
  pub tables : v.net.net.tables ≡ t
  pub hops_same : v.hops ≡ hops
  pub shows : RepresentsInOrder v.net s
  pub below : All (λ (c : Copy). c.number < s.net.injected) s.net.flying
  pub tallies : AreTallied Numbered t hops s.net.injected (happenings us) v.tallies.items
  pub ready : All (IsReady t) v.waiting.items

-- what is told of a step of the copy at a place was noted
abbrev pub NotesTurn : Bool → List (List ℕ) → List Flying → ℕ → Moved → (old new : List Tally) → Type 0
NotesTurn hops switches cs place m old new = HasNoted (if hops then line_after Numbered switches cs place m else []) m old new

-- it is a copy of one of the first n packets
abbrev pub NumberIsBelow : ℕ → Moved → Type 0
NumberIsBelow n m = number_by m < n
