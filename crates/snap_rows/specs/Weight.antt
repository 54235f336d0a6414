-- How many steps can still be made by copies in flight: fewer with each step.
use Rattle.std.specs.Prelude.{ℕ, ◌+◌, ◌*◌, ◌<◌, Bool, true, false, List, [], ◌∷◌, length, max, sum_by, if◌then◌else◌}
use Rattle.std.specs.List.{All}
use Rattle.snap_core.specs.Arrays.{Arrays}
use Rattle.snap_rows.specs.declared.tables.RowAt.{RowAt}
use Rattle.snap_rows.specs.declared.tables.Tables.{Tables}
use Rattle.snap_rows.specs.declared.tables.Row.{Row}
use Rattle.snap_rows.specs.declared.tables.Row.TheVariants.{Leaf, Last}
use Rattle.snap_rows.specs.declared.head.Head.{Head}
use Rattle.snap_rows.specs.declared.head.Head.TheVariants.{Out}
use Rattle.snap_rows.specs.Actions.{Action, Forward, Deliver, Fork}
use Rattle.snap_rows.specs.declared.head.Sent.{Sent}
use Rattle.snap_rows.specs.Form.{IsWellFormed, switch_count}
use Rattle.snap_rows.specs.Rules.{IsValid}
use Rattle.snap_rows.specs.Handles.{Handles}
use Rattle.snap_rows.specs.Home.{AtHome}
use Rattle.snap_rows.specs.Network.{Copy, Net, Happening, Leads, Step}
use Rattle.snap_rows.specs.Bound.{longest, left, IsBounded}

abbrev pub outs_of : Row → ℕ
outs_of (Leaf ss os) = length os
outs_of (Last us os) = length os
outs_of _ = 0

abbrev pub most_outs_in : List RowAt → ℕ
most_outs_in [] = 0
most_outs_in (r ∷ rs) = max (outs_of r.row) (most_outs_in rs)

-- the most outs of a leaf
abbrev pub most_outs : Tables → ℕ
most_outs t = most_outs_in t.rows

abbrev pub is_out : Head → Bool
is_out (Out p) = true
is_out _ = false

-- the steps that a copy with this head at w and the copies that it forks into can still make, at most
abbrev pub weight : Tables → ℕ → Head → ℕ
weight t w h = left t w h + 1 + (if is_out h then 0 else most_outs t * (longest t + 1))

-- the same after a step
abbrev pub weight_after : Tables → ℕ → Action → ℕ
weight_after t w (Forward to head) = weight t to head
weight_after t w (Deliver port) = 0
weight_after t w (Fork copies lost) = sum_by (λ (x : Sent). weight t w (Out x.port)) copies

abbrev pub EachStepIsLighter : Type 0
EachStepIsLighter = (t : Tables) → IsValid t → IsWellFormed t → (w : ℕ) → w < switch_count t → (k : List ℕ) (m : Arrays)
    (h : Head) (m' : Arrays) (a : Action) → AtHome t w h → Handles t w k m h m' a → weight_after t w a < weight t w h

-- the steps that copies can still make, at most
abbrev pub steps_left : Tables → List Copy → ℕ
steps_left t cs = sum_by (λ (c : Copy). weight t c.at c.head) cs

abbrev pub StepsFall : Type 0
StepsFall = (t : Tables) → IsValid t → IsWellFormed t → (s s' : Net) (i : ℕ) (hs : List Happening)
    → All (IsBounded t) s.flying → Leads t s (Step i) s' hs → steps_left t s'.flying < steps_left t s.flying
