-- The run by rounds of packets is one, and is a run of these packets.
use Rattle.std.specs.Prelude.{◌≡◌, ℕ, Bool, List, []}
use Rattle.snap_core.specs.Arrays.{zero_arrays}
use Rattle.snap_rows.specs.declared.tables.Tables.{Tables}
use Rattle.snap_rows.specs.Form.{IsWellFormed}
use Rattle.snap_rows.specs.Network.{Event, packets_of}
use Rattle.snap_runs.specs.Plain.{entering}
use Rattle.snap_order.specs.Ordered.{Ordered, OrderedRun, OrderedHappening, begin}
use Rattle.snap_order.specs.Rounds.{GoesByRounds, IsRoundReport}

-- packets have one report by rounds
abbrev pub RoundReportsAreOne : Type 0
RoundReportsAreOne = (t : Tables) → IsWellFormed t → (hops : Bool) (ks : List (List ℕ)) (a b : List ℕ)
    → IsRoundReport t hops ks a → IsRoundReport t hops ks b → a ≡ b

-- a run of these packets to an end
pub record RunsToEnd (t : Tables) (ks : List (ℕ × List ℕ)) (es : List Event) (s : Ordered) (us : List OrderedHappening) : Type 0 where
  pub run : OrderedRun t zero_arrays es s us
  pub packets : packets_of es ≡ ks
  pub ended : s.net.flying ≡ []

-- such is the run by rounds
abbrev pub RoundsRunToEnds : Type 0
RoundsRunToEnds = (t : Tables) (ks : List (List ℕ)) (es : List Event) (s : Ordered) (us : List OrderedHappening)
    → GoesByRounds t (entering ks) (begin t zero_arrays) es s us → RunsToEnd t (entering ks) es s us
