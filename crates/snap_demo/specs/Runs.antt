-- What the network did with packets.
use Rattle.std.specs.Prelude.{◌≡◌, ℕ, ◌<◌, List, ◌++◌, ◌∷◌, [], length, sum, sum_by}
use Rattle.std.specs.List.{All, range_with_len}
use Rattle.snap_core.specs.Arrays.{zero_arrays}
use Rattle.snap_rows.specs.Happenings.{losses_of, number_of}
use Rattle.snap_rows.specs.Network.{Event, Happening, IsPlainRun, Net}
use Rattle.snap_net.specs.Shown.{NetView, Represents}
use Rattle.snap_runs.specs.Plain.{entering}
use Rattle.snap_runs.specs.Reports.{packets_delivered}
use Rattle.snap_demo.specs.declared.counts.PacketCounts.{PacketCounts}

-- so many of the first packets were delivered, and so many lost
abbrev pub delivered_of : (count : ℕ) → List Happening → ℕ
delivered_of count hs = sum_by (λ i. length (packets_delivered i hs)) (range_with_len 0 count)

abbrev pub lost_of : (count : ℕ) → List Happening → ℕ
lost_of count hs = sum_by (λ i. sum (losses_of i hs)) (range_with_len 0 count)

-- The network shows the state after the plain run of these packets, and its deliveries and losses were counted.
pub record HasRun (ks : List (List ℕ)) (v : NetView) (c : PacketCounts) : Type 0 where
  pub events : List Event
  pub state : Net
  pub happenings : List Happening
  pub run : IsPlainRun v.tables zero_arrays (entering ks) events state happenings
  pub shows : Represents v state
  pub injected : state.injected ≡ length ks
  pub before : All (λ h. number_of h < length ks) happenings
  pub delivered : c.delivered ≡ delivered_of (length ks) happenings
  pub lost : c.lost ≡ lost_of (length ks) happenings

-- one packet more has run
abbrev pub RunsOn : List ℕ → (old : NetView) → PacketCounts → (new : NetView) → PacketCounts → Type 0
RunsOn k old before new after = (ks : List (List ℕ)) → HasRun ks old before → HasRun (ks ++ k ∷ []) new after
