-- What is noted of one packet while its copies are in flight.
use Rattle.std.specs.Prelude.{◌≡◌, ℕ, ◌+◌, ◌<◌, Bool, Option, Some, None, length, List, [], ◌∷◌, ◌++◌, map, codes, sum, slice_get, unwrap_or, IsPermutation, IsSorted, if◌then◌else◌}
use Rattle.std.specs.List.{concat}
use Rattle.hex.specs.Hex.{encode_lower}
use Rattle.snap_core.specs.declared.program.Field.{Field}
use Rattle.snap_core.specs.Packets.{packet_cmp}
use Rattle.snap_rows.specs.declared.tables.Tables.{Tables}
use Rattle.snap_rows.specs.declared.head.Sent.{Sent}
use Rattle.snap_rows.specs.Happenings.{losses_of}
use Rattle.snap_rows.specs.Network.{Happening, Crossed, Delivered, Forked}
use Rattle.snap_net.specs.Frames.{frame}
use Rattle.snap_net.specs.declared.flying.Flying.{Flying}
use Rattle.snap_net.specs.declared.happened.Moved.{Moved}
use Rattle.snap_net.specs.declared.happened.Moved.TheVariants as bare
use Rattle.snap_net.specs.Shown.{moving}
use Rattle.snap_runs.specs.declared.frames.Frames.{Frames}
use Rattle.snap_runs.specs.declared.tally.Tally.{Tally}
use Rattle.snap_report.specs.Reports.{out_lines, lost_line}
use Rattle.snap_runs.specs.Reports.{hops_text, lead_of, packet_line, packets_delivered}

-- the packets that a step delivers
abbrev pub delivered_by : Moved → List (List ℕ)
delivered_by (bare.Forwarded number from to) = []
delivered_by (bare.Delivered number port k) = k ∷ []
delivered_by (bare.Forked number copies lost) = []
delivered_by (bare.Stayed number rank) = []
delivered_by (bare.Waited number rank) = []

-- how many packets are lost in it
abbrev pub lost_by : Moved → ℕ
lost_by (bare.Forwarded number from to) = 0
lost_by (bare.Delivered number port k) = 0
lost_by (bare.Forked number copies lost) = lost
lost_by (bare.Stayed number rank) = 0
lost_by (bare.Waited number rank) = 0

-- the packets of copies on their way to ports
abbrev pub packets_sent : List Sent → List (List ℕ)
packets_sent copies = map (λ (x : Sent). x.packet) copies

-- the number of the packet whose copy steps
abbrev pub number_by : Moved → ℕ
number_by (bare.Forwarded number from to) = number
number_by (bare.Delivered number port k) = number
number_by (bare.Forked number copies lost) = number
number_by (bare.Stayed number rank) = number
number_by (bare.Waited number rank) = number

-- the name of the array or the switch with this number
abbrev pub name_in : List (List ℕ) → ℕ → List ℕ
name_in switches w = unwrap_or (slice_get switches w) []

-- `hop FROM TO FRAME`
abbrev pub hop_text : List (List ℕ) → (from to : ℕ) → (frame : List ℕ) → List ℕ
hop_text switches from to frame = concat
    (codes "hop " ∷ name_in switches from ∷ codes " " ∷ name_in switches to ∷ codes " " ∷ encode_lower frame ∷ codes "\n" ∷ [])

-- the line of the link that the copy crosses, if it crosses one
abbrev pub hop_told : Frames → List (List ℕ) → Happening → List ℕ
hop_told f switches (Crossed c to head) = hop_text switches c.at to (lead_of f c.number ++ frame head c.packet)
hop_told f switches (Delivered c port) = []
hop_told f switches (Forked c copies lost) = []

-- the line of the link from a switch that this copy has crossed
abbrev pub line_of : Frames → List (List ℕ) → (from : ℕ) → Option Flying → List ℕ
line_of f switches from None = []
line_of f switches from (Some c) = hop_text switches from c.at (lead_of f c.number ++ frame c.head c.packet)

-- the line of the link that the copy at a place has crossed, if its step crossed one
abbrev pub line_after : Frames → List (List ℕ) → List Flying → ℕ → Moved → List ℕ
line_after f switches cs place (bare.Forwarded number from to) = line_of f switches from (slice_get cs place)
line_after f switches cs place _ = []

-- one that crossed a link stands at a place
abbrev pub IsThere : List Flying → ℕ → Moved → Type 0
IsThere cs place (bare.Forwarded number from to) = place < length cs
IsThere cs place _ = Unit {0}

-- what a step tells was noted, with its line where hops are told
pub record Notes (f : Frames) (t : Tables) (hops : Bool) (x : Happening) (old new : Tally) : Type 0 where
  pub delivered : new.delivered.items ≡ old.delivered.items ++ delivered_by (moving x)
  pub lost : new.lost ≡ old.lost + lost_by (moving x)
  pub hops_told : new.hops.items ≡ old.hops.items ++ (if hops then hop_told f t.switches x else [])

-- the tally tells what happened to packet i
pub record IsTally (f : Frames) (t : Tables) (hops : Bool) (i : ℕ) (hs : List Happening) (y : Tally) : Type 0 where
  pub delivered : y.delivered.items ≡ packets_delivered i hs
  pub lost : y.lost ≡ sum (losses_of i hs)
  pub hops_told : y.hops.items ≡ hops_text f t hops i hs

-- the block of the packet with this number was put: these lines of links, the packets that were sent, in rising order, and how
-- many were lost
pub record PutsBlock (fields : List Field) (number : ℕ) (hops : List ℕ) (sent : List (List ℕ)) (lost : ℕ) (old new : List ℕ) : Type 0 where
  pub outs : List (List ℕ)
  pub rising : IsSorted packet_cmp outs
  pub delivered : IsPermutation outs sent
  pub is : new ≡ old ++ (packet_line number ++ hops ++ out_lines fields outs ++ lost_line lost)

-- as a tally tells it
abbrev pub IsBlockText : List Field → (number : ℕ) → Tally → (old new : List ℕ) → Type 0
IsBlockText fields number y old new = PutsBlock fields number y.hops.items y.delivered.items y.lost old new
