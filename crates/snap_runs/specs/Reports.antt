-- The report of a run of the network.
use Rattle.std.specs.Prelude.{◌≡◌, ℕ, ◌+◌, ◌==◌, Bool, Some, List, [], ◌∷◌, ◌++◌, map, length, sum, codes, decimal, slice_get, unwrap_or, IsPermutation, IsSorted, if◌then◌else◌}
use Rattle.std.specs.List.{concat}
use Rattle.std.specs.Int.{to_be_bytes}
use mir.Syntax.{w64}
use Rattle.hex.specs.Hex.{encode_lower}
use Rattle.snap_core.specs.declared.place.Entry.{Entry}
use Rattle.snap_core.specs.Listing.{IsListing}
use Rattle.snap_core.specs.Packets.{packet_cmp}
use Rattle.snap_rows.specs.declared.tables.ArrayAt.{ArrayAt}
use Rattle.snap_rows.specs.declared.tables.Tables.{Tables}
use Rattle.snap_rows.specs.declared.head.Head.{Head}
use Rattle.snap_rows.specs.declared.head.Sent.{Sent}
use Rattle.snap_rows.specs.Happenings.{deliveries_of, losses_of}
use Rattle.snap_rows.specs.Network.{Copy, Net, Happening, Crossed, Delivered, Forked, global_store}
use Rattle.snap_net.specs.Frames.{frame}
use Rattle.snap_net.specs.Shown.{NetView, Represents}
use Rattle.snap_report.specs.Reports.{out_lines, end_text, lost_line}
use Rattle.snap_runs.specs.declared.frames.Frames.{Frames}
use Rattle.snap_runs.specs.declared.frames.Frames.TheVariants.{Plain, Numbered}

abbrev pub switch_name : Tables → ℕ → List ℕ
switch_name t w = unwrap_or (slice_get t.switches w) []

-- what is told before a frame of packet i
abbrev pub lead_of : Frames → (i : ℕ) → List ℕ
lead_of Plain i = []
lead_of Numbered i = to_be_bytes w64 i

-- `hop FROM TO FRAME`: a copy crosses a link with this head
abbrev pub hop_line : Frames → Tables → Copy → (to : ℕ) → Head → List ℕ
hop_line f t c to head = concat (codes "hop " ∷ switch_name t c.at ∷ codes " " ∷ switch_name t to
    ∷ codes " " ∷ encode_lower (lead_of f c.number ++ frame head c.packet) ∷ codes "\n" ∷ [])

-- a line for each link that a copy of packet i crosses, in the order of the steps
abbrev pub hop_lines : Frames → Tables → (i : ℕ) → List Happening → List ℕ
hop_lines f t i [] = []
hop_lines f t i (Crossed c to head ∷ hs) = if c.number == i then hop_line f t c to head ++ hop_lines f t i hs else hop_lines f t i hs
hop_lines f t i (Delivered c port ∷ hs) = hop_lines f t i hs
hop_lines f t i (Forked c copies lost ∷ hs) = hop_lines f t i hs

-- these lines stand only where hops are told
abbrev pub hops_text : Frames → Tables → (hops : Bool) → (i : ℕ) → List Happening → List ℕ
hops_text f t hops i hs = if hops then hop_lines f t i hs else []

-- `packet N`, counted from 1
abbrev pub packet_line : ℕ → List ℕ
packet_line n = concat (codes "packet " ∷ decimal n ∷ codes "\n" ∷ [])

-- the packets that were delivered of packet i
abbrev pub packets_delivered : (i : ℕ) → List Happening → List (List ℕ)
packets_delivered i hs = map (λ (x : Sent). x.packet) (deliveries_of i hs)

-- The block of packet i, counted from 0: its hops, the packets that were delivered of it, in rising order, and how many were lost.
pub record IsBlockBy (f : Frames) (t : Tables) (hops : Bool) (i : ℕ) (hs : List Happening) (text : List ℕ) : Type 0 where
  pub outs : List (List ℕ)
  pub rising : IsSorted packet_cmp outs
  pub delivered : IsPermutation outs (packets_delivered i hs)
  pub is : text ≡ packet_line (i + 1) ++ hops_text f t hops i hs ++ out_lines t.fields outs ++ lost_line (sum (losses_of i hs))

-- the blocks of so many packets, one after another
pub record AreBlocksBy (f : Frames) (t : Tables) (hops : Bool) (count : ℕ) (hs : List Happening) (text : List ℕ) : Type 0 where
  pub each : List (List ℕ)
  pub as_many : length each ≡ count
  pub blocks : (i : ℕ) (block : List ℕ) → slice_get each i ≡ Some block → IsBlockBy f t hops i hs block
  pub is : text ≡ concat each

abbrev pub names_of : List ArrayAt → List (List ℕ)
names_of arrays = map (λ (a : ArrayAt). a.name) arrays

abbrev pub array_names : Tables → List (List ℕ)
array_names t = names_of t.arrays

-- The report of a run with these happenings that ends in this state: the blocks of so many packets, and the places that aren't 0.
pub record IsRunReportBy (f : Frames) (t : Tables) (hops : Bool) (count : ℕ) (s : Net) (hs : List Happening) (text : List ℕ) : Type 0 where
  pub blocks : List ℕ
  pub are : AreBlocksBy f t hops count hs blocks
  pub entries : List Entry
  pub listed : IsListing (global_store t s) entries
  pub is : text ≡ blocks ++ end_text (array_names t) entries

-- the same with frames as they are
abbrev pub IsBlock : Tables → (hops : Bool) → (i : ℕ) → List Happening → List ℕ → Type 0
IsBlock t hops i hs text = IsBlockBy Plain t hops i hs text

abbrev pub AreBlocks : Tables → (hops : Bool) → (count : ℕ) → List Happening → List ℕ → Type 0
AreBlocks t hops count hs text = AreBlocksBy Plain t hops count hs text

abbrev pub IsRunReport : Tables → (hops : Bool) → (count : ℕ) → Net → List Happening → List ℕ → Type 0
IsRunReport t hops count s hs text = IsRunReportBy Plain t hops count s hs text

-- the end of a network's report was put behind a text
abbrev pub PutsEnd : NetView → (before after : List ℕ) → Type 0
PutsEnd v before after = (s : Net) → Represents v s → (entries : List Entry)
    × IsListing (global_store v.tables s) entries × (after ≡ before ++ end_text (array_names v.tables) entries)
