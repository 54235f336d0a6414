-- A run has one report.
use Rattle.std.proofs.Common.{◌≡◌, ℕ, ◌+◌, Bool, List, ◌++◌, sym, ap, ◌∙◌, IsPermutation, sum}
use Rattle.std.specs.List.{concat}
use Rattle.std.proofs.lemmas.List.Sorted.{IsPermutation-sym, IsPermutation-trans}
use Rattle.snap_core.specs.declared.place.Entry.{Entry}
use Rattle.snap_core.specs.Listing.{IsListing}
use Rattle.snap_core.specs.Arrays.{Arrays}
use Rattle.snap_core.proofs.OneListing.{one_listing}
use Rattle.snap_rows.specs.declared.tables.Tables.{Tables}
use Rattle.snap_rows.specs.Happenings.{losses_of}
use Rattle.snap_rows.specs.Network.{Net, Happening}
use Rattle.snap_report.specs.Reports.{out_lines, end_text, lost_line}
use Rattle.snap_runs.specs.declared.frames.Frames.{Frames}
use Rattle.snap_runs.specs.Reports.{IsBlockBy, AreBlocksBy, IsRunReportBy, packet_line, hops_text, packets_delivered, array_names}
use Rattle.snap_runs.proofs.InOrder.{same_lists, same_packets_in_order}

-- packets in order, of one list of deliveries, are the same list
same_outs : (xs ys zs : List (List ℕ)) → IsPermutation xs zs → IsPermutation ys zs → IsPermutation xs ys
same_outs xs ys zs a b = IsPermutation-trans xs zs ys a (IsPermutation-sym ys zs b)

pub block_one : (f : Frames) (t : Tables) (hops : Bool) (i : ℕ) (hs : List Happening) (a b : List ℕ) → IsBlockBy f t hops i hs a → IsBlockBy f t hops i hs b → a ≡ b
block_one f t hops i hs a b x y =
    let outs : x.outs ≡ y.outs = same_packets_in_order x.outs y.outs x.rising y.rising (same_outs x.outs y.outs (packets_delivered i hs) x.delivered y.delivered) in
    x.is ∙ ap (λ outs. packet_line (i + 1) ++ hops_text f t hops i hs ++ out_lines t.fields outs ++ lost_line (sum (losses_of i hs))) outs ∙ sym y.is

pub blocks_one : (f : Frames) (t : Tables) (hops : Bool) (count : ℕ) (hs : List Happening) (a b : List ℕ) → AreBlocksBy f t hops count hs a → AreBlocksBy f t hops count hs b → a ≡ b
blocks_one f t hops count hs a b x y =
    let each : x.each ≡ y.each = same_lists x.each y.each (x.as_many ∙ sym y.as_many) (λ i v w p q. block_one f t hops i hs v w (x.blocks i v p) (y.blocks i w q)) in
    x.is ∙ ap concat each ∙ sym y.is

pub listings_one : (m : Arrays) (es fs : List Entry) → IsListing m es → IsListing m fs → es ≡ fs
listings_one m es fs a b = one_listing es fs a.rising b.rising a.nonzero b.nonzero (λ p. a.numbers p ∙ sym (b.numbers p))

pub reports_one : (f : Frames) (t : Tables) (hops : Bool) (count : ℕ) (s : Net) (hs : List Happening) (a b : List ℕ) → IsRunReportBy f t hops count s hs a → IsRunReportBy f t hops count s hs b → a ≡ b
reports_one f t hops count s hs a b x y =
    let blocks : x.blocks ≡ y.blocks = blocks_one f t hops count hs x.blocks y.blocks x.are y.are in
    let entries : x.entries ≡ y.entries = listings_one _ x.entries y.entries x.listed y.listed in
    x.is ∙ (λ i. blocks i ++ end_text (array_names t) (entries i)) ∙ sym y.is
