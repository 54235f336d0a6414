-- What was counted of the run is what one big switch does.
use Rattle.std.proofs.Common.{◌≡◌, ℕ, ◌+◌, ◌*◌, ◌%◌, ◌^◌, ◌<◌, ◌≤◌, List, [], ◌∷◌, map, length, Some, refl, sym, ap, subst, ◌∙◌, arith, sum}
use Rattle.std.specs.Prelude.{slice_get}
use Rattle.std.specs.List.{All}
use Rattle.std.proofs.lemmas.List.{length-map}
use Rattle.std.proofs.lemmas.List.Elements.{All-cons, All-from_recursion, All-nil}
use Rattle.std.proofs.lemmas.List.FromFn.{length-map-range_with_len}
use Rattle.std.proofs.lemmas.List.Sorted.{length_permutation}
use Rattle.std.proofs.lemmas.Option.{slice_get_within}
use Rattle.snap_core.specs.declared.place.Entry.{Entry}
use Rattle.snap_core.specs.declared.ports.PortAt.{PortAt}
use Rattle.snap_core.specs.declared.program.Program.{Program}
use Rattle.snap_core.specs.Arrays.{zero_arrays}
use Rattle.snap_core.specs.Fields.{count}
use Rattle.snap_core.specs.Inputs.{IsPacket}
use Rattle.snap_core.specs.Listing.{IsListing}
use Rattle.snap_core.specs.Packets.{PacketSet}
use Rattle.snap_core.specs.Switch.{delivered, lost, one_big_switch}
use Rattle.snap_names.specs.Declarations.{CoreProgram}
use Rattle.snap_rows.specs.declared.tables.Tables.{Tables}
use Rattle.snap_rows.specs.declared.head.Sent.{Sent}
use Rattle.snap_rows.specs.Entries.{port_numbers}
use Rattle.snap_rows.specs.Handles.{sent}
use Rattle.snap_rows.specs.Happenings.{deliveries_of, losses_of}
use Rattle.snap_rows.specs.Network.{Happening, IsPlainRun, Net, global_store}
use Rattle.snap_net.specs.Shown.{NetView, Represents}
use Rattle.snap_faithful.specs.Agreement.{CameOut, sent_of}
use Rattle.snap_faithful.specs.Faithful.{Faithful, IsPacketOf}
use Rattle.snap_faithful.proofs.Switching.{picks_all}
use Rattle.snap_runs.specs.Plain.{entering}
use Rattle.snap_runs.specs.Reports.{packets_delivered}
use Rattle.snap_refinement.specs.OneSwitch.{ports_of}
use Rattle.snap_refinement.proofs.SequentialReport.{sequential_agrees}
use Rattle.snap_refinement.proofs.Made.{as_many, numbered_at}
use Rattle.snap_demo.specs.declared.counts.PacketCounts.{PacketCounts}
use Rattle.snap_demo.specs.Packets.{packet_of, stated_packets}
use Rattle.snap_demo.specs.Row.{stated_places, stated_topology}
use Rattle.snap_demo.specs.Runs.{HasRun, delivered_of, lost_of}
use Rattle.snap_demo.specs.Stated.{IsStated}
use Rattle.snap_demo.specs.Summary.{IsSummary, all_delivered, all_lost, text_of, total_in}
use Rattle.snap_demo.proofs.Counted.{sum-listed}
use Rattle.snap_demo.proofs.Ranges.{each}

-- ---- the packets are the program's
is_packet : (n i : ℕ) → 1 ≤ n → n ≤ 64 → IsPacket 3 (packet_of n i)
is_packet n i some few =
    let small : i % n + 1 < 2 ^ 64 = omega (arith, some, few) in
    let key : 7 * i % 100 < 2 ^ 64 = omega arith in
    let zero_fits : 0 < 2 ^ 64 = omega arith in
    let P : ℕ → Type 0 = λ x. x < 2 ^ 64 in
    record {
      long = refl;
      numbers = All-cons P (i % n + 1) (0 ∷ (7 * i % 100) ∷ []) small (All-cons P 0 ((7 * i % 100) ∷ []) zero_fits (All-cons P (7 * i % 100) [] key (All-nil P)));
    }

packets_fit : (n : ℕ) (p : Program) → 1 ≤ n → n ≤ 64 → IsStated n p → All (IsPacketOf p) (stated_packets n)
packets_fit n p some few stated =
    let comps : count p.fields ≡ 3 = ap (λ (c : CoreProgram). count c.fields) stated in
    subst (λ c. All (IsPacket c) (stated_packets n)) (sym comps)
    (All-from_recursion (IsPacket 3) (stated_packets n) (each (packet_of n) (100 * n) (IsPacket 3) (λ i less. is_packet n i some few) 0 (100 * n) (omega arith)))

-- ---- one packet
module _ (t : Tables) (i : ℕ) (set : PacketSet) (hs : List Happening) (came : CameOut t i set hs) where
  delivered-came : length (packets_delivered i hs) ≡ length (delivered (port_numbers t) set)
  delivered-came =
      length-map (deliveries_of i hs) (λ (x : Sent). x.packet)
      ∙ sym (length_permutation (deliveries_of i hs) (sent_of t set) came.ports)
      ∙ length-map (delivered (port_numbers t) set) sent

  lost-came : sum (losses_of i hs) ≡ lost (port_numbers t) set
  lost-came = ap sum came.loss ∙ omega arith

-- ---- all
module _ (n : ℕ) (some : 1 ≤ n) (few : n ≤ 64) (p : Program) (stated : IsStated n p) (t : Tables) (faithful : Faithful p (stated_topology n) (stated_places n) t) where
  pub summed : (v : NetView) (c : PacketCounts) → v.tables ≡ t → HasRun (stated_packets n) v c
      → (entries : List Entry) → ((s : Net) → Represents v s → IsListing (global_store v.tables s) entries)
      → (text : List ℕ) → text ≡ text_of n (100 * n) c.delivered c.lost (total_in 0 entries) (total_in 1 entries) → IsSummary n text
  summed v c same h entries lists text is =
      let ks = stated_packets n in
      let hs = h.happenings in
      let run : IsPlainRun t zero_arrays (entering ks) h.events h.state hs = subst (λ x. IsPlainRun x zero_arrays (entering ks) h.events h.state hs) same h.run in
      let agrees = sequential_agrees p (stated_topology n) (stated_places n) t faithful ks (packets_fit n p some few stated) h.events h.state hs run.packets run.run run.ended in
      let switched : one_big_switch p.body zero_arrays ks ≡ Some agrees.end = ap (one_big_switch p.body zero_arrays) (sym (picks_all ks)) ∙ agrees.switched in
      let sets = agrees.end.packets in
      let long : length ks ≡ length sets = as_many p.body zero_arrays ks agrees.end switched in
      let came : (j : ℕ) (set : PacketSet) → slice_get sets j ≡ Some set → CameOut t j set hs =
      λ j set is. agrees.packets j j set (numbered_at (length ks) 0 j (let l = slice_get_within sets j set is in omega (arith, l, long)) ∙ ap Some (let e : 0 + j ≡ j = omega arith in e)) is in
      let ports : port_numbers t ≡ ports_of (stated_topology n) = ap (map (λ (x : PortAt). x.port)) faithful.shape.ports in
      let all : c.delivered ≡ all_delivered (ports_of (stated_topology n)) sets =
      h.delivered ∙ ap (λ m. delivered_of m hs) long
      ∙ sum-listed (λ i. length (packets_delivered i hs)) (λ set. length (delivered (port_numbers t) set)) sets 0
      (λ j set is. ap (λ i. length (packets_delivered i hs)) (let e : 0 + j ≡ j = omega arith in e) ∙ delivered-came t j set hs (came j set is))
      ∙ ap (λ l. all_delivered l sets) ports in
      let others : c.lost ≡ all_lost (ports_of (stated_topology n)) sets =
      h.lost ∙ ap (λ m. lost_of m hs) long
      ∙ sum-listed (λ i. sum (losses_of i hs)) (λ set. lost (port_numbers t) set) sets 0
      (λ j set is. ap (λ i. sum (losses_of i hs)) (let e : 0 + j ≡ j = omega arith in e) ∙ lost-came t j set hs (came j set is))
      ∙ ap (λ l. all_lost l sets) ports in
      let listed = subst (λ x. IsListing (global_store x h.state) entries) same (lists h.state h.shows) in
      let packets : 100 * n ≡ length ks = sym (length-map-range_with_len (packet_of n) 0 (100 * n)) in
      record {
        program = p;
        stated = stated;
        made = agrees.end;
        defined = switched;
        entries = entries;
        listed = record { rising = listed.rising; nonzero = listed.nonzero; numbers = λ q. listed.numbers q ∙ agrees.arrays q };
        is = is ∙ (λ i. text_of n (packets i) (all i) (others i) (total_in 0 entries) (total_in 1 entries));
      }
