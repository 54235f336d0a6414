-- Runs that agree with one big switch in some order report what that does; so do runs of single-owner tables, in the order of the forks.
use Rattle.std.proofs.Common.{◌≡◌, ℕ, ◌+◌, false, List, ◌++◌, map, length, Some, sym, ap, subst, ◌∙◌, arith}
use Rattle.std.specs.Prelude.{slice_get}
use Rattle.std.specs.List.{All, concat}
use Rattle.std.proofs.lemmas.List.{length-map}
use Rattle.std.proofs.lemmas.List.Sorted.{IsPermutation-refl}
use Rattle.std.proofs.lemmas.Option.{slice_get_within}
use Rattle.snap_core.specs.declared.ports.PortAt.{PortAt}
use Rattle.snap_core.specs.declared.program.Program.{Program}
use Rattle.snap_core.specs.Arrays.{zero_arrays}
use Rattle.snap_core.specs.Listing.{HasOneListing, IsListing}
use Rattle.snap_core.specs.Switch.{Switched, one_big_switch}
use Rattle.snap_topology.specs.declared.topology.Topology.{Topology}
use Rattle.snap_rows.specs.declared.tables.Tables.{Tables}
use Rattle.snap_rows.specs.Entries.{port_numbers}
use Rattle.snap_rows.specs.Happenings.{commits}
use Rattle.snap_rows.specs.Network.{Happening, Net, packets_of}
use Rattle.snap_faithful.specs.Agreement.{Agrees, in_order, numbered}
use Rattle.snap_faithful.specs.Faithful.{Faithful, IsPacketOf, packets_in}
use Rattle.snap_faithful.proofs.Switching.{number_at, picks_all}
use Rattle.snap_report.specs.Reports.{block, blocks, end_text}
use Rattle.snap_runs.specs.Reports.{IsRunReport}
use Rattle.snap_runs.proofs.InOrder.{same_lists}
use Rattle.snap_refinement.specs.InOrder.{InOrderItIsTheReport, IsSwitchReportIn, SingleOwnerRunsReportInForkOrder, OrdersHaveOneReport, TheReportIsInOrder}
use Rattle.snap_refinement.specs.OneSwitch.{IsSwitchReport, port_lines, ports_of}
use Rattle.snap_refinement.proofs.Entered.{no_numbers, entering-packets, entering-fits, all_enter}
use Rattle.snap_refinement.proofs.Made.{as_many, numbered_at}
use Rattle.snap_refinement.proofs.Picking.{by_number, one_set}
use Rattle.snap_refinement.proofs.Sets.{all_blocks, one_block}

-- a run that agrees with one big switch over the packets in some order reports what that does
report_in : (p : Program) (topology : Topology) (places : List ℕ) (t : Tables) → Faithful p topology places t
    → (ks : List (List ℕ)) (order : List ℕ) (s : Net) (hs : List Happening) → Agrees p t zero_arrays ks order s hs → (text : List ℕ) → IsRunReport t false (length ks) s hs text
    → IsSwitchReportIn p (ports_of topology) ks order text
report_in p topology places t faithful ks order s hs agrees text report =
    let sets = agrees.end.packets in
    let long : length sets ≡ length order = sym (as_many p.body zero_arrays (in_order ks order) agrees.end agrees.switched) ∙ length-map order _ in
    let made = by_number order (length ks) agrees.each_once sets long in
    let all : concat report.are.each ≡ blocks (port_lines t.fields (port_numbers t)) 1 made.0 =
    all_blocks (port_lines t.fields (port_numbers t)) report.are.each made.0 1 (report.are.as_many ∙ sym made.1)
    (λ i lines set a b. let at = made.2 i set b in one_block t i set hs lines (agrees.packets at.0 i set at.1 at.2) (report.are.blocks i lines a) ∙ ap (λ n. block (port_lines t.fields (port_numbers t)) n set) (let e : i + 1 ≡ 1 + i = omega arith in e)) in
    let same_ports : port_numbers t ≡ ports_of topology = ap (map (λ (x : PortAt). x.port)) faithful.shape.ports in
    record {
      each_once = agrees.each_once;
      made = agrees.end;
      defined = agrees.switched;
      became = made.0;
      as_many = made.1;
      are = made.2;
      entries = report.entries;
      listed = record { rising = report.listed.rising; nonzero = report.listed.nonzero; numbers = λ q. report.listed.numbers q ∙ agrees.arrays q };
      is = report.is ∙ (λ i. (report.are.is ∙ all) i ++ end_text (faithful.shape.names i) report.entries) ∙ (λ i. blocks (port_lines (faithful.shape.fields i) (same_ports i)) 1 made.0 ++ end_text p.arrays report.entries);
    }

pub single_owner_report : SingleOwnerRunsReportInForkOrder
single_owner_report p topology places t faithful single_owner ks packets es s hs enter run none text report =
    let fits = subst (All (λ (e : ℕ × List ℕ). IsPacketOf p e.1)) (sym enter) (entering-fits p ks packets) in
    let same : packets_in (packets_of es) ≡ ks = ap packets_in enter ∙ entering-packets ks in
    let agrees : Agrees p t zero_arrays ks (commits hs) s hs =
    subst (λ l. Agrees p t zero_arrays l (commits hs) s hs) same (faithful.single_owner_runs single_owner zero_arrays es s hs (no_numbers p) (all_enter t p fits run) run none) in
    report_in p topology places t faithful ks (commits hs) s hs agrees text report

-- ---- in the order of their numbers
pub in_order_is : InOrderItIsTheReport
in_order_is p ports ks text r =
    let switched : one_big_switch p.body zero_arrays ks ≡ Some r.made = ap (one_big_switch p.body zero_arrays) (sym (picks_all ks)) ∙ r.defined in
    let same : r.became ≡ r.made.packets =
    same_lists r.became r.made.packets (r.as_many ∙ as_many p.body zero_arrays ks r.made switched)
    (λ i x y a b. let at = r.are i x a in
    let place : i ≡ at.0 = number_at (length ks) 0 at.0 i at.1 ∙ (let e : 0 + at.0 ≡ at.0 = omega arith in e) in
    let e : Some x ≡ Some y = sym at.2 ∙ ap (slice_get r.made.packets) (sym place) ∙ b in cc) in
    record { made = r.made; defined = switched; entries = r.entries; listed = r.listed; is = r.is ∙ (λ i. blocks (port_lines p.fields ports) 1 (same i) ++ end_text p.arrays r.entries) }

pub agrees_report : (p : Program) (topology : Topology) (places : List ℕ) (t : Tables) → Faithful p topology places t
    → (ks : List (List ℕ)) (s : Net) (hs : List Happening) → Agrees p t zero_arrays ks (numbered ks) s hs → (text : List ℕ) → IsRunReport t false (length ks) s hs text → IsSwitchReport p (ports_of topology) ks text
agrees_report p topology places t faithful ks s hs agrees text report = in_order_is p (ports_of topology) ks text (report_in p topology places t faithful ks (numbered ks) s hs agrees text report)

pub is_in_order : TheReportIsInOrder
is_in_order p ports ks text r =
    let long : length ks ≡ length r.made.packets = as_many p.body zero_arrays ks r.made r.defined in
    record {
      each_once = IsPermutation-refl (numbered ks);
      made = r.made;
      defined = ap (one_big_switch p.body zero_arrays) (picks_all ks) ∙ r.defined;
      became = r.made.packets;
      as_many = sym long;
      are = λ i set e. (i, numbered_at (length ks) 0 i (let w = slice_get_within r.made.packets i set e in omega (arith, w, long)) ∙ ap Some (let z : 0 + i ≡ i = omega arith in z), e);
      entries = r.entries;
      listed = r.listed;
      is = r.is;
    }

-- ---- in each order there is one
pub one_report : HasOneListing → OrdersHaveOneReport
one_report lists p ports ks order a b h k =
    let same : h.made ≡ k.made = (let e : Some h.made ≡ Some k.made = sym h.defined ∙ k.defined in cc) in
    let became : h.became ≡ k.became =
    same_lists h.became k.became (h.as_many ∙ sym k.as_many)
    (λ i x y u v. one_set order (length ks) h.each_once k.made.packets i x y (subst (λ (m : Switched). (j : ℕ) × (slice_get order j ≡ Some i) × (slice_get m.packets j ≡ Some x)) same (h.are i x u)) (k.are i y v)) in
    let entries = lists k.made.arrays h.entries k.entries (subst (λ (m : Switched). IsListing m.arrays h.entries) same h.listed) k.listed in
    h.is ∙ (λ i. blocks (port_lines p.fields ports) 1 (became i) ++ end_text p.arrays (entries i)) ∙ sym k.is
