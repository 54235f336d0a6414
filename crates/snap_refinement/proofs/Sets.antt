-- The block of a packet that came out as a set is the block of that set.
use Rattle.std.proofs.Common.{◌≡◌, ℕ, suc, ◌+◌, true, false, List, [], ◌∷◌, ◌++◌, map, length, get_or, Some, refl, ap, subst, ◌∙◌, arith, append_assoc, append-nil, sum, is_lt, Less, IsPermutation, IsSorted}
use Rattle.std.specs.Prelude.{slice_get}
use Rattle.std.specs.List.{AllByRecursion, concat}
use Rattle.std.specs.List.Sorted.{IsStrictlySortedBy}
use Rattle.std.specs.Ordering.{ordering_reverse}
use Rattle.std.specs.Cmp.Lexicographic.{nat_list_cmp_total}
use Rattle.std.specs.FinMap.{entries, entries_sorted, is_sorted}
use Rattle.std.specs.FinMap.Entries.{below_all}
use Rattle.std.proofs.lemmas.Bool.{and_parts}
use Rattle.std.proofs.lemmas.List.Kept.{IsStrictlySortedBy-filter}
use Rattle.std.proofs.lemmas.List.Sorted.{IsPermutation-map, IsPermutation-trans}
use Rattle.std.proofs.lemmas.Map.Keys.{Less-from_sorted}
use Rattle.snap_core.specs.Packets.{PacketSet, packet_cmp, listed}
use Rattle.snap_core.specs.Switch.{delivered, goes_out, lost}
use Rattle.snap_rows.specs.declared.tables.Tables.{Tables}
use Rattle.snap_rows.specs.declared.head.Sent.{Sent}
use Rattle.snap_rows.specs.Entries.{port_numbers}
use Rattle.snap_rows.specs.Handles.{sent}
use Rattle.snap_rows.specs.Happenings.{deliveries_of, losses_of}
use Rattle.snap_rows.specs.Network.{Happening}
use Rattle.snap_faithful.specs.Agreement.{CameOut}
use Rattle.snap_report.specs.Reports.{block, blocks, out_lines, lost_line}
use Rattle.snap_runs.specs.declared.frames.Frames.TheVariants.{Plain}
use Rattle.snap_runs.specs.Reports.{IsBlock, packet_line, hops_text, packets_delivered}
use Rattle.snap_runs.proofs.InOrder.{same_packets_in_order}
use Rattle.snap_refinement.specs.OneSwitch.{port_lines}
use Rattle.snap_core.proofs.Truths.{true-from_T}
use Rattle.snap_core.proofs.Orders.{is_lt-true}
use Rattle.snap_faithful.proofs.Turning.{packets_sent}

-- ---- the packets of a set are listed in order
below-keys : (k : List ℕ) (es : List (List ℕ × Unit {0})) → below_all packet_cmp k es ≡ true → AllByRecursion (λ x. packet_cmp k x ≡ Less) (map (λ e. e.0) es)
below-keys k [] h = tt
below-keys k (e ∷ es) h = let b = and_parts (is_lt (packet_cmp k e.0)) (below_all packet_cmp k es) h in (is_lt-true (packet_cmp k e.0) b.0, below-keys k es b.1)

keys-sorted : (es : List (List ℕ × Unit {0})) → is_sorted packet_cmp es ≡ true → IsStrictlySortedBy packet_cmp (map (λ e. e.0) es)
unfolding IsStrictlySortedBy
keys-sorted [] h = tt
keys-sorted (e ∷ es) h = let b = and_parts (below_all packet_cmp e.0 es) (is_sorted packet_cmp es) h in (below-keys e.0 es b.0, keys-sorted es b.1)

strictly : (ks : List (List ℕ)) → IsStrictlySortedBy packet_cmp ks → IsSorted packet_cmp ks
strictly ks rising i d low within =
    ap is_lt (nat_list_cmp_total.antisymm (get_or ks (i + 1) d) (get_or ks i d) ∙ ap ordering_reverse (Less-from_sorted packet_cmp ks i (i + 1) d rising (omega arith) within))

delivered-rising : (ports : List ℕ) (set : PacketSet) → IsSorted packet_cmp (delivered ports set)
delivered-rising ports set =
    strictly (delivered ports set) (IsStrictlySortedBy-filter packet_cmp (goes_out ports) (listed set) (keys-sorted (entries set) (true-from_T _ (entries_sorted set))))

-- ---- one block
pub one_block : (t : Tables) (i : ℕ) (set : PacketSet) (hs : List Happening) (text : List ℕ) → CameOut t i set hs → IsBlock t false i hs text → text ≡ block (port_lines t.fields (port_numbers t)) (i + 1) set
one_block t i set hs text came is =
    let there : IsPermutation (packets_delivered i hs) (delivered (port_numbers t) set) =
    subst (IsPermutation (packets_delivered i hs)) (packets_sent (delivered (port_numbers t) set)) (IsPermutation-map (λ (x : Sent). x.packet) (deliveries_of i hs) (map sent (delivered (port_numbers t) set)) came.ports) in
    let outs : is.outs ≡ delivered (port_numbers t) set =
    same_packets_in_order is.outs (delivered (port_numbers t) set) is.rising (delivered-rising (port_numbers t) set) (IsPermutation-trans is.outs (packets_delivered i hs) (delivered (port_numbers t) set) is.delivered there) in
    let loss : sum (losses_of i hs) ≡ lost (port_numbers t) set = ap sum came.loss ∙ omega arith in
    is.is ∙ (λ j. packet_line (i + 1) ++ hops_text Plain t false i hs ++ out_lines t.fields (outs j) ++ lost_line (loss j))
    ∙ append_assoc (packet_line (i + 1) ++ []) (out_lines t.fields (delivered (port_numbers t) set)) (lost_line (lost (port_numbers t) set))
    ∙ ap (λ l. l ++ port_lines t.fields (port_numbers t) set) (append-nil (packet_line (i + 1)))

-- ---- all blocks
pub all_blocks : (shown : PacketSet → List ℕ) (each : List (List ℕ)) (sets : List PacketSet) (number : ℕ) → length each ≡ length sets
    → ((i : ℕ) (text : List ℕ) (set : PacketSet) → slice_get each i ≡ Some text → slice_get sets i ≡ Some set → text ≡ block shown (number + i) set) → concat each ≡ blocks shown number sets
all_blocks shown [] [] number long same = refl
all_blocks shown [] (set ∷ sets) number long same = absurd (let e : 0 ≡ length (set ∷ sets) = long in omega arith)
all_blocks shown (text ∷ each) [] number long same = absurd (let e : length (text ∷ each) ≡ 0 = long in omega arith)
all_blocks shown (text ∷ each) (set ∷ sets) number long same =
    let first : text ≡ block shown number set = same 0 text set refl refl ∙ ap (λ n. block shown n set) (let e : number + 0 ≡ number = omega arith in e) in
    let others = all_blocks shown each sets (number + 1) (let e : length (text ∷ each) ≡ length (set ∷ sets) = long in omega arith)
    (λ i x y a b. same (suc i) x y a b ∙ ap (λ n. block shown n y) (let e : number + suc i ≡ number + 1 + i = omega arith in e)) in
    λ j. first j ++ others j
