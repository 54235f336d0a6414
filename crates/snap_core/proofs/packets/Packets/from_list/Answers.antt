use Rattle.std.proofs.Common.{◌≡◌, ℕ, List, ◌++◌, take, drop, length, rules, is_lt, subst, sym, ap, ◌∙◌}
use Rattle.std.specs.Cmp.Lexicographic.{nat_list_cmp_total}
use Rattle.std.specs.List.Sorted.{IsPermutation, IsSorted}
use Rattle.std.proofs.Math.Seq.{take-append_seam}
use Rattle.std.proofs.lemmas.Fn.{always_returns_same}
use Rattle.std.proofs.lemmas.List.Sorted.{ranks_by}
use Rattle.snap_core.specs.Packets.{packet_cmp, no_packets, with_packets}
use Rattle.snap_core.proofs.Rising.{with_packets-moved}
use Rattle.snap_core.proofs.packets.Packets.from_list.Goals as goal

-- what a list of n holds once its slice is this one
replaced : (n : ℕ) (new old : List (List ℕ)) → length new ≡ n → new ≡ take n (new ++ drop (length new) old)
replaced n new old e = sym (take-append_seam new (drop (length new) old)) ∙ ap (λ m. take m (new ++ drop (length new) old)) e

pub from_sorted-requires : goal.from_sorted-requires
from_sorted-requires c =
    let now : List (List ℕ) = c.sort_by.new.self in
    let long : length now ≡ c.args.packets.len = c.sort_by.ensures.len ∙ c.as_mut_slice.ensures.len in
    let sorted : IsSorted packet_cmp now = c.in_ok-sort_by.ensures.sorted (λ a b. is_lt (packet_cmp a b)) (ranks_by nat_list_cmp_total (λ x. x)) (always_returns_same _ _ _ (λ a r f k. search rules)) in
    subst (λ (l : List (List ℕ)). IsSorted packet_cmp l) (replaced c.args.packets.len now c.args.packets.items long) sorted

pub returns : goal.returns
returns c =
    let old = c.args.packets.items in
    let now : List (List ℕ) = c.sort_by.new.self in
    let long : length now ≡ c.args.packets.len = c.sort_by.ensures.len ∙ c.as_mut_slice.ensures.len in
    let moved : IsPermutation old now = subst (λ (l : List (List ℕ)). IsPermutation l now) c.as_mut_slice.ensures.value c.sort_by.ensures.permutation in
    c.from_sorted.ensures
    ∙ ap (with_packets no_packets) (sym (replaced c.args.packets.len now old long))
    ∙ with_packets-moved old now moved
