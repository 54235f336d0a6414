-- The packets of outs.
use Rattle.std.proofs.Common.{◌≡◌, ℕ, ◌||◌, List, [], ◌∷◌, ◌++◌, sym, ap, ◌∙◌, map}
use Rattle.std.specs.List.{list_any}
use Rattle.std.specs.Ordering.{eq_by_cmp}
use Rattle.std.specs.FinMap.{contains_key}
use Rattle.std.proofs.lemmas.List.{map-append}
use Rattle.std.proofs.Math.Bool.{or-false}
use Rattle.snap_core.specs.declared.policy.Atom.{Atom}
use Rattle.snap_core.specs.Packets.{PacketSet, packet_cmp, no_packets, with_packet, with_packets, union}
use Rattle.snap_core.specs.Tests.{after_out, results_from, results}
use Rattle.snap_core.proofs.PacketSets.{same_packets, contains-with_packet, contains-no_packets, contains-listed, union-with_packets}
use Rattle.snap_core.proofs.Truths.{or-or_swap}

pub contains-results : (s : PacketSet) (os : List (List (ℕ × Atom))) (k q : List ℕ) → contains_key (results_from s os k) q ≡ (contains_key s q || list_any (eq_by_cmp packet_cmp q) (map (λ o. after_out o k) os))
contains-results s [] k q = sym (or-false (contains_key s q))
contains-results s (o ∷ os) k q =
    contains-results (with_packet s (after_out o k)) os k q
    ∙ ap (λ b. b || list_any (eq_by_cmp packet_cmp q) (map (λ o. after_out o k) os)) (contains-with_packet s (after_out o k) q)
    ∙ or-or_swap (eq_by_cmp packet_cmp q (after_out o k)) (contains_key s q) (list_any (eq_by_cmp packet_cmp q) (map (λ o. after_out o k) os))

results-is : (os : List (List (ℕ × Atom))) (k : List ℕ) → results os k ≡ with_packets no_packets (map (λ o. after_out o k) os)
results-is os k = same_packets _ _ (λ q.
    contains-results no_packets os k q
    ∙ ap (λ b. b || list_any (eq_by_cmp packet_cmp q) (map (λ o. after_out o k) os)) (contains-no_packets q)
    ∙ sym (contains-listed (map (λ o. after_out o k) os) q))

-- the packets of outs one after another
pub all_packets : (xs ys : List (List (ℕ × Atom))) (k : List ℕ) → results (xs ++ ys) k ≡ union (results xs k) (results ys k)
all_packets xs ys k =
    let f : List (ℕ × Atom) → List ℕ = λ o. after_out o k in
    results-is (xs ++ ys) k
    ∙ ap (with_packets no_packets) (map-append f xs ys)
    ∙ sym (union-with_packets (map f xs) (map f ys))
    ∙ sym (λ i. union (results-is xs k i) (results-is ys k i))
