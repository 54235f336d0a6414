-- A file spells one topology at most, or is refused for one reason.
use Rattle.std.proofs.Common.{◌≡◌, ℕ, List, [], ◌∷◌, Option, Some, None, Result, Ok, Err, refl, sym, ◌∙◌, ap, arith}
use Rattle.std.specs.List.{AllPairs}
use Rattle.std.specs.List.Sorted.{IsStrictlySortedBy}
use Rattle.std.specs.Ordering.{ordering_reverse}
use Rattle.std.specs.declared.cmp.Ordering.TheVariants.{Less, Greater}
use Rattle.std.proofs.lemmas.List.Kept.{AllPairs-cons}
use Rattle.std.proofs.lemmas.Map.Keys.{sorted_tail}
use Rattle.std.proofs.lemmas.Map.Views.{All-after_first}
use Rattle.snap_core.specs.declared.program.Which.{Which}
use Rattle.snap_topology.specs.declared.topology.TopoFault.{TopoFault}
use Rattle.snap_topology.specs.declared.topology.TopoFault.TheVariants as topo
use Rattle.snap_topology.specs.Answer.{DifferentThen, IsAnswer, IsTopologyOf, KnownThen, SpelledThen, WithinThen, first_repeat, first_unknown, too_many}
use Rattle.snap_core.specs.Ports.{link_cmp}
use Rattle.snap_topology.specs.Shape.{Spelled, spelled}
use Rattle.snap_topology.proofs.Pairs.{link_cmp_total}
use Rattle.snap_cli.specs.declared.refusal.Refusal.TheVariants as refused
use Rattle.snap_cli.specs.declared.refusal.TopologyFault.{TopologyFault}
use Rattle.snap_cli.specs.declared.refusal.TopologyFault.TheVariants.{NotToml}
use Rattle.snap_cli.specs.RoutesSteps.{refusal_of_topology}
use Rattle.snap_cli.specs.TopologyOf.{SpellsTopology, fault_of}
use Rattle.snap_cli.proofs.Shared.{document, Refusal, Topology, TopologyOf}
use Rattle.snap_cli.proofs.Pipeline.{Agree, Alike, alike, within_once}
use Rattle.snap_cli.proofs.Rising.{same_rising}

abbrev Rises : ℕ × ℕ → ℕ × ℕ → Type 0
Rises x y = link_cmp x y ≡ Less

one_way : (x y : ℕ × ℕ) → Rises x y → Rises y x → ⊥
one_way x y h k = let e : Less ≡ Greater = sym h ∙ (link_cmp_total.antisymm x y ∙ ap ordering_reverse k) in absurd (cc)

rises : (xs : List (ℕ × ℕ)) → IsStrictlySortedBy link_cmp xs → AllPairs Rises xs
rises [] h = λ i j d l m. absurd (omega (arith, m))
rises (x ∷ xs) h = AllPairs-cons Rises x xs (All-after_first link_cmp x xs h) (rises xs (sorted_tail link_cmp x xs h))

one_topology : (s : Spelled) (t u : Topology) → IsTopologyOf s t → IsTopologyOf s u → t ≡ u
one_topology s t u h k =
    let switches = h.switches ∙ sym k.switches in
    let links =
    same_rising Rises one_way t.links u.links (rises t.links h.links_rise) (rises u.links k.links_rise)
    (λ z c. (k.links z).1 ((h.links z).0 c)) (λ z c. (h.links z).1 ((k.links z).0 c)) in
    let ports = h.ports ∙ sym k.ports in
    λ i. record { switches = switches i; links = links i; ports = ports i }

known_once : (s : Spelled) (name : Option (List ℕ)) (a b : Result Topology TopoFault) → KnownThen s name a → KnownThen s name b → a ≡ b
known_once s (Some name) a b h k = h ∙ sym k
known_once s None (Ok t) (Ok u) h k = ap (λ x. Ok x) (one_topology s t u h k)
known_once s None (Ok t) (Err f) h k = absurd k
known_once s None (Err e) b h k = absurd h

different_once : (s : Spelled) (name : Option (List ℕ)) (a b : Result Topology TopoFault) → DifferentThen s name a → DifferentThen s name b → a ≡ b
different_once s (Some name) a b h k = h ∙ sym k
different_once s None a b h k = known_once s (first_unknown s) a b h k

counted_once : (s : Spelled) (many : Option (Which × ℕ)) (a b : Result Topology TopoFault) → WithinThen s many a → WithinThen s many b → a ≡ b
counted_once s (Some many) a b h k = h ∙ sym k
counted_once s None a b h k = different_once s (first_repeat s.switches) a b h k

spelled_once : (r : Result Spelled TopoFault) (a b : Result Topology TopoFault) → SpelledThen r a → SpelledThen r b → a ≡ b
spelled_once (Ok s) a b h k = counted_once s (too_many s) a b h k
spelled_once (Err e) a b h k = h ∙ sym k

-- an answer, as the command tells it
abbrev told : Result Topology TopoFault → Result Topology Refusal
told (Ok t) = Ok t
told (Err fault) = Err (refusal_of_topology fault)

fault_told : (fault : TopologyFault) → Err (refused.Topology fault) ≡ told (Err (fault_of fault))
fault_told NotToml = refl
fault_told fault = refl

answered : (text : List ℕ) (a : Result Topology Refusal) → SpellsTopology text a → (x : Result Topology TopoFault) × IsAnswer text x × (a ≡ told x)
answered text (Ok t) h = (Ok t, h, refl)
answered text (Err (refused.Topology fault)) h = (Err (fault_of fault), h, fault_told fault)
answered text (Err (refused.Limit which count)) h = (Err (topo.Limit which count), h, refl)
answered text (Err e) h = absurd h

spells_once : (text : List ℕ) (a b : Result Topology Refusal) → SpellsTopology text a → SpellsTopology text b → a ≡ b
spells_once text a b h k =
    let x = answered text a h in
    let y = answered text b k in
    x.2 ∙ (ap told (spelled_once (spelled (document text)) x.0 y.0 x.1 y.1) ∙ sym y.2)

pub topology_once : (file : List ℕ) → Agree (Alike ◌≡◌) (TopologyOf file) (TopologyOf file)
topology_once file = alike (within_once _ _ _ _ _ (spells_once file))
