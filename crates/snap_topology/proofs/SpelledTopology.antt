-- What a text is answered is the topology that `Spells` says.
use Rattle.std.proofs.Common.{◌≡◌, ℕ, ◌≤◌, true, List, ◌++◌, length, map, codes, Result, Ok, Err, refl, sym, ap, ◌∙◌, subst, ◌↔◌, Contains, flat_map, bytes_eq}
use Rattle.std.specs.List.{All, IsDistinct}
use Rattle.toml.specs.Data.{get_member}
use Rattle.snap_topology.specs.Answer.{too_many, WithinThen, SpelledThen, IsAnswer}
use Rattle.snap_topology.specs.Spells.{Topology, MOST_SWITCHES, MOST_PORTS, AreNames, SpellsTopology, document, by_number, is_switch, numbered, port_at, ends, port_name}
use Rattle.snap_topology.specs.Shape.{TopoFault, Spelled, spelled}
use Rattle.snap_topology.proofs.Forms.{InLimits, in-limits, Answered, answered, different, known-names}
use Rattle.snap_topology.proofs.Shaped.{IsSwitches, IsPorts, InShape, switches_in-is, links_in-is, ports_in-is, in-shape}

abbrev answer : Topology → Result Topology TopoFault
answer t = Ok t

spelled-then : (text : List ℕ) (t : Topology) (r : Result Spelled TopoFault) → spelled (document text) ≡ r → SpelledThen r (answer t) → (s : Spelled) × (spelled (document text) ≡ Ok s) × WithinThen s (too_many s) (answer t)
spelled-then text t (Ok s) k h = (s, k, h)
spelled-then text t (Err e) k h = cc

-- **The topology that a text is answered is the one that it spells.**
pub SpellsTopology-answer : (text : List ℕ) (t : Topology) → length text ≤ 1048576 → IsAnswer text (Ok t) → SpellsTopology text t
SpellsTopology-answer text t short h =
    let a = spelled-then text t (spelled (document text)) refl h in
    let s : Spelled = a.0 in
    let shape : InShape (document text) s = in-shape (document text) s a.1 in
    let b : Answered s t = answered s t (too_many s) refl a.2 in
    let limits : InLimits s = in-limits s b.few in
    let x : IsSwitches (get_member (codes "switches") shape.toml) s.switches = switches_in-is (get_member (codes "switches") shape.toml) s.switches shape.switches in
    let y = links_in-is (get_member (codes "links") shape.toml) s.links shape.links in
    let z : IsPorts (get_member (codes "ports") shape.toml) s.ports = ports_in-is (get_member (codes "ports") shape.toml) s.ports shape.ports in
    let same : s.switches ≡ t.switches = sym b.is.switches in
    record {
      short = short;
      toml = shape.toml;
      spelled = shape.at;
      pairs = s.links;
      ports = z.ports;
      holds = record { keys = shape.keys; names = x.items; links = y.0; numbers = z.members; names_at = x.at; links_at = y.1; numbers_at = z.at; are_names = subst (AreNames x.items) same x.are; are_pairs = y.2; are_ports = z.are };
      some = subst (λ ns. 1 ≤ length ns) same x.some;
      different = subst (λ ns. IsDistinct bytes_eq ns) same (different s.switches b.apart);
      known = subst (λ ns. All (λ name. is_switch ns name ≡ true) (flat_map ends s.links ++ map port_name (by_number z.ports))) same
          (subst (λ ps. All (λ name. is_switch s.switches name ≡ true) (flat_map ends s.links ++ map port_name ps)) z.by (known-names s.switches (flat_map ends s.links ++ map port_name s.ports) b.known));
      few_switches = subst (λ ns. length ns ≤ MOST_SWITCHES) same limits.switches;
      few_links = limits.links;
      few_ports = subst (λ ps. length ps ≤ MOST_PORTS) z.by limits.ports;
      links = subst (λ ns. (link : ℕ × ℕ) → Contains t.links link ↔ Contains (map (numbered ns) s.links) link) same b.is.links;
      links_rise = b.is.links_rise;
      at_ports = b.is.ports ∙ ap (λ ns. map (port_at ns) s.ports) same ∙ ap (λ ps. map (port_at t.switches) ps) z.by;
    }
