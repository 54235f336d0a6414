use Rattle.std.proofs.Common.{◌≡◌, ◌++◌, find, map}
use Rattle.snap_topology.specs.Answer.{is_unknown}
use Rattle.snap_topology.specs.Listing.{key_texts, port_text, port_texts}
use Rattle.snap_topology.specs.Spells.{port_at, port_name}
use Rattle.snap_topology.proofs.resolve.ports_of.Given as goal

-- the ports so far, whose names are known, before those that are left
abbrev pub invariant-loop-port : goal.invariant-loop-port
invariant-loop-port l = record {
  all : l.placed.items ++ map (port_at (key_texts l.numbers)) (map port_text l.port-iterator) ≡ map (port_at (key_texts l.numbers)) (port_texts l.ports);
  known : find (is_unknown (key_texts l.numbers)) (map port_name (map port_text l.port-iterator)) ≡ find (is_unknown (key_texts l.numbers)) (map port_name (port_texts l.ports));
}
