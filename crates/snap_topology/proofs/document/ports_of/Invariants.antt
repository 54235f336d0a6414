use Rattle.std.proofs.Common.{◌≡◌, fold, option_map}
use Rattle.toml.specs.View.{members_view, table_view}
use Rattle.snap_topology.specs.Shape.{ports_listed}
use Rattle.snap_topology.specs.Spells.{by_number, put_port}
use Rattle.snap_topology.specs.Listing.{port_texts}
use Rattle.snap_topology.proofs.document.ports_of.Given as goal

-- the ports so far, with each of those that are left
abbrev pub invariant-loop-key : goal.invariant-loop-key
invariant-loop-key l = option_map (fold put_port (port_texts l.ports)) (ports_listed (members_view l.key-iterator)) ≡ option_map by_number (ports_listed (table_view l.table))
