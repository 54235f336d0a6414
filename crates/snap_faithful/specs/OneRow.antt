-- The least faithful tables: a program without arrays that sends each packet to port 1, on one switch that has this port.
use Rattle.std.specs.Prelude.{List, [], ◌∷◌, codes}
use Rattle.snap_core.specs.declared.policy.Atom.TheVariants.{Num}
use Rattle.snap_core.specs.declared.policy.Pol.TheVariants.{Set}
use Rattle.snap_core.specs.declared.program.Program.{Program}
use Rattle.snap_core.specs.Fields.{the_ports}
use Rattle.snap_topology.specs.declared.topology.Topology.{Topology}
use Rattle.snap_rows.specs.declared.tables.Tables.{Tables}
use Rattle.snap_rows.specs.declared.tables.Row.TheVariants.{Last}
use Rattle.snap_rows.specs.Entries.{Parts}
use Rattle.snap_faithful.specs.Faithful.{Faithful}

-- outport <- 1
abbrev pub to_one : Program
to_one = record { fields = the_ports; arrays = []; body = Set 1 (Num 1) }

abbrev pub one_switch : Topology
one_switch = record { switches = codes "s" ∷ []; links = []; ports = record { port = 1; at = 0 } ∷ [] }

-- tables of one row, a leaf with these outs
abbrev pub one_row : List Parts → Tables
one_row outs = record {
  version = 2;
  fields = the_ports;
  switches = codes "s" ∷ [];
  arrays = [];
  links = [];
  ports = record { port = 1; at = 0 } ∷ [];
  hops = [];
  rows = record { at = 0; number = 0; row = Last [] outs } ∷ [];
}

-- with the leaf that sends packets to port 1 they are faithful
abbrev pub OneRowIsFaithful : Type 0
OneRowIsFaithful = Faithful to_one one_switch [] (one_row (((1, Num 1) ∷ []) ∷ []))

-- and with a leaf that drops them they aren't
abbrev pub AnotherLeafIsNot : Type 0
AnotherLeafIsNot = ¬ Faithful to_one one_switch [] (one_row [])
