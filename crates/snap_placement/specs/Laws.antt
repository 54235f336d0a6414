-- What is printed is read back.
use Rattle.std.specs.Prelude.{ℕ, List, Ok}
use Rattle.snap_core.specs.declared.program.Program.{Program}
use Rattle.snap_core.specs.Programs.{IsWellFormed}
use Rattle.snap_topology.specs.declared.topology.Topology.{Topology}
use Rattle.snap_topology.specs.Form.{IsWellFormed as IsTopology}
use Rattle.snap_placement.specs.Answer.{GivesSwitches, IsAnswer}
use Rattle.snap_placement.specs.Printed.{placement_text}

-- **The text of a placement, whatever cost it tells, is answered with this placement.**
abbrev pub PrintedIsRead : Type 0
PrintedIsRead = (p : Program) (t : Topology) (owners : List ℕ) (cost : ℕ) → IsWellFormed p → IsTopology t → GivesSwitches p t owners
    → IsAnswer p t (placement_text p.arrays t.switches owners cost) (Ok owners)
