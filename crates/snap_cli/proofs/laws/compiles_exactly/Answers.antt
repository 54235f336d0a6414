use Rattle.std.proofs.Common.{◌⊎◌, ℕ, Bool, List, Option, inl, inr}
use Rattle.snap_core.specs.declared.program.Program.{Program}
use Rattle.snap_io.specs.Files.{Files}
use Rattle.snap_topology.specs.declared.topology.Topology.{Topology}
use Rattle.snap_words.specs.Commands.{compile}
use Rattle.snap_cli.specs.Compile.{AreSpelled}
use Rattle.snap_cli.specs.Laws.{IsDue, IsExact, IsFailure, SpellsOneProgram}
use Rattle.snap_cli.specs.Refusals.{Ending}
use Rattle.snap_cli.proofs.CompileOnce.{Came, came}
use Rattle.snap_cli.proofs.laws.compiles_exactly.Goals as goal

module _ (spells : SpellsOneProgram) (files : Files) (program topology placement : List ℕ) (on_demand : Bool) (p : Program) (t : Topology) (places : List ℕ) (spelled : AreSpelled files program topology placement p t places)
    (status : ℕ) (out_old out_new : Option (List ℕ)) (err_before err_now : ℕ) (err_old err_new : Option (List ℕ)) where
  exactly : IsFailure status ⊎ ((ending : Ending) × (text : List ℕ) × IsDue files (compile program topology placement on_demand) ending text × IsExact ending text status out_old out_new err_before err_now err_old err_new)
      → IsFailure status ⊎ Came files program topology placement on_demand spells p t places spelled status out_old out_new err_before err_now err_old err_new
  exactly (inl failed) = inl failed
  exactly (inr (ending, text, due, exact)) = inr (came files program topology placement on_demand spells p t places spelled status out_old out_new err_before err_now err_old err_new ending text due exact)

pub returns : goal.returns
returns c = λ words files program topology placement on_demand p t places status shelf_before shelf_now out_before out_now out_old out_new err_before err_now err_old err_new is spelled a.
    exactly c.spells_one_program.ensures files program topology placement on_demand p t places spelled status out_old out_new err_before err_now err_old err_new
    (c.answers_exactly.ensures words files (compile program topology placement on_demand) status shelf_before shelf_now out_before out_now out_old out_new err_before err_now err_old err_new is a)
