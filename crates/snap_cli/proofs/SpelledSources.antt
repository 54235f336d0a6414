-- A file is read as a program, and as a topology, exactly where it spells them.
use Rattle.std.proofs.Common.{◌≡◌, ℕ, List, Ok, Err, inl, inr}
use Rattle.snap_names.specs.Spells.{SpellsProgram}
use Rattle.snap_names.proofs.WellFormed.{IsBounded-resolved}
use Rattle.snap_names.proofs.SpelledPrograms.{SpellsProgram-read, read-SpellsProgram}
use Rattle.snap_topology.specs.Spells.{SpellsTopology}
use Rattle.snap_topology.proofs.AnsweredTopology.{answer-SpellsTopology}
use Rattle.snap_topology.proofs.SpelledTopology.{SpellsTopology-answer}
use Rattle.snap_cli.proofs.Shared.{Program, ProgramOf, Refusal, Topology, TopologyOf}

pub SpellsProgram-ProgramOf : (text : List ℕ) (p : Program) → ProgramOf text (Ok p) → SpellsProgram text p
SpellsProgram-ProgramOf text p h = SpellsProgram-read text p (h.0, h.1)

pub ProgramOf-SpellsProgram : (text : List ℕ) (p : Program) → SpellsProgram text p → ProgramOf text (Ok p)
ProgramOf-SpellsProgram text p h = let r = read-SpellsProgram text p h in (r.0, r.1, IsBounded-resolved text r.1.1 p r.1.4)

pub SpellsTopology-TopologyOf : (text : List ℕ) (t : Topology) → TopologyOf text (Ok t) → SpellsTopology text t
SpellsTopology-TopologyOf text t (inl h) = absurd (no_refusal h.1)
  where
    no_refusal : {r : Refusal} → Ok t ≡ Err r → ⊥
    no_refusal e = cc
SpellsTopology-TopologyOf text t (inr h) = SpellsTopology-answer text t h.0 h.1

pub TopologyOf-SpellsTopology : (text : List ℕ) (t : Topology) → SpellsTopology text t → TopologyOf text (Ok t)
TopologyOf-SpellsTopology text t h = inr (h.short, answer-SpellsTopology text t h)
