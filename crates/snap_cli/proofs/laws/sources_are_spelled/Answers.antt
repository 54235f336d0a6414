use Rattle.snap_cli.proofs.SpelledSources.{SpellsProgram-ProgramOf, ProgramOf-SpellsProgram, SpellsTopology-TopologyOf, TopologyOf-SpellsTopology}
use Rattle.snap_cli.proofs.laws.sources_are_spelled.Goals as goal

pub returns : goal.returns
returns c = record {
  program = λ text p. (SpellsProgram-ProgramOf text p, ProgramOf-SpellsProgram text p);
  topology = λ text t. (SpellsTopology-TopologyOf text t, TopologyOf-SpellsTopology text t);
}
