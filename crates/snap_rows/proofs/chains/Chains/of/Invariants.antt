use Rattle.snap_rows.specs.Chains.{AreChains}
use Rattle.snap_rows.proofs.chains.Chains.of.Given as goal

abbrev pub invariant-loop-number : goal.invariant-loop-number
invariant-loop-number l = AreChains l.tables l.chains
