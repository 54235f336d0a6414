use Rattle.std.proofs.Common.{◌<◌, ◌-◌, length}
use Rattle.snap_rows.specs.Form.{comps}
use Rattle.snap_rows.proofs.Jumps.{CasesLead}
use Rattle.snap_rows.proofs.chains.chain_from.Given as goal

abbrev pub invariant-loop-next : goal.invariant-loop-next
invariant-loop-next l = record {
  comp : l.step.comp < comps l.tables;
  lead : CasesLead l.tables l.first l.step.comp l.cases.items l.rest;
}

abbrev pub decreases-loop-next : goal.decreases-loop-next
decreases-loop-next l = 65535 - length l.cases.items
