use Rattle.snap_report.proofs.ChoiceLemmas.{Leads}
use Rattle.snap_report.proofs.choice.Choice.of.Given as goal

-- the tests so far lead to their branches, and else to the rest
abbrev pub invariant-loop-next : goal.invariant-loop-next
invariant-loop-next l = Leads l.pol l.first.comp l.cases.items l.branches.items l.rest
