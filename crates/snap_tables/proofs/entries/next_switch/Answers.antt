use Rattle.std.proofs.Common.{arith}
use Rattle.snap_tables.specs.Drafts.{tables_of}
use Rattle.snap_tables.proofs.NextLemmas.{switch-none, switch-some}
use Rattle.snap_tables.proofs.entries.next_switch.Goals as goal

pub returns-in-None : goal.returns-in-None
returns-in-None c = switch-none (tables_of c.args.draft.now) c.args.line.now (omega (arith, c.requires.few_switches)) c.in-None.ensures

pub returns-in_ok-of-in-Some : goal.returns-in_ok-of-in-Some
returns-in_ok-of-in-Some c = rw c.in_ok-of-in-Some.ensures (switch-some (tables_of c.args.draft.now) c.args.line.now (omega (arith, c.requires.few_switches)) c.in-Some.name.now c.in-Some.ensures)
