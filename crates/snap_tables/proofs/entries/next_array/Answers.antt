use Rattle.std.proofs.Common.{arith}
use Rattle.snap_tables.specs.Drafts.{tables_of}
use Rattle.snap_tables.proofs.NextLemmas.{array-none, array-some}
use Rattle.snap_tables.proofs.entries.next_array.Goals as goal

pub returns-in-None : goal.returns-in-None
returns-in-None c = array-none (tables_of c.args.draft.now) c.args.line.now (omega (arith, c.requires.few_switches)) c.in-None.ensures

pub returns-in_ok-name-in-Some : goal.returns-in_ok-name-in-Some
returns-in_ok-name-in-Some c = rw c.in_ok-name-in-Some.ensures (array-some (tables_of c.args.draft.now) c.args.line.now (omega (arith, c.requires.few_switches)) (record { name = c.in-Some.name.now; at = c.in-Some.at; rank = c.in-Some.rank }) c.in-Some.ensures)
