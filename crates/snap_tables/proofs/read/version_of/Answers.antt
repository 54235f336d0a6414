use Rattle.std.proofs.Common.{sym, ◌∙◌}
use Rattle.snap_tables.proofs.ReadLemmas.{first-is-one, first-is-two, first-other}
use Rattle.snap_tables.proofs.read.version_of.Goals as goal

pub returns-then-is_text : goal.returns-then-is_text
returns-then-is_text c = first-is-one c.args.line.now (sym c.is_text.ensures ∙ c.if-is_text.true)

pub returns-then-is_text-2 : goal.returns-then-is_text-2
returns-then-is_text-2 c = first-is-two c.args.line.now (sym c.is_text-else-is_text.ensures ∙ c.if-is_text-2.true)

pub returns-else-is_text-2 : goal.returns-else-is_text-2
returns-else-is_text-2 c = first-other c.args.line.now (sym c.is_text.ensures ∙ c.if-is_text.false) (sym c.is_text-else-is_text.ensures ∙ c.if-is_text-2.false)
