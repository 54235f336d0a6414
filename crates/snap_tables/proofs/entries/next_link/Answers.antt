use Rattle.std.proofs.Common.{sym, ◌∙◌, arith}
use Rattle.snap_tables.specs.Drafts.{tables_of}
use Rattle.snap_tables.proofs.NextLemmas.{link-none, link-some}
use Rattle.snap_tables.proofs.entries.next_link.Goals as goal

pub returns-in-None : goal.returns-in-None
returns-in-None c = link-none (tables_of c.args.draft.now) c.args.line.now (omega (arith, c.requires.few_switches)) (sym c.link_of.ensures ∙ c.in-None.is)

pub returns-in-Some : goal.returns-in-Some
returns-in-Some c = link-some (tables_of c.args.draft.now) c.args.line.now (omega (arith, c.requires.few_switches)) c.in-Some.link (sym c.link_of.ensures ∙ c.in-Some.is)
