use Rattle.std.proofs.Common.{sym, ◌∙◌, arith}
use Rattle.snap_tables.specs.Drafts.{tables_of}
use Rattle.snap_tables.proofs.NextLemmas.{hop-none, hop-some}
use Rattle.snap_tables.proofs.PieceLemmas.{option-cases}
use Rattle.snap_tables.proofs.entries.next_hop.Goals as goal

pub returns : goal.returns
returns c =
    option-cases c.hop_of.result
    (λ e. hop-none (tables_of c.args.draft.now) c.args.line.now (omega (arith, c.requires.few_switches)) (sym c.hop_of.ensures ∙ e))
    (λ hop e. hop-some (tables_of c.args.draft.now) c.args.line.now (omega (arith, c.requires.few_switches)) hop (sym c.hop_of.ensures ∙ e))
