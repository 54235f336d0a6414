use Rattle.std.proofs.Common.{[], ◌∷◌, ◌++◌, sym, subst, ◌∙◌, arith}
use Rattle.std.proofs.lemmas.Result.{IfOk-weaker}
use Rattle.std.specs.Prelude.{IfOk, IfSome, MatchOption}
use Rattle.snap_tables.specs.Drafts.{IsNoRowLine, IsRowLine, tables_of}
use Rattle.snap_tables.specs.Known.{AreSaid, row_next}
use Rattle.snap_tables.proofs.NextLemmas.{row-none, row-some}
use Rattle.snap_rows.proofs.Growing.{MatchOption-weaker}
use Rattle.snap_tables.proofs.entries.next_row.Goals as goal

pub returns-clause-line : goal.returns-clause-line
returns-clause-line c =
    let t = tables_of c.args.draft.now in
    let line = c.args.line.now in
    let may = sym c.may_come.ensures ∙ c.if-not-may_come.false in
    IfOk-weaker c.row_line.result _ _ (λ said h. MatchOption-weaker said (row-none t line (omega (arith, c.requires.kept.few_switches))) (λ row is. row-some t line (omega (arith, c.requires.kept.few_switches)) (row_next t.rows row) may is)
    (subst (λ k. MatchOption said (IsNoRowLine t.version k t.arrays t.rows line) (λ row. IsRowLine t.version k t.arrays t.rows line (row_next t.rows row))) c.counts.ensures h)) c.row_line.ensures.line

pub row_line-requires : goal.row_line-requires
row_line-requires c = let t = tables_of c.args.draft.now in subst (λ k. AreSaid t.version k t.arrays t.rows c.args.known.now.rows.items) (sym c.counts.ensures) c.requires.known

pub returns-clause-known : goal.returns-clause-known
returns-clause-known c =
    let t = tables_of c.args.draft.now in
    subst (λ k. IfOk c.row_line.result (λ said. IfSome said (λ row. AreSaid t.version k t.arrays (t.rows ++ row_next t.rows row ∷ []) c.row_line.new.known.rows.items))) c.counts.ensures c.row_line.ensures.known
