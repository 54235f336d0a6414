use Rattle.std.proofs.Common.{◌<◌, ◌^◌, arith, sym, ◌∙◌}
use Rattle.std.proofs.lemmas.Result.{IfOk-weaker}
use Rattle.snap_tables.specs.Reading.{words_left}
use Rattle.snap_tables.proofs.PieceLemmas.{option-cases}
use Rattle.snap_tables.proofs.RowLaws.{go-none, go-row, test-none, test-row-said}
use Rattle.snap_tables.proofs.row.row_of.Goals as goal

pub returns-then-begins_with : goal.returns-then-begins_with
returns-then-begins_with c =
    let k = c.args.counts in
    let fits : k.comps < 2 ^ 64 = omega (arith, c.well_formed) in
    let few : k.arrays < 2 ^ 64 = omega (arith, c.well_formed) in
    let ends : k.switches < 2 ^ 64 = omega (arith, c.well_formed) in
    option-cases c.go_said.result
    (λ e. go-none k fits few c.args.version c.args.arrays.now ends (words_left c.args.rest) (sym c.begins_with.ensures ∙ c.if-begins_with.true) (sym c.go_said.ensures ∙ e))
    (λ b e. go-row k fits few c.args.version c.args.arrays.now ends (words_left c.args.rest) b (sym c.go_said.ensures ∙ e))

pub returns : goal.returns
returns c =
    let k = c.args.counts in
    let fits : k.comps < 2 ^ 64 = omega (arith, c.well_formed) in
    let few : k.arrays < 2 ^ 64 = omega (arith, c.well_formed) in
    let ends : k.switches < 2 ^ 64 = omega (arith, c.well_formed) in
    let ws = words_left c.args.rest in
    IfOk-weaker c.test_row_said.result _ _ (λ said e. option-cases said
    (λ none. test-none k fits few c.args.version c.args.arrays.now ends ws c.in_default.ensures (sym c.begins_with.ensures ∙ c.if-begins_with.false) (sym c.begins_with-2.ensures ∙ c.if-begins_with-2.false) (sym e ∙ none))
    (λ b some. test-row-said k fits few c.args.version c.args.arrays.now ws b (sym e ∙ some))) c.test_row_said.ensures
