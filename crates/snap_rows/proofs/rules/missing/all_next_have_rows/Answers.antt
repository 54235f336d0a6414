use Rattle.std.proofs.Common.{rules, ◌≡◌, ◌<◌, length, sym, ap, subst, ◌∙◌, arith, ⊎_elim}
use Rattle.std.specs.Prelude.{slice_get}
use Rattle.std.proofs.lemmas.Bool.{cases_lt}
use Rattle.std.proofs.lemmas.Option.{same_Some, slice_get_within}
use Rattle.snap_rows.specs.declared.tables.RowAt.{RowAt}
use Rattle.snap_rows.specs.Bodies.{lent}
use Rattle.snap_rows.specs.Leads.{HaveNext}
use Rattle.snap_rows.proofs.Rows.{of_entries}
use Rattle.snap_rows.proofs.rules.missing.all_next_have_rows.Goals as goal

pub loop-place-preserved : goal.loop-place-preserved
loop-place-preserved c =
    let t = c.args.tables.now in
    let n = c.loop-place.place in
    let e = lent c.at.result in
    let have : HaveNext t e.at e.number e.row = search rules in
    λ i r below at. ⊎_elim
    (λ lt. c.loop-place.invariant i r lt at)
    (λ ge.
    let same : i ≡ n = omega arith in
    let here : e ≡ r = same_Some _ _ (sym c.at.ensures ∙ ap (slice_get t.rows) (sym same) ∙ at) in
    subst (λ (r : RowAt). HaveNext t r.at r.number r.row) here have)
    (cases_lt i n)

pub returns : goal.returns
returns c all =
    let t = c.args.tables.now in
    of_entries t (HaveNext t) (λ i r at. c.loop-place.invariant i r (let within : i < length t.rows = slice_get_within t.rows i r at in omega (arith, within, c.loop-place-test.false, c.len-place-end.ensures)) at)
