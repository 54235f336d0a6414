use Rattle.std.proofs.Common.{◌≡◌, ◌<◌, ◌∙◌, ◌∷◌, ◌++◌, [], Some, length, map, sym, ap, arith}
use Rattle.std.specs.Prelude.{slice_get}
use Rattle.std.proofs.lemmas.List.{length-map, map_push}
use Rattle.std.proofs.lemmas.Option.{same_Some, slice_get-get_or}
use Rattle.snap_rows.specs.Bodies.{placed}
use Rattle.snap_rows.specs.declared.lists.Placed.{Placed}
use Rattle.snap_rows.specs.declared.tables.RowAt.{RowAt}
use Rattle.snap_rows.proofs.Bodies.{placed_at}
use Rattle.snap_rows.proofs.lists.Rows.push_as.Goals as goal

pub returns : goal.returns
returns c r is =
    let bodies = c.self.inside.bodies.items in
    let rows = c.self.inside.rows.items in
    let q = c.index.result.now in
    let long = ap length c.self.view_is in
    let within : c.args.place < length rows = omega (arith, c.requires, long, length-map rows (placed bodies)) in
    let there : slice_get rows c.args.place ≡ Some q = slice_get-get_or rows c.args.place q within ∙ ap Some (sym c.index.ensures) in
    let same : placed bodies q ≡ r = same_Some _ _ (sym (placed_at bodies rows c.args.place q there) ∙ ap (λ xs. slice_get xs c.args.place) c.self.view_is ∙ is) in
    let p : Placed = record { number = c.args.number; at = c.args.at; body = q.body } in
    let row : placed bodies p ≡ record { at = c.args.at; number = c.args.number; row = r.row } = ap (λ (r : RowAt). record { at = c.args.at; number = c.args.number; row = r.row }) same in
    ap (map (placed bodies)) c.in_ok-push.ensures.items ∙ map_push (placed bodies) rows p ∙ (λ i. c.self.view_is i ++ row i ∷ [])
