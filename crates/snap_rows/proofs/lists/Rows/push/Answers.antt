use Rattle.std.proofs.Common.{◌≡◌, ◌∙◌, ◌∷◌, ◌++◌, [], length, map, arith}
use Rattle.snap_rows.specs.Bodies.{placed}
use Rattle.snap_rows.specs.declared.lists.Placed.{Placed}
use Rattle.snap_rows.proofs.Bodies.{rows_push}
use Rattle.snap_rows.proofs.lists.Rows.push.Goals as goal

pub returns : goal.returns
returns c =
    let r = c.args.row in
    let bodies = c.self.inside.bodies.items in
    let rows = c.self.inside.rows.items in
    let p : Placed = record { number = r.number; at = r.at; body = c.len-body.result } in
    let longer : c.push.new.self.items ≡ bodies ++ r.row ∷ [] = c.in_ok-push.ensures.items in
    let more : c.push-2.new.self.items ≡ rows ++ p ∷ [] = c.in_ok-push-2.ensures.items in
    let last : p.body ≡ length bodies = omega (arith, c.len-body.ensures, c.self.inside.bodies.ok.0) in
    (λ i. map (placed (longer i)) (more i)) ∙ rows_push bodies r.row rows p last c.self.invariant ∙ (λ i. c.self.view_is i ++ r ∷ [])
