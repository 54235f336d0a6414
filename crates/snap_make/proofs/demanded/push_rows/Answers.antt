use Rattle.std.proofs.Common.{◌≡◌, ◌+◌, ◌++◌, ◌∷◌, [], Some, length, slice_get, slice_index_or, sym, ap, subst, ◌∙◌, ◌<◌, true, false, arith}
use Rattle.std.specs.List.{All}
use Rattle.std.proofs.lemmas.List.Elements.{All-push}
use Rattle.std.proofs.lemmas.Option.{get_or_from_slice_get, slice_get-get_or, slice_get_within}
use Rattle.snap_rows.specs.Bodies.{IsPlaced, placed}
use Rattle.snap_rows.specs.declared.lists.Placed.{Placed}
use Rattle.snap_rows.specs.declared.tables.Row.TheVariants as row
use Rattle.snap_make.specs.declared.switches.Switches.{Switches}
use Rattle.snap_make.specs.Marks.{has_switch}
use Rattle.snap_faithful.specs.OnDemand.{place_of}
use Rattle.snap_make.specs.Demanded.{body_on, demanded, with_gone}
use Rattle.snap_make.specs.Pairs.{at_switch, row_entry}
use Rattle.snap_make.specs.Shares.{entries}
use Rattle.snap_make.proofs.DemandPushed.{row_there, none_there, placed_on}
use Rattle.snap_make.proofs.Pushed.{with_row, without_row}
use Rattle.snap_make.proofs.demanded.push_rows.Goals as goal
use Rattle.snap_make.proofs.demanded.push_rows.Goals.{then-has+in_ok-push, else-has}

pub loop-number-preserved : goal.loop-number-preserved
loop-number-preserved c =
    let bodies = c.args.bodies.now in
    let marks = c.args.marks.now in
    let place = place_of c.args.tables.now in
    let all = with_gone place bodies in
    let n = c.loop-number.number in
    let at = c.args.at in
    let old = c.args.rows.now.items in
    let g = demanded c.args.tables.now bodies marks at in
    let none : Switches = record { words = [] } in
    let low : n < length bodies = c.loop-number-test.true in
    let mark : slice_get marks n ≡ Some (slice_index_or marks n none) = slice_get-get_or marks n none (let w = c.requires.wide in omega (arith, w, low)) in
    elim c.if-has.branch [
      | then-has+in_ok-push w ↦
          let b = w.index-bodies-number.result in
          let body : slice_get bodies n ≡ Some b = slice_get-get_or bodies n b low ∙ ap Some (sym w.index-bodies-number.is) in
          let is : has_switch (slice_index_or marks n none) at ≡ true = sym c.has.ensures ∙ w.if-has.true in
          let p : Placed = record { number = n; at = at; body = w.place_on.result } in
          let there : slice_get all p.body ≡ Some (body_on place at b) = ap (slice_get all) w.place_on.ensures ∙ placed_on place at bodies n b body in
          let stands : slice_index_or all p.body row.Stop ≡ body_on place at b = get_or_from_slice_get all p.body (body_on place at b) row.Stop there in
          let after : w.push.new.self.items ≡ c.loop-number.rows.items ++ p ∷ [] = w.in_ok-push.ensures.items in
          record {
            placed = subst (All (IsPlaced all)) (sym (ap (λ v. v.items) w.rows-is ∙ after)) (All-push (IsPlaced all) c.loop-number.rows.items p c.loop-number.invariant.placed (slice_get_within all p.body (body_on place at b) there));
            rows =
                subst (λ l. entries all l ≡ entries all old ++ at_switch g at (n + 1)) (sym (ap (λ v. v.items) w.rows-is ∙ after))
                (with_row (λ p. row_entry (placed all p)) c.loop-number.rows.items old g at n c.loop-number.invariant.rows p (body_on place at b) (λ i. (at, n, stands i))
                (row_there c.args.tables.now bodies marks at n (slice_index_or marks n none) mark b body is));
          }
      | else-has w ↦
          let is : has_switch (slice_index_or marks n none) at ≡ false = sym c.has.ensures ∙ w.if-has.false in
          record {
            placed = subst (All (IsPlaced all)) (sym (ap (λ v. v.items) w.rows-is)) c.loop-number.invariant.placed;
            rows =
                subst (λ l. entries all l ≡ entries all old ++ at_switch g at (n + 1)) (sym (ap (λ v. v.items) w.rows-is))
                (without_row (λ p. row_entry (placed all p)) c.loop-number.rows.items old g at n c.loop-number.invariant.rows
                (none_there c.args.tables.now bodies marks at n (slice_index_or marks n none) mark is));
          }
    ]
