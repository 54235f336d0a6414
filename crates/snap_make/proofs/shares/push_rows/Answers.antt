use Rattle.std.proofs.Common.{rules, ◌≡◌, ◌+◌, ◌++◌, ◌∷◌, [], Some, true, false, List, length, slice_get, slice_index_or, refl, sym, ap, subst, ◌∙◌, ◌<◌, append-nil, arith, ⊎_elim}
use Rattle.std.specs.Prelude.{not, ◌||◌, is_some, option_and_then}
use Rattle.std.specs.List.{All}
use Rattle.std.proofs.lemmas.List.Elements.{All-push}
use Rattle.std.proofs.lemmas.Option.{slice_get-get_or}
use Rattle.snap_rows.specs.Bodies.{IsPlaced, placed}
use Rattle.snap_rows.specs.declared.lists.Placed.{Placed}
use Rattle.snap_rows.specs.declared.tables.Row.{Row}
use Rattle.snap_rows.specs.declared.tables.Row.TheVariants as row
use Rattle.snap_faithful.specs.Planned.{row_for}
use Rattle.snap_make.specs.Pairs.{at_switch, row_entry}
use Rattle.snap_make.specs.Shares.{entries, shown, with_stop}
use Rattle.snap_make.proofs.Behind.{twice, own_body, body_behind}
use Rattle.snap_make.proofs.Pushed.{no_entries, no_row, with_row, without_row}
use Rattle.snap_make.proofs.shares.push_rows.Goals as goal
use Rattle.snap_make.proofs.shares.push_rows.Goals.{in-Some+in_ok-push, in_default}

pub loop-number-preserved : goal.loop-number-preserved
loop-number-preserved c =
    let bodies = c.args.bodies.now in
    let all = with_stop bodies in
    let n = c.loop-number.number in
    let g = shown c.args.tables.now bodies c.args.fronts.now c.args.site.at in
    let old = c.args.rows.now.items in
    let low : n < length bodies = search rules in
    let long = twice (λ b. row.Stop) bodies in
    let b = c.index-bodies-number.result in
    let at : slice_get bodies n ≡ Some b = slice_get-get_or bodies n b low ∙ ap Some (sym c.index-bodies-number.is) in
    let is : g n ≡ option_and_then (slice_get all) c.place_at.result =
    ap (row_for c.args.tables.now c.args.site.at (slice_index_or c.args.fronts.now n false)) at
    ∙ c.place_at.ensures.row all (own_body (λ b. row.Stop) bodies n b at) (body_behind (λ b. row.Stop) bodies n b at) in
    elim c.match-place_at.branch [
      | in-Some+in_ok-push w ↦
          let p : Placed = record { number = n; at = c.args.site.at; body = w.in-Some.body } in
          let after : w.push.new.self.items ≡ c.loop-number.rows.items ++ p ∷ [] = w.in_ok-push.ensures.items in
          let within : p.body < length all = ⊎_elim (λ e. omega (arith, e, long, low)) (λ e. omega (arith, e, long, low)) (rw w.in-Some.is at c.place_at.ensures.within) in
          record {
            placed = subst (All (IsPlaced all)) (sym (ap (λ v. v.items) w.rows-is ∙ after)) (All-push (IsPlaced all) c.loop-number.rows.items p c.loop-number.invariant.placed within);
            rows =
                subst (λ l. entries all l ≡ entries all old ++ at_switch g c.args.site.at (n + 1)) (sym (ap (λ v. v.items) w.rows-is ∙ after))
                (with_row (λ p. row_entry (placed all p)) c.loop-number.rows.items old g c.args.site.at n c.loop-number.invariant.rows p (slice_index_or all p.body row.Stop) refl
                (is ∙ ap (option_and_then (slice_get all)) w.in-Some.is ∙ slice_get-get_or all p.body row.Stop within));
          }
      | in_default w ↦ record {
        placed = subst (All (IsPlaced all)) (sym (ap (λ v. v.items) w.rows-is)) c.loop-number.invariant.placed;
        rows =
            subst (λ l. entries all l ≡ entries all old ++ at_switch g c.args.site.at (n + 1)) (sym (ap (λ v. v.items) w.rows-is))
            (without_row (λ p. row_entry (placed all p)) c.loop-number.rows.items old g c.args.site.at n c.loop-number.invariant.rows
            (is ∙ ap (option_and_then (slice_get all)) w.in_default.is));
      }
    ]

pub returns-then-is_unused-clause-rows : goal.returns-then-is_unused-clause-rows
returns-then-is_unused-clause-rows c =
    let unused : not (c.args.site.port || is_some c.args.site.least) ≡ true = sym c.is_unused.ensures ∙ c.if-is_unused.true in
    let old = entries (with_stop c.args.bodies.now) c.args.rows.now.items in
    sym (append-nil old)
    ∙ ap (λ l. old ++ l)
    (sym (no_entries (shown c.args.tables.now c.args.bodies.now c.args.fronts.now c.args.site.at)
    (λ n. no_row c.args.tables.now c.args.site c.requires.site unused (slice_index_or c.args.fronts.now n false) (slice_get c.args.bodies.now n))
    c.args.site.at (length c.args.bodies.now)))
