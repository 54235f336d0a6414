use Rattle.std.proofs.Common.{rules, ◌≡◌, ℕ, subst}
use Rattle.std.specs.Prelude.{IsSome}
use Rattle.std.specs.List.{All}
use Rattle.snap_rows.specs.Entries.{row_at}
use Rattle.snap_rows.specs.Leads.{IsNumberAfter, LeadsNext}
use Rattle.snap_rows.proofs.Leading.{each_over}
use Rattle.snap_rows.proofs.rules.missing.next_have_rows.Goals as goal

pub returns : goal.returns
returns c all =
    let t = c.args.tables.now in
    let w = c.args.entry.at in
    let n = c.args.entry.number in
    let b = c.args.entry.row.now in
    let own : (k : ℕ) → IsNumberAfter b k → IsSome (row_at t w k) = search rules in
    let over = c.led_next.new.over.items in
    let each = each_over (LeadsNext t w b) (λ x. IsSome (row_at t x n)) over c.in_ok-led_next.ensures in
    let are : c.deref.result.now ≡ over = c.deref.ensures.value in
    (own, each.0 (subst (All (λ x. IsSome (row_at t x n))) are (c.all_have_rows.ensures.0 all)))
