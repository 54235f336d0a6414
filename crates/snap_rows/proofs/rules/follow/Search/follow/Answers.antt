use Rattle.std.proofs.Common.{ℕ, sym, subst}
use Rattle.std.specs.Prelude.{IsSome}
use Rattle.std.specs.List.{All}
use Rattle.snap_rows.specs.Bodies.{lent}
use Rattle.snap_rows.specs.Entries.{row_at}
use Rattle.snap_rows.specs.Following.{IsMarked}
use Rattle.snap_rows.specs.Leads.{AreLedNext, IsNumberAfter, LeadsNext}
use Rattle.snap_rows.specs.Ways.{Reached}
use Rattle.snap_rows.proofs.Following.{contained, entry_over, row_has_rows, leads_reached, next_marked, marked_more, OnOk-both}
use Rattle.snap_rows.proofs.Leading.{split_leads, each_over}
use Rattle.snap_rows.proofs.rules.follow.Search.follow.Goals as goal

pub mark_numbers-requires-clause-rows : goal.mark_numbers-requires-clause-rows
mark_numbers-requires-clause-rows c =
    let t = c.args.tables.now in
    let r = lent c.args.entry in
    let e = c.requires.entry in
    (split_leads t r.at r.number r.row (λ x k. IsSome (row_at t x k)) (row_has_rows t c.requires.missing e.0 r (contained t.rows r e))).0

pub mark_numbers-requires-clause-reached : goal.mark_numbers-requires-clause-reached
mark_numbers-requires-clause-reached c =
    let t = c.args.tables.now in
    let r = lent c.args.entry in
    let e = c.requires.entry in
    (split_leads t r.at r.number r.row (Reached t) (leads_reached t c.requires.form r e.0 (contained t.rows r e) c.requires.reached)).0

pub mark_all-requires-clause-rows : goal.mark_all-requires-clause-rows
mark_all-requires-clause-rows c =
    let t = c.args.tables.now in
    let r = lent c.args.entry in
    let e = c.requires.entry in
    let led : AreLedNext t r.at r.row c.led_next.new.over.items = c.in_ok-led_next.ensures in
    let rows = (split_leads t r.at r.number r.row (λ x k. IsSome (row_at t x k)) (row_has_rows t c.requires.missing e.0 r (contained t.rows r e))).1 in
    subst (All (λ x. IsSome (row_at t x r.number))) (sym c.deref.ensures.value) ((each_over (LeadsNext t r.at r.row) (λ x. IsSome (row_at t x r.number)) c.led_next.new.over.items led).1 (λ x l. rows x (entry_over t c.requires.loops c.requires.form r e x l)))

pub mark_all-requires-clause-reached : goal.mark_all-requires-clause-reached
mark_all-requires-clause-reached c =
    let t = c.args.tables.now in
    let r = lent c.args.entry in
    let e = c.requires.entry in
    let led : AreLedNext t r.at r.row c.led_next.new.over.items = c.in_ok-led_next.ensures in
    let reached = (split_leads t r.at r.number r.row (Reached t) (leads_reached t c.requires.form r e.0 (contained t.rows r e) c.requires.reached)).1 in
    subst (All (λ x. Reached t x r.number)) (sym c.deref.ensures.value) ((each_over (LeadsNext t r.at r.row) (λ x. Reached t x r.number) c.led_next.new.over.items led).1 (λ x l. reached x (entry_over t c.requires.loops c.requires.form r e x l)))

pub returns-clause-marked : goal.returns-clause-marked
returns-clause-marked c =
    let t = c.args.tables.now in
    let r = lent c.args.entry in
    let before = c.mark_numbers.new.self.marks.items in
    let marks = c.mark_all.new.self.marks.items in
    let led : AreLedNext t r.at r.row c.led_next.new.over.items = c.in_ok-led_next.ensures in
    let own : (k : ℕ) → IsNumberAfter r.row k → IsMarked t before r.at k = λ k after. c.in_ok-mark_numbers.ensures.marked k after in
    OnOk-both c.mark_all.result
    (λ grows all. next_marked t marks r c.led_next.new.over.items led (λ k after. marked_more t before marks r.at k grows.kept (own k after)) (subst (All (λ x. IsMarked t marks x r.number)) c.deref.ensures.value all))
    c.mark_all.ensures.grows c.mark_all.ensures.marked
