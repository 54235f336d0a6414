use Rattle.std.proofs.Common.{ℕ, [], ◌∷◌, ap, sym, subst, ◌∙◌, map}
use Rattle.std.specs.Prelude.{◌↔◌, Contains, OnOk}
use Rattle.std.proofs.lemmas.Result.{on_ok_weaker}
use Rattle.snap_rows.specs.declared.tables.Row.{Row}
use Rattle.snap_rows.specs.declared.tables.Row.TheVariants.{Go}
use Rattle.snap_rows.specs.declared.tables.Stage.{Stage}
use Rattle.snap_rows.specs.Leads.{AreLedOver}
use Rattle.snap_rows.specs.Ways.{OwnsBelow, Route}
use Rattle.snap_rows.specs.Entries.{ranks_in}
use Rattle.snap_rows.proofs.Leading.{leaf_over, go_over}
use Rattle.snap_rows.proofs.rules.leads.led_over.Goals as goal

pub returns-in-State : goal.returns-in-State
returns-in-State c = subst (λ (b : Row). OnOk c.owners_up_to.result (AreLedOver c.args.tables.now c.args.at b c.owners_up_to.new.over.items)) (sym c.in-State.is) c.owners_up_to.ensures

pub returns-in-Go : goal.returns-in-Go
returns-in-Go c =
    let t = c.args.tables.now in
    subst (λ (b : Row). OnOk c.one_over.result (AreLedOver t c.args.at b c.one_over.new.over.items)) (sym c.in-Go.is)
    (on_ok_weaker c.one_over.result (λ e. subst (AreLedOver t c.args.at (Go c.in-Go.to)) (sym (e ∙ ap (λ v. v ∷ []) c.next.ensures)) (go_over t c.args.at c.in-Go.to)) c.one_over.ensures)

pub returns-in-Leaf : goal.returns-in-Leaf
returns-in-Leaf c =
    let t = c.args.tables.now in
    let way = c.route.new.way.items in
    subst (λ (b : Row). OnOk c.route.result (AreLedOver t c.args.at b way)) (sym c.in-Leaf.is)
    (on_ok_weaker c.route.result (λ route. leaf_over t c.args.at c.in-Leaf.stages c.in-Leaf.outs way (subst (λ ss. Route t c.args.at (map (λ (s : Stage). s.at) ss) way) c.items.ensures route)) c.route.ensures)

pub returns-in-Stop : goal.returns-in-Stop
returns-in-Stop c = subst (λ (b : Row). OnOk c.owners.result (AreLedOver c.args.tables.now c.args.at b c.owners.new.owners.items)) (sym c.in-Stop.is) c.owners.ensures

pub returns-in-Last : goal.returns-in-Last
returns-in-Last c =
    let t = c.args.tables.now in
    let over = c.owners-in-Last.new.owners.items in
    subst (λ (b : Row). OnOk c.owners-in-Last.result (AreLedOver t c.args.at b over)) (sym c.in-Last.is)
    (subst (λ r. OnOk c.owners-in-Last.result ((x : ℕ) → OwnsBelow t r x ↔ Contains over x)) (c.ranks.ensures ∙ ap ranks_in c.items-in-Last.ensures) c.owners-in-Last.ensures)
