use Rattle.std.proofs.Common.{sym, subst}
use Rattle.std.specs.Prelude.{OnOk}
use Rattle.snap_rows.specs.declared.tables.Row.{Row}
use Rattle.snap_rows.specs.Leads.{AreLedOver, AreLedNext}
use Rattle.snap_rows.proofs.rules.leads.led_next.Goals as goal

pub returns-in-Field : goal.returns-in-Field
returns-in-Field c =
    let over = c.led_over.new.over.items in
    subst (λ (b : Row). OnOk c.led_over.result (AreLedNext c.args.tables.now c.args.at b over)) (sym c.in-Field.is) (subst (λ (b : Row). OnOk c.led_over.result (AreLedOver c.args.tables.now c.args.at b over)) c.in-Field.is c.led_over.ensures)

pub returns-in-State : goal.returns-in-State
returns-in-State c =
    let over = c.led_over-in-State.new.over.items in
    subst (λ (b : Row). OnOk c.led_over-in-State.result (AreLedNext c.args.tables.now c.args.at b over)) (sym c.in-State.is) (subst (λ (b : Row). OnOk c.led_over-in-State.result (AreLedOver c.args.tables.now c.args.at b over)) c.in-State.is c.led_over-in-State.ensures)

pub returns-in-Go : goal.returns-in-Go
returns-in-Go c =
    let over = c.led_over-in-Go.new.over.items in
    subst (λ (b : Row). OnOk c.led_over-in-Go.result (AreLedNext c.args.tables.now c.args.at b over)) (sym c.in-Go.is) (subst (λ (b : Row). OnOk c.led_over-in-Go.result (AreLedOver c.args.tables.now c.args.at b over)) c.in-Go.is c.led_over-in-Go.ensures)

pub returns-in-Stop : goal.returns-in-Stop
returns-in-Stop c =
    let over = c.led_over-in-Stop.new.over.items in
    subst (λ (b : Row). OnOk c.led_over-in-Stop.result (AreLedNext c.args.tables.now c.args.at b over)) (sym c.in-Stop.is) (subst (λ (b : Row). OnOk c.led_over-in-Stop.result (AreLedOver c.args.tables.now c.args.at b over)) c.in-Stop.is c.led_over-in-Stop.ensures)

pub returns-in-Last : goal.returns-in-Last
returns-in-Last c =
    let over = c.led_over-in-Last.new.over.items in
    subst (λ (b : Row). OnOk c.led_over-in-Last.result (AreLedNext c.args.tables.now c.args.at b over)) (sym c.in-Last.is) (subst (λ (b : Row). OnOk c.led_over-in-Last.result (AreLedOver c.args.tables.now c.args.at b over)) c.in-Last.is c.led_over-in-Last.ensures)
