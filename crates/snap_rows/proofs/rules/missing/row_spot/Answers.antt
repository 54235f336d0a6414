use Rattle.std.proofs.Common.{rules, arith, below_more}
use Rattle.snap_rows.specs.Bodies.{lent}
use Rattle.snap_rows.specs.declared.tables.Rule.TheVariants.{Missing}
use Rattle.snap_rows.specs.declared.tables.Spot.TheVariants as spot
use Rattle.snap_rows.specs.Leads.{HaveRows}
use Rattle.snap_rows.specs.Rules.{Keeps}
use Rattle.snap_rows.proofs.Spots.{kept_at, RowAtKeeps, rows_all}
use Rattle.snap_rows.proofs.rules.missing.row_spot.Goals as goal

pub loop-at-preserved : goal.loop-at-preserved
loop-at-preserved c =
    let t = c.args.tables.now in
    let n = c.loop-at.at in
    let r = lent c.at.result in
    let keeps : HaveRows t r.at r.number r.row = search rules in
    below_more (λ i. Keeps t Missing (spot.Row i)) n c.loop-at.invariant (kept_at (RowAtKeeps t Missing) t.rows n r c.at.ensures keeps)

pub returns : goal.returns
returns c =
    let t = c.args.tables.now in
    rows_all t Missing (record { hop = λ h. tt; port = c.requires.ports; array = λ i a. tt }) (λ i below. c.loop-at.invariant i (omega (arith, below, c.loop-at-test.false, c.len-at-end.ensures)))
