-- The diagrams tell of the programs.
use Rattle.std.proofs.Common.{length, ap, ◌∙◌, subst}
use Rattle.snap_core.specs.Cells.{arrays_of}
use Rattle.snap_core.specs.Fields.{count}
use Rattle.snap_equal.specs.Same.{IsCompared}
use Rattle.snap_cli.specs.Equal.{AreComparable}
use Rattle.snap_cli.proofs.EqualPrograms.{can_be_compared, difference_told, mean_same, tell_apart}
use Rattle.snap_cli.proofs.equal.judge_both.Goals as goal
use Rattle.snap_cli.proofs.equal.judge_both.Goals.{After-items}

race_free : (c : After-items) → AreComparable c.args.left.now c.args.right.now
race_free c = record {
  declared = c.requires.alike;
  left = c.whole_programs_never_race.ensures c.args.left.now c.requires.first.0 c.args.first.now.nodes c.args.first.now.root c.requires.first.1;
  right = c.whole_programs_never_race.ensures c.args.right.now c.requires.second.0 c.args.second.now.nodes c.args.second.now.root c.requires.second.1;
}

pub compare-requires-clause-left : goal.compare-requires-clause-left
compare-requires-clause-left c =
    can_be_compared c.args.left.now c.count-comps.result (length c.items.result.now) c.args.first.now.nodes c.args.first.now.root c.count-comps.ensures.count (ap length c.items.ensures) c.requires.first

pub compare-requires-clause-right : goal.compare-requires-clause-right
compare-requires-clause-right c =
    can_be_compared c.args.right.now c.count-comps.result (length c.items.result.now) c.args.second.now.nodes c.args.second.now.root
    (c.count-comps.ensures.count ∙ ap count c.requires.alike.fields) (ap length c.items.ensures ∙ ap length c.requires.alike.arrays) c.requires.second

pub returns-in-Ok-Same : goal.returns-in-Ok-Same
returns-in-Ok-Same c = (
  race_free (goal.at.returns-in-Ok-Same c).After-items,
  mean_same c.args.left.now c.args.right.now c.args.first.now.nodes c.args.second.now.nodes c.args.first.now.root c.args.second.now.root c.requires.alike c.requires.first c.requires.second
      c.count-comps.result c.count-comps.ensures.count
      (subst (IsCompared c.count-comps.result (length c.items.result.now) c.args.first.now.nodes c.args.first.now.root c.args.second.now.nodes c.args.second.now.root) c.in-Ok-Same.field-0-is c.in-Ok-Same.ensures),
)

pub differ-requires : goal.differ-requires
differ-requires c =
    tell_apart c.args.left.now c.args.right.now c.args.first.now.nodes c.args.second.now.nodes c.args.first.now.root c.args.second.now.root c.requires.alike c.requires.first c.requires.second
    c.count-comps.result (length c.items.result.now) (arrays_of c.in-Ok-Differ.store) c.in-Ok-Differ.packet c.count-comps.ensures.count (ap length c.items.ensures)
    (subst (IsCompared c.count-comps.result (length c.items.result.now) c.args.first.now.nodes c.args.first.now.root c.args.second.now.nodes c.args.second.now.root) c.in-Ok-Differ.field-0-is c.in-Ok-Differ.ensures)

pub returns-in-Ok-Differ : goal.returns-in-Ok-Differ
returns-in-Ok-Differ c = difference_told c.args.left.now c.args.right.now (race_free (goal.at.returns-in-Ok-Differ c).After-items) c.differ.result c.differ.ensures
