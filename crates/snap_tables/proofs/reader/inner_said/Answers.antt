use Rattle.std.proofs.Common.{◌<◌, ap, sym, ◌∙◌, arith, length}
use Rattle.std.proofs.lemmas.Grind.{common_steps}
use Rattle.snap_tables.specs.Reading.{inner_said}
use Rattle.snap_tables.proofs.Readings.{inner_said-more}
use Rattle.snap_tables.proofs.reader.inner_said.Goals as goal

pub returns-then-not-is_empty : goal.returns-then-not-is_empty
returns-then-not-is_empty c =
    let behind = c.in-Some.behind.now in
    let some : 0 < length behind = grind (arith, common_steps) in
    sym (ap (inner_said c.args.comps) c.in-Some.ensures.parts ∙ inner_said-more c.args.comps c.in-Some.inner.now behind some)
