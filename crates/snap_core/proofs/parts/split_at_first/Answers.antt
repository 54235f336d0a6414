use Rattle.std.proofs.Common.{◌<◌, eqb, arith, eq-eqb, get_or}
use Rattle.snap_core.proofs.PartLemmas.{parts_by-split, parts_by-none}
use Rattle.snap_core.proofs.parts.split_at_first.Goals as goal

pub returns-then-byte-separator-clause-parts : goal.returns-then-byte-separator-clause-parts
returns-then-byte-separator-clause-parts c =
    parts_by-split (λ b. eqb b c.args.separator) c.args.text.now c.loop-at.at c.loop-at-test.true c.loop-at.invariant (eq-eqb (get_or c.args.text.now c.loop-at.at 0) c.args.separator c.if-byte-separator.true)

pub returns-clause-parts : goal.returns-clause-parts
returns-clause-parts c = parts_by-none (λ b. eqb b c.args.separator) c.args.text.now (λ k within. let before : k < c.loop-at.at = omega (arith, c.loop-at-test.false) in c.loop-at.invariant k before)
