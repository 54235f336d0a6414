use Rattle.std.proofs.Common.{◌∙◌, sym, ap}
use Rattle.snap_topology.specs.Shape.{Twice}
use Rattle.snap_topology.proofs.Repeats.{repeats-here, repeats-on}
use Rattle.snap_topology.proofs.resolve.numbers_of.Goals as goal

pub returns-then-contains-clause-twice : goal.returns-then-contains-clause-twice
returns-then-contains-clause-twice c = λ _.
    let found = repeats-here c.loop-name.numbers.keys c.args.names.now c.loop-name.name-index c.name-item.result c.as_str.result.now c.loop-name-test.true c.name-item.is c.as_str.ensures.value (sym c.contains.ensures ∙ c.if-contains.true) in
    rw (sym c.loop-name.invariant.different ∙ found) (ap Twice (c.in_ok-name_of.ensures ∙ c.as_str-then-contains.ensures.value ∙ sym c.as_str.ensures.value))

pub loop-name-preserved : goal.loop-name-preserved
loop-name-preserved c =
    let step = repeats-on c.loop-name.numbers.keys c.insert.new.self.keys c.args.names.now c.loop-name.name-index c.name-item.result c.as_str-in-loop-name.result c.as_str.result.now c.loop-name-test.true c.name-item.is c.as_str.ensures.value
    (c.as_str-in-loop-name.ensures.value ∙ sym c.as_str.ensures.value) (sym c.contains.ensures ∙ c.if-contains.false) c.in_ok-insert.ensures.keys in
    record { all = step.0 ∙ c.loop-name.invariant.all; different = step.1 ∙ c.loop-name.invariant.different }
