use Rattle.std.proofs.Common.{◌≡◌, ◌∙◌, Some}
use Rattle.std.specs.Map.Iter.{deref_pair}
use Rattle.std.proofs.lemmas.Map.Iter.{rest_more}
use Rattle.toml.specs.View.{view}
use Rattle.snap_topology.specs.Shape.{name_in}
use Rattle.snap_placement.specs.Texts.{entry_texts}
use Rattle.snap_placement.proofs.Entries.{entries-turn}
use Rattle.snap_placement.proofs.InOrder.{at-end, in-order}
use Rattle.snap_placement.proofs.document.entries.Goals as goal

pub loop-key-preserved : goal.loop-key-preserved
loop-key-preserved c =
    let more = rest_more deref_pair _ _ _ (c.in-Some.key, c.in-Some.value) c.in-Some.is c.next.ensures.steps in
    let is : Some c.in-Some-switch_name.place.now ≡ name_in (view c.in-Some.value.now) = rw c.in-Some-switch_name.is at c.switch_name.ensures in
    entries-turn c.loop-key.entries.items c.push.new.self.items _ _ _ _ _ c.in_ok-name.name c.in_ok-place.place more is (c.in_ok-name.ensures.ok ∙ c.as_str.ensures.value) c.in_ok-place.ensures.ok c.in_ok-push.ensures.items ∙ c.loop-key.invariant

pub returns-clause-order : goal.returns-clause-order
returns-clause-order c = in-order c.args.table.now.entries (entry_texts c.loop-key.entries.items) c.len.ensures.ordered (at-end (entry_texts c.loop-key.entries.items) _ _ c.in-None.ensures.steps.0 c.loop-key.invariant)
