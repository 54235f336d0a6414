use Rattle.std.proofs.Common.{◌≡◌, ◌∙◌, ap, string_bytes, List, ℕ, Some}
use Rattle.std.specs.Map.Iter.{deref_pair}
use Rattle.std.proofs.lemmas.Map.Iter.{rest_more}
use Rattle.toml.specs.View.{view}
use Rattle.snap_placement.specs.DemandListing.{entry_text, entry_texts}
use Rattle.snap_placement.specs.DemandShape.{entry_of, places_in}
use Rattle.snap_placement.proofs.Documents.{at-end, entries-turn, in-order}
use Rattle.snap_placement.proofs.demand_document.entries_of.Goals as goal

pub loop-key-preserved : goal.loop-key-preserved
loop-key-preserved c =
    let more = rest_more deref_pair _ _ _ (c.in-Some.key, c.in-Some.value) c.in-Some.is c.next.ensures.steps in
    let is : Some (entry_text c.in-Some-2.entry) ≡ entry_of (string_bytes c.in-Some.key.now) (places_in (view c.in-Some.value.now))
    = rw c.in-Some-2.is at c.in_ok-entry.ensures ∙ ap (λ (t : List ℕ). entry_of t (places_in (view c.in-Some.value.now))) c.as_str.ensures.value in
    entries-turn c.loop-key.entries.items c.push.new.self.items _ _ _ _ c.in-Some-2.entry more is c.in_ok-push.ensures.items ∙ c.loop-key.invariant

pub returns-clause-order : goal.returns-clause-order
returns-clause-order c = in-order c.args.table.now.entries (entry_texts c.loop-key.entries.items) c.len.ensures.ordered (at-end (entry_texts c.loop-key.entries.items) _ _ c.in-None.ensures.steps.0 c.loop-key.invariant)
