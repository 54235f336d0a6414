use Rattle.std.proofs.Common.{◌≡◌, ◌∙◌, ap, Some, string_bytes}
use Rattle.std.specs.Map.Iter.{deref_pair}
use Rattle.std.proofs.lemmas.Map.Iter.{rest_more}
use Rattle.toml.specs.View.{view}
use Rattle.snap_topology.specs.Spells.{port_number}
use Rattle.snap_topology.specs.Shape.{name_in, port_of}
use Rattle.snap_topology.proofs.TableLemmas.{ports-turn}
use Rattle.snap_topology.proofs.document.ports_of.Goals as goal

pub loop-key-preserved : goal.loop-key-preserved
loop-key-preserved c =
    let more = rest_more deref_pair _ _ _ (c.in-Some.key, c.in-Some.value) c.in-Some.is c.next.ensures.steps in
    let is : Some (c.in-Some-port_entry.port, c.in-Some-port_entry.name.now) ≡ port_of (port_number (string_bytes c.in-Some.key.now)) (name_in (view c.in-Some.value.now))
    = rw c.in-Some-port_entry.is at c.port_entry.ensures ∙ ap (λ t. port_of (port_number t) (name_in (view c.in-Some.value.now))) c.as_str.ensures.value in
    ports-turn c.loop-key.ports.entries c.insert.new.self.entries _ _ _ _ _ c.in-Some-port_entry.name more is c.in_ok-insert.ensures.entries ∙ c.loop-key.invariant
