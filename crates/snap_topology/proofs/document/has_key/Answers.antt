use Rattle.std.proofs.Common.{◌∙◌}
use Rattle.snap_topology.proofs.TableLemmas.{is_some-member}
use Rattle.snap_topology.proofs.document.has_key.Goals as goal

pub returns : goal.returns
returns c = c.contains_key.ensures ∙ is_some-member c.args.key.now c.args.table.now.entries
