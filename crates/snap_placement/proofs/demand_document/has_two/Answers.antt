use Rattle.std.proofs.Common.{◌∙◌, ap, ◌==◌, sym}
use Rattle.snap_topology.proofs.TableLemmas.{member_count-view}
use Rattle.snap_placement.proofs.demand_document.has_two.Goals as goal

pub returns : goal.returns
returns c = ap (λ n. n == 2) (c.len.ensures.len ∙ sym (member_count-view _))
