use Rattle.std.proofs.Common.{◌∙◌, ap, ◌==◌, sym}
use Rattle.snap_topology.proofs.TableLemmas.{member_count-view}
use Rattle.snap_topology.proofs.document.has_three.Goals as goal

pub returns : goal.returns
returns c = ap (λ n. n == 3) (c.len.ensures.len ∙ sym (member_count-view _))
