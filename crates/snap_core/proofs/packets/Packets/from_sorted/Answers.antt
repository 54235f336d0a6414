use Rattle.std.proofs.Common.{rules}
use Rattle.std.specs.Ordering.{eq_by_cmp}
use Rattle.std.proofs.lemmas.Fn.{dedup_same}
use Rattle.snap_core.specs.Packets.{packet_cmp}
use Rattle.snap_core.proofs.Rising.{IsRising-dedup, set_of-dedup}
use Rattle.snap_core.proofs.packets.Packets.from_sorted.Goals as goal

pub invariant_of-result : goal.invariant_of-result
invariant_of-result c = IsRising-dedup _ _ (dedup_same _ (eq_by_cmp packet_cmp) _ (λ x y b f' x' y' k. search rules) _ _ c.dedup_by.ensures.filtered) c.requires

pub returns : goal.returns
returns c = set_of-dedup _ _ (dedup_same _ (eq_by_cmp packet_cmp) _ (λ x y b f' x' y' k. search rules) _ _ c.dedup_by.ensures.filtered) c.requires
