use Rattle.std.proofs.Common.{rules, subst, sym}
use Rattle.std.specs.Ordering.{eq_by_cmp}
use Rattle.std.proofs.lemmas.Fn.{dedup_same}
use Rattle.snap_rows.specs.Form.{parts_cmp}
use Rattle.snap_faithful.specs.Leaves.{AreInOrder}
use Rattle.snap_faithful.proofs.Comparing.{sorted_once}
use Rattle.snap_faithful.proofs.leaves.once.Goals as goal

pub returns : goal.returns
returns c =
    subst (AreInOrder c.args.outs.items) (sym c.new.ensures)
    (sorted_once c.args.outs.items c.dedup_by.new.self.items (dedup_same _ (eq_by_cmp parts_cmp) _ (λ x y b f' x' y' k. search rules) _ _ c.dedup_by.ensures.filtered) c.requires)
