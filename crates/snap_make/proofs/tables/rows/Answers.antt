use Rattle.std.proofs.Common.{◌≡◌, List, map, sym, ap, subst, ◌∙◌}
use Rattle.std.specs.List.{All}
use Rattle.snap_rows.specs.Bodies.{IsPlaced, placed}
use Rattle.snap_rows.specs.declared.tables.Row.{Row}
use Rattle.snap_make.specs.Shares.{AreShares, with_stop}
use Rattle.snap_make.proofs.tables.rows.Goals as goal

pub new-requires : goal.new-requires
new-requires c = subst (λ (bs : List Row). All (IsPlaced bs) c.in_ok-shares.shares.items) (ap with_stop c.deref.ensures.value ∙ sym c.in_ok-push_stops.ensures) c.in_ok-shares.ensures.placed

pub returns-clause-rows : goal.returns-clause-rows
returns-clause-rows c =
    let ids = c.in_ok-numbering.numbering.ids.items in
    let numbers = c.in_ok-numbering.numbering.numbers.items in
    let shares = c.in_ok-shares.shares.items in
    let are = AreShares c.args.outline.now c.args.nodes.now ids numbers in
    let same : map (placed (with_stop c.deref.result.now)) shares ≡ c.new.result =
    ap (λ (bs : List Row). map (placed bs) shares) (ap with_stop c.deref.ensures.value ∙ sym c.in_ok-push_stops.ensures) ∙ sym c.new.ensures in
    record {
      ids = ids;
      numbers = numbers;
      numbering = c.in_ok-numbering.ensures.numbering;
      wide = c.in_ok-numbering.ensures.wide;
      bodies = c.in_ok-bodies.bodies.items;
      bodies_are = c.in_ok-bodies.ensures;
      shares_are = subst (λ (bs : List Row). are bs c.new.result) c.deref.ensures.value (subst (are c.deref.result.now) same c.in_ok-shares.ensures.rows);
    }
