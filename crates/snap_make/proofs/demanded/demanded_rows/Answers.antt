use Rattle.std.proofs.Common.{List, length, map, sym, ap, subst, ◌∙◌}
use Rattle.std.specs.List.{All}
use Rattle.std.proofs.lemmas.Simd.{map-map}
use Rattle.snap_rows.specs.Bodies.{IsPlaced, placed}
use Rattle.snap_rows.specs.declared.tables.Row.{Row}
use Rattle.snap_faithful.specs.OnDemand.{place_of}
use Rattle.snap_make.specs.Demanded.{demanded, with_gone}
use Rattle.snap_make.specs.Pairs.{at_switches, row_entry}
use Rattle.snap_make.proofs.demanded.demanded_rows.Goals as goal

pub new-requires : goal.new-requires
new-requires c =
    subst (λ (bs : List Row). All (IsPlaced bs) c.in_ok-rows.rows.items) (ap (with_gone (place_of c.args.tables.now)) c.deref.ensures.value ∙ sym c.in_ok-push_gone.ensures)
    c.in_ok-rows.ensures.placed

pub returns : goal.returns
returns c =
    let t = c.args.tables.now in
    let rows = c.in_ok-rows.rows.items in
    let bodies = c.in_ok-bodies.bodies.items in
    let with = with_gone (place_of t) in
    let lent = c.deref.ensures.value in
    record {
      bodies = bodies;
      marks = c.in_ok-marks.marks.items;
      marked = c.in_ok-marks.ensures;
      bodies_are = c.in_ok-bodies.ensures;
      are =
          ap (map row_entry) (c.new.ensures ∙ ap (λ (bs : List Row). map (placed bs) rows) (c.in_ok-push_gone.ensures ∙ sym (ap with lent)))
          ∙ map-map row_entry (placed (with c.deref.result.now)) rows
          ∙ c.in_ok-rows.ensures.rows
          ∙ (λ i. at_switches (demanded t (lent i) (c.deref-2.ensures.value i)) (length t.switches) (length (lent i)));
    }
