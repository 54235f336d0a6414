use Rattle.std.proofs.Common.{◌≡◌, ◌∙◌, ◌≤◌, ◌<◌, ◌*◌, ◌+◌, ℕ, List, ap, length, length-set, replicate, subst, sym, arith, rules}
use Rattle.std.specs.List.{All}
use Rattle.std.proofs.lemmas.Grind.{get_or_default_zero}
use Rattle.std.proofs.lemmas.List.{length-replicate}
use Rattle.std.proofs.lemmas.List.Elements.{All-get_or, All-replicate, All-set, All-weaker}
use Rattle.snap_placement.specs.declared.trips.Trip.{Trip}
use Rattle.snap_placement.specs.Steps.{end_of, weighed}
use Rattle.snap_placement.proofs.Costing.{no_trip, summed-more, weighed-none}
use Rattle.snap_placement.proofs.price.summed.Goals as goal

pub loop-trip-init : goal.loop-trip-init
loop-trip-init c =
    let is : c.in_ok-sums.sums.items ≡ replicate c.args.count 0 = search rules in
    record {
      count = ap (λ (xs : List ℕ). length xs) is ∙ length-replicate c.args.count 0;
      low = subst (λ (xs : List ℕ). All (λ (w : ℕ). w ≤ 0) xs) (sym is) (All-replicate (λ (w : ℕ). w ≤ 0) c.args.count 0 (omega arith));
      sums = λ f. ap (λ (xs : List ℕ). weighed f 0 xs) is ∙ weighed-none f 0 c.args.count;
    }

pub overflow_add-index_mut : goal.overflow_add-index_mut
overflow_add-index_mut c =
    let inside = All-get_or (λ (t : Trip). end_of c.args.end t < c.args.count) c.args.trips.now c.loop-trip.trip-index no_trip c.loop-trip-test.true c.requires.below in
    let there = c.end-at.ensures in
    let count = c.loop-trip.invariant.count in
    let low = All-get_or (λ (w : ℕ). w ≤ c.loop-trip.trip-index * 4294967295) c.loop-trip.sums.items c.end-at.result c.index_mut.result.now (omega arith) c.loop-trip.invariant.low in
    let is = c.index_mut.ensures.value in
    let added = c.load.ensures.small in
    let few = c.requires.few in
    omega arith

pub loop-trip-preserved : goal.loop-trip-preserved
loop-trip-preserved c =
    let trips = c.args.trips.now in
    let i = c.loop-trip.trip-index in
    let sums = c.loop-trip.sums.items in
    let at = c.end-at.result in
    let inside = All-get_or (λ (t : Trip). end_of c.args.end t < c.args.count) trips i no_trip c.loop-trip-test.true c.requires.below in
    let there = c.end-at.ensures in
    let count = c.loop-trip.invariant.count in
    let low : at < length sums = omega arith in
    let was = c.index_mut.ensures.value ∙ get_or_default_zero sums at c.index_mut.result.now low in
    let before = All-get_or (λ (w : ℕ). w ≤ i * 4294967295) sums at c.index_mut.result.now low c.loop-trip.invariant.low in
    let is = c.index_mut.ensures.value in
    let added = c.load.ensures.small in
    record {
      count = length-set sums at (c.index_mut.result.now + c.load.result) ∙ count;
      low = All-set (λ (w : ℕ). w ≤ (i + 1) * 4294967295) sums at (c.index_mut.result.now + c.load.result) (omega arith) (All-weaker (λ (w : ℕ). w ≤ i * 4294967295) (λ (w : ℕ). w ≤ (i + 1) * 4294967295) (λ w h. omega arith) sums c.loop-trip.invariant.low);
      sums = λ f. summed-more f (end_of c.args.end) trips i sums c.index_mut.result.now c.load.result at c.loop-trip-test.true was c.load.ensures.weight there low (c.loop-trip.invariant.sums f);
    }
