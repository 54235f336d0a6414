use Rattle.std.proofs.Common.{◌≡◌, ◌≢◌, ◌∙◌, ℕ, List, [], ◌∷◌, Bool, false, ◌==◌, length, ap, sym, refl, arith, slice_index_or}
use Rattle.std.specs.Vec.{vec_len}
use Rattle.std.proofs.lemmas.Bool.{eqb-true, false≢true}
use Rattle.snap_placement.specs.DemandAnswer.{Lists}
use Rattle.snap_placement.specs.Marks.{GroupMarked}
use Rattle.snap_placement.proofs.Marking.{Lists-empty, Lists-some, count-more, each-more}
use Rattle.snap_placement.proofs.marks.all_places.Goals as goal

none-left : (xs : List ℕ) → length xs ≡ 0 → xs ≡ []
none-left [] is = refl
none-left (x ∷ xs) is = absurd (omega arith)

not-empty : (b : Bool) (xs : List ℕ) → b ≡ (length xs == 0) → b ≡ false → xs ≢ []
not-empty b xs is not none = false≢true (sym not ∙ is ∙ ap (λ (l : List ℕ). length l == 0) none)

pub returns-then-is_empty-clause-nowhere : goal.returns-then-is_empty-clause-nowhere
returns-then-is_empty-clause-nowhere c = λ memory.
    let P = GroupMarked c.args.groups.now c.args.marks.now in
    let v = c.loop-var.var in
    let before = c.loop-var.invariant in
    let all = c.count-var-end.ensures.count in
    let marked = c.requires.count in
    let lt = c.loop-var-test.true in
    let size = c.in_ok-places.places.ok.0 in
    let nothing : vec_len c.in_ok-places.places ≡ 0 = eqb-true (vec_len c.in_ok-places.places) 0 (sym c.if-is_empty.ensures) in
    let empty = none-left c.in_ok-places.places.items (omega arith) in
    record {
      below = omega arith;
      nowhere = Lists-empty (P v) c.args.count c.in_ok-places.places.items c.in_ok-places.ensures empty;
      first = λ u low. Lists-some (P u) c.args.count (slice_index_or c.loop-var.all.items u []) (before.places u low) (before.some u low);
    }

pub loop-var-preserved : goal.loop-var-preserved
loop-var-preserved c =
    let P = GroupMarked c.args.groups.now c.args.marks.now in
    let before = c.loop-var.invariant in
    let old = c.loop-var.all.items in
    let new = c.push.new.self.items in
    let v = c.loop-var.var in
    let put = c.in_ok-push.ensures.items in
    let here = c.in_ok-places.places.items in
    let size = c.in_ok-places.places.ok.0 in
    let long : vec_len c.in_ok-places.places ≡ length here = omega arith in
    let some = not-empty c.is_empty.result here (c.is_empty.ensures ∙ ap (λ (n : ℕ). n == 0) long) c.if-is_empty.false in
    record {
      count = count-more old new v c.new.result before.count put;
      places = each-more [] (λ (u : ℕ) (l : List ℕ). Lists (P u) c.args.count l) old new v c.new.result here before.count put c.new.ensures c.in_ok-places.ensures before.places;
      some = each-more [] (λ (u : ℕ) (l : List ℕ). l ≢ []) old new v c.new.result here before.count put c.new.ensures some before.some;
    }
