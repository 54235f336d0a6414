use Rattle.std.proofs.Common.{◌≡◌, ◌∙◌, ◌<◌, ℕ, Bool, false, List, [], ap, sym, get_or, length, slice_index_or}
use Rattle.std.proofs.lemmas.List.{get_or_default}
use Rattle.std.proofs.lemmas.Result.{err_from_is_err_and}
use Rattle.snap_placement.specs.DemandAnswer.{may}
use Rattle.snap_placement.specs.DemandListing.{entry_texts, key_texts}
use Rattle.snap_placement.proofs.Marking.{count-more, each-more, variable-known, variable-unknown}
use Rattle.snap_placement.proofs.marks.all_marks.Goals as goal

read : (arrays : List (List ℕ)) (i : ℕ) (x name : List ℕ) → i < length arrays → x ≡ get_or arrays i x → name ≡ x → get_or arrays i [] ≡ name
read arrays i x name lt is same = get_or_default arrays i [] x lt ∙ sym is ∙ sym same

pub returns-in_err-marks_for-clause-fault : goal.returns-in_err-marks_for-clause-fault
returns-in_err-marks_for-clause-fault c =
    let p = err_from_is_err_and c.from_residual.result c.from_residual.ensures.1 in
    rw (p.1, p.2) (λ memory. variable-unknown (key_texts c.args.numbers.now.keys) c.args.arrays.now (entry_texts c.args.entries.now) c.loop-name.name-index c.name-item.result c.items.result.now c.in_err-marks_for.field-0.0
    c.loop-name-test.true c.name-item.is c.items.ensures c.loop-name.invariant.known (c.in_err-marks_for.ensures.fault memory))

pub loop-name-preserved : goal.loop-name-preserved
loop-name-preserved c =
    let switches = key_texts c.args.numbers.now.keys in
    let entries = entry_texts c.args.entries.now in
    let arrays = c.args.arrays.now in
    let before = c.loop-name.invariant in
    let old = c.loop-name.marks.items in
    let new = c.push.new.self.items in
    let i = c.loop-name.name-index in
    let put = c.in_ok-push.ensures.items in
    let here = c.in_ok-marks_for.field-0.items in
    let made = c.in_ok-marks_for.ensures in
    let lt = c.loop-name-test.true in
    let name : slice_index_or arrays i [] ≡ c.items.result.now = read arrays i c.name-item.result c.items.result.now lt c.name-item.is c.items.ensures in
    record {
      count = count-more old new i c.new.result before.count put;
      widths = each-more [] (λ (v : ℕ) (l : List Bool). length l ≡ c.args.count) old new i c.new.result here before.count put c.new.ensures made.count before.widths;
      marks = each-more [] (λ (v : ℕ) (l : List Bool). (at : ℕ) → at < c.args.count → slice_index_or l at false ≡ may switches entries (slice_index_or arrays v []) at) old new i c.new.result here before.count put c.new.ensures
          (λ at less. made.marks at less ∙ ap (λ (n : List ℕ). may switches entries n at) (sym name)) before.marks;
      known = variable-known switches arrays entries i c.name-item.result c.items.result.now lt c.name-item.is c.items.ensures made.fault ∙ before.known;
    }
