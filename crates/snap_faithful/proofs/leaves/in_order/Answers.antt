use Rattle.std.proofs.Common.{◌≡◌, ℕ, List, ◌++◌, take, drop, length, rules, is_lt, subst, sym, ap, ◌∙◌}
use Rattle.std.specs.List.Sorted.{IsPermutation, IsSorted}
use Rattle.std.proofs.Math.Seq.{take-append_seam}
use Rattle.std.proofs.lemmas.Fn.{always_returns_same}
use Rattle.std.proofs.lemmas.List.Sorted.{ranks_by}
use Rattle.snap_rows.specs.Entries.{Parts}
use Rattle.snap_rows.specs.Form.{parts_cmp}
use Rattle.snap_faithful.specs.Leaves.{AreInOrder}
use Rattle.snap_faithful.proofs.Comparing.{parts_total, moved_once}
use Rattle.snap_faithful.proofs.leaves.in_order.Goals as goal

-- what a list of n holds once its slice is this one
replaced : (n : ℕ) (new old : List Parts) → length new ≡ n → new ≡ take n (new ++ drop (length new) old)
replaced n new old e = sym (take-append_seam new (drop (length new) old)) ∙ ap (λ m. take m (new ++ drop (length new) old)) e

pub once-requires : goal.once-requires
once-requires c =
    let now : List Parts = c.sort_by.new.self in
    let long : length now ≡ c.args.outs.len = c.sort_by.ensures.len ∙ c.as_mut_slice.ensures.len in
    let sorted : IsSorted parts_cmp now = c.in_ok-sort_by.ensures.sorted (λ a b. is_lt (parts_cmp a b)) (ranks_by parts_total (λ x. x)) (always_returns_same _ _ _ (λ a r f k. search rules)) in
    subst (λ (l : List Parts). IsSorted parts_cmp l) (replaced c.args.outs.len now c.args.outs.items long) sorted

pub returns : goal.returns
returns c =
    let old = c.args.outs.items in
    let now : List Parts = c.sort_by.new.self in
    let long : length now ≡ c.args.outs.len = c.sort_by.ensures.len ∙ c.as_mut_slice.ensures.len in
    let moved : IsPermutation old now = subst (λ (l : List Parts). IsPermutation l now) c.as_mut_slice.ensures.value c.sort_by.ensures.permutation in
    moved_once old now c.once.result moved (subst (λ (l : List Parts). AreInOrder l c.once.result) (sym (replaced c.args.outs.len now old long)) c.once.ensures)
