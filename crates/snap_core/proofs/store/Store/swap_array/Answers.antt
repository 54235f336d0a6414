use Rattle.std.proofs.Common.{ap, ◌∙◌, []}
use Rattle.std.proofs.lemmas.List.{get_or_default}
use Rattle.snap_core.specs.Cells.{arrays_of}
use Rattle.snap_core.specs.Arrays.{with_array}
use Rattle.snap_core.proofs.StoreLemmas.{arrays-swapped}
use Rattle.snap_core.proofs.store.Store.swap_array.Goals as goal

pub returns-clause-here : goal.returns-clause-here
returns-clause-here c =
    let k = c.self.inside.arrays.items in let l = c.other-2.inside.arrays.items in
    let m = c.reach.new.arrays.items in let n = c.reach-2.new.arrays.items in let s = c.args.var in
    arrays-swapped s k l m c.swap.new.x c.in_ok-reach.ensures.within c.reach.ensures.cells
    (ap (λ a. a.0) (c.swap.ensures.x_after ∙ c.index_mut-2.ensures.value ∙ get_or_default n s _ ([], 0) c.in_ok-reach-2.ensures.within) ∙ c.reach-2.ensures.cells s)
    ∙ (λ i. with_array (arrays_of (c.self.view_is i)) (arrays_of (c.other-2.view_is i)) s)

pub returns-clause-there : goal.returns-clause-there
returns-clause-there c =
    let k = c.self.inside.arrays.items in let l = c.other-2.inside.arrays.items in
    let m = c.reach.new.arrays.items in let n = c.reach-2.new.arrays.items in let s = c.args.var in
    arrays-swapped s l k n c.swap.new.y c.in_ok-reach-2.ensures.within c.reach-2.ensures.cells
    (ap (λ a. a.0) (c.swap.ensures.y_after ∙ c.index_mut.ensures.value ∙ get_or_default m s _ ([], 0) c.in_ok-reach.ensures.within) ∙ c.reach.ensures.cells s)
    ∙ (λ i. with_array (arrays_of (c.other-2.view_is i)) (arrays_of (c.self.view_is i)) s)
