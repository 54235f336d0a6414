use Rattle.std.proofs.Common.{◌≡◌, ◌<◌, ap, ◌∙◌, [], length}
use Rattle.std.specs.Prelude.{unwrap_or}
use Rattle.std.proofs.lemmas.List.{get_or_default}
use Rattle.snap_core.specs.Cells.{cell, array_at, arrays_of}
use Rattle.snap_core.proofs.StoreLemmas.{arrays-kept, arrays-same}
use Rattle.snap_core.proofs.store.Store.reserve.Goals as goal

pub returns-clause-same : goal.returns-clause-same
returns-clause-same c =
    let m = c.reach.new.arrays.items in let s = c.args.var in
    let within : s < length m = c.in_ok-reach.ensures.within in
    let here : c.index_mut.result.now ≡ array_at m s = c.index_mut.ensures.value ∙ get_or_default m s _ ([], 0) within in
    arrays-kept s m c.reserve.new.self within (λ q. c.reserve.ensures.numbers q ∙ ap (λ a. unwrap_or (cell a.0 q) 0) here)
    ∙ arrays-same c.self.inside.arrays.items m c.reach.ensures.cells
    ∙ ap arrays_of c.self.view_is
