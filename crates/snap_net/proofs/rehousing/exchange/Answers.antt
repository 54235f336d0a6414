use Rattle.std.proofs.Common.{◌≡◌, get_or, ◌∙◌, []}
use Rattle.std.proofs.lemmas.List.{get_or_default}
use Rattle.std.proofs.lemmas.Result.{on_ok_weaker}
use Rattle.snap_core.specs.Arrays.{with_array}
use Rattle.snap_core.specs.Cells.{arrays_of}
use Rattle.snap_net.proofs.Gathering.{changed_at}
use Rattle.snap_net.proofs.rehousing.exchange.Goals as goal

pub returns-clause-old : goal.returns-clause-old
returns-clause-old c =
    let old = c.args.old.now.items in let new = c.args.new.now.items in let at = c.args.here in
    let a : c.index_mut.result.now ≡ get_or old at [] = c.index_mut.ensures.value ∙ get_or_default old at _ [] c.requires.here in
    let b : c.index_mut-2.result.now ≡ get_or new c.args.there [] = c.index_mut-2.ensures.value ∙ get_or_default new c.args.there _ [] c.requires.there in
    on_ok_weaker c.swap_array.result (λ done. changed_at old at c.swap_array.new.self _ c.requires.here (done ∙ (λ i. with_array (arrays_of (a i)) (arrays_of (b i)) c.args.var))) c.swap_array.ensures.here

pub returns-clause-new : goal.returns-clause-new
returns-clause-new c =
    let old = c.args.old.now.items in let new = c.args.new.now.items in let at = c.args.there in
    let a : c.index_mut.result.now ≡ get_or old c.args.here [] = c.index_mut.ensures.value ∙ get_or_default old c.args.here _ [] c.requires.here in
    let b : c.index_mut-2.result.now ≡ get_or new at [] = c.index_mut-2.ensures.value ∙ get_or_default new at _ [] c.requires.there in
    on_ok_weaker c.swap_array.result (λ done. changed_at new at c.swap_array.new.other _ c.requires.there (done ∙ (λ i. with_array (arrays_of (b i)) (arrays_of (a i)) c.args.var))) c.swap_array.ensures.there
