-- The sum stands where the earlier addition stood.
use Rattle.std.proofs.Common.{◌≡◌, ◌++◌, ◌∷◌, [], List, get_or, set, ap, sym, ◌∙◌, subst}
use Rattle.std.proofs.lemmas.List.{get_or_default}
use Rattle.snap_core.specs.declared.policy.Update.{Update}
use Rattle.snap_compose.specs.Additions.{added_up, AreSame, IsAddend}
use Rattle.snap_compose.proofs.Sums.{same_sum}
use Rattle.snap_compose.proofs.summing.push_update.Goals as goal

pub returns-in-Some : goal.returns-in-Some
returns-in-Some c =
    let us : List Update = c.args.updates.now.items in
    let u : Update = c.args.update.now in
    let d : Update = c.index_mut.result.now in
    let at : Update = get_or us c.in-Some.place d in
    let addend : IsAddend us u c.in-Some.place = subst (λ (xs : List Update). IsAddend xs u c.in-Some.place) c.deref.ensures.value c.in-Some.ensures in
    let op : c.added_up.result ≡ added_up at.op c.in-Add.num = c.added_up.ensures ∙ ap (λ (x : Update). added_up x.op c.in-Add.num) (c.index.ensures ∙ get_or_default us c.in-Some.place c.index.result.now d addend.within) in
    let grown : record { var = d.var; index = d.index; op = c.added_up.result } ≡ record at { op = added_up at.op c.in-Add.num } =
    λ j. record { var = (c.index_mut.ensures.value j).var; index = (c.index_mut.ensures.value j).index; op = op j } in
    subst (λ (x : Update). AreSame (set us c.in-Some.place x) (us ++ u ∷ [])) (sym grown) (same_sum us c.in-Some.place c.in-Add.num d u addend c.in-Add.is)
