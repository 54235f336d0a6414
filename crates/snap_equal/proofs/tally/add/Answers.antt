-- One sum grows, or a new one stands behind the others.
use Rattle.std.proofs.Common.{◌≡◌, ◌<◌, cond, List, length, get_or, set, ap, ◌∙◌, subst}
use Rattle.std.proofs.lemmas.List.{get_or_default}
use Rattle.snap_core.specs.declared.place.Place.{Place}
use Rattle.snap_core.specs.declared.policy.Update.{Update}
use Rattle.snap_core.specs.Arrays.{place_at, same_place}
use Rattle.snap_context.specs.Classes.{wrap}
use Rattle.snap_compose.specs.Additions.{added_up}
use Rattle.snap_equal.specs.Tally.{total}
use Rattle.snap_equal.proofs.Adding.{total-push, total-set}
use Rattle.snap_equal.proofs.tally.add.Goals as goal

pub returns-in-Some-clause-total : goal.returns-in-Some-clause-total
returns-in-Some-clause-total c = λ m k i q.
    let us : List Update = c.args.sums.now.items in
    let d : Update = c.index_mut.result.now in
    let at : Update = get_or us c.in-Some.i d in
    let below : c.in-Some.i < length us = subst (λ (xs : List Update). c.in-Some.i < length xs) c.deref.ensures.value c.in-Some.ensures.below in
    let op : c.plus.result ≡ added_up at.op c.args.num = c.plus.ensures ∙ ap (λ (u : Update). added_up u.op c.args.num) (c.index.ensures ∙ get_or_default us c.in-Some.i c.index.result.now d below) in
    let grown : record { var = d.var; index = d.index; op = c.plus.result } ≡ record at { op = added_up at.op c.args.num } =
    λ j. record { var = (c.index_mut.ensures.value j).var; index = (c.index_mut.ensures.value j).index; op = op j } in
    let place : place_at at.var at.index k ≡ place_at c.args.update.now.var c.args.update.now.index k =
    subst (λ (xs : List Update). place_at (get_or xs c.in-Some.i d).var (get_or xs c.in-Some.i d).index k ≡ place_at c.args.update.now.var c.args.update.now.index k) c.deref.ensures.value (c.in-Some.ensures.place d m k i) in
    ap (λ (u : Update). total (set us c.in-Some.i u) k q) grown
    ∙ total-set k q c.args.num us c.in-Some.i d below (c.requires.sums c.in-Some.i d below).adds
    ∙ ap (λ (p : Place). wrap (total us k q) (cond (same_place p q) c.args.num 0)) place

pub returns-in_ok-push-in-None-clause-total : goal.returns-in_ok-push-in-None-clause-total
returns-in_ok-push-in-None-clause-total c = λ m k i q.
    ap (λ us. total us k q) c.in_ok-push-in-None.ensures.items ∙ total-push c.args.sums.now.items c.args.update.now c.args.num _ k q c.in_ok-index-in-None.ensures
