use Rattle.std.proofs.Common.{rules, ◌≡◌, ◌∙◌, sym, ap, Some, None, slice_get}
use Rattle.std.proofs.lemmas.Option.{slice_get-get_or, slice_get_past}
use Rattle.snap_names.specs.Reading.{is_filter_or_fault}
use Rattle.snap_names.proofs.Named.{named-some, named-none}
use Rattle.snap_names.proofs.scope.Scope.name_is_predicate.Goals as goal

pub returns-in-Some : goal.returns-in-Some
returns-in-Some c = λ lets are.
    let at : slice_get c.args.self.now.lets.items c.in-Ok-Policy.number ≡ Some c.in-Some.body.now =
    ap (λ xs. slice_get xs c.in-Ok-Policy.number) (sym c.deref.ensures.value)
    ∙ slice_get-get_or c.deref.result.now c.in-Ok-Policy.number c.in-Some.body.now c.in-Some.ensures.lookup.3.0 ∙ ap Some (sym c.in-Some.ensures.lookup.1) in
    named-some c.args.self.now c.args.name c.in-Ok-Policy.number c.in-Some.body.now lets (search rules) at are

pub returns-in-None : goal.returns-in-None
returns-in-None c = λ lets are.
    let at : slice_get c.args.self.now.lets.items c.in-Ok-Policy.number ≡ None =
    ap (λ xs. slice_get xs c.in-Ok-Policy.number) (sym c.deref.ensures.value) ∙ slice_get_past c.deref.result.now c.in-Ok-Policy.number c.in-None.ensures.lookup.3 in
    sym (ap is_filter_or_fault (named-none c.args.self.now c.args.name c.in-Ok-Policy.number lets (search rules) at are))
