use Rattle.std.proofs.Common.{◌≡◌, ◌∙◌, sym, ap, Ok, subst, IfOk}
use Rattle.snap_names.specs.Senses.{Split, after, sense_of, field_equals, split_test, test_of_sense}
use Rattle.snap_names.specs.Core.{core_test}
use Rattle.snap_names.specs.Parts.{words_of, Refuses}
use Rattle.snap_names.proofs.scope.Scope.field_equals.Goals as goal

pub returns-in-Split-clause-ok : goal.returns-in-Split-clause-ok
returns-in-Split-clause-ok c =
    let e = words_of c.args.self.now in
    let found : sense_of e c.args.name ≡ Ok (Split c.in-Split.net c.in-Split.host c.in-Split.prefix) = sym c.sense.ensures ∙ c.in_ok-comp.was ∙ ap Ok c.in-Split.is in
    let same : field_equals e c.args.name c.args.value ≡ split_test e c.in-Split.net c.in-Split.host c.in-Split.prefix c.args.value =
    ap (λ s. after s (test_of_sense e c.args.name.from c.args.value)) found in
    subst (λ r. IfOk c.split_test.result (λ x. r ≡ Ok (core_test x))) (sym same) c.split_test.ensures.ok

pub returns-in-Split-clause-err : goal.returns-in-Split-clause-err
returns-in-Split-clause-err c =
    let e = words_of c.args.self.now in
    let found : sense_of e c.args.name ≡ Ok (Split c.in-Split.net c.in-Split.host c.in-Split.prefix) = sym c.sense.ensures ∙ c.in_ok-comp.was ∙ ap Ok c.in-Split.is in
    let same : field_equals e c.args.name c.args.value ≡ split_test e c.in-Split.net c.in-Split.host c.in-Split.prefix c.args.value =
    ap (λ s. after s (test_of_sense e c.args.name.from c.args.value)) found in
    subst (λ r. Refuses r c.split_test.result) (sym same) c.split_test.ensures.err
