use Rattle.std.proofs.Common.{◌∙◌, refl, ap, sym}
use Rattle.snap_parse.specs.Kinds.{Kind, Sign}
use Rattle.snap_parse.specs.Tree.{array_test_tree, array_set_tree, array_add_tree, array_sub_tree, up_tree, down_tree, single_tree}
use Rattle.snap_parse.specs.Machine.{at_value, end_of_value, past_single, front, placed, run}
use Rattle.snap_parse.specs.declared.cursor.TheConstants.{MAX_DEPTH}
use Rattle.snap_parse.proofs.Steps.{refuses, exits}
use Rattle.snap_parse.proofs.Parts.{led, placed-alone}
use Rattle.snap_parse.proofs.Trees.{single_tree-Bare, single_tree-Up, single_tree-Down, single_tree-ArrayTest, single_tree-ArraySet, single_tree-ArrayAdd, single_tree-ArraySub}
use Rattle.snap_parse.proofs.cursor.Parser.placed.Goals as goal

pub returns-in_err-value-clause-reads : goal.returns-in_err-value-clause-reads
returns-in_err-value-clause-reads c = λ k fits. let end = c.args.self.now.end in
    exits MAX_DEPTH end (λ s. past_single (single_tree s) k) c.from_residual.result _ (placed c.args.name c.args.places.items k (front c.args.tokens.now)) c.args.tokens.now c.from_residual.ensures.1
    (refuses MAX_DEPTH end _ _ _ (led MAX_DEPTH end (placed c.args.name c.args.places.items k) (at_value (end_of_value (array_test_tree c.args.name c.args.places.items) k)) (Kind.Sign Sign.Equals) c.args.tokens.now c.in-Some.rest.now c.in-Some.field-0-0 c.in-Some.ensures (λ from to. refl) fits)
    (c.in_err-value.ensures.reads (end_of_value (array_test_tree c.args.name c.args.places.items) k) fits))

pub returns-in_ok-value-clause-reads : goal.returns-in_ok-value-clause-reads
returns-in_ok-value-clause-reads c = λ k fits. let end = c.args.self.now.end in let o = c.in_ok-value in
    led MAX_DEPTH end (placed c.args.name c.args.places.items k) (at_value (end_of_value (array_test_tree c.args.name c.args.places.items) k)) (Kind.Sign Sign.Equals) c.args.tokens.now c.in-Some.rest.now c.in-Some.field-0-0 c.in-Some.ensures (λ from to. refl) fits
    ∙ (o.ensures.reads (end_of_value (array_test_tree c.args.name c.args.places.items) k) fits
    ∙ ap (λ x. run MAX_DEPTH end (past_single x k) o.rest.now) (sym (single_tree-ArrayTest c.args.name c.args.places o.value)))

pub returns-in_err-value-2-clause-reads : goal.returns-in_err-value-2-clause-reads
returns-in_err-value-2-clause-reads c = λ k fits. let end = c.args.self.now.end in
    exits MAX_DEPTH end (λ s. past_single (single_tree s) k) c.from_residual-in_err-value-2.result _ (placed c.args.name c.args.places.items k (front c.args.tokens.now)) c.args.tokens.now c.from_residual-in_err-value-2.ensures.1
    (refuses MAX_DEPTH end _ _ _ (led MAX_DEPTH end (placed c.args.name c.args.places.items k) (at_value (end_of_value (array_set_tree c.args.name c.args.places.items) k)) (Kind.Sign Sign.Arrow) c.args.tokens.now c.in-Some-next_if.rest.now c.in-Some-next_if.field-0-0 c.in-Some-next_if.ensures (λ from to. refl) fits)
    (c.in_err-value-2.ensures.reads (end_of_value (array_set_tree c.args.name c.args.places.items) k) fits))

pub returns-in_ok-value-2-clause-reads : goal.returns-in_ok-value-2-clause-reads
returns-in_ok-value-2-clause-reads c = λ k fits. let end = c.args.self.now.end in let o = c.in_ok-value-2 in
    led MAX_DEPTH end (placed c.args.name c.args.places.items k) (at_value (end_of_value (array_set_tree c.args.name c.args.places.items) k)) (Kind.Sign Sign.Arrow) c.args.tokens.now c.in-Some-next_if.rest.now c.in-Some-next_if.field-0-0 c.in-Some-next_if.ensures (λ from to. refl) fits
    ∙ (o.ensures.reads (end_of_value (array_set_tree c.args.name c.args.places.items) k) fits
    ∙ ap (λ x. run MAX_DEPTH end (past_single x k) o.rest.now) (sym (single_tree-ArraySet c.args.name c.args.places o.value)))

pub returns-in-Some-next_if-2-clause-reads : goal.returns-in-Some-next_if-2-clause-reads
returns-in-Some-next_if-2-clause-reads c = λ k fits. let end = c.args.self.now.end in
    led MAX_DEPTH end (placed c.args.name c.args.places.items k) (past_single (up_tree c.args.name c.args.places.items) k) (Kind.Sign Sign.PlusPlus) c.args.tokens.now c.in-Some-next_if-2.rest.now c.in-Some-next_if-2.field-0-0 c.in-Some-next_if-2.ensures (λ from to. refl) fits
    ∙ ap (λ x. run MAX_DEPTH end (past_single x k) c.in-Some-next_if-2.rest.now) (sym (single_tree-Up c.args.name c.args.places))

pub returns-in-Some-next_if-3-clause-reads : goal.returns-in-Some-next_if-3-clause-reads
returns-in-Some-next_if-3-clause-reads c = λ k fits. let end = c.args.self.now.end in
    led MAX_DEPTH end (placed c.args.name c.args.places.items k) (past_single (down_tree c.args.name c.args.places.items) k) (Kind.Sign Sign.MinusMinus) c.args.tokens.now c.in-Some-next_if-3.rest.now c.in-Some-next_if-3.field-0-0 c.in-Some-next_if-3.ensures (λ from to. refl) fits
    ∙ ap (λ x. run MAX_DEPTH end (past_single x k) c.in-Some-next_if-3.rest.now) (sym (single_tree-Down c.args.name c.args.places))

pub returns-in_err-value-3-clause-reads : goal.returns-in_err-value-3-clause-reads
returns-in_err-value-3-clause-reads c = λ k fits. let end = c.args.self.now.end in
    exits MAX_DEPTH end (λ s. past_single (single_tree s) k) c.from_residual-in_err-value-3.result _ (placed c.args.name c.args.places.items k (front c.args.tokens.now)) c.args.tokens.now c.from_residual-in_err-value-3.ensures.1
    (refuses MAX_DEPTH end _ _ _ (led MAX_DEPTH end (placed c.args.name c.args.places.items k) (at_value (end_of_value (array_add_tree c.args.name c.args.places.items) k)) (Kind.Sign Sign.PlusEquals) c.args.tokens.now c.in-Some-next_if-4.rest.now c.in-Some-next_if-4.field-0-0 c.in-Some-next_if-4.ensures (λ from to. refl) fits)
    (c.in_err-value-3.ensures.reads (end_of_value (array_add_tree c.args.name c.args.places.items) k) fits))

pub returns-in_ok-value-3-clause-reads : goal.returns-in_ok-value-3-clause-reads
returns-in_ok-value-3-clause-reads c = λ k fits. let end = c.args.self.now.end in let o = c.in_ok-value-3 in
    led MAX_DEPTH end (placed c.args.name c.args.places.items k) (at_value (end_of_value (array_add_tree c.args.name c.args.places.items) k)) (Kind.Sign Sign.PlusEquals) c.args.tokens.now c.in-Some-next_if-4.rest.now c.in-Some-next_if-4.field-0-0 c.in-Some-next_if-4.ensures (λ from to. refl) fits
    ∙ (o.ensures.reads (end_of_value (array_add_tree c.args.name c.args.places.items) k) fits
    ∙ ap (λ x. run MAX_DEPTH end (past_single x k) o.rest.now) (sym (single_tree-ArrayAdd c.args.name c.args.places o.value)))

pub returns-in_err-value-4-clause-reads : goal.returns-in_err-value-4-clause-reads
returns-in_err-value-4-clause-reads c = λ k fits. let end = c.args.self.now.end in
    exits MAX_DEPTH end (λ s. past_single (single_tree s) k) c.from_residual-in_err-value-4.result _ (placed c.args.name c.args.places.items k (front c.args.tokens.now)) c.args.tokens.now c.from_residual-in_err-value-4.ensures.1
    (refuses MAX_DEPTH end _ _ _ (led MAX_DEPTH end (placed c.args.name c.args.places.items k) (at_value (end_of_value (array_sub_tree c.args.name c.args.places.items) k)) (Kind.Sign Sign.MinusEquals) c.args.tokens.now c.in-Some-next_if-5.rest.now c.in-Some-next_if-5.field-0-0 c.in-Some-next_if-5.ensures (λ from to. refl) fits)
    (c.in_err-value-4.ensures.reads (end_of_value (array_sub_tree c.args.name c.args.places.items) k) fits))

pub returns-in_ok-value-4-clause-reads : goal.returns-in_ok-value-4-clause-reads
returns-in_ok-value-4-clause-reads c = λ k fits. let end = c.args.self.now.end in let o = c.in_ok-value-4 in
    led MAX_DEPTH end (placed c.args.name c.args.places.items k) (at_value (end_of_value (array_sub_tree c.args.name c.args.places.items) k)) (Kind.Sign Sign.MinusEquals) c.args.tokens.now c.in-Some-next_if-5.rest.now c.in-Some-next_if-5.field-0-0 c.in-Some-next_if-5.ensures (λ from to. refl) fits
    ∙ (o.ensures.reads (end_of_value (array_sub_tree c.args.name c.args.places.items) k) fits
    ∙ ap (λ x. run MAX_DEPTH end (past_single x k) o.rest.now) (sym (single_tree-ArraySub c.args.name c.args.places o.value)))

pub returns-in_default-next_if-5-clause-reads : goal.returns-in_default-next_if-5-clause-reads
returns-in_default-next_if-5-clause-reads c = λ k fits. let end = c.args.self.now.end in
    placed-alone MAX_DEPTH end c.args.name c.args.places.items k c.args.tokens.now c.in_default.ensures c.in_default-next_if.ensures c.in_default-next_if-2.ensures c.in_default-next_if-3.ensures c.in_default-next_if-4.ensures c.in_default-next_if-5.ensures
    ∙ ap (λ x. run MAX_DEPTH end (past_single x k) c.args.tokens.now) (sym (single_tree-Bare c.args.name c.args.places))
