use Rattle.std.proofs.Common.{[], ◌∙◌, refl, ap, sym}
use Rattle.snap_parse.specs.Kinds.{Kind, Sign}
use Rattle.snap_parse.specs.Tree.{test_tree, set_tree, single_tree}
use Rattle.snap_parse.specs.Machine.{at_value, close_place, end_of_value, past_single, front, placed, after_name, run}
use Rattle.snap_parse.specs.declared.cursor.TheConstants.{MAX_DEPTH}
use Rattle.snap_parse.proofs.Steps.{refuses, exits, comes_on}
use Rattle.snap_parse.proofs.Parts.{led, after_name-alone}
use Rattle.snap_parse.proofs.Trees.{single_tree-Name, single_tree-Test, single_tree-Set}
use Rattle.snap_parse.proofs.cursor.Parser.named.Goals as goal

pub returns-in_err-value-clause-reads : goal.returns-in_err-value-clause-reads
returns-in_err-value-clause-reads c = λ k fits. let end = c.args.self.now.end in
    exits MAX_DEPTH end (λ s. past_single (single_tree s) k) c.from_residual.result _ (after_name c.args.name k (front c.args.tokens.now)) c.args.tokens.now c.from_residual.ensures.1
    (refuses MAX_DEPTH end _ _ _ (led MAX_DEPTH end (after_name c.args.name k) (at_value (end_of_value (test_tree c.args.name) k)) (Kind.Sign Sign.Equals) c.args.tokens.now c.in-Some.rest.now c.in-Some.field-0-0 c.in-Some.ensures (λ from to. refl) fits)
    (c.in_err-value.ensures.reads (end_of_value (test_tree c.args.name) k) fits))

pub returns-in_ok-value-clause-reads : goal.returns-in_ok-value-clause-reads
returns-in_ok-value-clause-reads c = λ k fits. let end = c.args.self.now.end in let o = c.in_ok-value in
    led MAX_DEPTH end (after_name c.args.name k) (at_value (end_of_value (test_tree c.args.name) k)) (Kind.Sign Sign.Equals) c.args.tokens.now c.in-Some.rest.now c.in-Some.field-0-0 c.in-Some.ensures (λ from to. refl) fits
    ∙ (o.ensures.reads (end_of_value (test_tree c.args.name) k) fits
    ∙ ap (λ x. run MAX_DEPTH end (past_single x k) o.rest.now) (sym (single_tree-Test c.args.name o.value)))

pub returns-in_err-value-2-clause-reads : goal.returns-in_err-value-2-clause-reads
returns-in_err-value-2-clause-reads c = λ k fits. let end = c.args.self.now.end in
    exits MAX_DEPTH end (λ s. past_single (single_tree s) k) c.from_residual-in_err-value-2.result _ (after_name c.args.name k (front c.args.tokens.now)) c.args.tokens.now c.from_residual-in_err-value-2.ensures.1
    (refuses MAX_DEPTH end _ _ _ (led MAX_DEPTH end (after_name c.args.name k) (at_value (end_of_value (set_tree c.args.name) k)) (Kind.Sign Sign.Arrow) c.args.tokens.now c.in-Some-next_if.rest.now c.in-Some-next_if.field-0-0 c.in-Some-next_if.ensures (λ from to. refl) fits)
    (c.in_err-value-2.ensures.reads (end_of_value (set_tree c.args.name) k) fits))

pub returns-in_ok-value-2-clause-reads : goal.returns-in_ok-value-2-clause-reads
returns-in_ok-value-2-clause-reads c = λ k fits. let end = c.args.self.now.end in let o = c.in_ok-value-2 in
    led MAX_DEPTH end (after_name c.args.name k) (at_value (end_of_value (set_tree c.args.name) k)) (Kind.Sign Sign.Arrow) c.args.tokens.now c.in-Some-next_if.rest.now c.in-Some-next_if.field-0-0 c.in-Some-next_if.ensures (λ from to. refl) fits
    ∙ (o.ensures.reads (end_of_value (set_tree c.args.name) k) fits
    ∙ ap (λ x. run MAX_DEPTH end (past_single x k) o.rest.now) (sym (single_tree-Set c.args.name o.value)))

pub returns-in_err-places-clause-reads : goal.returns-in_err-places-clause-reads
returns-in_err-places-clause-reads c = λ k fits. let end = c.args.self.now.end in
    exits MAX_DEPTH end (λ s. past_single (single_tree s) k) c.from_residual-in_err-places.result _ (after_name c.args.name k (front c.args.tokens.now)) c.args.tokens.now c.from_residual-in_err-places.ensures.1
    (refuses MAX_DEPTH end _ _ _ (led MAX_DEPTH end (after_name c.args.name k) (at_value (close_place c.args.name [] k)) (Kind.Sign Sign.OpenSquare) c.args.tokens.now c.in-Some-next_if-2.rest.now c.in-Some-next_if-2.field-0-0 c.in-Some-next_if-2.ensures (λ from to. refl) fits)
    (c.in_err-places.ensures.reads c.args.name k fits))

pub returns-in_ok-places-clause-reads : goal.returns-in_ok-places-clause-reads
returns-in_ok-places-clause-reads c = λ k fits. let end = c.args.self.now.end in let o = c.in_ok-places in
    comes_on MAX_DEPTH end (λ s. past_single (single_tree s) k) c.placed.result (after_name c.args.name k (front c.args.tokens.now)) (placed c.args.name o.places.items k (front o.rest.now)) c.args.tokens.now o.rest.now
    (led MAX_DEPTH end (after_name c.args.name k) (at_value (close_place c.args.name [] k)) (Kind.Sign Sign.OpenSquare) c.args.tokens.now c.in-Some-next_if-2.rest.now c.in-Some-next_if-2.field-0-0 c.in-Some-next_if-2.ensures (λ from to. refl) fits
    ∙ o.ensures.reads c.args.name k fits)
    (c.placed.ensures.reads k fits)

pub returns-in_default-next_if-2-clause-reads : goal.returns-in_default-next_if-2-clause-reads
returns-in_default-next_if-2-clause-reads c = λ k fits. let end = c.args.self.now.end in
    after_name-alone MAX_DEPTH end c.args.name k c.args.tokens.now c.in_default.ensures c.in_default-next_if.ensures c.in_default-next_if-2.ensures
    ∙ ap (λ x. run MAX_DEPTH end (past_single x k) c.args.tokens.now) (sym (single_tree-Name c.args.name))
