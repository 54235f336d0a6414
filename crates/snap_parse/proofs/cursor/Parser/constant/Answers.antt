use Rattle.std.proofs.Common.{[], ◌∷◌, ◌++◌, ◌∙◌, ap, sym, arith}
use Rattle.snap_parse.specs.Kinds.{Kind, Sign}
use Rattle.snap_parse.specs.Tree.{const_tree, span_of, decl_tree}
use Rattle.snap_parse.specs.Machine.{wants, at_decl, at_constant, front, in_constant, step, run}
use Rattle.snap_parse.specs.declared.cursor.TheConstants.{MAX_DEPTH}
use Rattle.snap_parse.proofs.Steps.{wanted, refuses, refuses_wanted, exits}
use Rattle.snap_parse.proofs.Parts.{reads_constant, refuses_constant}
use Rattle.snap_parse.proofs.cursor.Parser.constant.Goals as goal

pub returns-in_err-word-clause-reads : goal.returns-in_err-word-clause-reads
returns-in_err-word-clause-reads c = λ ds. let end = c.args.self.now.end in
    exits MAX_DEPTH end (λ x. at_decl (ds ++ decl_tree x ∷ [])) c.from_residual.result _ (step (in_constant ds c.args.at) (front c.args.tokens.now)) c.args.tokens.now c.from_residual.ensures.1
    (refuses_wanted MAX_DEPTH end Kind.Word (λ n. wants (Kind.Sign Sign.Equals) (λ e. at_constant ds c.args.at (span_of n))) c.args.tokens.now _ c.in_err-word.ensures)

pub returns-in_err-rest-clause-reads : goal.returns-in_err-rest-clause-reads
returns-in_err-rest-clause-reads c = λ ds. let end = c.args.self.now.end in
    exits MAX_DEPTH end (λ x. at_decl (ds ++ decl_tree x ∷ [])) c.from_residual-in_err-rest.result _ (step (in_constant ds c.args.at) (front c.args.tokens.now)) c.args.tokens.now c.from_residual-in_err-rest.ensures.1
    (refuses MAX_DEPTH end _ _ _ (wanted MAX_DEPTH end Kind.Word (λ n. wants (Kind.Sign Sign.Equals) (λ e. at_constant ds c.args.at (span_of n))) c.args.tokens.now c.in_ok-word.rest.now c.in_ok-word.word c.in_ok-word.ensures (omega arith)) (refuses_wanted MAX_DEPTH end (Kind.Sign Sign.Equals) (λ e. at_constant ds c.args.at (span_of c.in_ok-word.word)) c.in_ok-word.rest.now _ c.in_err-rest.ensures))

pub returns-in_err-value-clause-reads : goal.returns-in_err-value-clause-reads
returns-in_err-value-clause-reads c = λ ds. let end = c.args.self.now.end in
    exits MAX_DEPTH end (λ x. at_decl (ds ++ decl_tree x ∷ [])) c.from_residual-in_err-value.result _ (step (in_constant ds c.args.at) (front c.args.tokens.now)) c.args.tokens.now c.from_residual-in_err-value.ensures.1
    (refuses MAX_DEPTH end _ _ _ (wanted MAX_DEPTH end Kind.Word (λ n. wants (Kind.Sign Sign.Equals) (λ e. at_constant ds c.args.at (span_of n))) c.args.tokens.now c.in_ok-word.rest.now c.in_ok-word.word c.in_ok-word.ensures (omega arith)
    ∙ wanted MAX_DEPTH end (Kind.Sign Sign.Equals) (λ e. at_constant ds c.args.at (span_of c.in_ok-word.word)) c.in_ok-word.rest.now c.in_ok-rest.rest.now _ c.in_ok-rest.ensures (omega arith)) (refuses_constant MAX_DEPTH end ds c.args.at (span_of c.in_ok-word.word) c.in_ok-rest.rest.now _ c.in_err-value.ensures))

pub returns-in_err-rest-2-clause-reads : goal.returns-in_err-rest-2-clause-reads
returns-in_err-rest-2-clause-reads c = λ ds. let end = c.args.self.now.end in
    exits MAX_DEPTH end (λ x. at_decl (ds ++ decl_tree x ∷ [])) c.from_residual-in_err-rest-2.result _ (step (in_constant ds c.args.at) (front c.args.tokens.now)) c.args.tokens.now c.from_residual-in_err-rest-2.ensures.1
    (refuses MAX_DEPTH end _ _ _ ((wanted MAX_DEPTH end Kind.Word (λ n. wants (Kind.Sign Sign.Equals) (λ e. at_constant ds c.args.at (span_of n))) c.args.tokens.now c.in_ok-word.rest.now c.in_ok-word.word c.in_ok-word.ensures (omega arith)
    ∙ wanted MAX_DEPTH end (Kind.Sign Sign.Equals) (λ e. at_constant ds c.args.at (span_of c.in_ok-word.word)) c.in_ok-word.rest.now c.in_ok-rest.rest.now _ c.in_ok-rest.ensures (omega arith))
    ∙ reads_constant MAX_DEPTH end ds c.args.at (span_of c.in_ok-word.word) c.in_ok-rest.rest.now c.in_ok-value.rest.now c.in_ok-value.value c.in_ok-value.ensures) (refuses_wanted MAX_DEPTH end (Kind.Sign Sign.Semicolon) (λ e. at_decl (ds ++ const_tree c.args.at (span_of c.in_ok-word.word) c.in_ok-value.value ∷ [])) c.in_ok-value.rest.now _ c.in_err-rest-2.ensures))

pub returns-clause-reads : goal.returns-clause-reads
returns-clause-reads c = λ ds. let end = c.args.self.now.end in
    ((wanted MAX_DEPTH end Kind.Word (λ n. wants (Kind.Sign Sign.Equals) (λ e. at_constant ds c.args.at (span_of n))) c.args.tokens.now c.in_ok-word.rest.now c.in_ok-word.word c.in_ok-word.ensures (omega arith)
    ∙ wanted MAX_DEPTH end (Kind.Sign Sign.Equals) (λ e. at_constant ds c.args.at (span_of c.in_ok-word.word)) c.in_ok-word.rest.now c.in_ok-rest.rest.now _ c.in_ok-rest.ensures (omega arith))
    ∙ reads_constant MAX_DEPTH end ds c.args.at (span_of c.in_ok-word.word) c.in_ok-rest.rest.now c.in_ok-value.rest.now c.in_ok-value.value c.in_ok-value.ensures)
    ∙ (wanted MAX_DEPTH end (Kind.Sign Sign.Semicolon) (λ e. at_decl (ds ++ const_tree c.args.at (span_of c.in_ok-word.word) c.in_ok-value.value ∷ [])) c.in_ok-value.rest.now c.in_ok-rest-2.rest.now _ c.in_ok-rest-2.ensures (omega arith)
    ∙ ap (λ x. run MAX_DEPTH end (at_decl (ds ++ const_tree c.args.at x c.in_ok-value.value ∷ [])) c.in_ok-rest-2.rest.now) (sym c.span-name.ensures))
