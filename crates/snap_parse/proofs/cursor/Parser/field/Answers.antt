use Rattle.std.proofs.Common.{[], ◌∷◌, ◌++◌, Some, None, ◌∙◌, ap, sym, arith}
use Rattle.snap_parse.specs.Kinds.{Kind, Sign}
use Rattle.snap_parse.specs.Tree.{field_tree, span_of, decl_tree}
use Rattle.snap_parse.specs.Machine.{wants, at_decl, past_field, stuck, front, on_next, in_field, step, run}
use Rattle.snap_parse.specs.declared.cursor.TheConstants.{MAX_DEPTH}
use Rattle.snap_parse.proofs.Steps.{met, missed, wanted, refuses, refuses_kind, refuses_wanted, exits}
use Rattle.snap_parse.proofs.cursor.Parser.field.Goals as goal

pub returns-in_err-word-clause-reads : goal.returns-in_err-word-clause-reads
returns-in_err-word-clause-reads c = λ ds. let end = c.args.self.now.end in
    exits MAX_DEPTH end (λ x. at_decl (ds ++ decl_tree x ∷ [])) c.from_residual.result _ (step (in_field ds c.args.at) (front c.args.tokens.now)) c.args.tokens.now c.from_residual.ensures.1
    (refuses_wanted MAX_DEPTH end Kind.Word (λ n. past_field ds c.args.at (span_of n)) c.args.tokens.now _ c.in_err-word.ensures)

pub returns-in_err-length-in-Some-clause-reads : goal.returns-in_err-length-in-Some-clause-reads
returns-in_err-length-in-Some-clause-reads c = λ ds. let end = c.args.self.now.end in
    exits MAX_DEPTH end (λ x. at_decl (ds ++ decl_tree x ∷ [])) c.from_residual-in_err-length-in-Some.result _ (step (in_field ds c.args.at) (front c.args.tokens.now)) c.args.tokens.now c.from_residual-in_err-length-in-Some.ensures.1
    (refuses MAX_DEPTH end _ _ _ (wanted MAX_DEPTH end Kind.Word (λ n. past_field ds c.args.at (span_of n)) c.args.tokens.now c.in_ok-word.rest.now c.in_ok-word.word c.in_ok-word.ensures (omega arith)
    ∙ met MAX_DEPTH end (Kind.Sign Sign.Slash) (wants Kind.Number (λ n. wants (Kind.Sign Sign.Semicolon) (λ e. at_decl (ds ++ field_tree c.args.at (span_of c.in_ok-word.word) (Some (span_of n)) ∷ [])))) (on_next (Kind.Sign Sign.Semicolon) (front c.in_ok-word.rest.now) (at_decl (ds ++ field_tree c.args.at (span_of c.in_ok-word.word) None ∷ [])) stuck) c.in_ok-word.rest.now c.in-Some.rest.now _ c.in-Some.ensures (omega arith)) (refuses_wanted MAX_DEPTH end Kind.Number (λ n. wants (Kind.Sign Sign.Semicolon) (λ e. at_decl (ds ++ field_tree c.args.at (span_of c.in_ok-word.word) (Some (span_of n)) ∷ []))) c.in-Some.rest.now _ c.in_err-length-in-Some.ensures))

pub returns-in_err-rest-in-Some-clause-reads : goal.returns-in_err-rest-in-Some-clause-reads
returns-in_err-rest-in-Some-clause-reads c = λ ds. let end = c.args.self.now.end in
    exits MAX_DEPTH end (λ x. at_decl (ds ++ decl_tree x ∷ [])) c.from_residual-in_err-rest-in-Some.result _ (step (in_field ds c.args.at) (front c.args.tokens.now)) c.args.tokens.now c.from_residual-in_err-rest-in-Some.ensures.1
    (refuses MAX_DEPTH end _ _ _ ((wanted MAX_DEPTH end Kind.Word (λ n. past_field ds c.args.at (span_of n)) c.args.tokens.now c.in_ok-word.rest.now c.in_ok-word.word c.in_ok-word.ensures (omega arith)
    ∙ met MAX_DEPTH end (Kind.Sign Sign.Slash) (wants Kind.Number (λ n. wants (Kind.Sign Sign.Semicolon) (λ e. at_decl (ds ++ field_tree c.args.at (span_of c.in_ok-word.word) (Some (span_of n)) ∷ [])))) (on_next (Kind.Sign Sign.Semicolon) (front c.in_ok-word.rest.now) (at_decl (ds ++ field_tree c.args.at (span_of c.in_ok-word.word) None ∷ [])) stuck) c.in_ok-word.rest.now c.in-Some.rest.now _ c.in-Some.ensures (omega arith))
    ∙ wanted MAX_DEPTH end Kind.Number (λ n. wants (Kind.Sign Sign.Semicolon) (λ e. at_decl (ds ++ field_tree c.args.at (span_of c.in_ok-word.word) (Some (span_of n)) ∷ []))) c.in-Some.rest.now c.in_ok-length-in-Some.rest.now c.in_ok-length-in-Some.length c.in_ok-length-in-Some.ensures (omega arith)) (refuses_wanted MAX_DEPTH end (Kind.Sign Sign.Semicolon) (λ e. at_decl (ds ++ field_tree c.args.at (span_of c.in_ok-word.word) (Some (span_of c.in_ok-length-in-Some.length)) ∷ [])) c.in_ok-length-in-Some.rest.now _ c.in_err-rest-in-Some.ensures))

pub returns-in_err-rest-in-None-clause-reads : goal.returns-in_err-rest-in-None-clause-reads
returns-in_err-rest-in-None-clause-reads c = λ ds. let end = c.args.self.now.end in
    exits MAX_DEPTH end (λ x. at_decl (ds ++ decl_tree x ∷ [])) c.from_residual-in_err-rest-in-None.result _ (step (in_field ds c.args.at) (front c.args.tokens.now)) c.args.tokens.now c.from_residual-in_err-rest-in-None.ensures.1
    (refuses MAX_DEPTH end _ _ _ (wanted MAX_DEPTH end Kind.Word (λ n. past_field ds c.args.at (span_of n)) c.args.tokens.now c.in_ok-word.rest.now c.in_ok-word.word c.in_ok-word.ensures (omega arith)
    ∙ missed MAX_DEPTH end (Kind.Sign Sign.Slash) (wants Kind.Number (λ n. wants (Kind.Sign Sign.Semicolon) (λ e. at_decl (ds ++ field_tree c.args.at (span_of c.in_ok-word.word) (Some (span_of n)) ∷ [])))) (on_next (Kind.Sign Sign.Semicolon) (front c.in_ok-word.rest.now) (at_decl (ds ++ field_tree c.args.at (span_of c.in_ok-word.word) None ∷ [])) stuck) c.in_ok-word.rest.now c.in-None.ensures) (refuses_kind MAX_DEPTH end (Kind.Sign Sign.Semicolon) (at_decl (ds ++ field_tree c.args.at (span_of c.in_ok-word.word) None ∷ [])) c.in_ok-word.rest.now _ c.in_err-rest-in-None.ensures))

pub returns-in_ok-rest-in-Some-clause-reads : goal.returns-in_ok-rest-in-Some-clause-reads
returns-in_ok-rest-in-Some-clause-reads c = λ ds. let end = c.args.self.now.end in let o = c.in_ok-rest-in-Some in
    ((wanted MAX_DEPTH end Kind.Word (λ n. past_field ds c.args.at (span_of n)) c.args.tokens.now c.in_ok-word.rest.now c.in_ok-word.word c.in_ok-word.ensures (omega arith)
    ∙ met MAX_DEPTH end (Kind.Sign Sign.Slash) (wants Kind.Number (λ n. wants (Kind.Sign Sign.Semicolon) (λ e. at_decl (ds ++ field_tree c.args.at (span_of c.in_ok-word.word) (Some (span_of n)) ∷ [])))) (on_next (Kind.Sign Sign.Semicolon) (front c.in_ok-word.rest.now) (at_decl (ds ++ field_tree c.args.at (span_of c.in_ok-word.word) None ∷ [])) stuck) c.in_ok-word.rest.now c.in-Some.rest.now _ c.in-Some.ensures (omega arith))
    ∙ wanted MAX_DEPTH end Kind.Number (λ n. wants (Kind.Sign Sign.Semicolon) (λ e. at_decl (ds ++ field_tree c.args.at (span_of c.in_ok-word.word) (Some (span_of n)) ∷ []))) c.in-Some.rest.now c.in_ok-length-in-Some.rest.now c.in_ok-length-in-Some.length c.in_ok-length-in-Some.ensures (omega arith))
    ∙ (wanted MAX_DEPTH end (Kind.Sign Sign.Semicolon) (λ e. at_decl (ds ++ field_tree c.args.at (span_of c.in_ok-word.word) (Some (span_of c.in_ok-length-in-Some.length)) ∷ [])) c.in_ok-length-in-Some.rest.now o.rest.now _ o.ensures (omega arith)
    ∙ (ap (λ x. run MAX_DEPTH end (at_decl (ds ++ field_tree c.args.at x (Some (span_of c.in_ok-length-in-Some.length)) ∷ [])) o.rest.now) (sym c.span-name.ensures)
    ∙ ap (λ x. run MAX_DEPTH end (at_decl (ds ++ field_tree c.args.at c.span-name.result (Some x) ∷ [])) o.rest.now) (sym c.span.ensures)))

pub returns-in_ok-rest-in-None-clause-reads : goal.returns-in_ok-rest-in-None-clause-reads
returns-in_ok-rest-in-None-clause-reads c = λ ds. let end = c.args.self.now.end in let o = c.in_ok-rest-in-None in
    (wanted MAX_DEPTH end Kind.Word (λ n. past_field ds c.args.at (span_of n)) c.args.tokens.now c.in_ok-word.rest.now c.in_ok-word.word c.in_ok-word.ensures (omega arith)
    ∙ missed MAX_DEPTH end (Kind.Sign Sign.Slash) (wants Kind.Number (λ n. wants (Kind.Sign Sign.Semicolon) (λ e. at_decl (ds ++ field_tree c.args.at (span_of c.in_ok-word.word) (Some (span_of n)) ∷ [])))) (on_next (Kind.Sign Sign.Semicolon) (front c.in_ok-word.rest.now) (at_decl (ds ++ field_tree c.args.at (span_of c.in_ok-word.word) None ∷ [])) stuck) c.in_ok-word.rest.now c.in-None.ensures)
    ∙ (met MAX_DEPTH end (Kind.Sign Sign.Semicolon) (at_decl (ds ++ field_tree c.args.at (span_of c.in_ok-word.word) None ∷ [])) stuck c.in_ok-word.rest.now o.rest.now _ o.ensures (omega arith)
    ∙ ap (λ x. run MAX_DEPTH end (at_decl (ds ++ field_tree c.args.at x None ∷ [])) o.rest.now) (sym c.span-name.ensures))
