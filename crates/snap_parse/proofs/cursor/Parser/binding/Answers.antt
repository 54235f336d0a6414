use Rattle.std.proofs.Common.{[], ◌∷◌, ◌++◌, ◌∙◌, ap, refl, sym, arith}
use Rattle.snap_parse.specs.Kinds.{Kind, Sign}
use Rattle.snap_parse.specs.Tree.{let_tree, span_of, policy_tree, decl_tree}
use Rattle.snap_parse.specs.Machine.{close_let, at_open, at_decl, at_policy, stuck, front, in_let, step, run}
use Rattle.snap_parse.specs.declared.cursor.TheConstants.{MAX_DEPTH}
use Rattle.snap_parse.proofs.Steps.{takes, wanted, refuses, refuses_kind, refuses_wanted, exits}
use Rattle.snap_parse.proofs.cursor.Parser.binding.Goals as goal

pub returns-in_err-word-clause-reads : goal.returns-in_err-word-clause-reads
returns-in_err-word-clause-reads c = λ ds. let end = c.args.self.now.end in
    exits MAX_DEPTH end (λ x. at_decl (ds ++ decl_tree x ∷ [])) c.from_residual.result _ (step (in_let ds c.args.at) (front c.args.tokens.now)) c.args.tokens.now c.from_residual.ensures.1
    (refuses_wanted MAX_DEPTH end Kind.Word (λ n. at_open (Kind.Sign Sign.OpenCurly) (close_let ds c.args.at (span_of n))) c.args.tokens.now _ c.in_err-word.ensures)

pub returns-in_err-open-clause-reads : goal.returns-in_err-open-clause-reads
returns-in_err-open-clause-reads c = λ ds. let end = c.args.self.now.end in
    exits MAX_DEPTH end (λ x. at_decl (ds ++ decl_tree x ∷ [])) c.from_residual-in_err-open.result _ (step (in_let ds c.args.at) (front c.args.tokens.now)) c.args.tokens.now c.from_residual-in_err-open.ensures.1
    (refuses MAX_DEPTH end _ _ _ (wanted MAX_DEPTH end Kind.Word (λ n. at_open (Kind.Sign Sign.OpenCurly) (close_let ds c.args.at (span_of n))) c.args.tokens.now c.in_ok-word.rest.now c.in_ok-word.word c.in_ok-word.ensures (omega arith)) (refuses_kind MAX_DEPTH end (Kind.Sign Sign.OpenCurly) (at_policy (close_let ds c.args.at (span_of c.in_ok-word.word))) c.in_ok-word.rest.now _ c.in_err-open.ensures))

pub returns-in_err-body-clause-reads : goal.returns-in_err-body-clause-reads
returns-in_err-body-clause-reads c = λ ds. let end = c.args.self.now.end in
    exits MAX_DEPTH end (λ x. at_decl (ds ++ decl_tree x ∷ [])) c.from_residual-in_err-body.result _ (step (in_let ds c.args.at) (front c.args.tokens.now)) c.args.tokens.now c.from_residual-in_err-body.ensures.1
    (refuses MAX_DEPTH end _ _ _ (wanted MAX_DEPTH end Kind.Word (λ n. at_open (Kind.Sign Sign.OpenCurly) (close_let ds c.args.at (span_of n))) c.args.tokens.now c.in_ok-word.rest.now c.in_ok-word.word c.in_ok-word.ensures (omega arith)
    ∙ takes MAX_DEPTH end (Kind.Sign Sign.OpenCurly) (at_policy (close_let ds c.args.at (span_of c.in_ok-word.word))) stuck c.in_ok-word.rest.now c.in_ok-open.rest.now c.in_ok-open.open c.in_ok-open.ensures) (c.in_err-body.ensures.reads (close_let ds c.args.at (span_of c.in_ok-word.word)) (λ x. at_decl (ds ++ let_tree c.args.at (span_of c.in_ok-word.word) x ∷ [])) c.in_ok-open.open (omega arith) refl (λ x ts. refl) (λ x. omega arith)))

pub returns-clause-reads : goal.returns-clause-reads
returns-clause-reads c = λ ds. let end = c.args.self.now.end in
    (wanted MAX_DEPTH end Kind.Word (λ n. at_open (Kind.Sign Sign.OpenCurly) (close_let ds c.args.at (span_of n))) c.args.tokens.now c.in_ok-word.rest.now c.in_ok-word.word c.in_ok-word.ensures (omega arith)
    ∙ takes MAX_DEPTH end (Kind.Sign Sign.OpenCurly) (at_policy (close_let ds c.args.at (span_of c.in_ok-word.word))) stuck c.in_ok-word.rest.now c.in_ok-open.rest.now c.in_ok-open.open c.in_ok-open.ensures)
    ∙ (c.in_ok-body.ensures.reads (close_let ds c.args.at (span_of c.in_ok-word.word)) (λ x. at_decl (ds ++ let_tree c.args.at (span_of c.in_ok-word.word) x ∷ [])) c.in_ok-open.open (omega arith) refl (λ x ts. refl) (λ x. omega arith)
    ∙ ap (λ x. run MAX_DEPTH end (at_decl (ds ++ let_tree c.args.at x (policy_tree c.in_ok-body.body) ∷ [])) c.in_ok-body.rest.now) (sym c.span-name.ensures))
