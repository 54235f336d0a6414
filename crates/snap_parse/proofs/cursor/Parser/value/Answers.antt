use Rattle.std.proofs.Common.{◌∙◌, ap, sym, arith, length}
use Rattle.snap_parse.specs.Kinds.{Kind}
use Rattle.snap_parse.specs.Tree.{Value, span_of}
use Rattle.snap_parse.specs.Machine.{at_value, past_address, past_value, front, after_address, begin_value, step, run}
use Rattle.snap_parse.specs.declared.cursor.TheConstants.{MAX_DEPTH}
use Rattle.snap_parse.proofs.Steps.{goes, begins, refuses_end, exits, comes_on}
use Rattle.snap_parse.proofs.Parts.{refuses_value, reads_literal}
use Rattle.snap_parse.proofs.cursor.Parser.value.Goals as goal

pub returns-in_err-token-clause-reads : goal.returns-in_err-token-clause-reads
returns-in_err-token-clause-reads c = λ k fits. let end = c.args.self.now.end in
    exits MAX_DEPTH end (λ v. past_value v k) c.from_residual.result _ (step (at_value k) (front c.args.tokens.now)) c.args.tokens.now c.from_residual.ensures.1
    (refuses_end MAX_DEPTH end (λ t. begin_value k t t.kind) c.args.tokens.now _ c.in_err-token.ensures)

pub returns-in_err-literal-in_default-clause-reads : goal.returns-in_err-literal-in_default-clause-reads
returns-in_err-literal-in_default-clause-reads c = λ k fits. let end = c.args.self.now.end in
    exits MAX_DEPTH end (λ v. past_value v k) c.from_residual-in_err-literal-in_default.result _ (step (at_value k) (front c.args.tokens.now)) c.args.tokens.now c.from_residual-in_err-literal-in_default.ensures.1
    (refuses_value MAX_DEPTH end k c.args.tokens.now c.in_ok-token.rest.now c.in_ok-token.token _ c.in_ok-token.ensures c.in_default.not-Word c.in_err-literal-in_default.ensures)

pub returns-in-Word-clause-reads : goal.returns-in-Word-clause-reads
returns-in-Word-clause-reads c = λ k fits. let end = c.args.self.now.end in let t = c.in_ok-token.token in
    begins MAX_DEPTH end (begin_value k) c.args.tokens.now c.in_ok-token.rest.now c.in_ok-token.token Kind.Word c.in_ok-token.ensures c.in-Word.is
    ∙ (goes MAX_DEPTH end (past_value (Value.Name (span_of t)) k) t c.in_ok-token.rest.now fits
    ∙ ap (λ x. run MAX_DEPTH end (past_value (Value.Name x) k) c.in_ok-token.rest.now) (sym c.span.ensures))

pub returns-in-Address-clause-reads : goal.returns-in-Address-clause-reads
returns-in-Address-clause-reads c = λ k fits. let end = c.args.self.now.end in let t = c.in_ok-token.token in
    comes_on MAX_DEPTH end (λ v. past_value v k) c.behind_address.result (step (at_value k) (front c.args.tokens.now)) (after_address c.span-in-Address.result k (front c.in_ok-token.rest.now)) c.args.tokens.now c.in_ok-token.rest.now
    (begins MAX_DEPTH end (begin_value k) c.args.tokens.now c.in_ok-token.rest.now c.in_ok-token.token Kind.Address c.in_ok-token.ensures c.in-Address.is
    ∙ (goes MAX_DEPTH end (past_address (span_of t) k) t c.in_ok-token.rest.now fits
    ∙ ap (λ x. run MAX_DEPTH end (past_address x k) c.in_ok-token.rest.now) (sym c.span-in-Address.ensures)))
    (c.behind_address.ensures.reads k fits)

pub returns-in_ok-literal-in_default-clause-shortens : goal.returns-in_ok-literal-in_default-clause-shortens
returns-in_ok-literal-in_default-clause-shortens c = omega (arith, ap (λ x. length x) c.in_ok-literal-in_default.ensures.1)

pub returns-in_ok-literal-in_default-clause-reads : goal.returns-in_ok-literal-in_default-clause-reads
returns-in_ok-literal-in_default-clause-reads c = λ k fits. let end = c.args.self.now.end in let o = c.in_ok-literal-in_default in
    reads_literal MAX_DEPTH end k c.args.tokens.now c.in_ok-token.rest.now c.in_ok-token.token o.literal o.rest.now c.in_ok-token.ensures c.in_default.not-Address o.ensures fits
