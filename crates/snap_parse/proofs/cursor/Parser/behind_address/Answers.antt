use Rattle.std.proofs.Common.{◌∙◌, ap, sym}
use Rattle.snap_parse.specs.Kinds.{Kind, Sign}
use Rattle.snap_parse.specs.Tree.{Literal, Value, span_of}
use Rattle.snap_parse.specs.Machine.{wants, past_value, front, after_value, after_address, run}
use Rattle.snap_parse.specs.declared.cursor.TheConstants.{MAX_DEPTH}
use Rattle.snap_parse.proofs.Steps.{met, wanted, refuses, refuses_wanted, exits}
use Rattle.snap_parse.proofs.cursor.Parser.behind_address.Goals as goal

pub returns-in_err-token-in-Some-clause-reads : goal.returns-in_err-token-in-Some-clause-reads
returns-in_err-token-in-Some-clause-reads c = λ k fits. let end = c.args.self.now.end in
    exits MAX_DEPTH end (λ v. past_value v k) c.from_residual.result _ (after_address c.args.address k (front c.args.tokens.now)) c.args.tokens.now c.from_residual.ensures.1
    (refuses MAX_DEPTH end _ _ _ (met MAX_DEPTH end (Kind.Sign Sign.Slash) (wants Kind.Number (λ n. past_value (Value.Prefix c.args.address (span_of n)) k)) (after_value k (Value.Literal (Literal.Address c.args.address)) (front c.args.tokens.now)) c.args.tokens.now c.in-Some.rest.now _ c.in-Some.ensures fits)
    (refuses_wanted MAX_DEPTH end Kind.Number (λ n. past_value (Value.Prefix c.args.address (span_of n)) k) c.in-Some.rest.now _ c.in_err-token-in-Some.ensures))

pub returns-in_ok-token-in-Some-clause-reads : goal.returns-in_ok-token-in-Some-clause-reads
returns-in_ok-token-in-Some-clause-reads c = λ k fits. let end = c.args.self.now.end in let o = c.in_ok-token-in-Some in
    met MAX_DEPTH end (Kind.Sign Sign.Slash) (wants Kind.Number (λ n. past_value (Value.Prefix c.args.address (span_of n)) k)) (after_value k (Value.Literal (Literal.Address c.args.address)) (front c.args.tokens.now)) c.args.tokens.now c.in-Some.rest.now _ c.in-Some.ensures fits
    ∙ (wanted MAX_DEPTH end Kind.Number (λ n. past_value (Value.Prefix c.args.address (span_of n)) k) c.in-Some.rest.now o.rest.now o.token o.ensures fits
    ∙ ap (λ x. run MAX_DEPTH end (past_value (Value.Prefix c.args.address x) k) o.rest.now) (sym c.span-length.ensures))
