use Rattle.std.proofs.Common.{◌+◌, Err, subst, sym, ◌∙◌, arith}
use Rattle.std.proofs.lemmas.Result.{IfErr-weaker, IfOk-weaker, err_from_is_err_and}
use Rattle.snap_tables.specs.Drafts.{IsReadTo}
use Rattle.snap_tables.specs.Lines.{IsRead}
use Rattle.snap_tables.proofs.ReadLemmas.{fault-read, no-line-first, put-begins, put-kept, put-lines, read-nothing, read-past, read-to}
use Rattle.snap_tables.proofs.read.read_lines.Goals as goal

pub returns-in_default-clause-err : goal.returns-in_default-clause-err
returns-in_default-clause-err c = no-line-first c.args.text.now c.in_default.ensures

pub returns-then-is_last-clause-ok : goal.returns-then-is_last-clause-ok
returns-then-is_last-clause-ok c =
    let d = c.loop-line.draft in
    let begins = c.loop-line.invariant.begins in
    let line = c.in-Some-split_line.line.now in
    let behind = c.in-Some-split_line.behind.now in
    let split = c.in-Some-split_line.ensures.parts in
    let last = sym c.is_last.ensures ∙ c.if-is_last.true in
    IfOk-weaker c.ended.result _ _ (λ e h. subst (IsReadTo c.args.text.now) (sym h.0)
    (read-to c.args.text.now c.loop-line.rest.now d begins line behind split last c.loop-line.invariant.few c.in-Some-split_line.ensures.shorter h.1)) c.ended.ensures.ok

pub returns-then-is_last-clause-err : goal.returns-then-is_last-clause-err
returns-then-is_last-clause-err c =
    let d = c.loop-line.draft in
    let begins = c.loop-line.invariant.begins in
    let line = c.in-Some-split_line.line.now in
    let behind = c.in-Some-split_line.behind.now in
    let split = c.in-Some-split_line.ensures.parts in
    let last = sym c.is_last.ensures ∙ c.if-is_last.true in
    IfErr-weaker c.ended.result _ _ (λ e h. read-past c.args.text.now c.loop-line.rest.now d begins line behind split last (c.loop-line.number + 2) (omega (arith, c.loop-line.invariant.lines)) h.1 e h.0) c.ended.ensures.err

pub returns-in_err-take_line-clause-err : goal.returns-in_err-take_line-clause-err
returns-in_err-take_line-clause-err c =
    let d = c.loop-line.draft in
    let begins = c.loop-line.invariant.begins in
    let line = c.in-Some-split_line.line.now in
    let behind = c.in-Some-split_line.behind.now in
    let split = c.in-Some-split_line.ensures.parts in
    let out = err_from_is_err_and c.from_residual.result c.from_residual.ensures.1 in
    let other = sym c.is_last.ensures ∙ c.if-is_last.false in
    rw out.1 (subst (λ e. IsRead c.args.text.now (Err e)) (sym out.2) (fault-read c.args.text.now c.loop-line.rest.now d begins line behind split (c.loop-line.number + 1) (omega (arith, c.loop-line.invariant.lines)) other _ c.in_err-take_line.ensures.line))

pub loop-line-preserved : goal.loop-line-preserved
loop-line-preserved c =
    let d = c.loop-line.draft in
    let begins = c.loop-line.invariant.begins in
    let line = c.in-Some-split_line.line.now in
    let behind = c.in-Some-split_line.behind.now in
    let split = c.in-Some-split_line.ensures.parts in
    let e = c.take_line.new.draft in
    let put = c.in_ok-take_line.ensures.line in
    let lines = put-lines c.args.text.now c.loop-line.rest.now d begins line behind split e put in
    record {
      begins = put-begins c.args.text.now c.loop-line.rest.now d begins line behind split e put;
      kept = put-kept c.args.text.now c.loop-line.rest.now d begins line behind split e put;
      lines = omega (arith, lines, c.loop-line.invariant.lines);
      few = omega (arith, lines, c.loop-line.invariant.few, c.in-Some-split_line.ensures.shorter);
      known = c.in_ok-take_line.ensures.known;
    }

pub returns-clause-err : goal.returns-clause-err
returns-clause-err c =
    read-nothing c.args.text.now c.loop-line.rest.now c.loop-line.draft c.loop-line.invariant.begins c.in_default-split_line.ensures.parts (c.loop-line.number + 1) (omega (arith, c.loop-line.invariant.lines))
