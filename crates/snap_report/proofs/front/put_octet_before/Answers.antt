use Rattle.std.proofs.Common.{◌++◌, drop, sym, ap, arith}
use Rattle.std.proofs.lemmas.Fmt.{decimal_digit}
use Rattle.snap_report.proofs.DigitLemmas.{decimal-two, decimal-three}
use Rattle.snap_report.proofs.front.put_octet_before.Goals as goal

pub returns-then-octet-lt10-clause-text : goal.returns-then-octet-lt10-clause-text
returns-then-octet-lt10-clause-text c =
    let behind = drop c.args.end c.args.buffer.now in
    rw (c.put_byte_before.ensures.text, c.digit.ensures) (sym (ap (λ digits. digits ++ behind) (decimal_digit c.args.octet c.if-octet-lt10.true)))

pub returns-then-octet-lt100-clause-text : goal.returns-then-octet-lt100-clause-text
returns-then-octet-lt100-clause-text c =
    let behind = drop c.args.end c.args.buffer.now in
    rw (c.put_byte_before-then-octet-lt100.ensures.text, c.digit-then-octet-lt100-2.ensures, c.put_byte_before-begin.ensures.text, c.digit-then-octet-lt100.ensures)
    (sym (ap (λ digits. digits ++ behind) (decimal-two c.args.octet c.if-octet-lt10.false c.if-octet-lt100.true)))

pub returns-else-octet-lt100-clause-text : goal.returns-else-octet-lt100-clause-text
returns-else-octet-lt100-clause-text c =
    let behind = drop c.args.end c.args.buffer.now in
    rw (c.put_byte_before-else-octet-lt100.ensures.text, c.digit-else-octet-lt100-3.ensures, c.put_byte_before-begin-else-octet-lt100-2.ensures.text, c.digit-else-octet-lt100-2.ensures, c.put_byte_before-begin-else-octet-lt100.ensures.text, c.digit-else-octet-lt100.ensures)
    (sym (ap (λ digits. digits ++ behind) (decimal-three c.args.octet c.if-octet-lt100.false (omega arith))))
