use Rattle.std.proofs.Common.{◌++◌, ◌/◌, ◌%◌, decimal, sym, ap, ◌∙◌, arith, append_assoc}
use Rattle.snap_tables.proofs.Digits.{decimal-last}
use Rattle.snap_tables.proofs.words.put_two.Goals as goal

pub returns-else-number-lt10-clause-items : goal.returns-else-number-lt10-clause-items
returns-else-number-lt10-clause-items c =
    let out = c.args.out.now.items in
    let n = c.args.number in
    c.put_digit-else-number-lt10-2.ensures.items
    ∙ ap (λ l. l ++ decimal (n % 10)) c.put_digit-else-number-lt10.ensures.items
    ∙ append_assoc out (decimal (n / 10)) (decimal (n % 10))
    ∙ ap (λ l. out ++ l) (sym (decimal-last n c.if-number-lt10.false (omega (arith, c.requires.number))))
