use Rattle.std.proofs.Common.{◌++◌, ◌/◌, ◌%◌, decimal, sym, ap, ◌∙◌, append_assoc}
use Rattle.snap_tables.proofs.Digits.{decimal-last-two}
use Rattle.snap_tables.proofs.words.put_four.Goals as goal

pub returns : goal.returns
returns c =
    let out = c.args.out.now.items in
    let n = c.args.number in
    let first = decimal (n / 100) in
    let tens = decimal (n / 10 % 10) in
    c.put_digit-2.ensures.items
    ∙ ap (λ l. l ++ decimal (n % 10)) (c.put_digit.ensures.items ∙ ap (λ l. l ++ tens) c.put_two.ensures.items ∙ append_assoc out first tens)
    ∙ append_assoc out (first ++ tens) (decimal (n % 10))
    ∙ ap (λ l. out ++ l) (sym (decimal-last-two n c.requires.least c.requires.most))
