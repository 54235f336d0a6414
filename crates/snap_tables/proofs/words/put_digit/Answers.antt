use Rattle.std.proofs.Common.{◌++◌, sym, ap, ◌∙◌}
use Rattle.std.proofs.lemmas.Fmt.{decimal_digit}
use Rattle.snap_tables.proofs.words.put_digit.Goals as goal

pub returns-clause-items : goal.returns-clause-items
returns-clause-items c = c.push_reserved.ensures.items ∙ ap (λ l. c.args.out.now.items ++ l) (sym (decimal_digit c.args.digit c.requires.digit))
