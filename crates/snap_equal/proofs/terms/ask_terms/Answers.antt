-- An offset goes to the other side.
use Rattle.snap_equal.proofs.TermTests.{number_first, number_second, components}
use Rattle.snap_equal.proofs.terms.ask_terms.Goals as goal

pub returns-in-Plus-right : goal.returns-in-Plus-right
returns-in-Plus-right c = number_first c.args.ctx.now c.holds.result c.args.left c.args.right c.in-Num.num c.in-Plus-right.comp c.in-Plus-right.plus c.in-Num.is c.in-Plus-right.is c.know_term.ensures c.know_term-2.ensures c.requires.right c.holds.ensures

pub returns-in-Num-right-2 : goal.returns-in-Num-right-2
returns-in-Num-right-2 c = number_second c.args.ctx.now c.holds-in-Num-right-2.result c.args.left c.args.right c.in-Num-right-2.num c.in-Plus.comp c.in-Plus.plus c.in-Plus.is c.in-Num-right-2.is c.know_term.ensures c.know_term-2.ensures c.requires.left c.holds-in-Num-right-2.ensures

pub returns-in-Plus-right-2 : goal.returns-in-Plus-right-2
returns-in-Plus-right-2 c = components c.args.ctx.now c.holds-in-Plus-right-2.result c.args.left c.args.right c.in-Plus.comp c.in-Plus.plus c.in-Plus-right-2.other c.in-Plus-right-2.more c.in-Plus.is c.in-Plus-right-2.is c.know_term.ensures c.know_term-2.ensures c.requires.left c.holds-in-Plus-right-2.ensures
