use Rattle.std.proofs.Common.{None, Some, cond, ap, sym, ◌∙◌}
use Rattle.snap_core.specs.Runs.{after_both, meaning_with}
use Rattle.snap_core.proofs.run.Run.beside.Goals as goal

pub returns-then-clashes-clause-undefined : goal.returns-then-clashes-clause-undefined
returns-then-clashes-clause-undefined c = λ m n e.
    ap (λ t. cond t None (Some (after_both (meaning_with m c.args.self) (meaning_with n c.args.other)))) (sym (c.clashes.ensures m n) ∙ c.if-clashes.true)

pub returns-clause-ok : goal.returns-clause-ok
returns-clause-ok c = λ m n.
    ap (λ t. cond t None (Some (after_both (meaning_with m c.args.self) (meaning_with n c.args.other)))) (sym (c.clashes.ensures m n) ∙ c.if-clashes.false)
    ∙ ap Some (sym (c.in_ok-join.ensures m n))
