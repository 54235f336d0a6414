use Rattle.std.proofs.Common.{◌∙◌, sym, arith}
use Rattle.snap_core.proofs.FigureLemmas.{number_up_to-above, value_of_digits-le}
use Rattle.snap_core.proofs.figures.number_up_to.Goals as goal

pub returns-in_err-checked_mul : goal.returns-in_err-checked_mul
returns-in_err-checked_mul c =
    c.from_residual.ensures
    ∙ sym (number_up_to-above c.args.most c.args.text.now (omega (arith, c.in_err-checked_mul.ensures, value_of_digits-le c.args.text.now c.loop-digit.digit-index c.loop-digit.number c.loop-digit-test.true c.loop-digit.invariant.value)))

pub returns-in_err-number : goal.returns-in_err-number
returns-in_err-number c =
    c.from_residual-in_err-number.ensures
    ∙ sym (number_up_to-above c.args.most c.args.text.now (omega (arith, c.in_err-number.ensures, value_of_digits-le c.args.text.now c.loop-digit.digit-index c.loop-digit.number c.loop-digit-test.true c.loop-digit.invariant.value)))
