use Rattle.std.proofs.Common.{arith}
use Rattle.snap_lex.proofs.Addresses.{last_dots, dots_behind, dots_before}
use Rattle.snap_lex.proofs.address.+has_dots.Goals as goal

pub returns-then-dots-eq0 : goal.returns-then-dots-eq0
returns-then-dots-eq0 t c = last_dots c.args.bytes.now c.args.dots c.is_group.result c.if-dots-eq0.true c.is_group.ensures

pub returns-in-Some : goal.returns-in-Some
returns-in-Some t c =
    let g = c.in-Some.ensures in (
      (λ h. dots_before c.args.bytes.now c.args.dots g.0 c.in-Some.rest.now (omega (arith, c.if-dots-eq0.false)) g.1 g.2 (c.has_dots.ensures.0 h)),
      (λ h. c.has_dots.ensures.1 (dots_behind c.args.bytes.now c.args.dots g.0 c.in-Some.rest.now (omega (arith, c.if-dots-eq0.false)) g.1 g.2 h)),
    )
