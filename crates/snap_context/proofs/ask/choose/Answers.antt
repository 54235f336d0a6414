-- One of all numbers is possible.
use Rattle.std.proofs.Common.{◌≡◌, ◌<◌, ◌≤◌, inr, ℕ, subst, arith, below_more}
use Rattle.snap_context.specs.Asks.{IsNever}
use Rattle.snap_context.proofs.Asking.{some_answer}
use Rattle.snap_context.proofs.ask.choose.Goals as goal

pub loop-num-preserved : goal.loop-num-preserved
loop-num-preserved c =
    let none = rw c.in_default-2.is at c.in_ok-settled-2.ensures in
    below_more (IsNever c.args.ctx.now c.args.ask.now) c.loop-num.num c.loop-num.invariant none

pub unreachable-requires : goal.unreachable-requires
unreachable-requires c =
    let none = rw c.in-None.is at c.in_ok-settled-3.ensures in
    some_answer c.args.ctx.now c.args.ask.now c.requires c.facts-met.ensures.met
    (below_more (IsNever c.args.ctx.now c.args.ask.now) 18446744073709551615
    (λ j l. c.loop-num.invariant j (let m : 18446744073709551615 ≤ c.loop-num.num = c.loop-num-test.false in omega (arith, l, m))) none)

pub returns-in-Some-2-clause-least : goal.returns-in-Some-2-clause-least
returns-in-Some-2-clause-least c =
    let none = rw c.in_default.is at c.in_ok-settled.ensures in
    let found = rw c.in-Some-2.is at c.in_ok-settled-2.ensures in
    inr (none, λ i l. c.loop-num.invariant i (subst (λ (n : ℕ). i < n) found.1 l))

pub returns-clause-least : goal.returns-clause-least
returns-clause-least c =
    let none = rw c.in_default.is at c.in_ok-settled.ensures in
    let found = rw c.in-Some-3.is at c.in_ok-settled-3.ensures in
    inr (
      none,
      λ i l. c.loop-num.invariant i (
          let e : c.in-Some-3.settled.num ≡ 18446744073709551615 = found.1 in
          let m : 18446744073709551615 ≤ c.loop-num.num = c.loop-num-test.false in omega (arith, l, m, e)),
    )
