use Rattle.std.proofs.Common.{◌-◌, ◌<◌, length, refl, sym, subst, ◌∙◌, arith}
use Rattle.snap_order.specs.Rounding.{HasRoundedTo}
use Rattle.snap_order.proofs.Stepping.{few_gone, rounded_all, rounded_first, rounded_more}
use Rattle.snap_order.proofs.round.step_all.Goals as goal

pub loop-place-init : goal.loop-place-init
loop-place-init c = record {
  rounded = λ s shows. subst (HasRoundedTo c.args.net.now.net.tables s 0 c.args.net.now) (sym c.new-done.ensures.items) (rounded_first c.args.net.now s shows);
  tables = refl;
  injected = refl;
}

pub overflow_sub-place : goal.overflow_sub-place
overflow_sub-place c =
    let l = c.loop-place in
    let before = c.flying-in-loop-place.ensures.held in
    let after = c.flying-in-loop-place-2.ensures.held in
    let test = c.loop-place-test.true in
    let count = c.flying.ensures.held in
    let within : l.place < length l.net.net.flying = omega (arith, test, count) in
    let few = few_gone l.place l.net c.advance.new.self c.in-Ok.moved c.in-Ok.ensures.done within in
    omega (arith, before, after, few, within)

pub loop-place-preserved : goal.loop-place-preserved
loop-place-preserved c =
    let l = c.loop-place in
    let i = l.invariant in
    let before = c.flying-in-loop-place.ensures.held in
    let after = c.flying-in-loop-place-2.ensures.held in
    let test = c.loop-place-test.true in
    let count = c.flying.ensures.held in
    let within : l.place < length l.net.net.flying = omega (arith, test, count) in
    let few = few_gone l.place l.net c.advance.new.self c.in-Ok.moved c.in-Ok.ensures.done within in
    record {
      rounded = λ s shows. subst (HasRoundedTo c.args.net.now.net.tables s (c.flying-in-loop-place-2.result - (c.flying-in-loop-place.result - l.place - 1)) c.advance.new.self) (sym c.in_ok-push.ensures.items)
          (rounded_more c.args.net.now.net.tables s l.place l.net c.advance.new.self l.done.items c.in-Ok.moved i.tables c.in-Ok.ensures.done within (c.flying-in-loop-place-2.result - (c.flying-in-loop-place.result - l.place - 1)) (omega (arith, before, after, few, within)) (i.rounded s shows));
      tables = c.advance.ensures.tables ∙ i.tables;
      injected = c.advance.ensures.injected ∙ i.injected;
    }

pub returns-clause-done : goal.returns-clause-done
returns-clause-done c =
    let l = c.loop-place in
    let test = c.loop-place-test.false in
    let count = c.flying.ensures.held in
    rounded_all c.args.net.now l.net l.done.items l.place (omega (arith, test, count)) l.invariant.rounded
