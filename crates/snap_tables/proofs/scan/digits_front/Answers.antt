use Rattle.std.proofs.Common.{◌≡◌, ◌+◌, ◌-◌, ◌*◌, true, get_or, sym, ◌∙◌, arith}
use Rattle.std.specs.Char.{is_ascii_digit}
use Rattle.std.proofs.lemmas.Grind.{common_steps}
use Rattle.snap_tables.proofs.Scanning.{front_more, front_whole}
use Rattle.snap_tables.proofs.scan.digits_front.Goals as goal

pub returns-then-byte-eq32 : goal.returns-then-byte-eq32
returns-then-byte-eq32 c = record {
  within = omega (arith, c.loop-at-test.true);
  digits = c.loop-at.invariant.digits;
  value = c.loop-at.invariant.value;
  stops = λ more. c.if-byte-eq32.true;
}

pub loop-at-preserved : goal.loop-at-preserved
loop-at-preserved c =
    let text = c.args.text.now in
    let at = c.loop-at.at in
    let digit : is_ascii_digit (get_or text at 0) ≡ true = sym c.is_ascii_digit.ensures.value ∙ c.if-not-is_ascii_digit.false in
    let is : c.loop-at.number * 10 + c.from.result ≡ c.loop-at.number * 10 + (get_or text at 0 - 48) = grind (arith, common_steps) in
    let more = front_more text at c.loop-at.number (c.loop-at.number * 10 + c.from.result) c.loop-at-test.true c.loop-at.invariant.digits c.loop-at.invariant.value digit is in
    record { digits = more.0; value = more.1 }

pub returns : goal.returns
returns c = front_whole c.args.text.now c.loop-at.at c.loop-at.number c.loop-at-test.false (omega (arith, c.loop-at.auto.at-end)) c.loop-at.invariant.digits c.loop-at.invariant.value
