use Rattle.std.proofs.Common.{◌≡◌, ◌∙◌, decimal, Ok, arith, sym, ap, true, false, not, bytes_eq}
use Rattle.std.proofs.lemmas.Fmt.{parse-decimal}
use Rattle.std.proofs.lemmas.Slice.Eq.{bytes_eq-Decides}
use Rattle.std.proofs.lemmas.Bool.{not-false}
use Rattle.snap_words.proofs.Counts.{count_of-decimal, count_of-none}
use Rattle.snap_words.proofs.count.count_of.Goals as goal
use Rattle.snap_words.proofs.count.count_of.Goals.{then-value-eq0-via-then-value-eq0, then-value-eq0-via-else-value-eq0+then-value-gt64, then-value-eq0-via-else-value-eq0+else-value-gt64+then-ne}

pub returns-in_default : goal.returns-in_default
returns-in_default c = sym (count_of-none c.args.text.now (λ n least most is. c.in_default.not-Ok n (parse-decimal 16 n c.args.text.now _ (omega arith) (omega arith) is c.parse.ensures.value.0)))

pub returns-then-value-eq0 : goal.returns-then-value-eq0
returns-then-value-eq0 c = sym (count_of-none c.args.text.now (λ n least most is.
    let read = parse-decimal 16 n c.args.text.now _ (omega arith) (omega arith) is c.parse.ensures.value.0 in
    let same : c.in-Ok.value ≡ n = (let both : Ok c.in-Ok.value ≡ Ok n = sym c.in-Ok.is ∙ read in cc) in
    elim c.then-value-eq0.branch [
      | then-value-eq0-via-then-value-eq0 w ↦ omega arith
      | then-value-eq0-via-else-value-eq0+then-value-gt64 w ↦ omega arith
      | then-value-eq0-via-else-value-eq0+else-value-gt64+then-ne w ↦ let printed = c.format-printed.ensures.text ∙ ap decimal same ∙ sym is in
          let t : true ≡ false = sym w.if-ne.true ∙ w.ne.ensures ∙ ap not ((bytes_eq-Decides c.format-printed.result.now c.args.text.now).1 printed) in cc
    ]))

pub returns : goal.returns
returns c =
    let equal : bytes_eq c.format-printed.result.now c.args.text.now ≡ true = not-false _ (sym c.ne.ensures ∙ c.if-ne.false) in
    let printed = (bytes_eq-Decides c.format-printed.result.now c.args.text.now).0 equal in
    sym (count_of-decimal c.args.text.now c.in-Ok.value (omega arith) (omega arith) (sym printed ∙ c.format-printed.ensures.text))
