use Rattle.std.proofs.Common.{◌≡◌, ◌&&◌, true, false, take, drop, length, sym, ap, ◌∙◌, arith}
use Rattle.std.specs.Str.{bytes_eq}
use Rattle.snap_core.proofs.FieldLemmas.{bytes_eq-joined}
use Rattle.snap_core.proofs.program.is_joined_of.Goals as goal

pub returns-then-eq : goal.returns-then-eq
returns-then-eq c =
    let text = c.args.text.now in let front = c.args.front.now in let back = c.args.back.now in
    let begins : bytes_eq (take (length front) text) front ≡ true = ap (λ l. bytes_eq l front) (sym c.split_at.ensures.front) ∙ sym c.eq.ensures ∙ c.if-eq.true in
    c.eq-then-eq.ensures ∙ ap (λ l. bytes_eq l back) c.split_at.ensures.back
    ∙ sym (bytes_eq-joined front back text (omega arith) ∙ ap (λ b. b && bytes_eq (drop (length front) text) back) begins)

pub returns-else-eq : goal.returns-else-eq
returns-else-eq c =
    let text = c.args.text.now in let front = c.args.front.now in let back = c.args.back.now in
    let other : bytes_eq (take (length front) text) front ≡ false = ap (λ l. bytes_eq l front) (sym c.split_at.ensures.front) ∙ sym c.eq.ensures ∙ c.if-eq.false in
    c.if-eq.false ∙ sym (bytes_eq-joined front back text (omega arith) ∙ ap (λ b. b && bytes_eq (drop (length front) text) back) other)
