use Rattle.std.proofs.Common.{◌≡◌, ℕ, ◌+◌, ◌-◌, ◌≤◌, ◌⊎◌, ◌<◌, inl, inr, List, length, sym, ap, subst, ◌∙◌, arith, min, drop, length-drop}
use Rattle.snap_io.specs.Lines.{before_lf, next_line}
use Rattle.snap_io.specs.LineReaders.{lines_held}
use Rattle.snap_io.proofs.LinesLemmas.{before_lf-le}
use Rattle.snap_io.proofs.HeldLemmas.{length-held_bytes}
use Rattle.snap_io.proofs.NextLemmas.{AreAt, next_in-long, next_in-line, AreAt-given, settled}
use Rattle.snap_io.proofs.lines.Lines.give.Goals as goal

pub returns-then-most-before-clause-next : goal.returns-then-most-before-clause-next
returns-then-most-before-clause-next c = λ file agrees.
    let lines = c.args.self.now in
    next_in-long lines.limit lines.held.most file lines.given (lines_held lines) agrees.held (omega (arith, lines.within, length-held_bytes lines.held)) (omega arith)

pub invariant_of-self : goal.invariant_of-self
invariant_of-self c =
    let lines = c.args.self.now in
    let left : length (drop (before_lf (lines_held lines) + 1) (lines_held lines)) ≡ c.give.new.self.end - c.give.new.self.start = ap length (sym c.give.ensures.bytes) ∙ length-held_bytes c.give.new.self in
    record { within = omega (arith, lines.within, length-held_bytes lines.held, length-drop (before_lf (lines_held lines) + 1) (lines_held lines)) }

pub returns-clause-next : goal.returns-clause-next
returns-clause-next c = λ file agrees.
    let lines = c.args.self.now in
    let held = lines_held lines in
    let ends : (before_lf held < length held) ⊎ (length file ≤ lines.given + length held) = elim (settled lines.ended (before_lf held) (length held) lines.held.most c.requires (before_lf-le held) (omega arith)) [ inl lf ↦ inl lf | inr end ↦ inr (agrees.ended end) ] in
    let place : c.min.result ≡ min (length held) (before_lf held + 1) = omega arith in
    next_in-line lines.limit lines.held.most file lines.given held agrees.held (omega (arith, lines.within, length-held_bytes lines.held)) (omega arith) (omega arith) ends
    ∙ (λ i. next_line (sym c.give.ensures.line i) (lines.given + sym place i))

pub returns-clause-agrees : goal.returns-clause-agrees
returns-clause-agrees c = λ file agrees.
    let lines = c.args.self.now in
    let held = lines_held lines in
    let n = before_lf held + 1 in
    let place : c.min.result ≡ min (length held) n = omega arith in
    let here : AreAt file (lines.given + c.min.result) (drop n held) = subst (λ (m : ℕ). AreAt file (lines.given + m) (drop n held)) (sym place) (AreAt-given file lines.given held n agrees.held) in
    record {
      held = subst (λ (l : List ℕ). AreAt file (lines.given + c.min.result) l) (sym c.give.ensures.bytes) here;
      ended = λ end. omega (arith, agrees.ended end, ap length c.give.ensures.bytes, length-drop n held);
    }
