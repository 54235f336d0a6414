use Rattle.std.proofs.Common.{◌≡◌, ℕ, List, [], ◌∷◌, ◌++◌, ap, sym, ◌∙◌, decimal}
use Rattle.std.proofs.lemmas.Fmt.{decimal_digit}
use Rattle.snap_report.proofs.DigitLemmas.{decimal-two, decimal-three}
use Rattle.snap_report.proofs.report.put_number.Goals as goal

pub returns-in_ok-push : goal.returns-in_ok-push
returns-in_ok-push c =
    let old = c.args.out.now.items in
    c.in_ok-push.ensures.items ∙ ap (λ (l : List ℕ). old ++ l) (ap (λ (d : ℕ). d ∷ []) c.digit.ensures ∙ sym (decimal_digit c.args.number c.if-number-lt10.true))

pub returns-in_ok-extend_from_slice : goal.returns-in_ok-extend_from_slice
returns-in_ok-extend_from_slice c =
    let old = c.args.out.now.items in
    let digits : c.digit-then-number-lt100.result ∷ c.digit-then-number-lt100-2.result ∷ [] ≡ decimal c.args.number =
    (λ i. c.digit-then-number-lt100.ensures i ∷ c.digit-then-number-lt100-2.ensures i ∷ []) ∙ sym (decimal-two c.args.number c.if-number-lt10.false c.if-number-lt100.true) in
    c.in_ok-extend_from_slice.ensures.items ∙ ap (λ (l : List ℕ). old ++ l) digits

pub returns-in_ok-extend_from_slice-2 : goal.returns-in_ok-extend_from_slice-2
returns-in_ok-extend_from_slice-2 c =
    let old = c.args.out.now.items in
    let digits : c.digit-then-number-lt1000.result ∷ c.digit-then-number-lt1000-2.result ∷ c.digit-then-number-lt1000-3.result ∷ [] ≡ decimal c.args.number =
    (λ i. c.digit-then-number-lt1000.ensures i ∷ c.digit-then-number-lt1000-2.ensures i ∷ c.digit-then-number-lt1000-3.ensures i ∷ []) ∙ sym (decimal-three c.args.number c.if-number-lt100.false c.if-number-lt1000.true) in
    c.in_ok-extend_from_slice-2.ensures.items ∙ ap (λ (l : List ℕ). old ++ l) digits
