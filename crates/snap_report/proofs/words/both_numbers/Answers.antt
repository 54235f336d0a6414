use Rattle.std.proofs.Common.{◌∷◌, eqb, ap, sym, ◌∙◌}
use Rattle.snap_report.specs.PacketLines.{both_numbers}
use Rattle.snap_report.proofs.WordLemmas.{both_numbers-many}
use Rattle.snap_report.proofs.words.both_numbers.Goals as goal

pub returns-in-Some : goal.returns-in-Some
returns-in-Some c =
    let net = c.in_ok-net.net.now in
    sym (ap both_numbers (c.in_ok-net.ensures.parts ∙ ap (λ l. net ∷ l) c.in-Some.ensures.parts) ∙ both_numbers-many (λ b. eqb b 58) net c.in-Some.field-0.0.now c.in-Some.field-0.1.now)
