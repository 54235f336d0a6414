use Rattle.std.proofs.Common.{◌≡◌, ◌∷◌, ◌∙◌, rules, sym}
use Rattle.snap_report.proofs.AheadLemmas.{until-here}
use Rattle.snap_report.proofs.ahead.behind_end.Goals as goal

pub returns-then-is_blank-clause-end : goal.returns-then-is_blank-clause-end
returns-then-is_blank-clause-end c =
    let byte = c.in-Some.byte.now in
    let behind = c.in-Some.behind.now in
    let parts : c.args.text.now ≡ byte ∷ behind = search rules in
    rw parts (until-here byte behind (sym c.is_blank.ensures ∙ c.if-is_blank.true))
