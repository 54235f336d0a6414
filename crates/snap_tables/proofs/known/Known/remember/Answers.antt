use Rattle.std.proofs.Common.{subst}
use Rattle.snap_tables.specs.Known.{IsSaidAt}
use Rattle.snap_tables.specs.Reading.{words_left}
use Rattle.snap_tables.proofs.known.Known.remember.Goals as goal

pub returns-in_ok-put : goal.returns-in_ok-put
returns-in_ok-put c = λ v k ranked rows all said. c.in_ok-put.ensures v k ranked rows all (subst (λ rest. IsSaidAt v k ranked rows (words_left rest) c.args.place) c.in-Some.is said)
