use Rattle.snap_core.proofs.OctetLemmas.{octet-large}
use Rattle.snap_core.proofs.figures.octet.Goals as goal

pub returns-else-whole-le255-clause-read : goal.returns-else-whole-le255-clause-read
returns-else-whole-le255-clause-read c =
    let a = c.in_ok-first in
    let b = c.in-Some in
    let d = c.in-Some-digit in
    octet-large c.args.text.now a.rest.now a.first a.ensures.digit a.ensures.small b.rest.now b.second b.ensures.digit b.ensures.small d.rest.now d.third d.ensures.digit d.ensures.small c.if-whole-le255.false
