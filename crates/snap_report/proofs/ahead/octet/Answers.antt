use Rattle.snap_report.proofs.AheadLemmas.{octet-one, octet-two, octet-three}
use Rattle.snap_report.proofs.ahead.octet.Goals as goal

pub returns-in_default-clause-ahead : goal.returns-in_default-clause-ahead
returns-in_default-clause-ahead c =
    let a = c.in_ok-first in
    octet-one c.args.text.now a.rest.now a.first a.ensures.digit a.ensures.small

pub returns-in_default-digit-clause-ahead : goal.returns-in_default-digit-clause-ahead
returns-in_default-digit-clause-ahead c =
    let a = c.in_ok-first in
    let b = c.in-Some in
    octet-two c.args.text.now a.rest.now a.first a.ensures.digit a.ensures.small b.rest.now b.second b.ensures.digit b.ensures.small

pub returns-then-whole-le255-clause-ahead : goal.returns-then-whole-le255-clause-ahead
returns-then-whole-le255-clause-ahead c =
    let a = c.in_ok-first in
    let b = c.in-Some in
    let d = c.in-Some-digit in
    octet-three c.args.text.now a.rest.now a.first a.ensures.digit a.ensures.small b.rest.now b.second b.ensures.digit b.ensures.small d.rest.now d.third d.ensures.digit d.ensures.small c.if-whole-le255.true
