use Rattle.snap_report.proofs.AheadLemmas.{address-front}
use Rattle.snap_report.proofs.ahead.address_front.Goals as goal

pub returns-clause-front : goal.returns-clause-front
returns-clause-front c =
    let a = c.in_ok-first in let b = c.in_ok-second in let d = c.in_ok-third in let e = c.in_ok-fourth in let f = c.in_ok-behind in
    address-front c.args.text.now a.rest.now b.rest.now d.rest.now e.rest.now f.behind.now a.first b.second d.third e.fourth a.ensures.ahead b.ensures.ahead d.ensures.ahead e.ensures.ahead f.ensures.end
