use Rattle.snap_tables.proofs.ReadLemmas.{first-split, no-first, no-first-lf}
use Rattle.snap_tables.proofs.read.first_said.Goals as goal

pub returns-in-None : goal.returns-in-None
returns-in-None c = no-first-lf c.args.text.now c.in-None.ensures.parts

pub returns-in-None-version_of : goal.returns-in-None-version_of
returns-in-None-version_of c = no-first c.args.text.now c.in-Some.line.now c.in-Some.behind.now c.in-Some.ensures.parts c.in-None-version_of.ensures

pub returns-in-Some-version_of : goal.returns-in-Some-version_of
returns-in-Some-version_of c = first-split c.args.text.now c.in-Some.line.now c.in-Some.behind.now c.in-Some-version_of.version c.in-Some.ensures.parts c.in-Some.ensures.shorter c.in-Some-version_of.ensures.0 c.in-Some-version_of.ensures.1
