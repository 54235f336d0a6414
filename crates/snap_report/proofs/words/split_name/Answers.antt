use Rattle.std.proofs.Common.{◌≡◌, false, get_or, arith, sym}
use Rattle.std.proofs.lemmas.Bool.Decides.{nat_tests}
use Rattle.snap_report.specs.Cuts.{is_equals}
use Rattle.snap_report.proofs.CutLemmas.{name-first, no_name-blank, no_name-none}
use Rattle.snap_report.proofs.words.split_name.Goals as goal

pub returns-then-text-at-eq61-clause-name : goal.returns-then-text-at-eq61-clause-name
returns-then-text-at-eq61-clause-name c = name-first c.args.text.now c.in-Some.at (sym c.in-Some.ensures) c.if-text-at-eq61.true

pub returns-else-text-at-eq61-clause-name : goal.returns-else-text-at-eq61-clause-name
returns-else-text-at-eq61-clause-name c =
    let differs : is_equals (get_or c.args.text.now c.in-Some.at 0) ≡ false = grind (arith, nat_tests, c.if-text-at-eq61.false) in
    no_name-blank c.args.text.now c.in-Some.at c.requires (sym c.in-Some.ensures) differs

pub returns-in-None-clause-name : goal.returns-in-None-clause-name
returns-in-None-clause-name c = no_name-none c.args.text.now c.requires (sym c.in-None.ensures)
