use Rattle.std.proofs.Common.{arith}
use Rattle.std.specs.Prelude.{◌==◌}
use Rattle.std.proofs.lemmas.Bool.{false_from_ne_true}
use Rattle.snap_core.proofs.PartLemmas.{parts_by-split, parts_by-none}
use Rattle.snap_tables.proofs.scan.split_line.Goals as goal

pub returns-in-Some-clause-parts : goal.returns-in-Some-clause-parts
returns-in-Some-clause-parts c =
    let first = c.in-Some.ensures in
    parts_by-split (λ b. b == 10) c.args.text.now c.in-Some.at first.0.high (λ k low. false_from_ne_true _ (λ hit. first.0.before k (omega arith) low hit)) first.1

pub returns-in-None-clause-parts : goal.returns-in-None-clause-parts
returns-in-None-clause-parts c = parts_by-none (λ b. b == 10) c.args.text.now (λ k low. false_from_ne_true _ (λ hit. c.in-None.ensures k (omega arith) low hit))
