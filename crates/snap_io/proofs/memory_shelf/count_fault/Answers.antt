use Rattle.std.proofs.Common.{sym, ◌∙◌}
use Rattle.snap_io.proofs.FaultLemmas.{counted-file, counted-absent, rose-file, rose-absent}
use Rattle.snap_io.proofs.memory_shelf.count_fault.Goals as goal

pub returns-in-Some-clause-counts : goal.returns-in-Some-clause-counts
returns-in-Some-clause-counts c =
    counted-file _ _ _ _ c.in-Some.place c.saturating_add.result (sym c.place_of.ensures ∙ c.in-Some.is) c.requires c.saturating_add.ensures

pub returns-in-Some-clause-rose : goal.returns-in-Some-clause-rose
returns-in-Some-clause-rose c =
    rose-file c.args.files.now c.args.counts.now c.args.absent.now c.args.name.now c.in-Some.place c.saturating_add.result (sym c.place_of.ensures ∙ c.in-Some.is) c.requires c.saturating_add.ensures

pub returns-in-None-clause-counts : goal.returns-in-None-clause-counts
returns-in-None-clause-counts c =
    counted-absent _ _ _ _ _ (sym c.place_of.ensures ∙ c.in-None.is) c.saturating_add-in-None.ensures

pub returns-in-None-clause-rose : goal.returns-in-None-clause-rose
returns-in-None-clause-rose c =
    rose-absent c.args.files.now c.args.counts.now c.args.absent.now c.args.name.now c.saturating_add-in-None.result (sym c.place_of.ensures ∙ c.in-None.is) c.saturating_add-in-None.ensures
