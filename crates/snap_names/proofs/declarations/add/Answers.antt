use Rattle.snap_names.specs.Parts.{names_in}
use Rattle.std.proofs.Common.{ap, ◌∙◌}
use Rattle.snap_names.proofs.Declaring.{names_in-insert_entry}
use Rattle.snap_names.proofs.declarations.add.Goals as goal

-- src/declarations.rt:35:1
pub returns-clause-ok : goal.returns-clause-ok
returns-clause-ok c = λ h. ap names_in c.in_ok-insert.ensures.entries ∙ names_in-insert_entry c.args.names.now.entries c.args.name c.args.sense h
