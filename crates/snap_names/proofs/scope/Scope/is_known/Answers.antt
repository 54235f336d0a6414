use Rattle.std.proofs.Common.{is_some, ap, sym, ◌∙◌}
use Rattle.snap_names.proofs.Lookups.{lookup-names_in}
use Rattle.snap_names.proofs.scope.Scope.is_known.Goals as goal

pub returns : goal.returns
returns c = c.contains_key.ensures ∙ ap is_some (sym (lookup-names_in c.args.name.now c.args.self.now.names.entries))
