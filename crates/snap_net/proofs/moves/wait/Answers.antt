use Rattle.std.proofs.Common.{sym, ap, ◌∙◌}
use Rattle.std.proofs.lemmas.Option.{same_Some}
use Rattle.snap_net.specs.declared.flying.Flying.{Flying}
use Rattle.snap_net.specs.declared.happened.Moved.TheVariants.{Waited}
use Rattle.snap_net.proofs.Splices.{same_place}
use Rattle.snap_net.proofs.moves.wait.Goals as goal

pub returns : goal.returns
returns c = λ t x is. (same_place c.args.flying.now c.args.k x is, ap (λ (y : Flying). Waited y.number c.args.rank) (same_Some c.get.result.now x (sym c.get.ensures ∙ is)))
