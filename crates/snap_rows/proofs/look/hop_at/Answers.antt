use Rattle.std.proofs.Common.{◌≡◌, Some, ap, sym, ◌∙◌}
use Rattle.std.specs.Prelude.{slice_get}
use Rattle.std.proofs.lemmas.Option.{slice_get-get_or}
use Rattle.snap_rows.proofs.Places.{hop_here}
use Rattle.snap_rows.proofs.look.hop_at.Goals as goal

pub returns-then-hop-target : goal.returns-then-hop-target
returns-then-hop-target c =
    let hops = c.args.hops.now in
    let hop = c.in-Some.hop.now in
    let is : slice_get hops c.args.place ≡ Some hop = slice_get-get_or hops c.args.place hop c.in-Some.ensures.lookup.3.0 ∙ ap Some (sym c.in-Some.ensures.lookup.1) in
    hop_here hops c.requires c.args.at c.args.target c.args.place hop is c.if-hop-at.true c.if-hop-target.true
