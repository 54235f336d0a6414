use Rattle.std.proofs.Common.{refl, subst, sym}
use Rattle.snap_rows.specs.declared.tables.Tables.{Tables}
use Rattle.snap_order.specs.declared.play.OrderedPlay.{OrderedPlay}
use Rattle.snap_net.specs.Shown.{NetView}
use Rattle.snap_order.specs.Rounding.{AreThere, NoteTurns}
use Rattle.snap_order.proofs.Rounding.{plays_round, there_all, told_all}
use Rattle.snap_order.proofs.play.OrderedPlay.round.Goals as goal

pub note_turns-requires-clause-below : goal.note_turns-requires-clause-below
note_turns-requires-clause-below g c = told_all c.args.self c.in_ok-rounded.rounded.net c.in_ok-rounded.rounded.done.items c.in_ok-rounded.ensures.done c.requires.playing

pub note_turns-requires-clause-there : goal.note_turns-requires-clause-there
note_turns-requires-clause-there g c =
    subst (λ (v : NetView). AreThere 0 v.flying c.in_ok-rounded.rounded.done.items) (sym c.network.ensures) (there_all c.args.self c.in_ok-rounded.rounded.net c.in_ok-rounded.rounded.done.items c.in_ok-rounded.ensures.done c.requires.playing)

pub returns-in-Ok-clause-rounded : goal.returns-in-Ok-clause-rounded
returns-in-Ok-clause-rounded g c =
    let old = c.args.self in
    let new : OrderedPlay = record { alloc = old.alloc; net = c.in_ok-rounded.rounded.net; hops = old.hops; tallies = c.note_turns.new.tallies; waiting = old.waiting } in
    let done = c.in_ok-rounded.rounded.done.items in
    let here = subst (λ (v : NetView). NoteTurns old.hops v.tables.switches v.flying 0 done old.tallies.items new.tallies.items) c.network.ensures c.in-Ok.ensures in
    plays_round old c.in_ok-rounded.rounded.net c.in_ok-rounded.rounded.done.items c.in_ok-rounded.ensures.done new refl c.flying-known.ensures.is_held c.flying-known.ensures.is_ordered
    (subst (λ (t : Tables). NoteTurns old.hops t.switches new.net.net.flying 0 done old.tallies.items new.tallies.items) c.in_ok-rounded.ensures.tables here) c.in_ok-rounded.ensures.tables refl refl
