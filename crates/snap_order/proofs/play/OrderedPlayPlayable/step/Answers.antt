use Rattle.std.proofs.Common.{refl, subst, sym}
use Rattle.snap_rows.specs.declared.tables.Tables.{Tables}
use Rattle.snap_net.specs.Shown.{NetView}
use Rattle.snap_runs.specs.Tallies.{IsThere}
use Rattle.snap_order.specs.declared.play.OrderedPlay.{OrderedPlay}
use Rattle.snap_order.specs.Playing.{NotesTurn}
use Rattle.snap_order.proofs.Playing.{moved_there, number_below, plays_step}
use Rattle.snap_order.proofs.play.OrderedPlayPlayable.step.Goals as goal

pub note_step-requires-clause-number : goal.note_step-requires-clause-number
note_step-requires-clause-number c =
    let old = c.args.self.now in
    let new : OrderedPlay = record { alloc = old.alloc; net = c.advance.new.self; hops = old.hops; tallies = old.tallies; waiting = old.waiting } in
    number_below old new c.args.place c.in-Ok.moved c.requires.playing c.in-Ok.ensures.done

pub note_step-requires-clause-there : goal.note_step-requires-clause-there
note_step-requires-clause-there c =
    let old = c.args.self.now in
    let new : OrderedPlay = record { alloc = old.alloc; net = c.advance.new.self; hops = old.hops; tallies = old.tallies; waiting = old.waiting } in
    subst (λ (v : NetView). IsThere v.flying c.args.place c.in-Ok.moved) (sym c.network-net.ensures) (moved_there old new c.args.place c.in-Ok.moved c.requires.playing c.in-Ok.ensures.done)

pub returns-clause-stepped : goal.returns-clause-stepped
returns-clause-stepped c =
    let old = c.args.self.now in
    let new : OrderedPlay = record { alloc = old.alloc; net = c.advance.new.self; hops = old.hops; tallies = c.note_step.new.tallies; waiting = old.waiting } in
    let m = c.in-Ok.moved in
    let here = subst (λ (v : NetView). NotesTurn old.hops v.tables.switches v.flying c.args.place m old.tallies.items new.tallies.items) c.network-net.ensures c.in_ok-note_step.ensures in
    plays_step old new c.args.place m c.flying.ensures.is_held c.in-Ok.ensures.done
    (subst (λ (t : Tables). NotesTurn old.hops t.switches new.net.net.flying c.args.place m old.tallies.items new.tallies.items) c.advance.ensures.tables here) c.advance.ensures.tables refl refl
