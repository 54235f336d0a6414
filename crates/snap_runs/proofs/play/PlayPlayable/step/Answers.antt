use Rattle.std.proofs.Common.{refl}
use Rattle.snap_runs.specs.declared.play.Play.{Play}
use Rattle.snap_runs.proofs.Playing.{moved-there, number-below, plays-step}
use Rattle.snap_runs.proofs.play.PlayPlayable.step.Goals as goal

pub note_step-requires-clause-number : goal.note_step-requires-clause-number
note_step-requires-clause-number c =
    let old = c.args.self.now in
    let new : Play = record { alloc = old.alloc; net = c.advance.new.self; hops = old.hops; tallies = old.tallies; waiting = old.waiting } in
    number-below old new c.args.place c.in-Ok.moved c.in-Ok.ensures.done c.requires.playing

pub note_step-requires-clause-there : goal.note_step-requires-clause-there
note_step-requires-clause-there c =
    let old = c.args.self.now in
    let new : Play = record { alloc = old.alloc; net = c.advance.new.self; hops = old.hops; tallies = old.tallies; waiting = old.waiting } in
    moved-there old new c.args.place c.in-Ok.moved c.in-Ok.ensures.done c.requires.playing

pub returns-clause-stepped : goal.returns-clause-stepped
returns-clause-stepped c =
    let old = c.args.self.now in
    let new : Play = record { alloc = old.alloc; net = c.advance.new.self; hops = old.hops; tallies = c.note_step.new.tallies; waiting = old.waiting } in
    plays-step old new c.args.place c.in-Ok.moved c.in-Ok.ensures.done c.flying.ensures.is_held c.in_ok-note_step.ensures c.advance.ensures.tables refl refl
