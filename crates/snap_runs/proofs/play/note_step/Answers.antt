use Rattle.std.proofs.Common.{◌<◌, ◌++◌, [], Result, Ok, Err, length, sym, ap, subst, ◌∙◌, append-nil}
use Rattle.std.specs.Prelude.{OnOk, if◌then◌else◌}
use Rattle.snap_runs.specs.Tallies.{line_after}
use Rattle.snap_runs.proofs.Tallied.{has-noted}
use Rattle.snap_runs.proofs.play.note_step.Goals as goal

on_ok_all : {X Y A B C D : Type 0} (r : Result X Y) → OnOk r A → OnOk r B → OnOk r C → (A → B → C → D) → OnOk r D
on_ok_all (Ok x) a b c f = f a b c
on_ok_all (Err e) a b c f = tt

pub returns-then-hops : goal.returns-then-hops
returns-then-hops c =
    let ys = c.args.tallies.now.items in
    let y = c.index_mut-tally.result.now in
    let m = c.args.moved in
    let line = line_after c.args.frames c.args.net.now.tables.switches c.args.net.now.flying c.args.place m in
    let within = subst (λ n. n < length ys) (sym c.number_of-number.ensures) c.requires.number in
    on_ok_all c.note_hop.result c.note_hop.ensures.delivered c.note_hop.ensures.lost c.note_hop.ensures.hops
    (λ d l h. has-noted ys c.number_of-number.result y c.note_hop.new.self (if c.args.hops then line else []) m within c.index_mut-tally.ensures.value c.number_of-number.ensures d l
    (h ∙ ap (λ b. y.hops.items ++ (if b then line else [])) (sym c.if-hops.true)))

pub returns-else-hops : goal.returns-else-hops
returns-else-hops c =
    let ys = c.args.tallies.now.items in
    let y = c.index_mut-tally.result.now in
    let m = c.args.moved in
    let line = line_after c.args.frames c.args.net.now.tables.switches c.args.net.now.flying c.args.place m in
    let within = subst (λ n. n < length ys) (sym c.number_of-number.ensures) c.requires.number in
    on_ok_all c.note.result c.note.ensures.delivered c.note.ensures.lost c.note.ensures.lost
    (λ d l _. has-noted ys c.number_of-number.result y c.note.new.self (if c.args.hops then line else []) m within c.index_mut-tally.ensures.value c.number_of-number.ensures d l
    (c.note.ensures.hops ∙ sym (append-nil y.hops.items) ∙ ap (λ b. y.hops.items ++ (if b then line else [])) (sym c.if-hops.false)))
