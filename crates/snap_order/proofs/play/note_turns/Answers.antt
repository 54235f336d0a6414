use Rattle.std.proofs.Common.{◌≡◌, ◌+◌, [], ◌∷◌, length, sym, subst, rules, arith}
use Rattle.std.specs.List.{All}
use Rattle.std.proofs.lemmas.List.Elements.{All-head, All-tail}
use Rattle.snap_order.specs.Playing.{NumberIsBelow}
use Rattle.snap_order.specs.Rounding.{AreThere, NoteTurns, no_notes, notes, width}
use Rattle.snap_order.proofs.There.{there_low}
use Rattle.snap_order.proofs.play.note_turns.Goals as goal

pub note_step-requires-clause-there : goal.note_step-requires-clause-there
note_step-requires-clause-there c =
    let l = c.loop-moved in
    (subst (AreThere l.place c.args.net.now.flying) c.in-Some.ensures.items l.invariant.there).0

pub note_step-requires-clause-number : goal.note_step-requires-clause-number
note_step-requires-clause-number c =
    let l = c.loop-moved in
    let n = length l.tallies.items in
    All-head (NumberIsBelow n) c.in-Some.moved c.pop_front.new.self.items (subst (All (NumberIsBelow n)) c.in-Some.ensures.items l.invariant.below)

pub overflow_add-place : goal.overflow_add-place
overflow_add-place c =
    let l = c.loop-moved in
    let cs = c.args.net.now.flying in
    let there = subst (AreThere l.place cs) c.in-Some.ensures.items l.invariant.there in
    let low = there_low (l.place + width c.in-Some.moved) cs c.pop_front.new.self.items there.1 in
    let more = c.width-more.ensures in
    let count = c.flying-known.ensures.held in
    omega (arith, low, more, count)

pub loop-moved-preserved : goal.loop-moved-preserved
loop-moved-preserved c =
    let l = c.loop-moved in
    let x = c.in-Some.moved in
    let rest = c.pop_front.new.self.items in
    let v = c.args.net.now in
    let is : l.left.items ≡ x ∷ rest = c.in-Some.ensures.items in
    let first = c.in_ok-note_step.ensures in
    let next = l.place + width x in
    let more : next ≡ l.place + c.width-more.result = (let e = c.width-more.ensures in omega (arith, e)) in
    record {
      noted = λ end after. l.invariant.noted end (subst (λ xs. NoteTurns c.args.hops v.tables.switches v.flying l.place xs l.tallies.items end) (sym is)
          (notes first (subst (λ p. NoteTurns c.args.hops v.tables.switches v.flying p rest c.note_step.new.tallies.items end) (sym more) after)));
      below = subst (λ n. All (NumberIsBelow n) rest) (sym first.count) (All-tail (NumberIsBelow (length l.tallies.items)) x rest (subst (All (NumberIsBelow (length l.tallies.items))) is l.invariant.below));
      there = subst (λ p. AreThere p v.flying rest) more (subst (AreThere l.place v.flying) is l.invariant.there).1;
    }

pub returns : goal.returns
returns c =
    let l = c.loop-moved in
    let v = c.args.net.now in
    let none : l.left.items ≡ [] = first_of (search rules, cc) in
    l.invariant.noted l.tallies.items (subst (λ xs. NoteTurns c.args.hops v.tables.switches v.flying l.place xs l.tallies.items l.tallies.items) (sym none) no_notes)
