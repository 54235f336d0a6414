-- By the test.
use Rattle.std.proofs.Common.{sym}
use Rattle.snap_diagrams.specs.Bounds.{Sizes}
use Rattle.snap_compose.proofs.Values.{value_behind, equal_behind, state_behind}
use Rattle.snap_compose.proofs.pulled_back.test_before.Goals as goal

pub returns-in-Value : goal.returns-in-Value
returns-in-Value c = rw c.in-Value.is (λ s fits test. value_behind s c.args.out.now c.in-Value.comp c.in-Value.num c.same_value.result fits test (rw (sym c.atom_after.ensures) (c.same_value.ensures s)))

pub returns-in-Equal : goal.returns-in-Equal
returns-in-Equal c =
    let f = rw (c.shifted-term.ensures, c.as_term.ensures, c.atom_after-in-Equal.ensures, c.atom_after-in-Equal-2.ensures) at (λ (s : Sizes). c.same_value-in-Equal.ensures s) in
    rw c.in-Equal.is (λ s fits test. equal_behind s c.args.out.now c.in-Equal.left c.in-Equal.right c.in-Equal.plus c.same_value-in-Equal.result fits test (f s))

pub returns-in_ok-index_before-in-State : goal.returns-in_ok-index_before-in-State
returns-in_ok-index_before-in-State c = rw (c.in-State.is, c.term_before.ensures, c.in_ok-index_before-in-State.ensures) (λ s fits test. state_behind s c.args.out.now c.in-State.var c.in-State.index c.in-State.value fits test)
