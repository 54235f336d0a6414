-- Atoms of different classes at one place.
use Rattle.std.proofs.Common.{◌≡◌, arith}
use Rattle.snap_context.proofs.Indices.{same_at}
use Rattle.snap_context.proofs.classes.same_index.Goals as goal

pub returns-then-not-same_term : goal.returns-then-not-same_term
returns-then-not-same_term c = (
  (λ t. absurd (cc)),
  (λ e.
      let s : c.atom_at.result ≡ c.atom_at-in-loop-i.result
      = rw (c.atom_at.ensures, c.atom_at-in-loop-i.ensures)
      (same_at c.args.classes.now c.args.first.now c.args.second.now c.loop-i.i _ _ (omega arith) (omega arith) e) in
      let t = c.same_term.ensures.1 s in
      rw c.if-not-same_term.true at t),
)
