-- One out more.
use Rattle.std.proofs.Common.{◌≡◌, ℕ, [], List, get_or, sym, ap, ◌∙◌}
use Rattle.std.proofs.lemmas.List.{get_or_default}
use Rattle.snap_core.specs.declared.policy.Atom.{Atom}
use Rattle.snap_core.specs.Tests.{after_out}
use Rattle.snap_diagrams.proofs.Remembering.{remembers_more}
use Rattle.snap_equal.specs.Made.{Makes, packet_of}
use Rattle.snap_equal.specs.Told.{On}
use Rattle.snap_equal.proofs.spelling.spellings.Goals as goal

pub loop-out-preserved : goal.loop-out-preserved
loop-out-preserved c =
    let is : c.out-item.result ≡ get_or c.args.outs.now c.loop-out.out-index [] = c.out-item.is ∙ get_or_default c.args.outs.now c.loop-out.out-index c.out-item.result [] c.loop-out-test.true in
    remembers_more (λ q d. On c.args.ctx.now (λ m k. Makes c.args.outs.now k (packet_of q k))) c.loop-out.spelled c.put.new.self c.in_ok-code.code.items 1 c.loop-out.invariant
    (λ m k i. record {
      at = c.loop-out.out-index;
      within = c.loop-out-test.true;
      is = ap (λ (o : List (ℕ × Atom)). after_out o k) (sym is) ∙ sym (c.in_ok-code.ensures m k i);
    })
    c.in_ok-put.ensures.ok
