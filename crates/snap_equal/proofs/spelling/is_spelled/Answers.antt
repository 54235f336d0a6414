-- The out of the same code.
use Rattle.std.proofs.Common.{List, ℕ, sym, ap, ◌∙◌, subst}
use Rattle.snap_core.specs.Tests.{after_out}
use Rattle.snap_equal.specs.Made.{Makes, packet_of}
use Rattle.snap_equal.specs.Told.{On}
use Rattle.snap_equal.proofs.PacketCodes.{by_some}
use Rattle.snap_equal.proofs.spelling.is_spelled.Goals as goal

pub returns : goal.returns
returns c = λ e. by_some (On c.args.ctx.now (λ m k. Makes c.args.others.now k (after_out c.args.out.now k))) c.get.result (sym c.is_some.ensures ∙ e)
    (λ d is m k i. subst (λ (x : List ℕ). Makes c.args.others.now k x) (ap (λ (q : List ℕ). packet_of q k) c.deref.ensures.value ∙ c.in_ok-code.ensures m k i)
    (c.requires.spelled c.deref.result.now d (sym c.get.ensures ∙ is) m k i))
