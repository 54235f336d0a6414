use Rattle.std.proofs.Common.{sym, ◌∙◌}
use Rattle.snap_core.proofs.OneListing.{one_listing}
use Rattle.snap_core.proofs.laws.has_one_listing.Goals as goal

pub returns : goal.returns
returns c = λ m es fs a b. one_listing es fs a.rising b.rising a.nonzero b.nonzero (λ p. a.numbers p ∙ sym (b.numbers p))
