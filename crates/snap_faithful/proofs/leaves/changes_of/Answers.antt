use Rattle.std.proofs.Common.{sym, subst, ◌∙◌, ap, ◌++◌, ◌≡◌, ◌≤◌, length}
use Rattle.std.proofs.lemmas.List.{append-nil, drop_all}
use Rattle.snap_core.specs.Tests.{IsRisingOut}
use Rattle.snap_faithful.specs.Leaves.{changes}
use Rattle.snap_faithful.proofs.Changing.{changes_rise}
use Rattle.snap_faithful.proofs.leaves.changes_of.Goals as goal

pub new-requires : goal.new-requires
new-requires c =
    let same = c.parts-part-items.ensures.list in
    let all : c.loop-part.parts.items ≡ changes c.args.out.now =
    sym (append-nil c.loop-part.parts.items) ∙ ap (λ l. c.loop-part.parts.items ++ changes l) (sym (drop_all c.loop-part.part-index c.args.out.now (subst (λ o. length o ≤ c.loop-part.part-index) same c.loop-part-test.false))) ∙ c.loop-part.invariant in
    subst IsRisingOut (sym all) (changes_rise c.args.out.now c.parts-part-items.ensures.rising)
