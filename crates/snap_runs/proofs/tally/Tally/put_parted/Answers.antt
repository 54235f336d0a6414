use Rattle.std.proofs.Common.{List, ℕ, ◌≡◌, ◌++◌, length, sym, ap, subst, ◌∙◌}
use Rattle.std.specs.List.{All}
use Rattle.std.proofs.lemmas.Result.{on_ok_weaker}
use Rattle.snap_core.specs.Fields.{count}
use Rattle.snap_runs.specs.Tallies.{PutsBlock, packets_sent}
use Rattle.snap_runs.proofs.tally.Tally.put_parted.Goals as goal

pub put_block-requires : goal.put_block-requires
put_block-requires c =
    let P : List ℕ → Type 0 = λ k. length k ≡ count c.args.fields.now in
    subst (All P) (sym (c.in_ok-deliver_each.ensures.delivered ∙ ap (λ l. l ++ packets_sent c.args.copies.items) c.clear.ensures.items)) c.requires

pub returns : goal.returns
returns c =
    let fields = c.args.fields.now in
    let n = c.args.number in
    let y = c.deliver_each.new.self in
    let before = c.args.out.now.items in
    let after = c.put_block.new.out.items in
    let sent = c.in_ok-deliver_each.ensures.delivered ∙ ap (λ l. l ++ packets_sent c.args.copies.items) c.clear.ensures.items in
    on_ok_weaker c.put_block.result
    (λ put. subst (λ l. PutsBlock fields n c.args.self.now.hops.items (packets_sent c.args.copies.items) l before after) c.deliver_each.ensures.lost
    (subst (λ h. PutsBlock fields n h (packets_sent c.args.copies.items) y.lost before after) c.deliver_each.ensures.hops (subst (λ s. PutsBlock fields n y.hops.items s y.lost before after) sent put)))
    c.put_block.ensures
