use Rattle.std.proofs.Common.{◌≡◌, [], ◌∷◌, ◌++◌, refl, sym, ap, ◌∙◌, append_assoc, append-nil}
use Rattle.std.proofs.lemmas.List.{nil_from_length}
use Rattle.std.specs.Vec.Iter.{into_iter_items}
use Rattle.snap_runs.specs.Tallies.{packets_sent}
use Rattle.snap_runs.proofs.tally.Tally.deliver_each.Goals as goal

pub loop-sent-init : goal.loop-sent-init
loop-sent-init c = record { delivered = ap (λ l. c.args.self.now.delivered.items ++ packets_sent l) c.into_iter-sent-iterator.ensures.into_iter_gives.0; lost = refl; hops = refl }

pub loop-sent-preserved : goal.loop-sent-preserved
loop-sent-preserved c =
    let y = c.loop-sent.self.delivered.items in
    let rest = into_iter_items c.next.new.self in
    let i = c.loop-sent.invariant in
    record {
      delivered =
          ap (λ l. l ++ packets_sent rest) c.in_ok-deliver.ensures.delivered
          ∙ append_assoc y (c.in-Some.sent.packet ∷ []) (packets_sent rest)
          ∙ ap (λ l. y ++ packets_sent l) (sym c.in-Some.ensures.steps.0)
          ∙ i.delivered;
      lost = c.deliver.ensures.lost ∙ i.lost;
      hops = c.deliver.ensures.hops ∙ i.hops;
    }

pub returns-clause-delivered : goal.returns-clause-delivered
returns-clause-delivered c =
    let y = c.loop-sent.self.delivered.items in
    let left = c.loop-sent.sent-iterator in
    let none : into_iter_items left ≡ [] = nil_from_length (into_iter_items left) (sym left.rest.ok.0 ∙ c.in-None.ensures.steps.0) in
    sym (append-nil y) ∙ ap (λ l. y ++ packets_sent l) (sym none) ∙ c.loop-sent.invariant.delivered
