-- The fact goes behind those that stay, or those that go.
use Rattle.std.proofs.Common.{◌≡◌, ◌++◌, ◌∷◌, [], List, ap, subst, sym, ◌∙◌}
use Rattle.std.proofs.lemmas.List.Elements.{All-push, All-same}
use Rattle.snap_context.specs.declared.fact.Fact.{Fact}
use Rattle.snap_diagrams.specs.Forgotten.{AreDealt, Simulates}
use Rattle.snap_diagrams.proofs.Forgotten.{dealt_gone, dealt_stay}
use Rattle.snap_diagrams.proofs.forgetting.deal.Goals as goal

pub returns-then-is_done-clause-done : goal.returns-then-is_done-clause-done
returns-then-is_done-clause-done c =
    let P : Fact → Type 0 = Simulates c.args.groups.now.ranks c.args.ctx.now.classes c.args.mark c.args.test.now in
    let added : c.push.new.self.items ≡ c.args.gone.now.items ++ c.args.fact.now ∷ [] = c.in_ok-push.ensures.items ∙ ap (λ (f : Fact). c.args.gone.now.items ++ f ∷ []) c.in_ok-copy.ensures in
    All-same P c.push.new.self.items (c.args.gone.now.items ++ c.args.fact.now ∷ []) added (All-push P c.args.gone.now.items c.args.fact.now c.requires.done (c.is_done.ensures c.if-is_done.true))

pub returns-then-is_done-clause-dealt : goal.returns-then-is_done-clause-dealt
returns-then-is_done-clause-dealt c left others facts e h =
    let added : c.push.new.self.items ≡ c.args.gone.now.items ++ c.args.fact.now ∷ [] = c.in_ok-push.ensures.items ∙ ap (λ (f : Fact). c.args.gone.now.items ++ f ∷ []) c.in_ok-copy.ensures in
    subst (λ (fs : List Fact). AreDealt others facts c.args.stay.now.items fs) (sym added) (dealt_gone c.args.fact.now left others facts c.args.stay.now.items c.args.gone.now.items e h)

pub returns-clause-dealt : goal.returns-clause-dealt
returns-clause-dealt c left others facts e h =
    let added : c.push-2.new.self.items ≡ c.args.stay.now.items ++ c.args.fact.now ∷ [] = c.in_ok-push-2.ensures.items ∙ ap (λ (f : Fact). c.args.stay.now.items ++ f ∷ []) c.in_ok-copy.ensures in
    subst (λ (fs : List Fact). AreDealt others facts fs c.args.gone.now.items) (sym added) (dealt_stay c.args.fact.now left others facts c.args.stay.now.items c.args.gone.now.items e h)
