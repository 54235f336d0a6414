-- The draft knows all facts.
use Rattle.std.proofs.Common.{length, subst}
use Rattle.snap_context.specs.Meets.{IsMet}
use Rattle.snap_context.specs.View.{View}
use Rattle.snap_context.specs.Models.{current}
use Rattle.snap_context.proofs.Drafts.{draft_packet, draft_meets, known_all}
use Rattle.snap_context.proofs.example.example.Goals as goal
use Rattle.snap_context.proofs.example.example.Goals.{After-know_met}

met : (c : After-know_met) → IsMet (length (current c.args.ctx.now c.in_ok-draft-3.draft.grown).classes) (current c.args.ctx.now c.in_ok-draft-3.draft.grown).facts
met c = subst (λ (v : View). IsMet (length v.classes) v.facts) c.current.ensures c.know_met.ensures

pub returns-clause-facts : goal.returns-clause-facts
returns-clause-facts c =
    let d = (goal.at.returns-clause-facts c).After-know_met in
    draft_meets c.args.ctx.now c.in_ok-draft-3.draft c.in_ok-draft-3.ensures.draft (met d)
    (known_all c.args.ctx.now c.in_ok-draft-2.draft c.in_ok-draft-3.draft c.in_ok-draft-2.ensures.places c.in_ok-draft-3.ensures)

pub returns-clause-packet : goal.returns-clause-packet
returns-clause-packet c =
    let d = (goal.at.returns-clause-packet c).After-know_met in
    draft_packet c.args.ctx.now c.in_ok-draft-3.draft c.in_ok-draft-3.ensures.draft (met d)

pub returns-clause-store : goal.returns-clause-store
returns-clause-store c = c.in_ok-draft-3.ensures.draft.small

pub returns-clause-only : goal.returns-clause-only
returns-clause-only c = λ n a. c.in_ok-draft-3.ensures.only n a (c.in_ok-draft-2.ensures.only n a (λ q l. c.in_ok-draft.ensures.empty q))
