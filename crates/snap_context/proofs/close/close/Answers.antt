-- Each turn follows from the facts, and has fewer roots.
use Rattle.std.proofs.Common.{◌≡◌, List, length, Some, sym, subst, ◌∙◌}
use Rattle.snap_core.specs.declared.policy.Term.{Term}
use Rattle.snap_core.specs.Inputs.{IsPacket}
use Rattle.snap_context.specs.Closing.{merged, RulesOf, IsJoin, MeetsWith}
use Rattle.snap_context.proofs.Merging.{merged_some, merged_fits, Improves}
use Rattle.snap_context.proofs.close.close.Goals as goal
use Rattle.snap_context.proofs.close.close.Goals.{Else-not-merge}

join : (c : Else-not-merge) → IsJoin (MeetsWith c.args.fact.now c.args.facts.now) c.closing.classes c.in-Join.left c.in-Join.right
join c = rw (c.in-Err.is, c.in-Join.is) at c.closing.invariant.2

some : (c : Else-not-merge) → merged c.closing.classes c.in-Join.left c.in-Join.right ≡ Some c.merge.new.classes
some c = c.if-not-merge.ensures

better : (c : Else-not-merge) → Improves c.closing.classes c.merge.new.classes
better c =
    let j = join c in
    merged_some c.closing.classes c.merge.new.classes c.in-Join.left c.in-Join.right c.closing.invariant.0 j.left j.right j.differ (some c)

pub look-found-requires-clause-classes : goal.look-found-requires-clause-classes
look-found-requires-clause-classes c = (better c).classes

pub closing-smaller : goal.closing-smaller
closing-smaller c = (better (goal.at.closing-smaller c).Else-not-merge).fewer

pub closing-preserved : goal.closing-preserved
closing-preserved c =
    let d = (goal.at.closing-preserved c).Else-not-merge in (
      (better d).classes,
      (λ m k p meets fits.
          let q : IsPacket (length c.closing.classes) k = record { long = p.long ∙ sym c.closing.auto.classes; numbers = p.numbers } in
          merged_fits c.closing.classes c.merge.new.classes c.in-Join.left c.in-Join.right k (join d).left (join d).right (some d)
          (c.closing.invariant.1 m k p meets fits) ((join d).equal m k q meets (c.closing.invariant.1 m k p meets fits))),
      c.look-found.ensures,
    )

pub look-found-requires-clause-rules : goal.look-found-requires-clause-rules
look-found-requires-clause-rules c = subst (λ (cl : List Term). RulesOf cl c.args.facts.now) c.requires.first c.requires.rules
