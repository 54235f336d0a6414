-- The second part's updates behind those of the first.
use Rattle.std.proofs.Common.{◌++◌, List, sym, ap, ◌∙◌, subst}
use Rattle.std.proofs.lemmas.List.{append_assoc}
use Rattle.snap_core.specs.declared.policy.Update.{Update}
use Rattle.snap_compose.specs.Additions.{AreSame}
use Rattle.snap_build.specs.Parts.{updates_of}
use Rattle.snap_build.proofs.Alone.{same_appended}
use Rattle.snap_build.proofs.updating.+push_all.Goals as goal

pub returns-in_ok-behind-in-Seq-clause-same : goal.returns-in_ok-behind-in-Seq-clause-same
returns-in_ok-behind-in-Seq-clause-same t c =
    let old : List Update = c.args.updates.now.items in
    let first : List Update = updates_of c.deref.result.now in
    let second : List Update = updates_of c.deref-in-Seq.result.now in
    subst (AreSame c.push_all-in-Seq.new.updates.items)
    (append_assoc old first second
    ∙ (λ i. old ++ (updates_of (c.deref.ensures i) ++ updates_of (c.deref-in-Seq.ensures i)))
    ∙ ap (λ p. old ++ updates_of p) (sym c.in-Seq.is))
    (same_appended c.push_all-in-Seq.new.updates.items c.push_all.new.updates.items (old ++ first) second c.in_ok-behind-in-Seq.ensures.same c.in_ok-before-in-Seq.ensures.same)
