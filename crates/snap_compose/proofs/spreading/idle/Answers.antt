-- A leaf of no outs and no updates.
use Rattle.std.proofs.Common.{◌∙◌}
use Rattle.std.proofs.lemmas.Result.{IfOk-weaker}
use Rattle.snap_diagrams.specs.Diagrams.{Only}
use Rattle.snap_diagrams.specs.declared.leaf.Leaf.TheVariants.{Go as Goes}
use Rattle.snap_compose.proofs.spreading.idle.Goals as goal

pub returns-clause-bare : goal.returns-clause-bare
returns-clause-bare c =
    IfOk-weaker c.only.result _ _ (λ d is. is ∙ (λ i. Only (Goes (record { outs = (c.new-2.ensures ∙ c.new.ensures.items) i; ups = (c.new-4.ensures ∙ c.new-3.ensures.items) i; reads = 0; writes = 0 })))) c.only.ensures.is
