use Rattle.std.proofs.Common.{◌∙◌, subst, sym}
use Rattle.snap_diagrams.specs.Bounds.{Sizes}
use Rattle.snap_build.specs.Parts.{PolIn}
use Rattle.snap_build.proofs.Wholly.{form_in}
use Rattle.snap_diagram_tests.proofs.given.diagram.Goals as goal

pub policy-requires-clause-fits : goal.policy-requires-clause-fits
policy-requires-clause-fits c =
    let comps = c.in_ok-ctx.ensures.1 ∙ c.count.ensures.count in
    subst (λ (s : Sizes). PolIn s c.args.program.now.body) (λ i. record { comps = sym comps i; arrays = sym c.in_ok-groups.ensures.count i }) (form_in c.args.program.now c.requires)
