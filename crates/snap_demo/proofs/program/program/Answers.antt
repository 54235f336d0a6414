use Rattle.snap_demo.proofs.Formed.{arrays_apart, program_well_formed}
use Rattle.snap_demo.proofs.program.program.Goals as goal

pub returns-clause-form : goal.returns-clause-form
returns-clause-form c =
    program_well_formed c.args.ports _ (λ i. record { fields = c.in_ok-fields.ensures i; arrays = c.in_ok-arrays.ensures i; body = c.in_ok-body.ensures.core i }) c.in_ok-body.ensures.mild

pub returns-clause-apart : goal.returns-clause-apart
returns-clause-apart c = arrays_apart c.in_ok-body.field-0 c.in_ok-body.ensures.depends
