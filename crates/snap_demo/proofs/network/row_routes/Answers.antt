use Rattle.std.proofs.Common.{sym, subst}
use Rattle.snap_topology.specs.Tables.{IsUnreachable}
use Rattle.snap_topology.specs.Form.{IsWellFormed}
use Rattle.snap_demo.proofs.Row.{row_well_formed, row_is_joined}
use Rattle.snap_demo.proofs.network.row_routes.Goals as goal

pub routes-requires : goal.routes-requires
routes-requires c = subst IsWellFormed (sym c.requires.topology) (row_well_formed c.args.count c.requires.some c.requires.few)

pub unreachable-requires : goal.unreachable-requires
unreachable-requires c =
    let a = c.in-Err-Unreachable.field-0-0 in
    let b = c.in-Err-Unreachable.field-0-1 in
    let told = rw c.in-Err-Unreachable.field-0-is at c.in-Err-Unreachable.ensures.unreachable in
    row_is_joined c.args.count c.requires.some c.requires.few a b (subst (λ t. IsUnreachable t a b) c.requires.topology told)
