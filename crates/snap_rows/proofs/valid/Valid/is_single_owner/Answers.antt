use Rattle.std.proofs.Common.{subst}
use Rattle.std.specs.Prelude.{◌↔◌, IsTrue}
use Rattle.snap_rows.specs.declared.tables.Tables.{Tables}
use Rattle.snap_rows.specs.SingleOwner.{IsSingleOwner}
use Rattle.snap_rows.proofs.valid.Valid.is_single_owner.Goals as goal

pub returns : goal.returns
returns c = subst (λ (t : Tables). IsTrue c.self.inside.single_owner ↔ IsSingleOwner t) c.self.view_is c.self.invariant.2
