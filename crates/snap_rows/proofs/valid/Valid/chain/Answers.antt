use Rattle.std.proofs.Common.{◌≡◌, subst}
use Rattle.std.specs.Prelude.{IfSome}
use Rattle.snap_rows.specs.declared.tables.Tables.{Tables}
use Rattle.snap_rows.specs.Chains.{IsChain}
use Rattle.snap_rows.proofs.valid.Valid.chain.Goals as goal

pub returns : goal.returns
returns c = subst (λ (t : Tables). IfSome c.at.result (λ chain. IsChain t chain.now × (chain.now.first ≡ c.args.number))) c.self.view_is (c.at.ensures c.self.inside.tables c.self.invariant.4)
