-- Equal atoms, one by one.
use Rattle.std.proofs.Common.{rules}
use Rattle.std.proofs.lemmas.Slice.Eq.{slice_eq-Decides}
use Rattle.snap_diagrams.proofs.equal.same_index.Goals as goal

pub returns : goal.returns
returns c =
    let d = slice_eq-Decides (λ a b. search rules) c.args.a.now c.args.b.now c.eq.result c.eq.ensures in
    (λ t. d.0 (search (rules, t)), λ e. search (rules, d.1 e))
