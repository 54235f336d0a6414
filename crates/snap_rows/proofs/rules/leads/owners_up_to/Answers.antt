use Rattle.std.proofs.Common.{◌≡◌, suc, add-one, ◌+◌, ap, sym, subst, ◌∙◌}
use Rattle.snap_rows.specs.Entries.{rank_of, var_of}
use Rattle.snap_rows.specs.Ways.{OwnsBelow}
use Rattle.snap_rows.proofs.rules.leads.owners_up_to.Goals as goal

pub returns : goal.returns
returns c x =
    let t = c.args.tables.now in
    let top : c.rank_of_test.result + 1 ≡ suc (rank_of t (var_of c.args.test.now)) = add-one c.rank_of_test.result ∙ ap suc c.rank_of_test.ensures in
    let all = c.in_ok-owners.ensures x in
    (λ o. all.0 (subst (λ r. OwnsBelow t r x) (sym top) o.1), λ k. (c.if-tables-ne2.false, subst (λ r. OwnsBelow t r x) top (all.1 k)))
