use Rattle.std.proofs.Common.{◌≡◌, length, take, drop, ◌++◌, subst, sym, ap, ◌∙◌, rules}
use Rattle.std.proofs.Math.Seq.{take-append_seam}
use Rattle.snap_core.specs.Fields.{count}
use Rattle.snap_dep.specs.Dependencies.{Depends, Reaches, UsesBelow}
use Rattle.snap_dep.specs.Relations.{IsRelation}
use Rattle.snap_dep.proofs.Below.{UsesBelow-fits}
use Rattle.snap_dep.proofs.calls.chained.Goals as goal

pub returns-clause-rows : goal.returns-clause-rows
returns-clause-rows c =
    let p = c.args.program.now.body in
    let long : length c.deref_mut.result.now ≡ length c.args.program.now.arrays = search rules in
    let below : UsesBelow (length c.deref_mut.result.now) p = subst (λ n. UsesBelow n p) (sym long) (UsesBelow-fits (count c.args.program.now.fields) (length c.args.program.now.arrays) p c.requires.fits) in
    let same : IsRelation (Depends p) c.deref_mut.result.now = rw c.deref_mut.ensures.value c.in_ok-rows.ensures.rows in
    let size : c.in_ok-rows.rows.len ≡ length c.close.new.rows = search rules in
    let back : take c.in_ok-rows.rows.len (c.close.new.rows ++ drop (length c.close.new.rows) c.in_ok-rows.rows.items) ≡ c.close.new.rows = ap (λ n. take n (c.close.new.rows ++ drop (length c.close.new.rows) c.in_ok-rows.rows.items)) size ∙ take-append_seam c.close.new.rows (drop (length c.close.new.rows) c.in_ok-rows.rows.items) in
    subst (IsRelation (Reaches p)) (sym back) (c.close.ensures p below same)
