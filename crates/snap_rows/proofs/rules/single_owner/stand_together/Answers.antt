use Rattle.std.proofs.Common.{◌<◌, length, sym, ap, ◌∙◌, arith}
use Rattle.snap_rows.specs.declared.tables.ArrayAt.{ArrayAt}
use Rattle.snap_rows.proofs.rules.single_owner.stand_together.Goals as goal

pub returns : goal.returns
returns c =
    let xs = c.args.arrays.now in
    let a = c.index-arrays-0.result in
    let some : 0 < length xs = let e = c.if-arrays-eq0.false in omega arith in (
      λ h. (a.at, c.stand.ensures.0 h),
      λ one. c.stand.ensures.1 (λ i d within. one.1 i d within ∙ sym (ap (λ (x : ArrayAt). x.at) c.index-arrays-0.is ∙ one.1 0 a some)),
    )
