use Rattle.std.proofs.Common.{◌++◌, ◌-◌, take, sym, ap, ◌∙◌}
use Rattle.std.proofs.lemmas.List.{take-map}
use Rattle.snap_rows.specs.Dues.{first_of, seen}
use Rattle.snap_rows.proofs.Lent.{take_both}
use Rattle.snap_rows.proofs.dues.Dues.truncate.Goals as goal

pub returns : goal.returns
returns c =
    let n = c.args.len in
    let us = first_of c.self.inside.first in
    let rest = c.self.inside.rest.items in
    let cut = ap seen c.truncate.ensures.items ∙ sym (take-map (λ u. u.now) c.saturating_sub.result rest) ∙ ap (λ i. take i (seen rest)) (c.saturating_sub.ensures ∙ ap (λ i. n - i) c.count.ensures) in
    (λ j. c.shortened-self-inside.ensures j ++ cut j) ∙ take_both n us (seen rest) ∙ ap (take n) c.self.view_is
