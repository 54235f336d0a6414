use Rattle.std.proofs.Common.{◌≡◌, ◌<◌, false, true, length, get_or, List, ℕ, sym, subst, arith}
use Rattle.std.proofs.Math.ListN.{set}
use Rattle.std.proofs.lemmas.Grind.{common_steps}
use Rattle.snap_rows.specs.Following.{Grows}
use Rattle.snap_rows.proofs.Following.{grows_one}
use Rattle.snap_rows.proofs.rules.follow.Search.mark_place.Goals as goal

pub returns-in_ok-push-clause-grows : goal.returns-in_ok-push-clause-grows
returns-in_ok-push-clause-grows c =
    let t = c.args.tables.now in
    let marks = c.args.self.now.marks.items in
    let left = c.args.self.now.left.items in
    let i = c.args.place in
    let within : i < length marks = let h = c.requires.place in let e = c.requires.long in omega arith in
    let none : get_or marks i false ≡ false = grind (arith, common_steps) in
    subst (λ (l : List ℕ). Grows t marks left (set marks i true) l) (sym c.in_ok-push.ensures.items) (grows_one t marks left i within none c.requires.reached)
