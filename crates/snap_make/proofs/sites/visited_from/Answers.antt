use Rattle.std.proofs.Common.{rules, ◌≡◌, ◌<◌, length, sym, ap, ◌∙◌, arith}
use Rattle.std.specs.Prelude.{◌&&◌, nat_eq, nat_le, not}
use Rattle.std.specs.List.{list_any}
use Rattle.std.proofs.lemmas.Bool.{ne_eqb}
use Rattle.snap_rows.specs.declared.tables.ArrayAt.{ArrayAt}
use Rattle.snap_make.proofs.Pushed.{some_port}
use Rattle.snap_make.proofs.sites.visited_from.Goals as goal

pub returns-then-ports-eq0 : goal.returns-then-ports-eq0
returns-then-ports-eq0 c = λ q.
    let none : length c.args.ports.now ≡ 0 = search rules in
    sym (ap (λ b. b && list_any (λ (a : ArrayAt). nat_eq a.at c.args.at && nat_le a.rank q) c.args.arrays.now) (some_port c.args.ports.now ∙ ap (λ n. not (nat_eq n 0)) none))

pub returns-else-ports-eq0 : goal.returns-else-ports-eq0
returns-else-ports-eq0 c = λ q.
    let some : 0 < length c.args.ports.now = search rules in
    c.least_rank.ensures q
    ∙ sym (ap (λ b. b && list_any (λ (a : ArrayAt). nat_eq a.at c.args.at && nat_le a.rank q) c.args.arrays.now) (some_port c.args.ports.now ∙ ap not (ne_eqb (length c.args.ports.now) 0 (λ e. omega (arith, e, some)))))
