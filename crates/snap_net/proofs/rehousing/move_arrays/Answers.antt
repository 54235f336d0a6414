use Rattle.std.proofs.Common.{◌≡◌, refl, ap, subst, ◌∙◌, arith}
use Rattle.std.proofs.lemmas.Grind.{common_steps}
use Rattle.snap_core.proofs.ArrayListings.{below}
use Rattle.snap_rows.specs.Form.{array_count}
use Rattle.snap_net.specs.Shown.{Holds, gathered}
use Rattle.snap_net.proofs.Gathering.{gathered-all, holds-none, moved-holds, moved-same}
use Rattle.snap_net.proofs.rehousing.move_arrays.Goals as goal

pub loop-var-init : goal.loop-var-init
loop-var-init c = record {
  old = refl;
  new = refl;
  same = λ w p high. refl;
  holds = holds-none c.args.to.now c.args.new.now.items (gathered c.args.from.now c.args.old.now.items) c.requires.empty;
}

pub loop-var-preserved : goal.loop-var-preserved
loop-var-preserved c =
    let from = c.args.from.now in let to = c.args.to.now in let first = c.args.old.now.items in
    let old = c.loop-var.old.items in let new = c.loop-var.new.items in
    let owner = c.owner_of-here.ensures.owner in let owner' = c.owner_of-there.ensures.owner in
    let left = c.in_ok-exchange.ensures.old in let put = c.in_ok-exchange.ensures.new in let same = c.loop-var.invariant.same in
    record {
      old = c.exchange.ensures.olds ∙ c.loop-var.invariant.old;
      new = c.exchange.ensures.news ∙ c.loop-var.invariant.new;
      same = moved-same from to first old c.exchange.new.old.items new c.exchange.new.new.items c.loop-var.var c.owner_of-here.result c.owner_of-there.result owner owner' left put same;
      holds = moved-holds from to first old c.exchange.new.old.items new c.exchange.new.new.items c.loop-var.var c.owner_of-here.result c.owner_of-there.result owner owner' left put same c.loop-var.invariant.holds;
    }

pub returns-clause-holds : goal.returns-clause-holds
returns-clause-holds c =
    let from = c.args.from.now in let first = c.args.old.now.items in
    let end : c.loop-var.var ≡ array_count from = grind (arith, common_steps) in
    subst (Holds c.args.to.now c.loop-var.new.items) (ap (λ n. below n (gathered from first)) end ∙ gathered-all from first) c.loop-var.invariant.holds
