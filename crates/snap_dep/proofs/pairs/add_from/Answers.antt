use Rattle.std.proofs.Common.{◌∙◌, sym, arith}
use Rattle.std.proofs.lemmas.Bool.{false≢true}
use Rattle.snap_dep.specs.Relations.{Relates}
use Rattle.snap_dep.proofs.PairLemmas.{list_more, list_same, list_next}
use Rattle.snap_dep.proofs.Rows.{within_rows}
use Rattle.snap_dep.proofs.pairs.add_from.Goals as goal
use Rattle.snap_dep.proofs.pairs.add_from.Goals.{then-has_var+in_ok-push, else-has_var}

pub loop-to-preserved : goal.loop-to-preserved
loop-to-preserved c =
    elim c.if-has_var.branch [
      | then-has_var+in_ok-push w ↦
          let related : Relates c.args.rows.now c.args.from c.loop-to.to = sym c.has_var.ensures ∙ w.if-has_var.true in
          rw (w.found-is, w.in_ok-push.ensures.items) (list_more (Relates c.args.rows.now) c.args.from c.loop-to.to _ c.loop-to.invariant related)
      | else-has_var w ↦
          rw w.found-is (list_same (Relates c.args.rows.now) c.args.from c.loop-to.to _ c.loop-to.invariant (λ r. false≢true (sym w.if-has_var.false ∙ c.has_var.ensures ∙ r)))
    ]

pub returns : goal.returns
returns c = list_next (Relates c.args.rows.now) c.args.from c.loop-to.to _ c.loop-to.invariant (λ a b r. (let l = within_rows c.args.rows.now a b r in omega (arith, l)))
