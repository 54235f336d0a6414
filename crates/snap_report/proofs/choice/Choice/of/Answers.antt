use Rattle.std.proofs.Common.{[], ◌∷◌, ◌++◌, subst, sym, slice_get, slice_index, option_and_then}
use Rattle.std.specs.Prelude.{unwrap_or}
use Rattle.snap_core.specs.Cases.{case_at}
use Rattle.snap_report.specs.Choices.{ComesTo, seen}
use Rattle.snap_report.proofs.ChoiceLemmas.{Leads, leads-first, leads-more, leads-picked}
use Rattle.snap_report.proofs.choice.Choice.of.Goals as goal

pub loop-next-init : goal.loop-next-init
loop-next-init c =
    let pol = c.args.pol.now in let comp = c.in-Some.first.comp in let bs = c.new-branches.result.items in
    subst (λ cs. Leads pol comp cs bs pol) (sym c.new-cases.ensures.items) (leads-first pol comp bs)

pub loop-next-preserved : goal.loop-next-preserved
loop-next-preserved c =
    let pol = c.args.pol.now in let comp = c.in-Some.first.comp in let next = c.in-Some-test_of.next in
    let cs = c.loop-next.cases.items in let bs = c.loop-next.branches.items in
    let more = leads-more pol comp cs bs c.loop-next.rest.now next.num next.yes next.no.now c.loop-next.invariant c.in-Some-test_of.ensures.test in
    subst (λ l. Leads pol comp c.put.new.cases.items l next.no.now) (sym c.in_ok-put.ensures.branches)
    (subst (λ l. Leads pol comp l (bs ++ next.yes ∷ []) next.no.now) (sym c.in_ok-put.ensures.cases) more)

pub returns : goal.returns
returns c =
    let pol = c.args.pol.now in let comp = c.in-Some.first.comp in
    let cs = c.loop-next.cases.items in let bs = c.loop-next.branches.items in let rest = c.loop-next.rest.now in
    record {
      comp = c.in-Some.ensures.test.comp;
      comes = λ k.
          subst (λ o. ComesTo pol (unwrap_or (option_and_then (slice_get (seen bs)) o) rest) k) (sym (c.in_ok-of.ensures (slice_index k comp)))
          (leads-picked pol bs rest k (case_at cs (slice_index k comp)) (c.loop-next.invariant k));
    }
