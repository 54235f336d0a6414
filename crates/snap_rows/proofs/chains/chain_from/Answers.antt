use Rattle.std.proofs.Common.{◌++◌, ◌∷◌, [], sym, ap, subst, ◌∙◌}
use Rattle.snap_rows.proofs.Jumps.{CasesLead, one_leads, more_lead, cases_lead_so, comp_below}
use Rattle.snap_rows.proofs.chains.chain_from.Goals as goal

pub loop-next-init : goal.loop-next-init
loop-next-init c =
    let t = c.args.tables.now in
    let s = c.in-Some.step in
    record {
      comp = comp_below t c.requires.form c.args.first s.comp s.num s.yes s.no c.in-Some.ensures;
      lead = subst (λ cs. CasesLead t c.args.first s.comp cs s.no) (sym (c.in_ok-push.ensures.items ∙ ap (λ cs. cs ++ (s.num, s.yes) ∷ []) c.new-cases.ensures.items))
          (one_leads t c.requires.valid c.requires.form c.args.first s.comp s.num s.yes s.no c.in-Some.ensures);
    }

pub loop-next-preserved : goal.loop-next-preserved
loop-next-preserved c =
    let t = c.args.tables.now in
    let comp = c.in-Some.step.comp in
    let s = c.in-Some-next_step.next in
    record {
      comp = c.loop-next.invariant.comp;
      lead = subst (λ cs. CasesLead t c.args.first comp cs s.no) (sym c.in_ok-push-2.ensures.items)
          (more_lead t c.requires.valid c.requires.form c.args.first comp c.loop-next.cases.items c.loop-next.rest s.num s.yes s.no c.loop-next.invariant.lead c.in-Some-next_step.ensures.1);
    }

pub returns : goal.returns
returns c = record {
  comp = c.loop-next.invariant.comp;
  jumps = cases_lead_so c.args.tables.now c.args.first c.in-Some.step.comp c.loop-next.cases.items c.in_ok-of.field-0 c.loop-next.rest c.in_ok-of.ensures c.loop-next.invariant.lead;
}
