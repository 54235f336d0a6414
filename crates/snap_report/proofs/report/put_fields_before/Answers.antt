use Rattle.std.proofs.Common.{◌≡◌, ℕ, ◌+◌, ◌-◌, ◌++◌, ◌∷◌, drop, take, sym, ap, ◌∙◌, arith}
use Rattle.snap_core.specs.declared.program.Field.{Field}
use Rattle.snap_core.specs.Fields.{count, width}
use Rattle.snap_report.specs.Reports.{field_text, fields_text}
use Rattle.snap_report.proofs.FieldLemmas.{count-take_more, from_field, fields_text-more}
use Rattle.snap_report.proofs.report.put_fields_before.Goals as goal

pub overflow_sub-comp : goal.overflow_sub-comp
overflow_sub-comp c =
    let fs = c.args.fields.now in
    let i = c.loop-i.i in
    let j : ℕ = i - 1 in
    let next : j + 1 ≡ i = omega arith in
    let own : count (take i fs) ≡ count (take j fs) + width c.index-fields-i.result.prefix =
    ap (λ n. count (take n fs)) (sym next) ∙ count-take_more fs j c.index-fields-i.result (omega arith) c.index-fields-i.is in
    omega (arith, own, c.loop-i.invariant.before, c.width-comp.ensures)

pub loop-i-preserved : goal.loop-i-preserved
loop-i-preserved c =
    let fs = c.args.fields.now in
    let k = c.args.packet.now in
    let f : Field = c.index-fields-i.result in
    let i = c.loop-i.i in
    let j : ℕ = i - 1 in
    let n : ℕ = c.loop-i.comp - c.width-comp.result in
    let next : j + 1 ≡ i = omega arith in
    let own : count (take i fs) ≡ count (take j fs) + width f.prefix =
    ap (λ m. count (take m fs)) (sym next) ∙ count-take_more fs j f (omega arith) c.index-fields-i.is in
    let from : drop j fs ≡ f ∷ drop i fs = from_field fs j i f (omega arith) next c.index-fields-i.is in
    let counted : count (drop j fs) ≡ width f.prefix + count (drop i fs) = ap count from in
    let behind : c.loop-i.comp ≡ n + width f.prefix = omega (arith, own, c.loop-i.invariant.before, c.width-comp.ensures) in
    let rest = drop c.args.end c.args.buffer.now in
    record {
      begin = omega arith;
      before = omega (arith, own, c.loop-i.invariant.before, c.width-comp.ensures);
      comps = omega (arith, counted, behind, c.loop-i.invariant.comps);
      text = c.put_field_before-begin.ensures.text
          ∙ ap (λ l. field_text f n k ++ l) c.loop-i.invariant.text
          ∙ fields_text-more n c.loop-i.comp f (drop i fs) k rest behind
          ∙ ap (λ l. fields_text n l k ++ rest) (sym from);
    }
