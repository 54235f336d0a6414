use Rattle.std.proofs.Common.{List, ℕ, ◌≡◌, ◌++◌, [], ◌∷◌, length, rules, sym, subst, ◌∙◌}
use Rattle.std.specs.List.{All}
use Rattle.std.proofs.lemmas.List.Elements.{All-cons, All-nil}
use Rattle.std.proofs.lemmas.List.Sorted.{IsPermutation-refl}
use Rattle.std.proofs.lemmas.Result.{on_ok_weaker}
use Rattle.snap_core.specs.Fields.{count}
use Rattle.snap_report.specs.Reports.{out_lines, lost_line}
use Rattle.snap_runs.specs.Reports.{packet_line}
use Rattle.snap_runs.proofs.tally.Tally.put_alone.Goals as goal

pub put_lines-requires : goal.put_lines-requires
put_lines-requires c =
    let P : List ℕ → Type 0 = λ k. length k ≡ count c.args.fields.now in
    subst (All P) (sym c.from_ref.ensures.value) (All-cons P c.args.packet.now [] c.requires (All-nil P))

pub returns : goal.returns
returns c =
    let k = c.args.packet.now in
    let hops = c.deref.ensures.value in
    let outs = c.from_ref.ensures.value in
    on_ok_weaker c.put_lines.result (λ put. record {
      outs = k ∷ [];
      rising = search rules;
      delivered = IsPermutation-refl (k ∷ []);
      is = put ∙ (λ i. c.args.out.now.items ++ (packet_line c.args.number ++ hops i ++ out_lines c.args.fields.now (outs i) ++ lost_line 0));
    })
    c.put_lines.ensures
