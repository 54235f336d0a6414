use Rattle.std.proofs.Common.{List, ℕ, ◌≡◌, ◌++◌, length, sym, subst, ◌∙◌}
use Rattle.std.specs.List.{All}
use Rattle.std.proofs.lemmas.List.Sorted.{All-permutation, IsPermutation-sym}
use Rattle.snap_core.specs.Fields.{count}
use Rattle.snap_report.specs.Reports.{out_lines, lost_line}
use Rattle.snap_runs.specs.Reports.{packet_line}
use Rattle.snap_runs.proofs.tally.Tally.put_block.Goals as goal

pub put_lines-requires : goal.put_lines-requires
put_lines-requires c =
    let P : List ℕ → Type 0 = λ k. length k ≡ count c.args.fields.now in
    subst (All P) (sym c.deref-2.ensures.value) (All-permutation P c.args.self.now.delivered.items c.sort_packets.new.self.delivered.items c.sort_packets.ensures.same c.requires)

pub returns : goal.returns
returns c =
    let hops = c.deref.ensures.value ∙ c.sort_packets.ensures.hops in
    let outs = c.deref-2.ensures.value in
    let lost = c.sort_packets.ensures.lost in
    record {
      outs = c.sort_packets.new.self.delivered.items;
      rising = c.in_ok-sort_packets.ensures.rising;
      delivered = IsPermutation-sym c.args.self.now.delivered.items c.sort_packets.new.self.delivered.items c.sort_packets.ensures.same;
      is = c.in_ok-put_lines.ensures ∙ (λ i. c.args.out.now.items ++ (packet_line c.args.number ++ hops i ++ out_lines c.args.fields.now (outs i) ++ lost_line (lost i)));
    }
