use Rattle.std.proofs.Common.{◌≡◌, ◌++◌, codes, decimal, append-nil, subst, sym, ap, ◌∙◌}
use Rattle.std.specs.List.{flat_map}
use Rattle.std.specs.Prelude.{OnOk}
use Rattle.snap_core.specs.Fields.{count}
use Rattle.snap_core.specs.Packets.{AllLong, listed}
use Rattle.snap_core.specs.Runs.{set_after}
use Rattle.snap_core.proofs.EvalLemmas.{listed-one}
use Rattle.snap_core.proofs.Lengths.{length-one}
use Rattle.snap_report.specs.Reports.{all_lines, block, out_line}
use Rattle.snap_report.proofs.report.put_flow.Goals as goal

pub put_one-requires : goal.put_one-requires
put_one-requires c =
    let n = count c.args.fields.now in let k = c.args.packet.now in
    length-one n k (subst (λ x. AllLong n (set_after x k)) c.in-Same.is c.requires)

pub put_block-requires : goal.put_block-requires
put_block-requires c =
    let n = count c.args.fields.now in
    subst (AllLong n) (ap (λ x. set_after x c.args.packet.now) c.in-Many.is ∙ sym c.in_ok-packets-in-Many.ensures) c.requires

pub returns-in-Same : goal.returns-in-Same
returns-in-Same c =
    let f = out_line c.args.fields.now in let k = c.args.packet.now in
    let line : f k ≡ flat_map f (listed (set_after c.args.flow k)) =
    sym (append-nil (f k)) ∙ ap (flat_map f) (sym (listed-one k)) ∙ ap (λ x. flat_map f (listed (set_after x k))) (sym c.in-Same.is) in
    subst (λ l. OnOk c.put_one.result (c.put_one.new.out.items ≡ c.args.out.now.items ++ (codes "packet " ++ decimal c.args.number ++ codes "\n" ++ l))) line c.put_one.ensures

pub returns-in_ok-packets-in-Many : goal.returns-in_ok-packets-in-Many
returns-in_ok-packets-in-Many c =
    subst (λ s. OnOk c.put_block.result (c.put_block.new.out.items ≡ c.args.out.now.items ++ block (all_lines c.args.fields.now) c.args.number s)) (c.in_ok-packets-in-Many.ensures ∙ ap (λ x. set_after x c.args.packet.now) (sym c.in-Many.is)) c.put_block.ensures
