use Rattle.std.proofs.Common.{◌≡◌, ◌≤◌, map, ap, ◌∙◌, arith}
use Rattle.std.specs.Prelude.{is_some}
use Rattle.snap_core.specs.declared.ports.PortAt.{PortAt}
use Rattle.snap_core.specs.Switch.{goes_out}
use Rattle.snap_core.proofs.FieldLemmas.{count-fields}
use Rattle.snap_rows.specs.declared.tables.Tables.{Tables}
use Rattle.snap_rows.specs.Entries.{port_numbers}
use Rattle.snap_rows.specs.Form.{comps}
use Rattle.snap_rows.proofs.Ports.{spread_one}
use Rattle.snap_rows.proofs.fork.apply_out.Goals as goal

pub out_port-requires-clause-packet : goal.out_port-requires-clause-packet
out_port-requires-clause-packet c =
    let two : 2 ≤ comps c.args.tables.now = count-fields c.args.tables.now.fields c.tables.ensures.form.fields in
    let long = c.change.ensures.length in
    let e = c.requires.packet in
    omega (arith, two, long, e)

pub returns-clause-turned : goal.returns-clause-turned
returns-clause-turned c =
    let t = c.args.tables.now in
    let k = c.change.new.packet in
    let ports = c.items.ensures ∙ ap (λ (t : Tables). t.ports) c.tables.ensures.tables in
    let goes : is_some c.out_port.result ≡ goes_out (port_numbers t) k = c.out_port.ensures.some ∙ ap (λ ps. goes_out (map (λ (p : PortAt). p.port) ps) k) ports in
    spread_one t c.args.out.now c.args.packet.now k c.out_port.result c.in_ok-change.ensures.after goes c.out_port.ensures.same
