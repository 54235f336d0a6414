use Rattle.std.proofs.Common.{◌∙◌, ap, sym}
use Rattle.std.specs.Prelude.{is_some, option_map, slice_index}
use Rattle.snap_core.specs.declared.ports.PortAt.{PortAt}
use Rattle.snap_core.specs.Ports.{port_in}
use Rattle.snap_rows.proofs.Ports.{port_is_found}
use Rattle.snap_rows.proofs.look.out_port.Goals as goal

pub returns-in-Some-clause-some : goal.returns-in-Some-clause-some
returns-in-Some-clause-some c =
    let ps = c.args.ports.now in
    let n = slice_index c.args.packet.now 1 in
    sym (port_is_found ps n ∙ ap (λ o. is_some o) (ap (port_in ps) (sym c.get.ensures) ∙ sym c.port.ensures.at) ∙ ap (λ o. is_some (option_map (λ (p : PortAt). p.at) o)) c.in-Some.is)

pub returns-in-None-clause-some : goal.returns-in-None-clause-some
returns-in-None-clause-some c =
    let ps = c.args.ports.now in
    let n = slice_index c.args.packet.now 1 in
    sym (port_is_found ps n ∙ ap (λ o. is_some o) (ap (port_in ps) (sym c.get.ensures) ∙ sym c.port.ensures.at) ∙ ap (λ o. is_some (option_map (λ (p : PortAt). p.at) o)) c.in-None.is)
