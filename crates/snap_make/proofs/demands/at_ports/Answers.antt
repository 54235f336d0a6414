use Rattle.std.proofs.Common.{sym, ap}
use Rattle.std.specs.Prelude.{nat_eq, ◌||◌}
use Rattle.std.specs.List.{list_any}
use Rattle.snap_core.specs.declared.ports.PortAt.{PortAt}
use Rattle.snap_make.proofs.Settling.{ports_more, ports_all}
use Rattle.snap_make.proofs.demands.at_ports.Goals as goal

pub loop-port-init : goal.loop-port-init
loop-port-init c = λ v. sym (ap (λ b. b || list_any (λ (p : PortAt). nat_eq v p.at) c.args.ports.now) (c.none-marks.ensures v))

pub loop-port-preserved : goal.loop-port-preserved
loop-port-preserved c = λ v. ports_more v c.args.ports.now c.loop-port.port-index _ _ c.loop-port-test.true (c.loop-port.invariant v) (c.with-marks.ensures v)

pub returns : goal.returns
returns c = λ v. ports_all v c.args.ports.now c.loop-port.port-index _ c.loop-port-test.false (c.loop-port.invariant v)
