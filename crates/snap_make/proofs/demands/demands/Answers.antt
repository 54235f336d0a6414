use Rattle.std.proofs.Common.{List, length, slice_set, sym, ap, subst, ◌∙◌}
use Rattle.std.specs.Prelude.{slice_get, nat_eq}
use Rattle.std.specs.List.{list_any}
use Rattle.snap_core.specs.declared.ports.PortAt.{PortAt}
use Rattle.snap_make.specs.declared.switches.Switches.{Switches}
use Rattle.snap_make.specs.Demands.{AreDemanded}
use Rattle.snap_make.proofs.Turning.{begun}
use Rattle.snap_make.proofs.demands.demands.Goals as goal

pub loop-number-init : goal.loop-number-init
loop-number-init c =
    subst (λ (l : List Switches). AreDemanded c.args.tables.now (slice_get c.args.bodies.now) (length c.args.bodies.now) 0 (slice_set l 0 c.at_ports.result)) (sym (c.in_ok-marks.ensures.items_if_clones_equal (λ y e. e)))
    (begun c.args.tables.now c.args.routes.now c.requires.setting (slice_get c.args.bodies.now) (length c.args.bodies.now) c.requires.root c.none.result c.at_ports.result c.none.ensures
    (λ v. c.at_ports.ensures v ∙ ap (list_any (λ (p : PortAt). nat_eq v p.at)) c.items.ensures))
