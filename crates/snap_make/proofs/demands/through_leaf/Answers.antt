use Rattle.std.proofs.Common.{◌<◌, get_or, drop, sym, ap, subst, ◌∙◌, arith}
use Rattle.snap_topology.specs.Tables.{switch_count}
use Rattle.snap_rows.specs.Form as form
use Rattle.snap_faithful.specs.OnDemand.{place_of}
use Rattle.snap_make.proofs.Walking.{place_low}
use Rattle.snap_make.proofs.Settling.{drop_more, place_routed, place_small, settled_none, leaf_far, leaf_done}
use Rattle.snap_make.proofs.demands.through_leaf.Goals as goal

pub returns-then-ups-eq0 : goal.returns-then-ups-eq0
returns-then-ups-eq0 c = settled_none c.args.routes.now (place_of c.args.tables.now) c.args.ups.now c.if-ups-eq0.true c.args.here

pub ways-come-requires-clause-target : goal.ways-come-requires-clause-target
ways-come-requires-clause-target c = subst (λ x. x < switch_count c.args.routes.now) (sym c.place-first.ensures) (place_routed c.args.tables.now c.args.routes.now c.requires.setting (get_or c.args.ups.now 0 c.index-ups-0.result).var)

pub has-requires : goal.has-requires
has-requires c = subst (λ x. x < 256) (sym c.place-first.ensures) (place_small c.args.tables.now c.args.routes.now c.requires.setting (get_or c.args.ups.now 0 c.index-ups-0.result).var)

pub returns-then-not-has : goal.returns-then-not-has
returns-then-not-has c =
    leaf_far c.args.tables.now c.args.routes.now c.requires.setting c.args.ups.now (get_or c.args.ups.now 0 c.index-ups-0.result) (drop 1 c.args.ups.now)
    (drop_more c.args.ups.now 0 (get_or c.args.ups.now 0 c.index-ups-0.result) (omega arith) (ap (get_or c.args.ups.now 0) c.index-ups-0.is)) c.place-first.result c.place-first.ensures c.args.here c.ways-come.result c.ways-come.ensures
    (sym c.has.ensures ∙ c.if-not-has.true)

pub walk-done-requires-clause-from : goal.walk-done-requires-clause-from
walk-done-requires-clause-from c = subst (λ x. x < form.switch_count c.args.tables.now) (sym c.place-first.ensures) (place_low c.args.tables.now c.args.routes.now c.requires.setting (get_or c.args.ups.now 0 c.index-ups-0.result).var)

pub ways-requires-clause-target : goal.ways-requires-clause-target
ways-requires-clause-target c = subst (λ x. x < switch_count c.args.routes.now) (sym c.place-first.ensures) (place_routed c.args.tables.now c.args.routes.now c.requires.setting (get_or c.args.ups.now 0 c.index-ups-0.result).var)

pub returns : goal.returns
returns c =
    leaf_done c.args.tables.now c.args.routes.now c.requires.setting c.args.ups.now (get_or c.args.ups.now 0 c.index-ups-0.result) (drop 1 c.args.ups.now)
    (drop_more c.args.ups.now 0 (get_or c.args.ups.now 0 c.index-ups-0.result) (omega arith) (ap (get_or c.args.ups.now 0) c.index-ups-0.is)) c.place-first.result c.place-first.ensures c.args.here c.ways-come.result c.ways-come.ensures
    (sym c.has.ensures ∙ c.if-not-has.false) c.walk-done.result c.ways.result c.walk-done.ensures c.ways.ensures
