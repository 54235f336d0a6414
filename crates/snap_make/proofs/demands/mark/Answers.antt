use Rattle.std.proofs.Common.{Some, length, sym, ap, subst, ◌∙◌, arith}
use Rattle.std.specs.Prelude.{slice_get}
use Rattle.std.proofs.lemmas.List.{length-set}
use Rattle.std.proofs.lemmas.Option.{slice_get-get_or}
use Rattle.snap_make.specs.Demands.{AreWaysBelow}
use Rattle.snap_make.proofs.Settling.{place_small}
use Rattle.snap_make.proofs.Turning.{turn, ways_below}
use Rattle.snap_make.proofs.demands.mark.Goals as goal

pub hand_on-requires-clause-places : goal.hand_on-requires-clause-places
hand_on-requires-clause-places c = λ v. place_small c.args.tables.now c.args.routes.now c.requires.setting v

pub hand_on-requires-clause-ways : goal.hand_on-requires-clause-ways
hand_on-requires-clause-ways c =
    subst (λ n. AreWaysBelow n c.index-bodies-number.result) (sym (length-set c.args.marks.now.items c.args.number c.settled-here.result ∙ c.requires.before.wide))
    (ways_below c.args.tables.now c.args.bodies.now c.requires.nodes c.args.number c.index-bodies-number.result
    (slice_get-get_or c.args.bodies.now c.args.number c.index-bodies-number.result c.requires.low ∙ ap Some (sym c.index-bodies-number.is)))

pub returns : goal.returns
returns c =
    turn c.args.tables.now c.args.routes.now c.requires.setting (slice_get c.args.bodies.now) c.requires.nodes (length c.args.bodies.now) c.args.number c.index-bodies-number.result
    (slice_get-get_or c.args.bodies.now c.args.number c.index-bodies-number.result c.requires.low ∙ ap Some (sym c.index-bodies-number.is))
    c.args.marks.now.items c.hand_on.new.marks.items c.index.result.now c.settled-here.result
    (slice_get-get_or c.args.marks.now.items c.args.number c.index.result.now (let l = c.requires.low in let w = c.requires.before.wide in omega (arith, l, w)) ∙ ap Some (sym c.index.ensures))
    c.requires.before c.settled-here.ensures c.hand_on.ensures
