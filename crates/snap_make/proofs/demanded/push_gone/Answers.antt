use Rattle.std.proofs.Common.{◌≡◌, ◌<◌, ◌∙◌, length, map, take, get_or, ap, arith}
use Rattle.std.proofs.lemmas.List.{get_or_append_left}
use Rattle.snap_faithful.specs.OnDemand.{place_of}
use Rattle.snap_make.specs.Demanded.{gone}
use Rattle.snap_make.proofs.Behind.{behind_more, all_behind}
use Rattle.snap_make.proofs.demanded.push_gone.Goals as goal

pub loop-number-preserved : goal.loop-number-preserved
loop-number-preserved c =
    let f = gone (place_of c.args.tables.now) in
    let old = c.args.bodies.now.items in
    let n = c.loop-number.number in
    let b = c.index.result.now in
    let low : n < length old = omega (arith, c.len-number-end.ensures) in
    let own : b ≡ get_or old n b = c.index.ensures ∙ (λ i. get_or (c.loop-number.invariant i) n b) ∙ get_or_append_left old (map f (take n old)) b n low in
    behind_more f old c.loop-number.bodies.items c.push.new.self.items n b c.gone-row.result low c.loop-number.invariant (c.gone-row.ensures ∙ ap f own) c.in_ok-push.ensures.items

pub returns : goal.returns
returns c =
    all_behind (gone (place_of c.args.tables.now)) c.args.bodies.now.items c.loop-number.bodies.items c.loop-number.number (omega (arith, c.len-number-end.ensures)) c.loop-number.invariant
