use Rattle.std.proofs.Common.{◌<◌, ◌+◌, ◌∷◌, [], sym, subst, ◌∙◌}
use Rattle.snap_rows.specs.Form.{switch_count}
use Rattle.snap_rows.specs.Home.{AtHome}
use Rattle.snap_rows.specs.Stepping.{FateArrives, FateFits}
use Rattle.snap_rows.specs.Weight.{weight}
use Rattle.snap_net.specs.Passing.{Comes, EndsPassing, IsHeard, StepsSo, entering, reached}
use Rattle.snap_net.proofs.Carried.{OnWay, comes_none, comes_so, comes_sought, comes_then, heard_both, heard_none, heard_way, reached_home, sought_lighter, there}
use Rattle.snap_net.proofs.passing.fly.Goals as goal

pub loop-fate-init : goal.loop-fate-init
loop-fate-init g c =
    let t = c.args.tables.now in
    let i = c.args.number in
    let saw = g.W.Watch.saw t in
    let watch = c.args.watch.now in
    let x = entering i c.args.from c.args.packet.now in
    record {
      comes = comes_none t (i + 1) c.args.stores.now.items (x ∷ []) (IsHeard saw i watch watch [] 0) (heard_none saw i watch);
      count = c.requires.stores;
      at = c.requires.from;
      home = c.requires.home;
    }

pub cross-requires-clause-target : goal.cross-requires-clause-target
cross-requires-clause-target g c = (subst (FateFits c.args.tables.now c.loop-fate.at) c.in-Seek.is c.in_ok-fate.ensures.fits).0

pub cross-requires-clause-aims : goal.cross-requires-clause-aims
cross-requires-clause-aims g c = (subst (FateFits c.args.tables.now c.loop-fate.at) c.in-Seek.is c.in_ok-fate.ensures.fits).1

pub loop-fate-smaller : goal.loop-fate-smaller
loop-fate-smaller g c =
    let t = c.args.tables.now in
    let k = c.args.packet.now in
    let loop = c.loop-fate.invariant in
    let w = c.loop-fate.at in
    let h = c.loop-fate.head in
    let x = c.in-Seek.target in
    let next = c.in-Seek.next in
    let old = c.loop-fate.stores.items in
    let new = c.step_in.new.stores.items in
    let fits = subst (FateFits t w) c.in-Seek.is c.in_ok-fate.ensures.fits in
    let made = subst (StepsSo t w k h old new) c.in-Seek.is c.in_ok-fate.ensures.steps in
    subst (λ y. weight t y next < weight t w h) (sym c.reached-at.ensures) (sought_lighter t c.tables-known.ensures.valid c.tables-known.ensures.form old new w x k h next loop.at loop.home fits.1 made)

pub loop-fate-preserved : goal.loop-fate-preserved
loop-fate-preserved g c =
    let t = c.args.tables.now in
    let k = c.args.packet.now in
    let i = c.args.number in
    let n = i + 1 in
    let saw = g.W.Watch.saw t in
    let valid = c.tables-known.ensures.valid in
    let form = c.tables-known.ensures.form in
    let loop = c.loop-fate.invariant in
    let w = c.loop-fate.at in
    let h = c.loop-fate.head in
    let x = c.in-Seek.target in
    let next = c.in-Seek.next in
    let old = c.args.stores.now.items in
    let mid = c.loop-fate.stores.items in
    let new = c.step_in.new.stores.items in
    let a = c.args.watch.now in
    let b = c.loop-fate.watch in
    let d = c.cross.new.self in
    let first = entering i c.args.from k in
    let here = there first w h in
    let fits = subst (FateFits t w) c.in-Seek.is c.in_ok-fate.ensures.fits in
    let arrives = subst (FateArrives t w) c.in-Seek.is c.in_ok-fate.ensures.arrives in
    let made = subst (StepsSo t w k h mid new) c.in-Seek.is c.in_ok-fate.ensures.steps in
    let home = reached_home t form w x next loop.at fits.0 arrives in
    let on = comes_so t n mid new (here ∷ []) (there here (reached t w x next) next ∷ []) (OnWay t i next k w x) (IsHeard saw i b d [] 0) (comes_sought t valid form n mid new here x next loop.at fits.1 made) (heard_way saw i t b d next k w x c.in_ok-cross-in-Seek.ensures) in
    let comes = comes_then t n old mid new (first ∷ []) (here ∷ []) (there here (reached t w x next) next ∷ []) (IsHeard saw i a b [] 0) (IsHeard saw i b d [] 0) (IsHeard saw i a d [] 0) loop.comes on (λ hs gs y z. heard_both saw i a b d [] [] 0 0 hs gs y z) in
    record {
      comes = subst (λ y. Comes t n old (first ∷ []) new (there first y next ∷ []) (IsHeard saw i a d [] 0)) (sym c.reached-at.ensures) comes;
      count = c.step_in.ensures.count ∙ loop.count;
      at = subst (λ y. y < switch_count t) (sym c.reached-at.ensures) home.0;
      home = subst (λ y. AtHome t y next) (sym c.reached-at.ensures) home.1;
    }

pub returns-in-Deliver-clause-lands : goal.returns-in-Deliver-clause-lands
returns-in-Deliver-clause-lands g c = (c.loop-fate.stores.items, c.loop-fate.head, c.loop-fate.invariant.comes, c.in_ok-fate.ensures.steps)

pub returns-in-Fork-clause-lands : goal.returns-in-Fork-clause-lands
returns-in-Fork-clause-lands g c = (c.loop-fate.stores.items, c.loop-fate.head, c.loop-fate.invariant.comes, c.in_ok-fate.ensures.steps)

pub returns-in-Deliver-clause-ends : goal.returns-in-Deliver-clause-ends
returns-in-Deliver-clause-ends g c = (c.loop-fate.invariant.at, subst EndsPassing (sym c.in-Deliver.is) tt, c.in_ok-fate.ensures.fits)

pub returns-in-Fork-clause-ends : goal.returns-in-Fork-clause-ends
returns-in-Fork-clause-ends g c = (c.loop-fate.invariant.at, subst EndsPassing (sym c.in-Fork.is) tt, c.in_ok-fate.ensures.fits)
