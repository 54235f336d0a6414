use Rattle.std.proofs.Common.{◌≡◌, ◌+◌, ◌<◌, ◌≤◌, [], length, append-nil, refl, sym, subst, ◌∙◌, arith}
use Rattle.snap_rows.specs.Entries.{next}
use Rattle.snap_rows.specs.Form.{switch_count}
use Rattle.snap_rows.specs.Ways.{Way, here}
use Rattle.snap_rows.proofs.Arrives.{next_below, way_to}
use Rattle.snap_rows.proofs.Leading.{next_comes, next_left}
use Rattle.snap_rows.proofs.Short.{short}
use Rattle.snap_rows.proofs.rules.leads.add_way.Goals as goal

pub loop-step-init : goal.loop-step-init
loop-step-init c =
    let t = c.args.tables.now in
    record {
      low = c.requires.from;
      items = λ vs way. (vs, way, refl);
      left = λ vs way. let h : length vs < switch_count t = short t c.requires.form c.args.target c.args.from vs c.requires.from way in omega arith;
    }

pub returns-then-here-target : goal.returns-then-here-target
returns-then-here-target c =
    let k = c.loop-step.invariant.items [] (subst (λ v. Way c.args.tables.now c.args.target v []) (sym c.if-here-target.true) here) in
    (k.0, k.1, sym (append-nil c.loop-step.way.items) ∙ k.2)

pub loop-step-preserved : goal.loop-step-preserved
loop-step-preserved c =
    let t = c.args.tables.now in
    let x = c.args.target in
    let w = c.loop-step.here in
    let to : c.next-here.result ≡ next t w x = c.next-here.ensures in
    record {
      low = subst (λ v. v < switch_count t) (sym to) (next_below t c.requires.form w x c.loop-step.invariant.low);
      items = next_comes t x c.args.from w c.next-here.result c.args.way.now.items c.loop-step.way.items c.push.new.self.items c.if-here-target.false to c.in_ok-push.ensures.items c.loop-step.invariant.items;
      left = next_left t x w c.next-here.result c.loop-step.step c.if-here-target.false to c.loop-step.invariant.left;
    }

pub unreachable-requires : goal.unreachable-requires
unreachable-requires c =
    let t = c.args.tables.now in
    let way = way_to t c.requires.loops c.requires.form c.loop-step.here c.args.target c.loop-step.invariant.low c.requires.target in
    let left : length way.0 + c.loop-step.step < switch_count t = c.loop-step.invariant.left way.0 way.1 in
    let past : switch_count t ≤ c.loop-step.step = subst (λ l. length l ≤ c.loop-step.step) c.items-step-end.ensures c.loop-step-test.false in
    omega arith
