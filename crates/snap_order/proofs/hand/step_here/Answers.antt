use Rattle.std.proofs.Common.{◌≡◌, ◌+◌, subst, ◌∙◌, arith}
use Rattle.std.proofs.lemmas.Grind.{common_steps}
use Rattle.snap_core.specs.Cells.{arrays_of}
use Rattle.snap_rows.specs.declared.tables.Tables.{Tables}
use Rattle.snap_rows.specs.Stepping.{Steps}
use Rattle.snap_faithful.proofs.Nodes.{IsTwo}
use Rattle.snap_order.specs.Hands as hands
use Rattle.snap_order.specs.Turning.{HasCounted, fate_behind, first_of}
use Rattle.snap_order.proofs.Here.{steps_here}
use Rattle.snap_order.proofs.Stepped.{fates_order, in_order}
use Rattle.snap_order.proofs.hand.step_here.Goals as goal

two_of : (t : Tables) → hands.IsTwo t → IsTwo t
two_of t two = record { form = two.form; valid = two.valid; version = two.version }

pub count-requires-clause-order : goal.count-requires-clause-order
count-requires-clause-order c =
    let t = c.args.tables.now in
    let x = c.args.copy in
    let f = c.in_ok-fate.fate in
    let o = (fates_order t (two_of t c.requires.tables) x.at x.packet (in_order c.deref.result.now x.number) (arrays_of c.args.store.now) x.head (arrays_of c.step.new.store) f c.requires.place.home c.in_ok-fate.ensures.steps).0 in
    let first : c.first_rank-first.result ≡ first_of t x.head = c.first_rank-first.ensures in
    let behind : c.fate_behind.result ≡ fate_behind t (first_of t x.head) f = c.fate_behind.ensures ∙ (λ i. fate_behind t (first i) f) in
    omega (arith, o, first, behind)

pub count-requires-clause-within : goal.count-requires-clause-within
count-requires-clause-within c =
    let t = c.args.tables.now in
    let x = c.args.copy in
    let f = c.in_ok-fate.fate in
    let o = (fates_order t (two_of t c.requires.tables) x.at x.packet (in_order c.deref.result.now x.number) (arrays_of c.args.store.now) x.head (arrays_of c.step.new.store) f c.requires.place.home c.in_ok-fate.ensures.steps).1 in
    let first : c.first_rank-first.result ≡ first_of t x.head = c.first_rank-first.ensures in
    let behind : c.fate_behind.result ≡ fate_behind t (first_of t x.head) f = c.fate_behind.ensures ∙ (λ i. fate_behind t (first i) f) in
    let long = c.requires.counts in
    omega (arith, o, behind, long)

pub returns : goal.returns
returns c =
    let t = c.args.tables.now in
    let x = c.args.copy in
    let f = c.in_ok-fate.fate in
    let old = arrays_of c.args.store.now in
    let new = arrays_of c.step.new.store in
    let counts = c.args.counts.now.items in
    let counts' = c.count.new.counts.items in
    let s = c.in_ok-stepped.stepped in
    let next : c.in_ok-next.next ≡ x.number + 1 = grind (arith, common_steps) in
    let first : c.first_rank-first.result ≡ first_of t x.head = c.first_rank-first.ensures in
    let behind : c.fate_behind.result ≡ fate_behind t (first_of t x.head) f = c.fate_behind.ensures ∙ (λ i. fate_behind t (first i) f) in
    let counted = subst (λ r. HasCounted counts r (fate_behind t (first_of t x.head) f) (x.number + 1) counts') first
    (subst (λ e. HasCounted counts c.first_rank-first.result e (x.number + 1) counts') behind (subst (λ n. HasCounted counts c.first_rank-first.result c.fate_behind.result n counts') next c.count.ensures)) in
    let made = subst (λ l. Steps t x.at x.packet (in_order l x.number) old x.head new f) c.deref.ensures.value c.in_ok-fate.ensures.steps in
    steps_here t (two_of t c.requires.tables) old new counts counts' x c.requires.place f made c.in_ok-fate.ensures.arrives counted s.left.items c.in_ok-stepped.ensures.left s.moved c.in_ok-stepped.ensures.moved
