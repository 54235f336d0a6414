use Rattle.std.proofs.Common.{◌≡◌, ◌+◌, sym, ap, subst, ◌∙◌, arith}
use Rattle.std.proofs.lemmas.Grind.{common_steps}
use Rattle.snap_rows.specs.declared.tables.Tables.{Tables}
use Rattle.snap_rows.specs.Entries.{ranks}
use Rattle.snap_rows.specs.Network.{Step}
use Rattle.snap_net.specs.Moves.{StepsAt}
use Rattle.snap_order.specs.Shown.{SimulatesInOrder, OrderedNetView, TellsTurn}
use Rattle.snap_order.specs.Turning.{HasCounted, behind_after, first_of}
use Rattle.snap_order.proofs.Stepped.{counted_order, done_in_order, in_order, moved_stands}
use Rattle.snap_order.proofs.net.OrderedNet.step_and_count.Goals as goal

pub rank_behind-behind-requires : goal.rank_behind-behind-requires
rank_behind-behind-requires c =
    let v = c.self.inside.net in
    let new = c.step_admitted.new.self in
    let x = c.copy-copy.result.now in
    moved_stands v.tables (in_order c.deref.result.now x.number) c.args.k v.stores v.flying new.stores new.flying x c.in_ok-told.told.moved c.copy-copy.ensures (c.in_ok-told.ensures.stepped x c.copy-copy.ensures)

pub count-requires-clause-order : goal.count-requires-clause-order
count-requires-clause-order c =
    let v : OrderedNetView = record { net = c.self.inside.net; counts = c.self.inside.counts.items } in
    let x = c.copy-copy.result.now in
    let first = c.first_rank-first.ensures ∙ ap (λ (t : Tables). first_of t x.head) c.tables.ensures.tables in
    (counted_order v c.step_admitted.new.self c.args.k x c.in_ok-told.told.moved c.deref.result.now c.first_rank-first.result c.rank_behind-behind.result c.tables-known.ensures.held c.self.invariant.version c.copy-copy.ensures c.deref.ensures.value c.in_ok-told.ensures.stepped
    first c.step_admitted.ensures.tables c.rank_behind-behind.ensures).0

pub count-requires-clause-within : goal.count-requires-clause-within
count-requires-clause-within c =
    let v : OrderedNetView = record { net = c.self.inside.net; counts = c.self.inside.counts.items } in
    let x = c.copy-copy.result.now in
    let first = c.first_rank-first.ensures ∙ ap (λ (t : Tables). first_of t x.head) c.tables.ensures.tables in
    let high = (counted_order v c.step_admitted.new.self c.args.k x c.in_ok-told.told.moved c.deref.result.now c.first_rank-first.result c.rank_behind-behind.result c.tables-known.ensures.held c.self.invariant.version c.copy-copy.ensures c.deref.ensures.value c.in_ok-told.ensures.stepped
    first c.step_admitted.ensures.tables c.rank_behind-behind.ensures).1 in
    let long = c.self.invariant.counts in
    omega (arith, high, long)

pub invariant_of-self-2 : goal.invariant_of-self-2
invariant_of-self-2 c = record {
  version = ap (λ (t : Tables). t.version) c.step_admitted.ensures.tables ∙ c.self.invariant.version;
  counts = c.count.ensures.long ∙ c.self.invariant.counts ∙ ap ranks (sym c.step_admitted.ensures.tables);
}

pub returns-clause-done : goal.returns-clause-done
returns-clause-done c =
    let v : OrderedNetView = record { net = c.self.inside.net; counts = c.self.inside.counts.items } in
    let new : OrderedNetView = record { net = c.step_admitted.new.self; counts = c.count.new.counts.items } in
    let k = c.args.k in
    let x = c.copy-copy.result.now in
    let m = c.in_ok-told.told.moved in
    let held = c.tables-known.ensures.held in
    let next : c.in_ok-next.next ≡ x.number + 1 = grind (arith, common_steps) in
    let first : c.first_rank-first.result ≡ first_of v.net.tables x.head = c.first_rank-first.ensures ∙ ap (λ (t : Tables). first_of t x.head) c.tables.ensures.tables in
    let behind : c.rank_behind-behind.result ≡ behind_after v.net.tables (first_of v.net.tables x.head) new.net.flying k m = c.rank_behind-behind.ensures ∙ (λ i. behind_after (c.step_admitted.ensures.tables i) (first i) new.net.flying k m) in
    let counted = subst (λ r. HasCounted v.counts r (behind_after v.net.tables (first_of v.net.tables x.head) new.net.flying k m) (x.number + 1) new.counts) first
    (subst (λ e. HasCounted v.counts c.first_rank-first.result e (x.number + 1) new.counts) behind (subst (λ n. HasCounted v.counts c.first_rank-first.result c.rank_behind-behind.result n new.counts) next c.count.ensures)) in
    let made = subst (λ l. StepsAt (in_order l x.number) v.net k new.net m) c.deref.ensures.value c.in_ok-told.ensures.stepped in
    subst (λ (o : OrderedNetView). SimulatesInOrder o (Step k) new (TellsTurn m)) c.self.view_is
    (done_in_order v new k (record { form = held.form; valid = held.valid; version = c.self.invariant.version }) c.step_admitted.ensures.tables c.step_admitted.ensures.injected x m c.copy-copy.ensures made counted)
