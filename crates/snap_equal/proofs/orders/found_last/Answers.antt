-- One update more.
use Rattle.std.proofs.Common.{◌≡◌, ◌<◌, ◌+◌, ◌-◌, ℕ, List, length, drop, refl, sym, subst, arith}
use Rattle.std.proofs.Math.Seq.{drop-length}
use Rattle.snap_core.specs.declared.policy.Update.{Update}
use Rattle.snap_core.specs.Arrays.{update, updates}
use Rattle.snap_equal.proofs.Turning.{GoesBehind, behind_more, done_last}
use Rattle.snap_equal.proofs.orders.found_last.Goals as goal

pub loop-i-init : goal.loop-i-init
loop-i-init c = λ m k i n.
    subst (λ (vs : List Update). updates (update n c.args.wanted.now k) vs k ≡ update (updates n vs k) c.args.wanted.now k) (sym (drop-length c.args.list.now)) refl

pub loop-i-preserved : goal.loop-i-preserved
loop-i-preserved c =
    let us : List Update = c.args.list.now in
    let j : ℕ = c.loop-i.i - 1 in
    let l : j < length us = omega arith in
    let next : c.loop-i.i ≡ j + 1 = omega arith in
    λ m k i. behind_more k c.args.wanted.now us j c.index-list-i-in-loop-i.result l c.index-list-i-in-loop-i.is
    (λ n. sym (c.commute.ensures c.if-not-commute.false m k i n))
    (subst (λ x. GoesBehind k c.args.wanted.now (drop x us)) next (c.loop-i.invariant m k i))

pub returns-then-reads_update-clause-last : goal.returns-then-reads_update-clause-last
returns-then-reads_update-clause-last c =
    let us : List Update = c.args.list.now in
    let j : ℕ = c.loop-i.i - 1 in
    let l : j < length us = omega arith in
    let next : c.loop-i.i ≡ j + 1 = omega arith in
    λ m k i. done_last k c.args.wanted.now us j c.index-list-i.result l c.index-list-i.is
    (λ n. c.reads_update.ensures c.if-reads_update.true m k i n)
    (subst (λ x. GoesBehind k c.args.wanted.now (drop x us)) next (c.loop-i.invariant m k i))
