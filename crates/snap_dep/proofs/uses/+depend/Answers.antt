use Rattle.std.proofs.Common.{◌↔◌, ◌<◌, length, subst, arith, ⊎_elim}
use Rattle.std.specs.Prelude.{IsTrue}
use Rattle.snap_core.specs.Arrays.{has}
use Rattle.snap_dep.specs.Dependencies.{Tests, UsesBelow}
use Rattle.snap_dep.proofs.Below.{reads_below, writes_below}
use Rattle.snap_dep.proofs.Rows.{iff_on, either_iff}
use Rattle.snap_dep.proofs.Sets.{set_or, set_vars, in_pow, in_or, VarsBelow-le}
use Rattle.snap_dep.proofs.UseLemmas.{reads_at, writes_at, depends_at, either_more, either_within, both_iff, depends_used}
use Rattle.snap_dep.proofs.uses.+depend.Goals as goal

pub tested-requires : goal.tested-requires
tested-requires t c = VarsBelow-le (length c.args.rows.now) 64 c.in-Filter.pred c.requires.small (subst (UsesBelow (length c.args.rows.now)) c.in-Filter.is c.requires.below)

pub tested-reads-requires : goal.tested-reads-requires
tested-reads-requires t c = VarsBelow-le (length c.args.rows.now) 64 c.in-If.test c.requires.small (subst (UsesBelow (length c.args.rows.now)) c.in-If.is c.requires.below).0

pub relate-requires-clause-within : goal.relate-requires-clause-within
relate-requires-clause-within t c = λ v h.
    let below = writes_below (length c.args.rows.now) c.in-Seq.second.value (subst (UsesBelow (length c.args.rows.now)) c.in-Seq.is c.requires.below).1 v
    ((writes_at _ c.deref-in-Seq-2.ensures c.depend-after.ensures.writes v).0 h) in
    omega (arith, below)

pub relate-requires-in-If-clause-within : goal.relate-requires-in-If-clause-within
relate-requires-in-If-clause-within t c = λ v h.
    let fits = subst (UsesBelow (length c.args.rows.now)) c.in-If.is c.requires.below in
    let below : v < length c.args.rows.now = ⊎_elim
    (λ w. writes_below (length c.args.rows.now) c.in-If.yes.value fits.1 v ((writes_at _ c.deref-in-If.ensures c.depend-one-in-If.ensures.writes v).0 w))
    (λ w. writes_below (length c.args.rows.now) c.in-If.no.value fits.2 v ((writes_at _ c.deref-in-If-2.ensures c.depend-other-in-If.ensures.writes v).0 w))
    ((in_or _ _ v).0 h) in
    omega (arith, below)

pub relate-requires-in-Atomic-clause-within : goal.relate-requires-in-Atomic-clause-within
relate-requires-in-Atomic-clause-within t c = λ v h.
    let fits = subst (UsesBelow (length c.args.rows.now)) c.in-Atomic.is c.requires.below in
    let below : v < length c.args.rows.now = ⊎_elim
    (λ w. reads_below (length c.args.rows.now) c.in-Atomic.part.value fits v ((reads_at _ c.deref-in-Atomic.ensures c.depend-used.ensures.reads v).0 w))
    (λ w. writes_below (length c.args.rows.now) c.in-Atomic.part.value fits v ((writes_at _ c.deref-in-Atomic.ensures c.depend-used.ensures.writes v).0 w))
    ((in_or _ _ v).0 h) in
    omega (arith, below)

pub returns-in-Filter-clause-reads : goal.returns-in-Filter-clause-reads
returns-in-Filter-clause-reads t c = rw (c.in-Filter.is, c.tested.ensures) (set_vars c.in-Filter.pred)

pub returns-in-Change-clause-writes : goal.returns-in-Change-clause-writes
returns-in-Change-clause-writes t c = rw (c.in-Change.is, c.only.ensures) (in_pow c.in-Change.update.var)

pub returns-in-Par-clause-reads : goal.returns-in-Par-clause-reads
returns-in-Par-clause-reads t c = rw (c.in-Par.is, c.or.ensures.reads) (set_or _ _ _ _ (reads_at _ c.deref.ensures c.depend-one.ensures.reads) (reads_at _ c.deref-in-Par.ensures c.depend-other.ensures.reads))

pub returns-in-Par-clause-writes : goal.returns-in-Par-clause-writes
returns-in-Par-clause-writes t c = rw (c.in-Par.is, c.or.ensures.writes) (set_or _ _ _ _ (writes_at _ c.deref.ensures c.depend-one.ensures.writes) (writes_at _ c.deref-in-Par.ensures c.depend-other.ensures.writes))

pub returns-in-Seq-clause-reads : goal.returns-in-Seq-clause-reads
returns-in-Seq-clause-reads t c = rw (c.in-Seq.is, c.or-in-Seq.ensures.reads) (set_or _ _ _ _ (reads_at _ c.deref-in-Seq.ensures c.depend-before.ensures.reads) (reads_at _ c.deref-in-Seq-2.ensures c.depend-after.ensures.reads))

pub returns-in-Seq-clause-writes : goal.returns-in-Seq-clause-writes
returns-in-Seq-clause-writes t c = rw (c.in-Seq.is, c.or-in-Seq.ensures.writes) (set_or _ _ _ _ (writes_at _ c.deref-in-Seq.ensures c.depend-before.ensures.writes) (writes_at _ c.deref-in-Seq-2.ensures c.depend-after.ensures.writes))

pub returns-in-If-clause-reads : goal.returns-in-If-clause-reads
returns-in-If-clause-reads t c =
    rw (c.in-If.is, c.or-in-If-2.ensures.reads, c.tested-reads.ensures, c.or-in-If.ensures.reads)
    (set_or _ _ _ _ (set_vars c.in-If.test) (set_or _ _ _ _ (reads_at _ c.deref-in-If.ensures c.depend-one-in-If.ensures.reads) (reads_at _ c.deref-in-If-2.ensures c.depend-other-in-If.ensures.reads)))

pub returns-in-If-clause-writes : goal.returns-in-If-clause-writes
returns-in-If-clause-writes t c =
    rw (c.in-If.is, c.or-in-If-2.ensures.writes, c.or-in-If.ensures.writes)
    (set_or _ _ _ _ (writes_at _ c.deref-in-If.ensures c.depend-one-in-If.ensures.writes) (writes_at _ c.deref-in-If-2.ensures c.depend-other-in-If.ensures.writes))

pub returns-in-If-clause-rows : goal.returns-in-If-clause-rows
returns-in-If-clause-rows t c =
    rw c.in-If.is
    (λ s v.
    let branches = set_or _ _ _ _ (writes_at _ c.deref-in-If.ensures c.depend-one-in-If.ensures.writes) (writes_at _ c.deref-in-If-2.ensures c.depend-other-in-If.ensures.writes) in
    let tests : IsTrue (has c.tested-reads.result s) ↔ Tests c.in-If.test s = rw c.tested-reads.ensures (set_vars c.in-If.test s) in
    either_more
    (iff_on (c.relate-in-If.ensures s v) (either_iff (λ h. h, λ h. h) (both_iff tests (branches v))))
    (either_more (depends_at s v c.deref-in-If-2.ensures (c.depend-other-in-If.ensures.rows s v)) (depends_at s v c.deref-in-If.ensures (c.depend-one-in-If.ensures.rows s v))))

pub returns-in-Atomic-clause-rows : goal.returns-in-Atomic-clause-rows
returns-in-Atomic-clause-rows t c =
    rw c.in-Atomic.is
    (λ s v.
    let all = set_or _ _ _ _ (reads_at _ c.deref-in-Atomic.ensures c.depend-used.ensures.reads) (writes_at _ c.deref-in-Atomic.ensures c.depend-used.ensures.writes) in
    either_within (iff_on (c.relate-in-Atomic.ensures s v) (either_iff (λ h. h, λ h. h) (both_iff (all s) (all v)))) (depends_at s v c.deref-in-Atomic.ensures (c.depend-used.ensures.rows s v)) (depends_used c.in-Atomic.part.value s v))
