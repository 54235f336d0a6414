-- The variables of a policy are below its number of variables.
use Rattle.std.proofs.Common.{ℕ, ◌<◌, ◌⊎◌, inl, inr, subst, ⊎_elim}
use Rattle.snap_core.specs.declared.policy.Pred.{Pred}
use Rattle.snap_core.specs.declared.policy.Pred.TheVariants.{Id, Drop, Field, State, Not', And', Or'}
use Rattle.snap_core.specs.declared.policy.Pol.{Pol}
use Rattle.snap_core.specs.declared.policy.Pol.TheVariants.{Filter, Set, Change, Par', Seq', If', Atomic'}
use Rattle.snap_core.specs.Fits.{VarsBelow, PolFits}
use Rattle.snap_core.proofs.FitLemmas.{VarsBelow-fits}
use Rattle.snap_dep.specs.Dependencies.{Tests, Reads, Writes, Depends, UsesBelow}

pub tests_below : (n : ℕ) (x : Pred) → VarsBelow n x → (v : ℕ) → Tests x v → v < n
tests_below n Id f v t = absurd t
tests_below n Drop f v t = absurd t
tests_below n (Field i j) f v t = absurd t
tests_below n (State s es a) f v t = subst (λ u. u < n) t f
tests_below n (Not' _ x) f v t = tests_below n x f v t
tests_below n (And' _ x _ y) f v (inl t) = tests_below n x f.0 v t
tests_below n (And' _ x _ y) f v (inr t) = tests_below n y f.1 v t
tests_below n (Or' _ x _ y) f v (inl t) = tests_below n x f.0 v t
tests_below n (Or' _ x _ y) f v (inr t) = tests_below n y f.1 v t

pub reads_below : (n : ℕ) (p : Pol) → UsesBelow n p → (v : ℕ) → Reads p v → v < n
reads_below n (Filter x) f v r = tests_below n x f v r
reads_below n (Set i j) f v r = absurd r
reads_below n (Change u) f v r = absurd r
reads_below n (Par' _ a _ b) f v (inl r) = reads_below n a f.0 v r
reads_below n (Par' _ a _ b) f v (inr r) = reads_below n b f.1 v r
reads_below n (Seq' _ a _ b) f v (inl r) = reads_below n a f.0 v r
reads_below n (Seq' _ a _ b) f v (inr r) = reads_below n b f.1 v r
reads_below n (If' x _ a _ b) f v (inl t) = tests_below n x f.0 v t
reads_below n (If' x _ a _ b) f v (inr (inl r)) = reads_below n a f.1 v r
reads_below n (If' x _ a _ b) f v (inr (inr r)) = reads_below n b f.2 v r
reads_below n (Atomic' _ a) f v r = reads_below n a f v r

pub writes_below : (n : ℕ) (p : Pol) → UsesBelow n p → (v : ℕ) → Writes p v → v < n
writes_below n (Filter x) f v w = absurd w
writes_below n (Set i j) f v w = absurd w
writes_below n (Change u) f v w = subst (λ s. s < n) w f
writes_below n (Par' _ a _ b) f v (inl w) = writes_below n a f.0 v w
writes_below n (Par' _ a _ b) f v (inr w) = writes_below n b f.1 v w
writes_below n (Seq' _ a _ b) f v (inl w) = writes_below n a f.0 v w
writes_below n (Seq' _ a _ b) f v (inr w) = writes_below n b f.1 v w
writes_below n (If' x _ a _ b) f v (inl w) = writes_below n a f.1 v w
writes_below n (If' x _ a _ b) f v (inr w) = writes_below n b f.2 v w
writes_below n (Atomic' _ a) f v w = writes_below n a f v w

pub used_below : (n : ℕ) (p : Pol) → UsesBelow n p → (v : ℕ) → Reads p v ⊎ Writes p v → v < n
used_below n p f v (inl r) = reads_below n p f v r
used_below n p f v (inr w) = writes_below n p f v w

pub depends_below : (n : ℕ) (p : Pol) → UsesBelow n p → (s t : ℕ) → Depends p s t → (s < n) × (t < n)
depends_below n (Filter x) f s t d = absurd d
depends_below n (Set i j) f s t d = absurd d
depends_below n (Change u) f s t d = absurd d
depends_below n (Par' _ a _ b) f s t (inl d) = depends_below n a f.0 s t d
depends_below n (Par' _ a _ b) f s t (inr d) = depends_below n b f.1 s t d
depends_below n (Seq' _ a _ b) f s t (inl (inl d)) = depends_below n a f.0 s t d
depends_below n (Seq' _ a _ b) f s t (inl (inr d)) = depends_below n b f.1 s t d
depends_below n (Seq' _ a _ b) f s t (inr d) = (reads_below n a f.0 s d.0, writes_below n b f.1 t d.1)
depends_below n (If' x _ a _ b) f s t (inl (inl d)) = depends_below n a f.1 s t d
depends_below n (If' x _ a _ b) f s t (inl (inr d)) = depends_below n b f.2 s t d
depends_below n (If' x _ a _ b) f s t (inr d) = (tests_below n x f.0 s d.0, ⊎_elim (λ w. writes_below n a f.1 t w) (λ w. writes_below n b f.2 t w) d.1)
depends_below n (Atomic' _ a) f s t d = (used_below n a f s d.0, used_below n a f t d.1)

-- a policy that fits has its variables there
pub UsesBelow-fits : (c n : ℕ) (p : Pol) → PolFits c n p → UsesBelow n p
UsesBelow-fits c n (Filter x) f = VarsBelow-fits c n x f
UsesBelow-fits c n (Set i a) f = tt
UsesBelow-fits c n (Change u) f = f.var
UsesBelow-fits c n (Par' _ a _ b) f = (UsesBelow-fits c n a f.0, UsesBelow-fits c n b f.1)
UsesBelow-fits c n (Seq' _ a _ b) f = (UsesBelow-fits c n a f.0, UsesBelow-fits c n b f.1)
UsesBelow-fits c n (If' x _ a _ b) f = (VarsBelow-fits c n x f.0, UsesBelow-fits c n a f.1, UsesBelow-fits c n b f.2)
UsesBelow-fits c n (Atomic' _ a) f = UsesBelow-fits c n a f
