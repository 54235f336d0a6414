-- From one question to another.
use Rattle.std.proofs.Common.{◌≡◌, ℕ, ◌<◌, ◌+◌, Bool, true, false, List, subst, arith, below_more}
use Rattle.std.specs.Prelude.{Option, Some, None, Result, Ok, Err, MatchOption, MatchResult}
use Rattle.snap_core.specs.declared.policy.Test.{Test}
use Rattle.snap_core.specs.Arrays.{Arrays}
use Rattle.snap_context.specs.View.{View}
use Rattle.snap_equal.specs.declared.stop.Stop.{Stop}
use Rattle.snap_equal.specs.declared.stop.Stop.TheVariants.{Split, NoMemory}
use Rattle.snap_equal.specs.Told.{On, Decides, IsStop}

-- questions that have one answer wherever the context is met
pub tells_as : (v : View) (P Q : Arrays → List ℕ → Type 0) → On v (λ m k. P m k → Q m k) → On v (λ m k. Q m k → P m k) → (b : Bool) → Decides v P b → Decides v Q b
tells_as v P Q to from true h = λ m k i. to m k i (h m k i)
tells_as v P Q to from false h = λ m k i q. h m k i (from m k i q)

pub result_as : (v : View) (n : ℕ) (P Q : Arrays → List ℕ → Type 0) → On v (λ m k. P m k → Q m k) → On v (λ m k. Q m k → P m k) → (r : Result Bool Stop) → MatchResult r (Decides v P) (IsStop v n) → MatchResult r (Decides v Q) (IsStop v n)
result_as v n P Q to from (Ok b) h = tells_as v P Q to from b h
result_as v n P Q to from (Err e) h = h

pub told_true : (v : View) (P : Arrays → List ℕ → Type 0) (b : Bool) → b ≡ true → Decides v P b → On v P
told_true v P b e h = subst (λ b. Decides v P b) e h

pub told_false : (v : View) (P : Arrays → List ℕ → Type 0) (b : Bool) → b ≡ false → Decides v P b → On v (λ m k. P m k → ⊥)
told_false v P b e h = subst (λ b. Decides v P b) e h

-- a test of no variable is one of any number of them
pub stop_of_any : (v : View) (n : ℕ) (s : Stop) → IsStop v 0 s → IsStop v n s
stop_of_any v n (Split t) h = (record { fits = h.0.fits; short = h.0.short; var = λ e. let l = h.0.var e in omega (arith, l) }, h.1)
stop_of_any v n NoMemory h = h

pub result_of_any : (v : View) (n : ℕ) (P : Arrays → List ℕ → Type 0) (r : Result Bool Stop) → MatchResult r (Decides v P) (IsStop v 0) → MatchResult r (Decides v P) (IsStop v n)
result_of_any v n P (Ok b) h = h
result_of_any v n P (Err e) h = stop_of_any v n e h

-- one index more, where a test may be open
pub open_more : (v : View) (s : ℕ) (P : ℕ → Type 0) (n : ℕ) (o : Option Test) → MatchOption o ((j : ℕ) → j < n → P j) (λ t. IsStop v s (Split t)) → P n → MatchOption o ((j : ℕ) → j < n + 1 → P j) (λ t. IsStop v s (Split t))
open_more v s P n None h here = below_more P n h here
open_more v s P n (Some t) h here = h

pub closed_all : (v : View) (s : ℕ) (A : Type 0) (o : Option Test) → o ≡ None → MatchOption o A (λ t. IsStop v s (Split t)) → A
closed_all v s A o e h = subst (λ (p : Option Test). MatchOption p A (λ t. IsStop v s (Split t))) e h

pub open_more_at : (v : View) (s : ℕ) (E : Type 0) (P : E → ℕ → Type 0) (n : ℕ) (o : Option Test) → MatchOption o ((e : E) (j : ℕ) → j < n → P e j) (λ t. IsStop v s (Split t)) → ((e : E) → P e n) → MatchOption o ((e : E) (j : ℕ) → j < n + 1 → P e j) (λ t. IsStop v s (Split t))
open_more_at v s E P n None h here = λ e. below_more (P e) n (h e) (here e)
open_more_at v s E P n (Some t) h here = h
