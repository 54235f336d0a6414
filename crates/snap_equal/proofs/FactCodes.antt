-- Different facts have different codes.
use Rattle.std.proofs.Common.{◌≡◌, ℕ, Bool, true, false, cond, List, [], ◌∷◌, ◌++◌, refl, arith, append_assoc}
use Rattle.snap_core.specs.declared.policy.Test.{Test}
use Rattle.snap_core.specs.declared.policy.Test.TheVariants.{Value, Equal, State}
use Rattle.snap_core.specs.Terms.{term_code}
use Rattle.snap_diagrams.specs.Codes.{test_code}
use Rattle.snap_diagrams.proofs.Injective.{same_index}
use Rattle.snap_context.specs.declared.fact.Fact.{Fact}
use Rattle.snap_equal.specs.Weaker.{fact_code, facts_code}
use Rattle.snap_context.proofs.Keys.{same_term}

test_then : (a b : Test) (r s : List ℕ) → test_code a ++ r ≡ test_code b ++ s → (a ≡ b) × (r ≡ s)
test_then (Value c n) (Value d o) r s e = (grind arith, grind arith)
test_then (Value c n) (Equal l q p) r s e = absurd (grind arith)
test_then (Value c n) (State v ix t) r s e = absurd (grind arith)
test_then (Equal l q p) (Value c n) r s e = absurd (grind arith)
test_then (Equal l q p) (Equal m t o) r s e = (grind arith, grind arith)
test_then (Equal l q p) (State v ix t) r s e = absurd (grind arith)
test_then (State v ix t) (Value c n) r s e = absurd (grind arith)
test_then (State v ix t) (Equal l q p) r s e = absurd (grind arith)
test_then (State v ix t) (State w iy u) r s e =
    let hv : v ≡ w = grind arith in
    let i = same_index ix iy (term_code t ++ r) (term_code u ++ s) (grind (arith, append_assoc)) in
    let ht = same_term t u r s i.1 in
    (rw (hv, i.0, ht.0) refl, ht.1)

code_then : (a b : Bool) (t u : Test) (r s : List ℕ) → cond a 1 0 ∷ (test_code t ++ r) ≡ cond b 1 0 ∷ (test_code u ++ s) → (a ≡ b) × (t ≡ u) × (r ≡ s)
code_then true true t u r s e = let h = test_then t u r s (grind arith) in (refl, h.0, h.1)
code_then true false t u r s e = absurd (grind arith)
code_then false true t u r s e = absurd (grind arith)
code_then false false t u r s e = let h = test_then t u r s (grind arith) in (refl, h.0, h.1)

fact_then : (f g : Fact) (r s : List ℕ) → fact_code f ++ r ≡ fact_code g ++ s → (f ≡ g) × (r ≡ s)
fact_then f g r s e =
    let h = code_then f.yes g.yes f.test g.test r s e in
    (λ j. record { test = h.1 j; yes = h.0 j }, h.2)

pub same_facts : (fs gs : List Fact) → facts_code fs ≡ facts_code gs → fs ≡ gs
same_facts [] [] e = refl
same_facts [] (g ∷ gs) e = absurd (grind arith)
same_facts (f ∷ fs) [] e = absurd (grind arith)
same_facts (f ∷ fs) (g ∷ gs) e = let h = fact_then f g (facts_code fs) (facts_code gs) e in rw (h.0, same_facts fs gs h.1) refl
