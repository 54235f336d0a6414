-- The order of tests.
use Rattle.std.proofs.Common.{◌≡◌, ◌≢◌, ℕ, List, refl, sym, ap, ◌∙◌, arith}
use Rattle.std.specs.Ordering.{ordering_reverse}
use Rattle.std.proofs.lemmas.Cmp.{nat_list_cmp_total}
use Rattle.std.proofs.lemmas.Map.Lookups.{exact_bytes}
use Rattle.std.specs.declared.cmp.Ordering.{Ordering}
use Rattle.std.specs.declared.cmp.Ordering.TheVariants.{Less, Equal, Greater}
use Rattle.snap_core.specs.declared.policy.Test.{Test}
use Rattle.snap_core.specs.declared.policy.Test.TheVariants.{Value, Equal as Same, State}
use Rattle.snap_core.specs.Terms.{term_code}
use Rattle.snap_diagrams.proofs.Injective.{same_index, same_term}
use Rattle.snap_diagrams.specs.Diagrams.{Diagram, Only, Asks}
use Rattle.snap_diagrams.specs.Order.{key, test_cmp, Above, NotBelow}

pub same_key : (ranks : List ℕ) (a b : Test) → key ranks a ≡ key ranks b → a ≡ b
same_key ranks (Value c n) (Value d o) e = grind arith
same_key ranks (Value c n) (Same l r p) e = absurd (grind arith)
same_key ranks (Value c n) (State v ix t) e = absurd (grind arith)
same_key ranks (Same l r p) (Value c n) e = absurd (grind arith)
same_key ranks (Same l r p) (Same m s q) e = grind arith
same_key ranks (Same l r p) (State v ix t) e = absurd (grind arith)
same_key ranks (State v ix t) (Value c n) e = absurd (grind arith)
same_key ranks (State v ix t) (Same l r p) e = absurd (grind arith)
same_key ranks (State v ix t) (State w iy u) e =
    let hv : v ≡ w = grind arith in
    let i = same_index ix iy (term_code t) (term_code u) (grind arith) in
    let ht = same_term t u i.1 in
    rw (hv, i.0, ht) refl

pub same_if_equal : (ranks : List ℕ) (a b : Test) → test_cmp ranks a b ≡ Equal → a ≡ b
same_if_equal ranks a b e = same_key ranks a b (exact_bytes (key ranks a) (key ranks b) e)

pub less_trans : (ranks : List ℕ) (a b c : Test) → test_cmp ranks a b ≡ Less → test_cmp ranks b c ≡ Less → test_cmp ranks a c ≡ Less
less_trans ranks a b c = nat_list_cmp_total.trans (key ranks a) (key ranks b) (key ranks c)

-- not after it, and not it: before it
pub less_if : (ranks : List ℕ) (a b : Test) → test_cmp ranks a b ≢ Greater → a ≢ b → test_cmp ranks a b ≡ Less
less_if ranks a b g s =
    let by : (o : Ordering) → test_cmp ranks a b ≡ o → o ≢ Greater → o ≡ Less = λ o. elim o as (λ (o : Ordering). test_cmp ranks a b ≡ o → o ≢ Greater → o ≡ Less) [ Less ↦ λ e f. refl | Equal ↦ λ e f. absurd (s (same_if_equal ranks a b e)) | Greater ↦ λ e f. absurd (f refl) ] in
    by (test_cmp ranks a b) refl g

pub above_trans : (ranks : List ℕ) (a b : Test) (d : Diagram) → test_cmp ranks a b ≡ Less → Above ranks b d → Above ranks a d
above_trans ranks a b (Only l) h i = tt
above_trans ranks a b (Asks t y n) h i = less_trans ranks a b t h i

-- at or before a test that is before the first
pub above_at : (ranks : List ℕ) (a b : Test) (d : Diagram) → test_cmp ranks a b ≢ Greater → Above ranks b d → Above ranks a d
above_at ranks a b d h i =
    let by : (o : Ordering) → test_cmp ranks a b ≡ o → o ≢ Greater → Above ranks a d = λ o. elim o as (λ (o : Ordering). test_cmp ranks a b ≡ o → o ≢ Greater → Above ranks a d) [ Less ↦ λ e f. above_trans ranks a b d e i | Equal ↦ λ e f. rw (same_if_equal ranks a b e) i | Greater ↦ λ e f. absurd (f refl) ] in
    by (test_cmp ranks a b) refl h

pub less_from_greater : (ranks : List ℕ) (a b : Test) → test_cmp ranks a b ≡ Greater → test_cmp ranks b a ≡ Less
less_from_greater ranks a b g = nat_list_cmp_total.antisymm (key ranks b) (key ranks a) ∙ ap ordering_reverse g

pub not_below_itself : (ranks : List ℕ) (a : Test) → test_cmp ranks a a ≢ Greater
not_below_itself ranks a g = let l = less_from_greater ranks a a g in absurd (cc)

pub not_below_less : (ranks : List ℕ) (a b : Test) (d : Diagram) → test_cmp ranks a b ≡ Less → NotBelow ranks b d → NotBelow ranks a d
not_below_less ranks a b (Only l) h i = tt
not_below_less ranks a b (Asks t y n) h i = λ g.
    let by : (o : Ordering) → test_cmp ranks b t ≡ o → o ≢ Greater → ⊥ = λ o. elim o as (λ (o : Ordering). test_cmp ranks b t ≡ o → o ≢ Greater → ⊥)
    [ Less ↦ λ e f. (let l = less_trans ranks a b t h e in absurd (cc)) | Equal ↦ λ e f. (let s = same_if_equal ranks b t e in let l : test_cmp ranks a t ≡ Less = rw (sym s) h in absurd (cc)) | Greater ↦ λ e f. absurd (f refl) ] in
    by (test_cmp ranks b t) refl i

pub not_itself : (ranks : List ℕ) (a b : Test) → test_cmp ranks a b ≡ Less → a ≡ b → ⊥
not_itself ranks a b l e =
    let same : test_cmp ranks a a ≡ Less = rw (sym e) at l in
    let turned = nat_list_cmp_total.antisymm (key ranks a) (key ranks a) in
    absurd (let back : test_cmp ranks a a ≡ ordering_reverse Less = turned ∙ ap ordering_reverse same in cc)
