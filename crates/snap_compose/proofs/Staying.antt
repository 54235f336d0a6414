-- Diagrams that updates leave as they are.
use Rattle.std.proofs.Common.{◌≡◌, ℕ, true, false, cond, List, [], ◌∷◌, length, refl, sym, ap, ◌∙◌, arith}
use Rattle.std.specs.Prelude.{◌==◌}
use Rattle.std.proofs.lemmas.Bool.{eqb-true, eqb-false, or_parts}
use Rattle.snap_core.specs.declared.policy.Atom.{Atom}
use Rattle.snap_core.specs.declared.policy.Test.{Test}
use Rattle.snap_core.specs.declared.policy.Test.TheVariants.{Value, Equal, State}
use Rattle.snap_core.specs.declared.policy.Update.{Update}
use Rattle.snap_core.specs.Arrays.{Arrays, updates, update, place_at}
use Rattle.snap_core.specs.Tests.{passes, term_value}
use Rattle.snap_context.specs.View.{View}
use Rattle.snap_diagrams.specs.declared.leaf.Leaf.{Leaf}
use Rattle.snap_diagrams.specs.Diagrams.{Diagram, Only, Asks, walk}
use Rattle.snap_diagrams.specs.Leaves.{answer_of, outcome_of}
use Rattle.snap_compose.specs.Substituted.{OnStores, late}
use Rattle.snap_compose.specs.Untouched.{changes, tests_updated, IsUntouched}
use Rattle.snap_compose.proofs.Splitting.{at_other}

pub unchanged : (ups : List Update) (v : ℕ) (ix : List Atom) (m : Arrays) (k : List ℕ) → changes ups v ≡ false → updates m ups k (place_at v ix k) ≡ m (place_at v ix k)
unchanged [] v ix m k e = refl
unchanged (u ∷ us) v ix m k e =
    let parts = or_parts (u.var == v) (changes us v) e in
    unchanged us v ix (update m u k) k parts.1 ∙ at_other m u v ix k (eqb-false u.var v parts.0)

same_test : (ups : List Update) (t : Test) (m : Arrays) (k : List ℕ) → tests_updated t ups ≡ false → passes t (updates m ups k) k ≡ passes t m k
same_test ups (Value c n) m k e = refl
same_test ups (Equal l r p) m k e = refl
same_test ups (State v ix t) m k e = ap (λ n. n == term_value t k) (unchanged ups v ix m k e)

same_walk : (ups : List Update) (d : Diagram) (m : Arrays) (k : List ℕ) → IsUntouched ups d → walk d (updates m ups k) k ≡ walk d m k
same_walk ups (Only l) m k h = refl
same_walk ups (Asks t y n) m k h = λ i. cond (same_test ups t m k h.0 i) (same_walk ups y m k h.1 i) (same_walk ups n m k h.2 i)

pub untouched_late : (v : View) (ups : List Update) (out : List (ℕ × Atom)) (d : Diagram) → out ≡ [] → IsUntouched ups d → OnStores v (λ m k. outcome_of (answer_of (walk d m k) k) (updates m ups k) ≡ late d out ups m k)
untouched_late v ups out d e h m k met small = rw e (ap (λ (l : Leaf). outcome_of (answer_of l k) (updates m ups k)) (sym (same_walk ups d m k h)))

pub none_left : (xs : List (ℕ × Atom)) → (length xs == 0) ≡ true → xs ≡ []
none_left [] e = refl
none_left (x ∷ xs) e = let z = eqb-true (length (x ∷ xs)) 0 e in absurd (omega (arith, z))
