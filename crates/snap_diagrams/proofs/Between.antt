-- A test between two of one subject has that subject.
use Rattle.std.proofs.Common.{◌≡◌, ℕ, List, [], ◌∷◌, ◌++◌, drop, refl, sym, ap, ◌∙◌, arith}
use Rattle.std.specs.Prelude.{slice_index}
use Rattle.std.specs.Ordering.{nat_cmp, ordering_then, ordering_reverse}
use Rattle.std.specs.Cmp.Lexicographic.{slice_cmp}
use Rattle.std.proofs.lemmas.Cmp.{nat_cmp_total}
use Rattle.std.proofs.lemmas.Map.Lookups.{exact_bytes}
use Rattle.std.specs.declared.cmp.Ordering.{Ordering}
use Rattle.std.specs.declared.cmp.Ordering.TheVariants.{Less, Equal, Greater}
use Rattle.snap_core.specs.declared.policy.Atom.{Atom}
use Rattle.snap_core.specs.declared.policy.Term.{Term}
use Rattle.snap_core.specs.declared.policy.Test.{Test}
use Rattle.snap_core.specs.declared.policy.Test.TheVariants.{Value, Equal as Same, State}
use Rattle.snap_core.specs.Terms.{term_code}
use Rattle.snap_diagrams.specs.Codes.{index_code}
use Rattle.snap_diagrams.proofs.Injective.{same_index}
use Rattle.snap_diagrams.specs.Order.{key, test_cmp}
use Rattle.snap_diagrams.specs.Quiet.{SameSubject}

less_is : (o : Ordering) → ordering_then Greater o ≡ Less → ⊥
less_is o e = absurd (cc)

-- the rest of a list between two that begin alike
abbrev Begins : List ℕ → List ℕ → Type 0
Begins p k = (r : List ℕ) × (k ≡ p ++ r)

pub between : (p a b k : List ℕ) → slice_cmp nat_cmp (p ++ a) k ≡ Less → slice_cmp nat_cmp k (p ++ b) ≡ Less → Begins p k
between [] a b k lo hi = (k, refl)
between (x ∷ p) a b [] lo hi = absurd (cc)
between (x ∷ p) a b (y ∷ k) lo hi = by (λ l h. between p a b k l h) (nat_cmp x y) refl
  where
    turned : nat_cmp y x ≡ ordering_reverse (nat_cmp x y)
    turned = nat_cmp_total.antisymm y x

    later : (slice_cmp nat_cmp (p ++ a) k ≡ Less → slice_cmp nat_cmp k (p ++ b) ≡ Less → Begins p k) → nat_cmp x y ≡ Equal → Begins (x ∷ p) (y ∷ k)
    later rest e =
        let same : (x ∷ []) ≡ (y ∷ []) = exact_bytes (x ∷ []) (y ∷ []) (ap (λ o. ordering_then o Equal) e) in
        let one : x ≡ y = cc in
        let low : slice_cmp nat_cmp (p ++ a) k ≡ Less = sym (ap (λ o. ordering_then o (slice_cmp nat_cmp (p ++ a) k)) e) ∙ lo in
        let back : nat_cmp y x ≡ Equal = turned ∙ ap ordering_reverse e in
        let high : slice_cmp nat_cmp k (p ++ b) ≡ Less = sym (ap (λ o. ordering_then o (slice_cmp nat_cmp k (p ++ b))) back) ∙ hi in
        let i = rest low high in
        (i.0, (λ j. (sym one) j ∷ i.1 j))

    by : (slice_cmp nat_cmp (p ++ a) k ≡ Less → slice_cmp nat_cmp k (p ++ b) ≡ Less → Begins p k) → (o : Ordering) → nat_cmp x y ≡ o → Begins (x ∷ p) (y ∷ k)
    by rest Less e = absurd (less_is (slice_cmp nat_cmp k (p ++ b)) (sym (ap (λ o. ordering_then o (slice_cmp nat_cmp k (p ++ b))) (turned ∙ ap ordering_reverse e)) ∙ hi))
    by rest Greater e = absurd (less_is (slice_cmp nat_cmp (p ++ a) k) (sym (ap (λ o. ordering_then o (slice_cmp nat_cmp (p ++ a) k)) e) ∙ lo))
    by rest Equal e = later rest e

value_between : (ranks : List ℕ) (c n o : ℕ) (t : Test) → test_cmp ranks (Value c n) t ≡ Less → test_cmp ranks t (Value c o) ≡ Less → SameSubject (Value c n) t
value_between ranks c n o t lo hi = by t (between (0 ∷ c ∷ []) (n ∷ []) (o ∷ []) (key ranks t) lo hi)
  where
    by : (t : Test) → Begins (0 ∷ c ∷ []) (key ranks t) → SameSubject (Value c n) t
    by (Value d m) i = let e = i.1 in let r = i.0 in (grind arith)
    by (Same l r p) i = let e = i.1 in absurd (grind arith)
    by (State v ix u) i = let e = i.1 in absurd (grind arith)

state_between : (ranks : List ℕ) (v : ℕ) (ix : List Atom) (x y : Term) (t : Test) → test_cmp ranks (State v ix x) t ≡ Less → test_cmp ranks t (State v ix y) ≡ Less → SameSubject (State v ix x) t
state_between ranks v ix x y t lo hi = by t (between (2 ∷ slice_index ranks v ∷ v ∷ index_code ix) (term_code x) (term_code y) (key ranks t) lo hi)
  where
    by : (t : Test) → Begins (2 ∷ slice_index ranks v ∷ v ∷ index_code ix) (key ranks t) → SameSubject (State v ix x) t
    by (Value d m) i = let e = i.1 in absurd (grind arith)
    by (Same l r p) i = let e = i.1 in absurd (grind arith)
    by (State w iy u) i =
        let e = i.1 in
        let var : w ≡ v = grind arith in
        let s = same_index iy ix (term_code u) i.0 (ap (drop 3) e) in
        (sym var, sym s.0)

pub same_between : (ranks : List ℕ) (f t u : Test) → test_cmp ranks f t ≡ Less → test_cmp ranks t u ≡ Less → SameSubject f u → SameSubject f t
same_between ranks (Value c n) t (Value d o) lo hi s = value_between ranks c n o t lo (rw s hi)
same_between ranks (Value c n) t (Same l r p) lo hi s = absurd s
same_between ranks (Value c n) t (State v ix x) lo hi s = absurd s
same_between ranks (Same l r p) t u lo hi s = absurd s
same_between ranks (State v ix x) t (Value d o) lo hi s = absurd s
same_between ranks (State v ix x) t (Same l r p) lo hi s = absurd s
same_between ranks (State v ix x) t (State w iy y) lo hi s = state_between ranks v ix x y t lo (rw (s.0, s.1) hi)
