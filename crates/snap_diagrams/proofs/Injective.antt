-- Different tests and nodes have different codes.
use Rattle.std.proofs.Common.{◌≡◌, ℕ, List, [], ◌∷◌, ◌++◌, refl, arith}
use Rattle.snap_core.specs.declared.policy.Atom.{Atom}
use Rattle.snap_core.specs.declared.policy.Atom.TheVariants.{Num as Number, Comp}
use Rattle.snap_core.specs.declared.policy.Term.{Term}
use Rattle.snap_core.specs.declared.policy.Term.TheVariants.{Num, Plus}
use Rattle.snap_core.specs.declared.policy.Test.{Test}
use Rattle.snap_core.specs.declared.policy.Test.TheVariants.{Value, Equal, State}
use Rattle.snap_diagrams.specs.declared.node.Node.{Node}
use Rattle.snap_diagrams.specs.declared.node.Node.TheVariants.{Ask, Leaf}
use Rattle.snap_core.specs.Terms.{term_code}
use Rattle.snap_diagrams.specs.Codes.{index_code, test_code, node_code}

pub same_term : (a b : Term) → term_code a ≡ term_code b → a ≡ b
same_term (Num n) (Num o) e = grind arith
same_term (Num n) (Plus c p) e = absurd (grind arith)
same_term (Plus c p) (Num o) e = absurd (grind arith)
same_term (Plus c p) (Plus d q) e = grind arith

pub same_index : (xs ys : List Atom) (r s : List ℕ) → index_code xs ++ r ≡ index_code ys ++ s → (xs ≡ ys) × (r ≡ s)
same_index [] [] r s e = (refl, grind arith)
same_index [] (Number n ∷ ys) r s e = absurd (grind arith)
same_index [] (Comp n ∷ ys) r s e = absurd (grind arith)
same_index (Number n ∷ xs) [] r s e = absurd (grind arith)
same_index (Comp n ∷ xs) [] r s e = absurd (grind arith)
same_index (Number n ∷ xs) (Number o ∷ ys) r s e = let i = same_index xs ys r s (grind arith) in ((let h : n ≡ o = grind arith in rw (h, i.0) refl), i.1)
same_index (Number n ∷ xs) (Comp o ∷ ys) r s e = absurd (grind arith)
same_index (Comp n ∷ xs) (Number o ∷ ys) r s e = absurd (grind arith)
same_index (Comp n ∷ xs) (Comp o ∷ ys) r s e = let i = same_index xs ys r s (grind arith) in ((let h : n ≡ o = grind arith in rw (h, i.0) refl), i.1)

pub same_test : (a b : Test) → test_code a ≡ test_code b → a ≡ b
same_test (Value c n) (Value d o) e = grind arith
same_test (Value c n) (Equal l r p) e = absurd (grind arith)
same_test (Value c n) (State v ix t) e = absurd (grind arith)
same_test (Equal l r p) (Value c n) e = absurd (grind arith)
same_test (Equal l r p) (Equal m s q) e = grind arith
same_test (Equal l r p) (State v ix t) e = absurd (grind arith)
same_test (State v ix t) (Value c n) e = absurd (grind arith)
same_test (State v ix t) (Equal l r p) e = absurd (grind arith)
same_test (State v ix t) (State w iy u) e =
    let hv : v ≡ w = grind arith in
    let i = same_index ix iy (term_code t) (term_code u) (grind arith) in
    let ht = same_term t u i.1 in
    rw (hv, i.0, ht) refl

pub same_node : {L : Type 0} (code : L → List ℕ) → ((a b : L) → code a ≡ code b → a ≡ b) → (m n : Node L) → node_code code m ≡ node_code code n → m ≡ n
same_node code one (Ask t y n) (Ask u z o) e =
    let hy : y ≡ z = grind arith in let hn : n ≡ o = grind arith in
    let ht = same_test t u (grind arith) in
    rw (hy, hn, ht) refl
same_node code one (Ask t y n) (Leaf l) e = absurd (grind arith)
same_node code one (Leaf l) (Ask t y n) e = absurd (grind arith)
same_node code one (Leaf l) (Leaf k) e = let h = one l k (grind arith) in rw h refl
