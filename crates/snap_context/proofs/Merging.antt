-- What making two terms equal does to the classes.
use Rattle.std.proofs.Common.{◌≡◌, ◌≢◌, ℕ, zero, suc, ◌+◌, ◌-◌, ◌^◌, ◌<◌, ◌≤◌, ⊎_elim, cond, true, false, Bool, List, length, Some, None, refl, sym, ap, subst, ◌∙◌, arith}
use Rattle.std.specs.Prelude.{◌==◌, All, slice_index}
use Rattle.std.proofs.lemmas.Bool.{eqb-true, eqb-false, eq-eqb, ne_eqb, cases_eq, cond-false}
use Rattle.std.proofs.lemmas.List.{length-map}
use Rattle.snap_core.specs.declared.policy.Term.{Term}
use Rattle.snap_core.specs.declared.policy.Term.TheVariants.{Num, Plus}
use Rattle.snap_core.specs.Tests.{term_value}
use Rattle.snap_context.specs.Classes.{wrap, shift, class_of, IsClass, Fits}
use Rattle.snap_context.specs.Closing.{IsOther, replace, put, merged}
use Rattle.snap_context.proofs.Wrap.{wrap_below}
use Rattle.snap_context.proofs.Algebra.{class_of-put, Fits-put}
use Rattle.snap_context.proofs.Roots.{classes-put}

-- 1 where the class of component i is its own root
abbrev root_one : Term → ℕ → ℕ
root_one (Num n) i = 0
root_one (Plus c p) i = cond (c == i) 1 0

-- how many of the first components are roots
abbrev pub roots : List Term → ℕ → ℕ
roots cl zero = 0
roots cl (suc i) = roots cl i + root_one (class_of cl i) i

-- better classes: classes still, with fewer roots
pub record Improves (cl new : List Term) : Type 0 where
  pub same : length new ≡ length cl
  pub classes : All (IsClass new) new
  pub fewer : roots new (length new) < roots cl (length cl)

root_shift : (cl : List Term) (r c : ℕ) (t : Term) (p i : ℕ) → IsClass cl t → IsOther r t → class_of cl i ≡ Plus c p → c ≡ r → root_one (shift t p) i ≡ 0
root_shift cl r c (Num n) p i h o e s = refl
root_shift cl r c (Plus q u) p i h o e s =
    let ne : q ≢ i = λ j. o (let root : class_of cl q ≡ Plus q 0 = h.2 in let at : class_of cl i ≡ Plus q 0 = rw (← j) root in let both : Plus c p ≡ Plus q 0 = sym e ∙ at in cc) in
    cond-false (q == i) 1 0 (ne_eqb q i ne)

root_kept : (cl : List Term) (r : ℕ) (t : Term) (i : ℕ) → IsClass cl t → IsOther r t → (x : Term) → class_of cl i ≡ x → root_one (replace r t x) i ≤ root_one x i
root_kept cl r t i h o (Num n) e = omega arith
root_kept cl r t i h o (Plus c p) e =
    let by : (b : Bool) → (c == r) ≡ b → root_one (cond b (shift t p) (Plus c p)) i ≤ root_one (Plus c p) i
    = λ b. elim b as (λ b. (c == r) ≡ b → root_one (cond b (shift t p) (Plus c p)) i ≤ root_one (Plus c p) i)
    [ true ↦ λ w. rw (root_shift cl r c t p i h o e (eqb-true c r w)) (omega arith) | false ↦ λ w. omega arith ]
    in by (c == r) refl

root_lost : (cl : List Term) (r : ℕ) (t : Term) → IsClass cl t → IsOther r t → class_of cl r ≡ Plus r 0 → root_one (replace r t (class_of cl r)) r < root_one (class_of cl r) r
root_lost cl r t h o e =
    let one : (r == r) ≡ true = eq-eqb r r refl in
    let z : root_one (shift t 0) r ≡ 0 = root_shift cl r r t 0 r h o e refl in
    rw (e, one, z) (omega arith)

module _ (cl : List Term) (r : ℕ) (t : Term) (h : IsClass cl t) (o : IsOther r t) (root : class_of cl r ≡ Plus r 0) where
  roots_le : (i : ℕ) → i ≤ length cl → roots (put cl r t) i ≤ roots cl i
  roots_le zero l = omega arith
  roots_le (suc i) l =
      let k : root_one (replace r t (class_of cl i)) i ≤ root_one (class_of cl i) i = root_kept cl r t i h o (class_of cl i) refl in
      let e : root_one (class_of (put cl r t) i) i ≡ root_one (replace r t (class_of cl i)) i = ap (λ x. root_one x i) (class_of-put cl r i t (omega (arith, l))) in
      omega (arith, roots_le i (omega arith), k, e)

  roots_less : (i : ℕ) → r < i → i ≤ length cl → roots (put cl r t) i < roots cl i
  roots_less zero l m = absurd (omega arith)
  roots_less (suc i) l m =
      let e : root_one (class_of (put cl r t) i) i ≡ root_one (replace r t (class_of cl i)) i = ap (λ x. root_one x i) (class_of-put cl r i t (omega (arith, m))) in
      ⊎_elim
      (λ (s : r ≡ i). let k : root_one (replace r t (class_of cl r)) r < root_one (class_of cl r) r = root_lost cl r t h o root in
      let k' : root_one (replace r t (class_of cl i)) i < root_one (class_of cl i) i = subst (λ j. root_one (replace r t (class_of cl j)) j < root_one (class_of cl j) j) s k in
      omega (arith, roots_le i (omega arith), k', e))
      (λ (ne : r ≡ i → ⊥). let k : root_one (replace r t (class_of cl i)) i ≤ root_one (class_of cl i) i = root_kept cl r t i h o (class_of cl i) refl in
      omega (arith, roots_less i (omega (arith, ne)) (omega arith), k, e))
      (cases_eq r i)

improves : (cl : List Term) (r : ℕ) (t : Term) → All (IsClass cl) cl → r < length cl → class_of cl r ≡ Plus r 0 → IsClass cl t → IsOther r t → Improves cl (put cl r t)
improves cl r t a l e h o = record {
  same = length-map cl (replace r t);
  classes = classes-put cl r t a h o;
  fewer = rw length-map (roots_less cl r t h o e (length cl) l (omega arith));
}

some_same : (x y : List Term) → Some x ≡ Some y → x ≡ y
some_same x y e = cc

-- two different terms that were made equal
pub merged_some : (cl new : List Term) (a b : Term) → All (IsClass cl) cl → IsClass cl a → IsClass cl b → a ≢ b → merged cl a b ≡ Some new → Improves cl new
merged_some cl new (Num x) (Num y) k ha hb ne e =
    let by : (t : Bool) → (x == y) ≡ t → cond t (Some cl) None ≡ Some new → Improves cl new
    = λ t. elim t as (λ t. (x == y) ≡ t → cond t (Some cl) None ≡ Some new → Improves cl new)
    [ true ↦ λ w i. absurd (ne (ap Num (eqb-true x y w))) | false ↦ λ w i. absurd (cc) ]
    in by (x == y) refl e
merged_some cl new (Num x) (Plus q u) k ha hb ne e =
    let s : put cl q (Num (wrap x (2 ^ 64 - u))) ≡ new = some_same _ _ e in
    rw s at (improves cl q (Num (wrap x (2 ^ 64 - u))) k hb.0 hb.2 (wrap_below x (2 ^ 64 - u)) tt)
merged_some cl new (Plus r p) (Num y) k ha hb ne e =
    let s : put cl r (Num (wrap y (2 ^ 64 - p))) ≡ new = some_same _ _ e in
    rw s at (improves cl r (Num (wrap y (2 ^ 64 - p))) k ha.0 ha.2 (wrap_below y (2 ^ 64 - p)) tt)
merged_some cl new (Plus r p) (Plus q u) k ha hb ne e =
    let by : (t v : Bool) → (r == q) ≡ t → (p == u) ≡ v → cond t (cond v (Some cl) None) (Some (put cl r (Plus q (wrap u (2 ^ 64 - p))))) ≡ Some new → Improves cl new
    = λ t v. elim t as (λ t. (r == q) ≡ t → (p == u) ≡ v → cond t (cond v (Some cl) None) (Some (put cl r (Plus q (wrap u (2 ^ 64 - p))))) ≡ Some new → Improves cl new) [
      | true ↦ elim v as (λ v. (r == q) ≡ true → (p == u) ≡ v → cond v (Some cl) None ≡ Some new → Improves cl new)
          [ true ↦ λ w z i. let s : r ≡ q = eqb-true r q w in let o : p ≡ u = eqb-true p u z in absurd (ne (cc)) | false ↦ λ w z i. absurd (cc) ]
      | false ↦ λ w z i.
          let s : put cl r (Plus q (wrap u (2 ^ 64 - p))) ≡ new = some_same _ _ i in
          rw s at (improves cl r (Plus q (wrap u (2 ^ 64 - p))) k ha.0 ha.2 (hb.0, wrap_below u (2 ^ 64 - p), hb.2) (λ j. eqb-false r q w (sym j)))
    ]
    in by (r == q) (p == u) refl refl e

pub solve_num : (x y p : ℕ) → p < 2 ^ 64 → wrap x p ≡ y → wrap x 0 ≡ wrap y (2 ^ 64 - p)
solve_num x y p h e = omega arith

pub solve_sum : (x y p u : ℕ) → p < 2 ^ 64 → wrap x p ≡ wrap y u → wrap x 0 ≡ wrap y (wrap u (2 ^ 64 - p))
solve_sum x y p u h e = omega arith

-- the merged classes fit where the two terms are equal
pub merged_fits : (cl new : List Term) (a b : Term) (k : List ℕ) → IsClass cl a → IsClass cl b → merged cl a b ≡ Some new → Fits cl k → term_value a k ≡ term_value b k → Fits new k
merged_fits cl new (Num x) (Num y) k ha hb e f v =
    let by : (t : Bool) → cond t (Some cl) None ≡ Some new → Fits new k
    = λ t. elim t as (λ t. cond t (Some cl) None ≡ Some new → Fits new k)
    [ true ↦ λ i. let s : cl ≡ new = some_same _ _ i in rw s at f | false ↦ λ i. absurd (cc) ]
    in by (x == y) e
merged_fits cl new (Num x) (Plus q u) k ha hb e f v =
    let s : put cl q (Num (wrap x (2 ^ 64 - u))) ≡ new = some_same _ _ e in
    rw s at (Fits-put k cl q (Num (wrap x (2 ^ 64 - u))) f (solve_num (slice_index k q) x u hb.1 (sym v)))
merged_fits cl new (Plus r p) (Num y) k ha hb e f v =
    let s : put cl r (Num (wrap y (2 ^ 64 - p))) ≡ new = some_same _ _ e in
    rw s at (Fits-put k cl r (Num (wrap y (2 ^ 64 - p))) f (solve_num (slice_index k r) y p ha.1 v))
merged_fits cl new (Plus r p) (Plus q u) k ha hb e f v =
    let by : (t w : Bool) → cond t (cond w (Some cl) None) (Some (put cl r (Plus q (wrap u (2 ^ 64 - p))))) ≡ Some new → Fits new k
    = λ t w. elim t as (λ t. cond t (cond w (Some cl) None) (Some (put cl r (Plus q (wrap u (2 ^ 64 - p))))) ≡ Some new → Fits new k) [
      | true ↦ elim w as (λ w. cond w (Some cl) None ≡ Some new → Fits new k)
          [ true ↦ λ i. let s : cl ≡ new = some_same _ _ i in rw s at f | false ↦ λ i. absurd (cc) ]
      | false ↦ λ i.
          let s : put cl r (Plus q (wrap u (2 ^ 64 - p))) ≡ new = some_same _ _ i in
          rw s at (Fits-put k cl r (Plus q (wrap u (2 ^ 64 - p))) f (solve_sum (slice_index k r) (slice_index k q) p u ha.1 v))
    ]
    in by (r == q) (p == u) e
