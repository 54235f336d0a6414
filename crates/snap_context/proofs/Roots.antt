-- Classes stay classes when a root becomes another term.
use Rattle.std.proofs.Common.{◌≡◌, ◌≢◌, ℕ, ◌<◌, ◌≤◌, cond, true, false, Bool, List, length, get_or, refl, ap, ◌∙◌, arith}
use Rattle.std.specs.Prelude.{◌==◌, All}
use Rattle.std.proofs.lemmas.Bool.{eqb-false, ne_eqb, cond-false}
use Rattle.std.proofs.lemmas.List.{length-map, get_or-map}
use Rattle.snap_core.specs.declared.policy.Atom.{Atom}
use Rattle.snap_core.specs.declared.policy.Atom.TheVariants.{Num as Number, Comp}
use Rattle.snap_core.specs.declared.policy.Term.{Term}
use Rattle.snap_core.specs.declared.policy.Term.TheVariants.{Num, Plus}
use Rattle.snap_core.specs.declared.policy.Test.{Test}
use Rattle.snap_core.specs.declared.policy.Test.TheVariants.{Value, Equal, State}
use Rattle.snap_context.specs.Classes.{shift, class_of, normal, atom_class, IsTerm, IsAtom, IsTest, IsClass, left_of, right_of, index_of}
use Rattle.snap_context.specs.Closing.{IsOther, replace, put}
use Rattle.snap_context.proofs.Wrap.{wrap_below}
use Rattle.snap_context.proofs.Algebra.{class_of-put}

pub class_term : (cl : List Term) (t : Term) → IsClass cl t → IsTerm (length cl) t
class_term cl (Num n) h = h
class_term cl (Plus c p) h = (h.0, h.1)

pub shift_term : (count : ℕ) (t : Term) (p : ℕ) → IsTerm count t → IsTerm count (shift t p)
shift_term count (Num n) p h = wrap_below n p
shift_term count (Plus c q) p h = (h.0, wrap_below q p)

pub normal_term : (cl : List Term) (x : Term) → All (IsClass cl) cl → IsTerm (length cl) x → IsTerm (length cl) (normal cl x)
normal_term cl (Num n) a h = h
normal_term cl (Plus c p) a h = shift_term (length cl) (class_of cl c) p (class_term cl (class_of cl c) (a c (Plus c 0) h.0))

pub atom_term : (cl : List Term) (x : Atom) → All (IsClass cl) cl → IsAtom (length cl) x → IsTerm (length cl) (atom_class cl x)
atom_term cl (Number n) a h = h
atom_term cl (Comp c) a h = class_term cl (class_of cl c) (a c (Plus c 0) h)

pub replace-other : (r : ℕ) (t : Term) (q p : ℕ) → q ≢ r → replace r t (Plus q p) ≡ Plus q p
replace-other r t q p ne = cond-false (q == r) (shift t p) (Plus q p) (ne_eqb q r ne)

root-put : (cl : List Term) (r : ℕ) (t : Term) (q : ℕ) → q < length cl → q ≢ r → class_of cl q ≡ Plus q 0 → class_of (put cl r t) q ≡ Plus q 0
root-put cl r t q h ne e = class_of-put cl r q t h ∙ (ap (replace r t) e ∙ replace-other r t q 0 ne)

target-put : (cl : List Term) (r : ℕ) (t : Term) (p : ℕ) → IsClass cl t → IsOther r t → IsClass (put cl r t) (shift t p)
target-put cl r (Num n) p h o = wrap_below n p
target-put cl r (Plus q u) p h o = (rw length-map h.0, wrap_below u p, root-put cl r (Plus q u) q h.0 o h.2)

class-put : (cl : List Term) (r : ℕ) (t x : Term) → IsClass cl x → IsClass cl t → IsOther r t → IsClass (put cl r t) (replace r t x)
class-put cl r t (Num n) h i o = h
class-put cl r t (Plus c p) h i o =
    let by : (b : Bool) → (c == r) ≡ b → IsClass (put cl r t) (cond b (shift t p) (Plus c p))
    = λ b. elim b as (λ b. (c == r) ≡ b → IsClass (put cl r t) (cond b (shift t p) (Plus c p))) [
      | true ↦ λ w. target-put cl r t p i o
      | false ↦ λ w. (rw length-map h.0, h.1, root-put cl r t c h.0 (eqb-false c r w) h.2)
    ]
    in by (c == r) refl

pub classes-put : (cl : List Term) (r : ℕ) (t : Term) → All (IsClass cl) cl → IsClass cl t → IsOther r t → All (IsClass (put cl r t)) (put cl r t)
classes-put cl r t a i o k d h =
    let h' : k < length cl = rw length-map at h in
    rw (get_or-map (replace r t) cl k (Plus k 0) d h') (class-put cl r t (get_or cl k (Plus k 0)) (a k (Plus k 0) h') i o)

pub left-term : (count : ℕ) (t : Test) → IsTest count t → IsTerm count (left_of t)
left-term count (Value c n) h = (h.0, omega arith)
left-term count (Equal l r p) h = (h.0, omega arith)
left-term count (State v ix t) h = h.2

pub right-term : (count : ℕ) (t : Test) → IsTest count t → IsTerm count (right_of t)
right-term count (Value c n) h = h.1
right-term count (Equal l r p) h = (h.1, h.2)
right-term count (State v ix t) h = h.2

pub index-atoms : (count : ℕ) (t : Test) → IsTest count t → All (IsAtom count) (index_of t)
index-atoms count (Value c n) h k d l = absurd (omega arith)
index-atoms count (Equal l r p) h k d m = absurd (omega arith)
index-atoms count (State v ix t) h k d m = h.1 k d m

pub index-short : (count : ℕ) (t : Test) → IsTest count t → length (index_of t) ≤ 8
index-short count (Value c n) h = omega arith
index-short count (Equal l r p) h = omega arith
index-short count (State v ix t) h = h.0
