-- How terms, classes and packets go together.
use Rattle.std.proofs.Common.{◌≡◌, ℕ, ◌<◌, cond, true, false, Bool, List, length, refl, sym, ap, ◌∙◌, arith}
use Rattle.std.specs.Prelude.{slice_index, ◌==◌}
use Rattle.std.proofs.lemmas.Bool.Decides.{nat_tests}
use Rattle.std.proofs.lemmas.List.{get_or-map, length-map}
use Rattle.snap_core.specs.declared.policy.Atom.{Atom}
use Rattle.snap_core.specs.declared.policy.Atom.TheVariants.{Num as Number, Comp}
use Rattle.snap_core.specs.declared.policy.Term.{Term}
use Rattle.snap_core.specs.declared.policy.Term.TheVariants.{Num, Plus}
use Rattle.snap_core.specs.Tests.{term_value}
use Rattle.snap_context.specs.Classes.{wrap, shift, class_of, normal, atom_class, IsTerm, IsAtom, Fits}
use Rattle.snap_context.specs.Closing.{replace, put}
use Rattle.snap_context.proofs.Wrap.{wrap_assoc}

pub shift_shift : (t : Term) (p q : ℕ) → shift (shift t p) q ≡ shift t (wrap p q)
shift_shift (Num n) p q = ap Num (wrap_assoc n p q)
shift_shift (Plus c n) p q = ap (Plus c) (wrap_assoc n p q)

pub replace-shift : (r : ℕ) (t x : Term) (p : ℕ) → replace r t (shift x p) ≡ shift (replace r t x) p
replace-shift r t (Num n) p = refl
replace-shift r t (Plus c n) p =
    elim (c == r) as (λ b. cond b (shift t (wrap n p)) (Plus c (wrap n p)) ≡ shift (cond b (shift t n) (Plus c n)) p)
    [ true ↦ sym (shift_shift t n p) | false ↦ refl ]

pub class_of-put : (cl : List Term) (r c : ℕ) (t : Term) → c < length cl → class_of (put cl r t) c ≡ replace r t (class_of cl c)
class_of-put cl r c t h = get_or-map (replace r t) cl c (Plus c 0) (Plus c 0) h

pub normal-put : (cl : List Term) (r : ℕ) (t x : Term) → IsTerm (length cl) x → normal (put cl r t) x ≡ replace r t (normal cl x)
normal-put cl r t (Num n) h = refl
normal-put cl r t (Plus c p) h = rw (class_of-put cl r c t h.0) (sym (replace-shift r t (class_of cl c) p))

pub atom_class-put : (cl : List Term) (r : ℕ) (t : Term) (a : Atom) → IsAtom (length cl) a → atom_class (put cl r t) a ≡ replace r t (atom_class cl a)
atom_class-put cl r t (Number n) h = refl
atom_class-put cl r t (Comp c) h = class_of-put cl r c t h

pub term_value-shift : (k : List ℕ) (t : Term) (p : ℕ) → term_value (shift t p) k ≡ wrap (term_value t k) p
term_value-shift k (Num n) p = refl
term_value-shift k (Plus c n) p = sym (wrap_assoc (slice_index k c) n p)

pub normal-value : (k : List ℕ) (cl : List Term) (x : Term) → Fits cl k → IsTerm (length cl) x → term_value (normal cl x) k ≡ term_value x k
normal-value k cl (Num n) f h = refl
normal-value k cl (Plus c p) f h =
    term_value-shift k (class_of cl c) p ∙ (ap (λ v. wrap v p) (f c h.0) ∙ omega arith)

pub replace-value : (k : List ℕ) (r : ℕ) (t x : Term) → term_value (Plus r 0) k ≡ term_value t k → term_value (replace r t x) k ≡ term_value x k
replace-value k r t (Num n) e = refl
replace-value k r t (Plus c p) e =
    let at : (b : Bool) → (c == r) ≡ b → term_value (cond b (shift t p) (Plus c p)) k ≡ term_value (Plus c p) k
    = λ b. elim b as (λ b. (c == r) ≡ b → term_value (cond b (shift t p) (Plus c p)) k ≡ term_value (Plus c p) k) [
      | true ↦ λ w. let same : c ≡ r = grind (arith, nat_tests) in
          term_value-shift k t p ∙ (ap (λ v. wrap v p) (sym e) ∙ (rw same (omega arith)))
      | false ↦ λ w. refl
    ]
    in at (c == r) refl

pub Fits-put : (k : List ℕ) (cl : List Term) (r : ℕ) (t : Term) → Fits cl k → term_value (Plus r 0) k ≡ term_value t k → Fits (put cl r t) k
Fits-put k cl r t f e c h =
    let h' : c < length cl = rw length-map at h in
    rw (class_of-put cl r c t h') (replace-value k r t (class_of cl c) e ∙ f c h')
