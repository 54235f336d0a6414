-- A number for each root, one root after another, with no rule broken.
use Rattle.std.proofs.Common.{◌≡◌, ℕ, zero, suc, ◌^◌, ◌<◌, ◌≤◌, ⊎_elim, List, length, refl, arith}
use Rattle.std.proofs.lemmas.Bool.{eq-eqb, cases_eq}
use Rattle.std.proofs.lemmas.List.{length-map}
use Rattle.snap_core.specs.declared.policy.Term.{Term}
use Rattle.snap_core.specs.declared.policy.Term.TheVariants.{Num, Plus}
use Rattle.snap_core.specs.Terms.{IsNumber}
use Rattle.snap_context.specs.declared.fact.Fact.{Fact}
use Rattle.snap_context.specs.Classes.{class_of, Rules}
use Rattle.snap_context.specs.Closing.{replace, put}
use Rattle.snap_context.proofs.Algebra.{class_of-put}
use Rattle.snap_context.proofs.Tying.{tied}

const_replace : (r n : ℕ) (x : Term) → IsNumber x → IsNumber (replace r (Num n) x)
const_replace r n (Num m) h = tt
const_replace r n (Plus c p) h = absurd h

const_root : (r n p : ℕ) → IsNumber (replace r (Num n) (Plus r p))
const_root r n p = rw (eq-eqb r r refl) tt

-- the classes with the first so many components tied
pub record Ties (facts : List Fact) (cl : List Term) (i : ℕ) (new : List Term) : Type 0 where
  pub same : length new ≡ length cl
  pub rules : Rules facts new
  pub done : (c : ℕ) → c < i → IsNumber (class_of new c)

tie_one : (facts : List Fact) (cl : List Term) (i : ℕ) (old : List Term) → suc i ≤ length cl → length cl ≤ 64 → length facts ≤ 2 ^ 32 → Ties facts cl i old → (t : Term) → class_of old i ≡ t → (new : List Term) × Ties facts cl (suc i) new
tie_one facts cl i old lt few many h (Num n) e =
    (old, record { same = h.same; rules = h.rules; done = λ c l. ⊎_elim (λ (s : c ≡ i). rw (s, e) tt) (λ ne. h.done c (omega (arith, ne, l))) (cases_eq c i) })
tie_one facts cl i old lt few many h (Plus r p) e =
    let new : (n : ℕ) × (n < 2 ^ 64) × Rules facts (put old r (Num n)) = tied facts old r h.rules (rw h.same few) many in (
      put old r (Num new.0),
      record {
        same = (rw length-map h.same);
        rules = new.2;
        done = λ c l.
            let in' : c < length old = rw h.same (omega (arith, l, lt)) in
            rw (class_of-put old r c (Num new.0) in')
            (⊎_elim (λ (s : c ≡ i). rw (s, e) (const_root r new.0 p)) (λ ne. const_replace r new.0 (class_of old c) (h.done c (omega (arith, ne, l)))) (cases_eq c i));
      },
    )

pub tie_upto : (facts : List Fact) (cl : List Term) (i : ℕ) → i ≤ length cl → length cl ≤ 64 → length facts ≤ 2 ^ 32 → Rules facts cl → (new : List Term) × Ties facts cl i new
tie_upto facts cl zero lt few many rules = (cl, record { same = refl; rules = rules; done = λ c l. absurd (omega (arith, l)) })
tie_upto facts cl (suc i) lt few many rules =
    let h : (old : List Term) × Ties facts cl i old = tie_upto facts cl i (omega arith) few many rules in
    tie_one facts cl i h.0 lt few many h.1 (class_of h.0 i) refl
