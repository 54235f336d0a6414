-- Rows of a relation, one after another.
use Rattle.std.proofs.Common.{◌≡◌, ◌↔◌, ℕ, ◌+◌, ◌<◌, ◌≤◌, ◌⊎◌, inl, inr, List, length, set, get_or, sym, subst, ap, ◌∙◌, arith, bit_or}
use Rattle.std.specs.Prelude.{IsTrue, slice_index}
use Rattle.std.proofs.lemmas.Bool.{cases_eq, cases_lt}
use Rattle.std.proofs.lemmas.List.{get_or-set_same, get_or-set_other, get_or_past}
use Rattle.snap_core.specs.Arrays.{has}
use Rattle.snap_dep.specs.Relations.{Relates}
use Rattle.snap_dep.proofs.Sets.{in_or, in_zero}

-- the rows below i have also what Q relates, and the others are as they were
pub record Progress (before now : List ℕ) (i : ℕ) (Q : ℕ → ℕ → Type 0) : Type 0 where
  pub done : (s t : ℕ) → t < i → Relates now s t ↔ (Relates before s t ⊎ Q s t)
  pub rest : (t : ℕ) → i ≤ t → slice_index now t ≡ slice_index before t

pub either_iff : {A B C D : Type 0} → A ↔ B → C ↔ D → (A ⊎ C) ↔ (B ⊎ D)
either_iff {A} {B} {C} {D} e f = (to, from)
  where
    to : (A ⊎ C) → (B ⊎ D)
    to (inl a) = inl (e.0 a)
    to (inr c) = inr (f.0 c)

    from : (B ⊎ D) → (A ⊎ C)
    from (inl b) = inl (e.1 b)
    from (inr d) = inr (f.1 d)

drop_right : {A B : Type 0} → (B → ⊥) → (A ⊎ B) → A
drop_right f (inl a) = a
drop_right f (inr b) = absurd (f b)

pub iff_on : {A B C : Type 0} → A ↔ B → B ↔ C → A ↔ C
iff_on e f = (λ a. f.0 (e.0 a), λ c. e.1 (f.1 c))

pub without_right : {A B : Type 0} → (B → ⊥) → A ↔ (A ⊎ B)
without_right f = (λ a. inl a, drop_right f)

module _ (before now : List ℕ) (i : ℕ) (Q : ℕ → ℕ → Type 0) (so_far : Progress before now i Q) where
  -- a row gets more
  pub write : (added : ℕ) → i < length now → ((s : ℕ) → IsTrue (has added s) ↔ Q s i) → Progress before (set now i (bit_or (get_or now i 0) added)) (i + 1) Q
  write added within new = record { done = λ s t l. at_row s t l (cases_eq t i); rest = λ t l. get_or-set_other now i t _ 0 (omega (arith, l)) ∙ so_far.rest t (omega (arith, l)) }
    where
      row : get_or (set now i (bit_or (get_or now i 0) added)) i 0 ≡ bit_or (get_or before i 0) added
      row = get_or-set_same now i _ 0 within ∙ ap (λ r. bit_or r added) (so_far.rest i (omega arith))

      here : (s : ℕ) → Relates (set now i (bit_or (get_or now i 0) added)) s i ↔ (Relates before s i ⊎ Q s i)
      here s = subst (λ r. IsTrue (has r s) ↔ (Relates before s i ⊎ Q s i)) (sym row) (iff_on (in_or (get_or before i 0) added s) (either_iff (λ h. h, λ h. h) (new s)))

      at_row : (s t : ℕ) → t < i + 1 → (t ≡ i) ⊎ (t ≡ i → ⊥) → Relates (set now i (bit_or (get_or now i 0) added)) s t ↔ (Relates before s t ⊎ Q s t)
      at_row s t l (inl e) = subst (λ u. Relates (set now i (bit_or (get_or now i 0) added)) s u ↔ (Relates before s u ⊎ Q s u)) (sym e) (here s)
      at_row s t l (inr ne) = subst (λ r. IsTrue (has r s) ↔ (Relates before s t ⊎ Q s t)) (sym (get_or-set_other now i t _ 0 ne)) (so_far.done s t (omega (arith, l, ne)))

  -- a row stays
  pub skip : ((s : ℕ) → Q s i → ⊥) → Progress before now (i + 1) Q
  skip none = record { done = λ s t l. at_row s t l (cases_eq t i); rest = λ t l. so_far.rest t (omega (arith, l)) }
    where
      here : (s : ℕ) → Relates now s i ↔ (Relates before s i ⊎ Q s i)
      here s = subst (λ r. IsTrue (has r s) ↔ (Relates before s i ⊎ Q s i)) (sym (so_far.rest i (omega arith))) (without_right (none s))

      at_row : (s t : ℕ) → t < i + 1 → (t ≡ i) ⊎ (t ≡ i → ⊥) → Relates now s t ↔ (Relates before s t ⊎ Q s t)
      at_row s t l (inl e) = subst (λ u. Relates now s u ↔ (Relates before s u ⊎ Q s u)) (sym e) (here s)
      at_row s t l (inr ne) = so_far.done s t (omega (arith, l, ne))

-- what is related to a variable is related to one of the rows
pub within_rows : (rows : List ℕ) (s t : ℕ) → Relates rows s t → t < length rows
within_rows rows s t h = by_place (cases_lt t (length rows))
  where
    by_place : (t < length rows) ⊎ (length rows ≤ t) → t < length rows
    by_place (inl l) = l
    by_place (inr l) = absurd (in_zero s (subst (λ r. IsTrue (has r s)) (get_or_past rows t 0 l) h))
