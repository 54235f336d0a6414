-- A list that grows by one element at a time, each with what holds at its index.
use Rattle.std.proofs.Common.{◌≡◌, ◌∙◌, inl, inr, ℕ, ◌+◌, ◌<◌, List, [], ◌∷◌, ◌++◌, length, get_or, sym, ap, subst, arith, slice_index}
use Rattle.std.proofs.lemmas.Bool.{cases_eq}
use Rattle.std.proofs.lemmas.List.{get_or_append_left, get_or_push, length_push}

pub record Fills (P : ℕ → ℕ → Type 0) (n : ℕ) (xs : List ℕ) : Type 0 where
  pub count : length xs ≡ n
  pub each : (i : ℕ) → i < n → P i (slice_index xs i)

pub Fills-more : (P : ℕ → ℕ → Type 0) (n x : ℕ) (xs ys : List ℕ) → ys ≡ xs ++ x ∷ [] → P n x → Fills P n xs → Fills P (n + 1) ys
Fills-more P n x xs ys is here before =
    let size = length_push xs x in
    let long : length ys ≡ n + 1 = ap (λ (l : List ℕ). length l) is ∙ omega (arith, size, before.count) in
    record {
      count = long;
      each = λ i lt. subst (λ (l : List ℕ). P i (get_or l i 0)) (sym is) (elim (cases_eq i n) [
        | inl same ↦ subst (λ (k : ℕ). P k (get_or (xs ++ x ∷ []) k 0)) (sym same) (subst (λ (w : ℕ). P n w) (sym (get_or_push xs x 0 n before.count)) here)
        | inr other ↦ subst (λ (w : ℕ). P i w) (sym (get_or_append_left xs (x ∷ []) 0 i (omega (arith, before.count, lt)))) (before.each i (omega arith))
      ]);
    }
