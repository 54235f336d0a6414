-- The parts of a text between separators.
use Rattle.std.proofs.Common.{◌≡◌, ℕ, ◌+◌, ◌-◌, ◌<◌, zero, suc, Bool, true, false, cond, List, [], ◌∷◌, length, take, drop, get_or, refl, sym, ap, ◌∙◌, arith, add-one, length-drop}
use Rattle.std.proofs.lemmas.List.{take_all}
use Rattle.snap_core.specs.Figures.{onto_first, parts_by}

module _ (p : ℕ → Bool) where
  pub parts_by-step : (b : ℕ) (bs : List ℕ) (t : Bool) → p b ≡ t → parts_by p (b ∷ bs) ≡ cond t ([] ∷ parts_by p bs) (onto_first b (parts_by p bs))
  parts_by-step b bs t e = ap (λ t. cond t ([] ∷ parts_by p bs) (onto_first b (parts_by p bs))) e

  -- the first separator is at i
  pub parts_by-first : (bytes : List ℕ) (i : ℕ) → i < length bytes → ((k : ℕ) → k < i → p (get_or bytes k 0) ≡ false) → p (get_or bytes i 0) ≡ true
      → parts_by p bytes ≡ take i bytes ∷ parts_by p (drop (suc i) bytes)
  parts_by-first [] i lt before here = absurd (omega arith)
  parts_by-first (b ∷ bs) zero lt before here = parts_by-step b bs true here
  parts_by-first (b ∷ bs) (suc i) lt before here =
      parts_by-step b bs false (before 0 (omega arith)) ∙ ap (onto_first b) (parts_by-first bs i (omega arith) (λ k l. before (suc k) (omega arith)) here)

  -- there is none
  pub parts_by-none : (bytes : List ℕ) → ((k : ℕ) → k < length bytes → p (get_or bytes k 0) ≡ false) → parts_by p bytes ≡ bytes ∷ []
  parts_by-none [] none = refl
  parts_by-none (b ∷ bs) none = parts_by-step b bs false (none 0 (omega arith)) ∙ ap (onto_first b) (parts_by-none bs (λ k l. none (suc k) (omega arith)))

  -- as a program's `&bytes[n..]` is seen
  pub parts_by-split : (bytes : List ℕ) (i : ℕ) → i < length bytes → ((k : ℕ) → k < i → p (get_or bytes k 0) ≡ false) → p (get_or bytes i 0) ≡ true
      → parts_by p bytes ≡ take i bytes ∷ parts_by p (take (length bytes - (i + 1)) (drop (i + 1) bytes))
  parts_by-split bytes i lt before here =
      parts_by-first bytes i lt before here
      ∙ ap (λ l. take i bytes ∷ parts_by p l) (ap (λ k. drop k bytes) (sym (add-one i)) ∙ sym (take_all (length bytes - (i + 1)) (drop (i + 1) bytes) (omega (arith, length-drop (i + 1) bytes))))
