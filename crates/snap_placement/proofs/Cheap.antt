-- The cheapest of some switches, one after the other.
use Rattle.std.proofs.Common.{◌≡◌, ◌∙◌, ◌⊎◌, inl, inr, ℕ, ◌+◌, ◌<◌, ◌≤◌, Bool, true, false, ◌==◌, ◌&&◌, ◌||◌, nat_lt, List, length, get_or, take, refl, sym, ap, subst, arith}
use Rattle.std.specs.List.{Contains}
use Rattle.std.proofs.lemmas.Bool.Decides.{nat_tests}
use Rattle.std.proofs.lemmas.List.{take_more}
use Rattle.std.proofs.lemmas.List.Elements.{Contains-push_cases, Contains-get_or}
use Rattle.snap_placement.specs.Steps.{is_cheaper}

-- the cheapest of some switches, which is itself among all
pub record IsBestSo (cost : ℕ → ℕ) (all some : List ℕ) (n : ℕ) : Type 0 where
  pub member : Contains all n
  pub least : (m : ℕ) → Contains some m → cost n ≤ cost m
  pub first : (m : ℕ) → Contains some m → cost m ≡ cost n → n ≤ m

-- what the test says of two costs
cheaper : (x y a b : ℕ) (t : Bool) → (nat_lt x y || ((x == y) && nat_lt a b)) ≡ t → t ≡ true → (x ≤ y) × (x ≡ y → a < b)
cheaper x y a b t is yes' = (grind (arith, nat_tests), λ e. grind (arith, nat_tests))

dearer : (x y a b : ℕ) (t : Bool) → (nat_lt x y || ((x == y) && nat_lt a b)) ≡ t → t ≡ false → (y ≤ x) × (x ≡ y → b ≤ a)
dearer x y a b t is no' = (grind (arith, nat_tests), λ e. grind (arith, nat_tests))

pub IsBestSo-cheaper : (cost : ℕ → ℕ) (all : List ℕ) (i n new : ℕ) → i < length all → is_cheaper cost (get_or all i 0) n ≡ true → new ≡ get_or all i 0
    → IsBestSo cost all (take i all) n → IsBestSo cost all (take (i + 1) all) new
IsBestSo-cheaper cost all i n new lt is same best =
    let x = get_or all i 0 in
    let said = cheaper (cost x) (cost n) x n (is_cheaper cost x n) refl is in
    let low = said.0 in
    let cases : (m : ℕ) → Contains (take (i + 1) all) m → Contains (take i all) m ⊎ (x ≡ m) = λ m h. Contains-push_cases (take i all) x m (subst (λ (ys : List ℕ). Contains ys m) (take_more all i 0 lt) h) in
    subst (λ (w : ℕ). IsBestSo cost all (take (i + 1) all) w) (sym same) (record {
      member = Contains-get_or all i 0 lt;
      least = λ m h. elim (cases m h) [ inl before ↦ (let more = best.least m before in omega arith) | inr now ↦ subst (λ (w : ℕ). cost x ≤ cost w) now (omega arith) ];
      first = λ m h e. elim (cases m h) [
        | inl before ↦ let more = best.least m before in let tie : cost x ≡ cost n = omega arith in
            let under = said.1 tie in omega (arith, best.first m before (e ∙ tie))
        | inr now ↦ omega arith
      ];
    })

pub IsBestSo-dearer : (cost : ℕ → ℕ) (all : List ℕ) (i n new : ℕ) → i < length all → is_cheaper cost (get_or all i 0) n ≡ false → new ≡ n
    → IsBestSo cost all (take i all) n → IsBestSo cost all (take (i + 1) all) new
IsBestSo-dearer cost all i n new lt is same best =
    let x = get_or all i 0 in
    let said = dearer (cost x) (cost n) x n (is_cheaper cost x n) refl is in
    let low = said.0 in
    let cases : (m : ℕ) → Contains (take (i + 1) all) m → Contains (take i all) m ⊎ (x ≡ m) = λ m h. Contains-push_cases (take i all) x m (subst (λ (ys : List ℕ). Contains ys m) (take_more all i 0 lt) h) in
    subst (λ (w : ℕ). IsBestSo cost all (take (i + 1) all) w) (sym same) (record {
      member = best.member;
      least = λ m h. elim (cases m h) [ inl before ↦ best.least m before | inr now ↦ subst (λ (w : ℕ). cost n ≤ cost w) now low ];
      first = λ m h e. elim (cases m h) [ inl before ↦ best.first m before e | inr now ↦ subst (λ (w : ℕ). n ≤ w) now (said.1 (ap cost now ∙ e)) ];
    })
