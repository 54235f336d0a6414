-- When a text is a number from 1 to 64.
use Rattle.std.proofs.Common.{arith, ◌≡◌, ◌≢◌, ◌∙◌, ◌≤◌, ◌<◌, ◌+◌, refl, sym, ap, Bool, true, false, cond, ℕ, zero, suc, Option, Some, None, decimal, find, bytes_eq}
use Rattle.std.specs.List.{range_with_len}
use Rattle.std.proofs.lemmas.Fmt.{decimal_injective}
use Rattle.std.proofs.lemmas.Slice.Eq.{bytes_eq-Decides}
use Rattle.snap_words.specs.Counts.{count_of}
use Rattle.snap_words.specs.Words.{Text}

module _ (p : ℕ → Bool) where
  none_by : (b : Bool) (a : ℕ) (o : Option ℕ) → b ≡ false → o ≡ None → cond b (Some a) o ≡ None
  none_by true a o not none = cc
  none_by false a o not none = none

  find_none : (a k : ℕ) → ((n : ℕ) → a ≤ n → n < a + k → p n ≡ false) → find p (range_with_len a k) ≡ None
  find_none a zero not = refl
  find_none a (suc k) not = none_by (p a) a _ (not a (omega arith) (omega arith)) (find_none (a + 1) k (λ n least most. not n (omega arith) (omega arith)))

  some_by : (b : Bool) (a k n : ℕ) (o : Option ℕ) → p a ≡ b → a ≤ n → n < a + suc k → ((m : ℕ) → m < a + suc k → p m ≡ true → m ≡ n) → (a + 1 ≤ n → o ≡ Some n) → p n ≡ true → cond b (Some a) o ≡ Some n
  some_by true a k n o is least most one more at = ap Some (one a (omega arith) is)
  some_by false a k n o is least most one more at = more (let apart : a ≢ n = λ e. let f : true ≡ false = sym at ∙ ap p (sym e) ∙ is in cc in omega arith)

  find_some : (a k n : ℕ) → a ≤ n → n < a + k → p n ≡ true → ((m : ℕ) → m < a + k → p m ≡ true → m ≡ n) → find p (range_with_len a k) ≡ Some n
  find_some a zero n least most at one = absurd (omega arith)
  find_some a (suc k) n least most at one = some_by (p a) a k n _ refl least most one
      (λ more. find_some (a + 1) k n (omega arith) (omega arith) at (λ m below is. one m (omega arith) is)) at

pub count_of-decimal : (text : Text) (n : ℕ) → 1 ≤ n → n ≤ 64 → text ≡ decimal n → count_of text ≡ Some n
unfolding count_of
count_of-decimal text n least most is = find_some (λ m. bytes_eq (decimal m) text) 1 64 n least (omega arith) ((bytes_eq-Decides (decimal n) text).1 (sym is))
    (λ m below at. decimal_injective m n (omega arith) (omega arith) ((bytes_eq-Decides (decimal m) text).0 at ∙ is))

pub count_of-none : (text : Text) → ((n : ℕ) → 1 ≤ n → n ≤ 64 → text ≢ decimal n) → count_of text ≡ None
unfolding count_of
count_of-none text other = find_none (λ m. bytes_eq (decimal m) text) 1 64
    (λ n least most. is_false (bytes_eq (decimal n) text) (λ at. other n least (omega arith) (sym ((bytes_eq-Decides (decimal n) text).0 at))))
  where
    is_false : (b : Bool) → (b ≡ true → ⊥) → b ≡ false
    is_false true h = absurd (h refl)
    is_false false h = refl
