-- Short numbers in digits.
use Rattle.std.proofs.Common.{◌≡◌, ℕ, ◌+◌, ◌/◌, ◌%◌, ◌^◌, ◌<◌, ◌≤◌, List, [], ◌∷◌, ◌++◌, length, ap, ◌∙◌, arith, decimal, append_assoc, length-append}
use Rattle.std.proofs.lemmas.Fmt.{decimal_digit, decimal_step, length-decimal-le}

pub decimal-two : (n : ℕ) → 10 ≤ n → n < 100 → decimal n ≡ (48 + n / 10) ∷ (48 + n % 10) ∷ []
decimal-two n more less = decimal_step n more (omega arith) ∙ ap (λ l. l ++ ((48 + n % 10) ∷ [])) (decimal_digit (n / 10) (omega arith))

pub decimal-three : (n : ℕ) → 100 ≤ n → n < 1000 → decimal n ≡ (48 + n / 10 / 10) ∷ (48 + n / 10 % 10) ∷ (48 + n % 10) ∷ []
decimal-three n more less = decimal_step n (omega arith) (omega arith) ∙ ap (λ l. l ++ ((48 + n % 10) ∷ [])) (decimal-two (n / 10) (omega arith) (omega arith))

-- the last digit, behind the others
pub decimal-behind : (n : ℕ) (rest : List ℕ) → 10 ≤ n → n < 2 ^ 64 → decimal n ++ rest ≡ decimal (n / 10) ++ ((48 + n % 10) ∷ rest)
decimal-behind n rest more fits = rw (decimal_step n more fits, append_assoc)

pub length-decimal_step : (n : ℕ) → 10 ≤ n → n < 2 ^ 64 → length (decimal n) ≡ length (decimal (n / 10)) + 1
length-decimal_step n more fits = ap length (decimal_step n more fits) ∙ length-append (decimal (n / 10)) ((48 + n % 10) ∷ [])

-- a byte has three digits at most
pub length-decimal_byte : (n : ℕ) → n < 256 → length (decimal n) ≤ 3
length-decimal_byte n less = length-decimal-le 3 n (omega arith) (omega arith) (omega arith)

-- a number of 64 bits has twenty digits at most
pub length-decimal_wide : (n : ℕ) → n < 2 ^ 64 → length (decimal n) ≤ 20
length-decimal_wide n less = length-decimal-le 20 n (omega arith) (omega arith) less
