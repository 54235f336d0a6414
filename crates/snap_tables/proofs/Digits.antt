-- Numbers digit by digit.
use Rattle.std.proofs.Common.{◌≡◌, ◌≤◌, ◌<◌, ◌/◌, ◌%◌, ◌++◌, ℕ, sym, ap, ◌∙◌, arith}
use Rattle.std.specs.Fmt.{decimal}
use Rattle.std.proofs.lemmas.Fmt.{decimal_digit, decimal_step}

pub decimal-last : (n : ℕ) → 10 ≤ n → n < 10000 → decimal n ≡ decimal (n / 10) ++ decimal (n % 10)
decimal-last n least most =
    decimal_step n least (omega arith) ∙ ap (λ l. decimal (n / 10) ++ l) (sym (decimal_digit (n % 10) (omega arith)))

pub decimal-last-two : (n : ℕ) → 100 ≤ n → n < 10000 → decimal n ≡ (decimal (n / 100) ++ decimal (n / 10 % 10)) ++ decimal (n % 10)
decimal-last-two n least most =
    let tens : n / 10 / 10 ≡ n / 100 = omega arith in
    decimal-last n (omega arith) most
    ∙ ap (λ l. l ++ decimal (n % 10)) (decimal-last (n / 10) (omega arith) (omega arith) ∙ ap (λ k. decimal k ++ decimal (n / 10 % 10)) tens)
