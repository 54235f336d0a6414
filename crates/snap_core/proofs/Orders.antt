-- What the answers of an order tell.
use Rattle.std.proofs.Common.{◌≡◌, ℕ, ◌<◌, true, nat_cmp, is_eq, is_lt, Ordering, Less, Equal, Greater, refl, sym}
use Rattle.std.specs.Ordering.{ordering_then}
use Rattle.std.specs.Cmp.{nat_cmp_is}
use Rattle.std.proofs.lemmas.Bool.{false≢true}
use Rattle.std.proofs.lemmas.Cmp.{by_ranked, ranked}

pub then-Equal : (o : Ordering) → ordering_then o Equal ≡ o
then-Equal Less = refl
then-Equal Equal = refl
then-Equal Greater = refl

pub is_eq-true : (o : Ordering) → is_eq o ≡ true → o ≡ Equal
is_eq-true Less e = absurd (false≢true e)
is_eq-true Equal e = refl
is_eq-true Greater e = absurd (false≢true e)

pub is_lt-true : (o : Ordering) → is_lt o ≡ true → o ≡ Less
is_lt-true Less e = refl
is_lt-true Equal e = absurd (false≢true e)
is_lt-true Greater e = absurd (false≢true e)

pub nat_cmp-Less : (x y : ℕ) → x < y → nat_cmp x y ≡ Less
nat_cmp-Less x y lt = sym (nat_cmp_is x y Less lt)

pub lt-from_Less : (x y : ℕ) → nat_cmp x y ≡ Less → x < y
lt-from_Less x y is = by_ranked (x < y) (x ≡ y) (y < x) (nat_cmp x y) (ranked x y (nat_cmp x y) refl) (λ _ lt. lt) (λ e _. absurd (cc (e, is))) (λ e _. absurd (cc (e, is)))
