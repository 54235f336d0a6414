-- Sums of numbers of 64 bits.
use Rattle.std.proofs.Common.{◌≡◌, ℕ, ◌^◌, ◌<◌, arith}
use Rattle.snap_context.specs.Classes.{wrap}

pub wrap_below : (x y : ℕ) → wrap x y < 2 ^ 64
wrap_below x y = omega arith

pub wrap_zero : (x : ℕ) → x < 2 ^ 64 → wrap x 0 ≡ x
wrap_zero x h = omega arith

pub wrap_assoc : (x p q : ℕ) → wrap (wrap x p) q ≡ wrap x (wrap p q)
wrap_assoc x p q = omega arith

pub wrap_cancel : (x y p : ℕ) → x < 2 ^ 64 → y < 2 ^ 64 → wrap x p ≡ wrap y p → x ≡ y
wrap_cancel x y p hx hy e = omega arith

pub wrap_cancel_right : (x p q : ℕ) → p < 2 ^ 64 → q < 2 ^ 64 → wrap x p ≡ wrap x q → p ≡ q
wrap_cancel_right x p q hp hq e = omega arith
