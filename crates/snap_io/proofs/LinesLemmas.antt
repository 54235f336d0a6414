-- What stands before the first LF, and what stands next in a file.
use Rattle.std.proofs.Common.{zero, suc, ◌≡◌, ℕ, ◌+◌, ◌-◌, ◌<◌, ◌≤◌, min, Bool, true, false, cond, List, [], ◌∷◌, ◌++◌, length, take, drop, Option, Some, None, sym, ap, ◌∙◌, arith, Contains}
use Rattle.std.specs.Prelude.{◌==◌, not}
use Rattle.std.specs.List.{slice_range}
use Rattle.std.specs.Option.{unwrap_or}
use Rattle.std.proofs.lemmas.Bool.{false_from_ne_true, eq-eqb, eqb-true, false≢true}
use Rattle.std.proofs.lemmas.List.{length-take}
use Rattle.std.proofs.lemmas.List.Sums.{position_or_len_is, prefix_len-le-length, passes_at_first, fails_before_first}
use Rattle.std.proofs.lemmas.List.Folds.{prefix_len-append}
use Rattle.memchr.specs.Find.{IsFirstByte, is_byte}
use Rattle.snap_io.specs.Lines.{before_lf}

pub before_lf-le : (bytes : List ℕ) → before_lf bytes ≤ length bytes
before_lf-le bytes = prefix_len-le-length (λ b. not (b == 10)) bytes

-- what a search for an LF gives
pub unwrap_or-memchr : (bytes : List ℕ) (r : Option ℕ) → IsFirstByte (is_byte 10) bytes r → unwrap_or r (length bytes) ≡ before_lf bytes
unwrap_or-memchr bytes None absent =
    sym (position_or_len_is (λ b. b == 10) bytes (length bytes) 0 (omega arith) (λ k lt. false_from_ne_true _ (absent k (omega arith) lt)) (λ lt. absurd (omega arith)))
unwrap_or-memchr bytes (Some k) found =
    sym (position_or_len_is (λ b. b == 10) bytes k 0 (omega (arith, found.0.high)) (λ j lt. false_from_ne_true _ (found.0.before j (omega arith) lt)) (λ _. found.1))

-- the search in a part of a buffer
pub before_lf-slice_range-le : (xs : List ℕ) (i j : ℕ) → before_lf (slice_range xs i j) ≤ j - i
before_lf-slice_range-le xs i j = omega (arith, before_lf-le (slice_range xs i j), length-take (j - i) (drop i xs))

pub before_lf-append : (xs ys : List ℕ) → before_lf xs ≡ length xs → before_lf (xs ++ ys) ≡ length xs + before_lf ys
before_lf-append xs ys e =
    prefix_len-append (λ b. not (b == 10)) xs ys ∙ ap (λ t. cond t (length xs + before_lf ys) (before_lf xs)) (eq-eqb (before_lf xs) (length xs) e)

before_lf-take_cons : (n x : ℕ) (xs : List ℕ) (lf : Bool) → before_lf (take n xs) ≡ min n (before_lf xs)
    → cond (not lf) (1 + before_lf (take n xs)) 0 ≡ min (suc n) (cond (not lf) (1 + before_lf xs) 0)
before_lf-take_cons n x xs true e = omega arith
before_lf-take_cons n x xs false e = omega arith

pub before_lf-take : (n : ℕ) (bytes : List ℕ) → before_lf (take n bytes) ≡ min n (before_lf bytes)
before_lf-take zero bytes = omega arith
before_lf-take (suc n) [] = omega arith
before_lf-take (suc n) (x ∷ xs) = before_lf-take_cons n x xs (x == 10) (before_lf-take n xs)

-- a line's end is held where the search found one
pub before_lf-lt : (bytes : List ℕ) → before_lf bytes < length bytes → Contains bytes 10
before_lf-lt bytes lt = (before_lf bytes, lt, eqb-true _ _ (passes_at_first (λ b. b == 10) bytes 10 lt))

pub before_lf-Contains : (bytes : List ℕ) → Contains bytes 10 → before_lf bytes < length bytes
before_lf-Contains bytes (k, lt, is) =
    let absent : length bytes ≤ before_lf bytes → ⊥ = λ le. false≢true (sym (fails_before_first (λ b. b == 10) bytes k 10 (omega arith)) ∙ eq-eqb _ _ is) in
    omega (arith, absent)
