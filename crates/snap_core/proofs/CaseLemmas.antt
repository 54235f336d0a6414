-- What cases say: of one list behind another, in order, and where a search ends.
use Rattle.std.proofs.Common.{◌≡◌, ◌≢◌, ℕ, suc, zero, ◌<◌, ◌≤◌, Bool, true, false, not, ◌&&◌, ◌==◌, cond, List, [], ◌∷◌, ◌++◌, Option, Some, None, length, refl, ap, subst, sym, ◌∙◌, arith, slice_get, slice_index_or, nat_lt, filter, eqb-true, ltb-false, ltb-true, ne_eqb, option_and_then}
use Rattle.std.specs.Option.{option_or}
use Rattle.std.specs.List.Sorted.{IsNonDecreasingBy, IsPartitionPoint, IsStableByKey}
use Rattle.std.specs.Ordering.{is_lt, nat_cmp}
use Rattle.std.proofs.lemmas.Bool.{eqb-false}
use Rattle.std.proofs.lemmas.Bool.Decides.{nat_tests}
use Rattle.std.proofs.lemmas.Map.Entries.{lookup-filter-keys, lookup_tail}
use Rattle.snap_core.specs.Cases.{case_at}

or-cond : (b : Bool) (x : ℕ) (a o : Option ℕ) → cond b (Some x) (option_or a o) ≡ option_or (cond b (Some x) a) o
or-cond true x a o = refl
or-cond false x a o = refl

-- cases behind others count where those say nothing
pub case_at-append : (xs ys : List (ℕ × ℕ)) (n : ℕ) → case_at (xs ++ ys) n ≡ option_or (case_at xs n) (case_at ys n)
case_at-append [] ys n = refl
case_at-append (x ∷ xs) ys n = ap (λ o. cond (x.0 == n) (Some x.1) o) (case_at-append xs ys n) ∙ or-cond (x.0 == n) x.1 (case_at xs n) (case_at ys n)

-- the test by which cases of one number tie
abbrev same : ℕ → ℕ → Bool
same n m = not (is_lt (nat_cmp n m)) && not (is_lt (nat_cmp m n))

tied : (n : ℕ) → same n n ≡ true
tied n = grind (arith, nat_tests)

same-itself : (n m : ℕ) → (m == n) ≡ true → same n m ≡ true
same-itself n m e =
    let is = eqb-true m n e in
    subst (λ k. same n k ≡ true) (sym is) (tied n)

-- what a number's first case says stands in the cases of that number
case_at-ties : (cs : List (ℕ × ℕ)) (n : ℕ) → case_at (filter (λ c. same n c.0) cs) n ≡ case_at cs n
case_at-ties cs n = lookup-filter-keys (λ m. m == n) (same n) true (same-itself n) cs

-- a stable sort keeps what cases say
pub case_at-stable : (xs ys : List (ℕ × ℕ)) → IsStableByKey (λ c. c.0) nat_cmp xs ys → (n : ℕ) → case_at ys n ≡ case_at xs n
case_at-stable xs ys stable n = sym (case_at-ties ys n) ∙ ap (λ cs. case_at cs n) (stable (n, 0)) ∙ case_at-ties xs n

-- where all numbers are greater there is no case
none_above : (cs : List (ℕ × ℕ)) (n : ℕ) → ((k : ℕ) (d : ℕ × ℕ) → k < length cs → n < (slice_index_or cs k d).0) → case_at cs n ≡ None
none_above [] n up = refl
none_above (c ∷ cs) n up =
    let above : n < c.0 = up 0 c (omega arith) in
    lookup_tail (λ m. m == n) c cs (ne_eqb c.0 n (λ e. omega (arith, above, e))) ∙ none_above cs n (λ k d l. up (suc k) d (omega arith))

-- what a case says of a number
abbrev pub said_of : ℕ → ℕ × ℕ → Option ℕ
said_of n c = cond (c.0 == n) (Some c.1) None

-- the first case that isn't of a lesser number says what the cases say
pub case_at-searched : (cs : List (ℕ × ℕ)) → IsNonDecreasingBy (λ c. c.0) cs → (n i : ℕ) → IsPartitionPoint (λ c. nat_lt c.0 n ≡ true) (λ c. nat_lt c.0 n ≡ false) cs i
    → case_at cs n ≡ option_and_then (said_of n) (slice_get cs i)
case_at-searched [] up n i point = refl
case_at-searched (c ∷ cs) up n zero point = by (c.0 == n) refl
  where
    no_less : n ≤ c.0
    no_less = ltb-false c.0 n (point.1 0 c (omega arith) (omega arith))

    rest : c.0 ≢ n → case_at cs n ≡ None
    rest other = none_above cs n (λ k d l. let rises : c.0 ≤ (slice_index_or cs k d).0 = up 0 (suc k) d (omega arith) (omega arith) in omega (arith, no_less, rises, other))

    by : (b : Bool) → (c.0 == n) ≡ b → cond b (Some c.1) (case_at cs n) ≡ cond b (Some c.1) None
    by true e = refl
    by false e = rest (eqb-false c.0 n e)
case_at-searched (c ∷ cs) up n (suc i) point =
    let below : c.0 < n = ltb-true c.0 n (point.0 0 c (omega arith) (omega arith)) in
    lookup_tail (λ m. m == n) c cs (ne_eqb c.0 n (λ e. omega (arith, below, e)))
    ∙ case_at-searched cs (λ j k d le l. up (suc j) (suc k) d (omega arith) (omega arith)) n i (λ k d a l. point.0 (suc k) d (omega arith) (omega arith), λ k d a l. point.1 (suc k) d (omega arith) (omega arith))
