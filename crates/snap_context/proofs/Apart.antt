-- A root can be given a number that keeps a list of pairs of terms apart.
use Rattle.std.proofs.Common.{◌≡◌, ◌≢◌, ℕ, ◌-◌, ◌^◌, ◌<◌, cond, true, false, Bool, List, length, map, refl, sym, arith, get_or}
use Rattle.std.specs.Prelude.{◌==◌}
use Rattle.std.specs.List.{All}
use Rattle.std.proofs.lemmas.Bool.Decides.{nat_tests}
use Rattle.std.proofs.lemmas.List.{length-map}
use Rattle.snap_core.proofs.Elements.{All-unmap}
use Rattle.snap_core.specs.declared.policy.Term.{Term}
use Rattle.snap_core.specs.declared.policy.Term.TheVariants.{Num, Plus}
use Rattle.snap_context.specs.Classes.{wrap}
use Rattle.snap_context.specs.Classes.{IsTerm}
use Rattle.snap_context.specs.Closing.{replace}
use Rattle.snap_context.proofs.Wrap.{wrap_cancel_right}
use Rattle.snap_context.proofs.Fresh.{fresh_number}

-- the number makes the two terms equal only where they are
abbrev pub Apart : ℕ → ℕ → Term → Term → Type 0
Apart r n a b = replace r (Num n) a ≡ replace r (Num n) b → a ≡ b

-- the one number that may make two different terms equal
abbrev pub clash : ℕ → Term → Term → ℕ
clash r (Num a) (Num b) = 0
clash r (Num a) (Plus c p) = wrap a (2 ^ 64 - p)
clash r (Plus c p) (Num b) = wrap b (2 ^ 64 - p)
clash r (Plus c p) (Plus d q) = 0

wrap_away : (x n p : ℕ) → x < 2 ^ 64 → n < 2 ^ 64 → p < 2 ^ 64 → x ≡ wrap n p → wrap x (2 ^ 64 - p) ≡ n
wrap_away x n p hx hn hp e = omega arith

pub apart_sym : (r n : ℕ) (a b : Term) → Apart r n a b → Apart r n b a
apart_sym r n a b h e = sym (h (sym e))

pub apart_at : (count r n : ℕ) (a b : Term) → IsTerm count a → IsTerm count b → n < 2 ^ 64 → clash r a b ≢ n → Apart r n a b
apart_at count r n (Num x) (Num y) ha hb hn ne e = e
apart_at count r n (Num x) (Plus c p) ha hb hn ne e =
    let by : (t : Bool) → (c == r) ≡ t → Num x ≡ cond t (Num (wrap n p)) (Plus c p) → Num x ≡ Plus c p
    = λ t. elim t as (λ t. (c == r) ≡ t → Num x ≡ cond t (Num (wrap n p)) (Plus c p) → Num x ≡ Plus c p)
    [ true ↦ λ w i. let v : x ≡ wrap n p = cc in absurd (ne (wrap_away x n p ha hn hb.1 v)) | false ↦ λ w i. i ]
    in by (c == r) refl e
apart_at count r n (Plus c p) (Num y) ha hb hn ne e =
    let by : (t : Bool) → (c == r) ≡ t → cond t (Num (wrap n p)) (Plus c p) ≡ Num y → Plus c p ≡ Num y
    = λ t. elim t as (λ t. (c == r) ≡ t → cond t (Num (wrap n p)) (Plus c p) ≡ Num y → Plus c p ≡ Num y)
    [ true ↦ λ w i. let v : y ≡ wrap n p = cc in absurd (ne (wrap_away y n p hb hn ha.1 v)) | false ↦ λ w i. i ]
    in by (c == r) refl e
apart_at count r n (Plus c p) (Plus d q) ha hb hn ne e =
    let by : (t u : Bool) → (c == r) ≡ t → (d == r) ≡ u → cond t (Num (wrap n p)) (Plus c p) ≡ cond u (Num (wrap n q)) (Plus d q) → Plus c p ≡ Plus d q
    = λ t u. elim t as (λ t. (c == r) ≡ t → (d == r) ≡ u → cond t (Num (wrap n p)) (Plus c p) ≡ cond u (Num (wrap n q)) (Plus d q) → Plus c p ≡ Plus d q) [
      | true ↦ elim u as (λ u. (c == r) ≡ true → (d == r) ≡ u → Num (wrap n p) ≡ cond u (Num (wrap n q)) (Plus d q) → Plus c p ≡ Plus d q) [
        | true ↦ λ w z i. let v : wrap n p ≡ wrap n q = cc in let s : c ≡ d = grind (arith, nat_tests) in let o : p ≡ q = wrap_cancel_right n p q ha.1 hb.1 v in cc
        | false ↦ λ w z i. cc
      ]
      | false ↦ elim u as (λ u. (c == r) ≡ false → (d == r) ≡ u → Plus c p ≡ cond u (Num (wrap n q)) (Plus d q) → Plus c p ≡ Plus d q)
          [ true ↦ λ w z i. cc | false ↦ λ w z i. i ]
    ]
    in by (c == r) (d == r) refl refl e

pub apart_number : (count r : ℕ) (pairs : List (Term × Term)) → length pairs < 2 ^ 64 → All (λ q. IsTerm count q.0 × IsTerm count q.1) pairs → (n : ℕ) × (n < 2 ^ 64) × All (λ q. Apart r n q.0 q.1) pairs
apart_number count r pairs few terms =
    let found : (n : ℕ) × (n < 2 ^ 64) × All (λ y. y ≢ n) (map (λ (q : Term × Term). clash r q.0 q.1) pairs)
    = fresh_number (2 ^ 64) (map (λ (q : Term × Term). clash r q.0 q.1) pairs) (rw length-map few) in
    let fresh = All-unmap (λ y. y ≢ found.0) (λ q. clash r q.0 q.1) pairs found.2 in
    (found.0, found.1, λ i d l. let q = get_or pairs i d in apart_at count r found.0 q.0 q.1 (terms i d l).0 (terms i d l).1 found.1 (fresh i d l))
