-- A text with a part for each number below a bound, and what a sink has taken of it.
use Rattle.std.proofs.Common.{◌≡◌, ℕ, zero, suc, ◌+◌, ◌-◌, ◌<◌, ◌≤◌, List, [], ◌∷◌, ◌++◌, length, take, sym, ap, ◌∙◌, subst, append_assoc, append-nil, arith}
use Rattle.std.specs.List.{range_with_len}
use Rattle.std.specs.declared.option.Option.{Option}
use Rattle.std.proofs.KnownBytes.{Appends-trans}
use Rattle.std.proofs.lemmas.List.Concat.{flat_map-append}
use Rattle.std.proofs.Math.Seq.{take-append_seam}
use Rattle.snap_io.specs.Sinks.{AppendsPart}
use Rattle.snap_io.proofs.SinksLemmas.{part_of_pair}
use Rattle.snap_cli.proofs.Shared.{Appends, flat_map}

-- the numbers up to a bound, and then those behind it
range_split : (a k n : ℕ) → range_with_len a (k + n) ≡ range_with_len a k ++ range_with_len (a + k) n
range_split a zero n =
    let e : 0 + n ≡ n = omega arith in
    let f : a ≡ a + 0 = omega arith in
    ap (range_with_len a) e ∙ ap (λ x. range_with_len x n) f
range_split a (suc k) n =
    let e : suc k + n ≡ suc (k + n) = omega arith in
    let f : (a + 1) + k ≡ a + suc k = omega arith in
    ap (range_with_len a) e ∙ ap (λ l. a ∷ l) (range_split (a + 1) k n) ∙ ap (λ x. a ∷ (range_with_len (a + 1) k ++ range_with_len x n)) f

module _ (f : ℕ → List ℕ) where
  -- the parts of the first numbers
  abbrev parts : ℕ → List ℕ
  parts n = flat_map f (range_with_len 0 n)

  parts_split : (k n : ℕ) → parts (k + n) ≡ parts k ++ flat_map f (range_with_len k n)
  parts_split k n =
      let e : 0 + k ≡ k = omega arith in
      ap (flat_map f) (range_split 0 k n) ∙ flat_map-append f (range_with_len 0 k) (range_with_len (0 + k) n) ∙ ap (λ x. parts k ++ flat_map f (range_with_len x n)) e

  pub parts_more : (k : ℕ) → flat_map f (range_with_len 0 (k + 1)) ≡ flat_map f (range_with_len 0 k) ++ f k
  parts_more k = parts_split k 1 ∙ ap (λ l. parts k ++ l) (append-nil (f k))

  -- the parts before a number, its part, and those behind
  parts_around : (k n : ℕ) → k < n → parts n ≡ parts k ++ (f k ++ flat_map f (range_with_len (k + 1) (n - (k + 1))))
  parts_around k n l =
      let m = n - (k + 1) in
      let e : n ≡ k + suc m = omega arith in
      ap parts e ∙ parts_split k (suc m)

  module _ (n : ℕ) (tail : List ℕ) (a b : Option (List ℕ)) where
    -- the parts before a number are first bytes of the whole
    pub parts_stopped : (k : ℕ) → k ≤ n → Appends a b (flat_map f (range_with_len 0 k)) → AppendsPart a b (flat_map f (range_with_len 0 n) ++ tail)
    parts_stopped k l p =
        let m = n - k in
        let e : n ≡ k + m = omega arith in
        let behind = flat_map f (range_with_len k m) ++ tail in
        let whole : parts n ++ tail ≡ parts k ++ behind = ap (λ x. x ++ tail) (ap parts e ∙ parts_split k m) ∙ append_assoc (parts k) (flat_map f (range_with_len k m)) tail in
        (length (parts k), subst (Appends a b) (sym (ap (take (length (parts k))) whole ∙ take-append_seam (parts k) behind)) p)

    module _ (c : Option (List ℕ)) where
      -- and so are some first bytes of its own part behind them
      pub parts_cut : (k : ℕ) → k < n → Appends a b (flat_map f (range_with_len 0 k)) → AppendsPart b c (f k) → AppendsPart a c (flat_map f (range_with_len 0 n) ++ tail)
      parts_cut k l p q =
          let behind = flat_map f (range_with_len (k + 1) (n - (k + 1))) in
          let whole : parts n ++ tail ≡ parts k ++ (f k ++ (behind ++ tail)) =
          ap (λ x. x ++ tail) (parts_around k n l) ∙ append_assoc (parts k) (f k ++ behind) tail ∙ ap (λ x. parts k ++ x) (append_assoc (f k) behind tail) in
          part_of_pair a c (parts k) (f k) (behind ++ tail) (parts n ++ tail) whole q.0 (Appends-trans a b c (parts k) (take q.0 (f k)) p q.1)

      -- of what stands behind all parts some first bytes went out
      pub tail_cut : Appends a b (flat_map f (range_with_len 0 n)) → AppendsPart b c tail → AppendsPart a c (flat_map f (range_with_len 0 n) ++ tail)
      tail_cut p q =
          part_of_pair a c (parts n) tail [] (parts n ++ tail) (ap (λ x. parts n ++ x) (sym (append-nil tail))) q.0 (Appends-trans a b c (parts n) (take q.0 tail) p q.1)
