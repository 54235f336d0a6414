-- Parts of a buffer that stay as it changes.
use Rattle.std.proofs.Common.{◌≡◌, ℕ, ◌+◌, ◌-◌, ◌≤◌, min, List, ◌++◌, length, take, drop, sym, ap, ◌∙◌, arith, length-drop}
use Rattle.std.specs.List.{slice_range, copy_within}
use Rattle.std.specs.Vec.{with_items}
use Rattle.std.specs.declared.vec.Vec.{Vec}
use Rattle.std.specs.declared.alloc.Global.{Global}
use Rattle.std.proofs.lemmas.List.{with_items_is, length-take-le, take-take, drop-drop, drop-take, drop_min}
use Rattle.std.proofs.lemmas.List.Edits.{take-paste}
use Rattle.std.proofs.Math.Nat.{min_comm}
use Rattle.std.proofs.Math.Seq.{take-add}
use Rattle.snap_io.specs.declared.held.Held.{Held}
use Rattle.snap_io.specs.Held.{held_bytes}
use Rattle.snap_io.specs.Lines.{before_lf}
use Rattle.snap_io.proofs.LinesLemmas.{before_lf-append}

pub length-slice_range : (xs : List ℕ) (i j : ℕ) → j ≤ length xs → length (slice_range xs i j) ≡ j - i
length-slice_range xs i j le = length-take-le (j - i) (drop i xs) (omega (arith, length-drop i xs))

part_of_front : (xs : List ℕ) (n i j : ℕ) → i ≤ j → j ≤ n → slice_range xs i j ≡ drop i (take j (take n xs))
part_of_front xs n i j ordered within =
    sym (drop-take i (j - i) xs) ∙ ap (λ k. drop i (take k xs)) (let e : i + (j - i) ≡ j = omega arith in e) ∙ ap (drop i) (sym (take-take j n xs within))

-- a part within the first bytes, which are the same
pub slice_range-same : (xs ys : List ℕ) (n i j : ℕ) → i ≤ j → j ≤ n → take n xs ≡ take n ys → slice_range xs i j ≡ slice_range ys i j
slice_range-same xs ys n i j ordered within same =
    part_of_front xs n i j ordered within ∙ ap (λ l. drop i (take j l)) same ∙ sym (part_of_front ys n i j ordered within)

-- a part of what moved to the front
pub slice_range-moved : (xs moved : List ℕ) (from end i j : ℕ) → from ≤ i → i ≤ j → j ≤ end → end ≤ length xs → moved ≡ copy_within xs from end 0 → slice_range moved (i - from) (j - from) ≡ slice_range xs i j
slice_range-moved xs moved from end i j after ordered within fits is =
    let front : take (end - from) moved ≡ take (end - from) (drop from xs) = ap (take (end - from)) is ∙ ap (λ k. take k (copy_within xs from end 0)) (let e : end - from ≡ 0 + (end - from) = omega arith in e) ∙ take-paste xs 0 (drop from xs) (end - from) (omega arith) (omega (arith, length-drop from xs)) in
    let there : i ≡ from + (i - from) = omega arith in
    slice_range-same moved (drop from xs) (end - from) (i - from) (j - from) (omega arith) (omega arith) front
    ∙ ap (take (j - from - (i - from))) (drop-drop (i - from) from xs ∙ ap (λ k. drop k xs) (sym there))
    ∙ ap (λ k. take k (drop i xs)) (let e : j - from - (i - from) ≡ j - i = omega arith in e)

-- a part, and the bytes written behind it
pub slice_range-more : (xs : List ℕ) (i j n : ℕ) → i ≤ j → slice_range xs i (j + n) ≡ slice_range xs i j ++ take n (drop j xs)
slice_range-more xs i j n ordered =
    ap (λ k. take k (drop i xs)) (let e : j + n - i ≡ (j - i) + n = omega arith in e) ∙ take-add (j - i) n (drop i xs)
    ∙ ap (λ l. slice_range xs i j ++ take n l) (drop-drop (j - i) i xs ∙ ap (λ k. drop k xs) (let e : i + (j - i) ≡ j = omega arith in e))

-- what is left of a part behind its first bytes
pub slice_range-behind : (xs : List ℕ) (i j k n : ℕ) → i ≤ j → j ≤ length xs → k ≡ min j (i + n) → slice_range xs k j ≡ drop n (slice_range xs i j)
slice_range-behind xs i j k n ordered fits is =
    let split : (j - i) ≡ min (j - i) n + (j - k) = omega arith in
    let there : i + min (j - i) n ≡ k = omega arith in
    ap (λ l. take (j - k) (drop l xs)) (sym there) ∙ ap (take (j - k)) (sym (drop-drop (min (j - i) n) i xs)) ∙ sym (drop-take (min (j - i) n) (j - k) (drop i xs)) ∙ ap (λ m. drop (min (j - i) n) (take m (drop i xs))) (sym split)
    ∙ ap (λ m. drop (min m n) (slice_range xs i j)) (sym (length-slice_range xs i j fits)) ∙ ap (λ m. drop m (slice_range xs i j)) (min_comm (length (slice_range xs i j)) n) ∙ drop_min n (slice_range xs i j)

-- a part of a buffer whose first bytes stayed
pub slice_range-written : (buffer : Vec ℕ Global) (shown written : List ℕ) (end i j : ℕ) → i ≤ j → j ≤ end → shown ≡ buffer.items → length written ≡ buffer.len → take end written ≡ take end shown
    → slice_range (with_items buffer written).items i j ≡ slice_range buffer.items i j
slice_range-written buffer shown written end i j ordered within value len front =
    ap (λ l. slice_range l i j) (with_items_is buffer written len) ∙ slice_range-same written buffer.items end i j ordered within (front ∙ ap (take end) value)

-- the search goes on behind a part without an LF
pub before_lf-more : (xs shown : List ℕ) (i j n before found : ℕ) → i ≤ j → shown ≡ xs → before ≡ before_lf (slice_range xs i j) → before_lf (slice_range xs i j) ≡ length (slice_range xs i j)
    → found ≡ before_lf (slice_range shown j (j + n)) → before + found ≡ before_lf (slice_range xs i (j + n))
before_lf-more xs shown i j n before found ordered same scanned none is =
    let first = slice_range xs i j in
    let behind : found ≡ before_lf (take n (drop j xs)) = is ∙ ap (λ l. before_lf (slice_range l j (j + n))) same ∙ ap (λ k. before_lf (take k (drop j xs))) (let e : j + n - j ≡ n = omega arith in e) in
    (λ k. (scanned ∙ none) k + behind k) ∙ sym (before_lf-append first (take n (drop j xs)) none) ∙ ap before_lf (sym (slice_range-more xs i j n ordered))

pub length-held_bytes : (held : Held) → length (held_bytes held) ≡ held.end - held.start
length-held_bytes held = length-slice_range held.buffer.items held.start held.end (omega (arith, held.within, held.buffer.ok.0))
