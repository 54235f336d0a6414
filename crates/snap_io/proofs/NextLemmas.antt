-- What stands next in a file, by the bytes of it that are held.
use Rattle.std.proofs.Common.{◌≡◌, ℕ, ◌+◌, ◌-◌, ◌<◌, ◌≤◌, min, Bool, true, false, not, ◌&&◌, leb, ltb, eqb, if◌then◌else◌, List, ◌++◌, length, take, drop, refl, sym, ap, ◌∙◌, ◌⊎◌, inl, inr, arith, length-drop, IsTrue}
use Rattle.std.proofs.lemmas.Bool.{le-leb, lt-leb, lt-ltb, le-ltb, eq-eqb, false≢true, ltb-true, ltb-false, leb-true, eqb-true, and_parts}
use Rattle.std.proofs.lemmas.List.{length-take, take-take, drop-drop, drop-take, drop_min}
use Rattle.std.proofs.lemmas.List.Folds.{length-prefix_len}
use Rattle.std.proofs.Math.Bool.{and-false}
use Rattle.std.proofs.Math.Nat.{min_comm}
use Rattle.std.proofs.Math.Seq.{take-add}
use Rattle.snap_io.specs.Lines.{Next, next_line, no_line, long_line, many_bytes, before_lf, first_line, next_in}
use Rattle.snap_io.specs.Held.{GrowsBy}
use Rattle.snap_io.proofs.LinesLemmas.{before_lf-le, before_lf-take}

length-first_line : (bytes : List ℕ) → length (first_line bytes) ≡ before_lf bytes
length-first_line bytes = length-prefix_len _ bytes

abbrev choose : (past long fits : Bool) → List ℕ → ℕ → Next
choose past long fits line behind = if past then no_line else if long then long_line else if fits then next_line line behind else many_bytes

abbrev behind : List ℕ → ℕ → ℕ
behind file at = min (at + length (first_line (drop at file)) + 1) (length file)

-- the held bytes are those of the file at this place
abbrev pub AreAt : List ℕ → ℕ → List ℕ → Type 0
AreAt file at held = held ≡ take (length held) (drop at file)

before_lf-held : (file : List ℕ) (at : ℕ) (held : List ℕ) → AreAt file at held → before_lf held ≡ min (length held) (before_lf (drop at file))
before_lf-held file at held there = ap before_lf there ∙ before_lf-take (length held) (drop at file)

length-held-le : (file : List ℕ) (at : ℕ) (held : List ℕ) → AreAt file at held → length held ≤ length file - at
length-held-le file at held there = omega (arith, ap length there, length-take (length held) (drop at file), length-drop at file)

pub next_in-long : (limit most : ℕ) (file : List ℕ) (at : ℕ) (held : List ℕ) → AreAt file at held → at + length held ≤ limit → most < before_lf held → next_in limit most file at ≡ long_line
next_in-long limit most file at held there within long =
    let rest = drop at file in
    let line = length-first_line rest in
    let held_line = before_lf-held file at held there in
    let fits = length-held-le file at held there in
    λ i. choose (lt-leb (length file) at (omega arith) i) (lt-ltb most (length (first_line rest)) (omega arith) i && lt-ltb (at + most) limit (omega arith) i) (leb (behind file at) limit) (first_line rest) (behind file at)

pub next_in-many : (limit most : ℕ) (file : List ℕ) (at : ℕ) (held : List ℕ) → AreAt file at held → at + length held ≡ limit → before_lf held ≡ length held → length held ≤ most → limit < length file → next_in limit most file at ≡ many_bytes
next_in-many limit most file at held there full all few more =
    let rest = drop at file in
    let line = length-first_line rest in
    let held_line = before_lf-held file at held there in
    let short : (ltb most (length (first_line rest)) && ltb (at + most) limit) ≡ false = ap (λ t. ltb most (length (first_line rest)) && t) (le-ltb (at + most) limit (omega arith)) ∙ and-false _ in
    λ i. choose (lt-leb (length file) at (omega arith) i) (short i) (lt-leb (behind file at) limit (omega arith) i) (first_line rest) (behind file at)

pub next_in-line : (limit most : ℕ) (file : List ℕ) (at : ℕ) (held : List ℕ) → AreAt file at held → at + length held ≤ limit → 0 < length held → before_lf held ≤ most → (before_lf held < length held) ⊎ (length file ≤ at + length held)
    → next_in limit most file at ≡ next_line (first_line held) (at + min (length held) (before_lf held + 1))
next_in-line limit most file at held there within some short ends =
    let rest = drop at file in
    let line = length-first_line rest in
    let held_line = before_lf-held file at held there in
    let fits = length-held-le file at held there in
    let all = before_lf-le rest in
    let long = length-drop at file in
    let whole : before_lf held ≡ before_lf rest = elim ends [ inl lf ↦ omega arith | inr end ↦ omega arith ] in
    let past : behind file at ≡ at + min (length held) (before_lf held + 1) = elim ends [ inl lf ↦ omega arith | inr end ↦ omega arith ] in
    let same : first_line rest ≡ first_line held = ap (λ n. take n rest) (sym whole) ∙ sym (take-take (before_lf held) (length held) rest (before_lf-le held)) ∙ ap (take (before_lf held)) (sym there) in
    (λ i. choose (lt-leb (length file) at (omega arith) i) (le-ltb most (length (first_line rest)) (omega arith) i && ltb (at + most) limit) (le-leb (behind file at) limit (omega arith) i) (same i) (past i))

-- the held bytes without the first ones
pub AreAt-given : (file : List ℕ) (at : ℕ) (held : List ℕ) (n : ℕ) → AreAt file at held → AreAt file (at + min (length held) n) (drop n held)
AreAt-given file at held n there =
    let m = min (length held) n in
    let rest = drop at file in
    let left : length held ≡ m + (length held - m) = omega arith in
    let kept : length held - m ≡ length (drop n held) = omega (arith, length-drop n held) in
    sym (drop_min n held) ∙ ap (λ k. drop k held) (min_comm n (length held)) ∙ ap (drop m) there ∙ ap (λ k. drop m (take k rest)) left ∙ drop-take m (length held - m) rest ∙ ap (take (length held - m)) (drop-drop m at file)
    ∙ ap (λ k. take k (drop (at + m) file)) kept

-- the held bytes and those read behind them
pub AreAt-more : (file : List ℕ) (at from count : ℕ) (old new : List ℕ) → AreAt file at old → from ≡ at + length old → length new ≡ length old + count → GrowsBy file from count old new → AreAt file at new
AreAt-more file at from count old new there is len grows =
    grows.bytes ∙ (λ i. there i ++ take count (drop (is i) file)) ∙ ap (λ l. take (length old) (drop at file) ++ take count l) (sym (drop-drop (length old) at file)) ∙ sym (take-add (length old) count (drop at file)) ∙ ap (λ k. take k (drop at file)) (sym len)

settled_false : (before len most : ℕ) (less : Bool) → ltb before len ≡ less → (eqb before len && leb len most) ≡ false → before ≤ len → before ≤ most → before < len
settled_false before len most true less closed within few = ltb-true before len less
settled_false before len most false less closed within few =
    let none : len ≤ before = ltb-false before len less in
    absurd (false≢true (sym closed ∙ (λ i. eq-eqb before len (omega arith) i && le-leb len most (omega arith) i)))

-- a reader that need not read on has the line's end, or too many bytes of it
pub settled : (ended : Bool) (before len most : ℕ) → (not ended && (eqb before len && leb len most)) ≡ false → before ≤ len → before ≤ most → (before < len) ⊎ IsTrue ended
settled true before len most closed within few = inr refl
settled false before len most closed within few =
    inl (settled_false before len most (ltb before len) refl closed within few)

-- a reader that must read on has few bytes and no LF
pub open_parts : (ended : Bool) (before len most : ℕ) → (not ended && (eqb before len && leb len most)) ≡ true → (before ≡ len) × (len ≤ most)
open_parts true before len most is = absurd (false≢true is)
open_parts false before len most is =
    let parts = and_parts _ _ is in
    (eqb-true before len parts.0, leb-true len most parts.1)
