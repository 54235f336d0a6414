-- Edits of the list of copies, one after another.
use Rattle.std.proofs.Common.{◌≡◌, ℕ, suc, ◌+◌, ◌-◌, ◌<◌, ◌≤◌, List, [], ◌∷◌, ◌++◌, take, drop, length, sym, ap, ◌∙◌, arith, append_assoc, length-append, Some}
use Rattle.std.specs.Prelude.{slice_get}
use Rattle.std.proofs.Math.Seq.{drop-append-add}
use Rattle.std.proofs.lemmas.List.{take_at, drop_at, drop-drop, take-append-drop, take_more, length-take-le, length-drop, append-nil}
use Rattle.std.proofs.lemmas.Option.{slice_get_within, get_or_from_slice_get, same_Some}
use Rattle.snap_rows.proofs.Arrives.{drop_get}
use Rattle.snap_net.proofs.Blocks.{get_skip}
use Rattle.snap_net.specs.declared.flying.Flying.{Flying}
use Rattle.snap_net.specs.Flights.{spliced}
use Rattle.snap_net.specs.Moves.{HasPut}

-- an edit behind the first of two lists
splice_behind : (xs ys others : List Flying) (k n : ℕ) → length xs ≡ k → spliced (xs ++ ys) k n others ≡ xs ++ (others ++ drop n ys)
splice_behind xs ys others k n long =
    ap (λ l. l ++ (others ++ drop (k + n) (xs ++ ys))) (take_at xs ys k long)
    ∙ ap (λ m. xs ++ (others ++ drop (m + n) (xs ++ ys))) (sym long)
    ∙ ap (λ l. xs ++ (others ++ l)) (drop-append-add xs ys n)

pub cut_more : (xs : List Flying) (from i : ℕ) → from + i < length xs → spliced (spliced xs from i []) from 1 [] ≡ spliced xs from (i + 1) []
cut_more xs from i within =
    splice_behind (take from xs) (drop (from + i) xs) [] from 1 (length-take-le from xs (omega (arith, within)))
    ∙ ap (λ l. take from xs ++ l) (drop-drop 1 (from + i) xs ∙ ap (λ n. drop n xs) (let e : from + i + 1 ≡ from + (i + 1) = omega arith in e))

-- one more before those that were put in
pub put_more : (xs put : List Flying) (at : ℕ) (copy : Flying) → at ≤ length xs → spliced (spliced xs at 0 put) at 0 (copy ∷ []) ≡ spliced xs at 0 (copy ∷ put)
put_more xs put at copy within = splice_behind (take at xs) (put ++ drop (at + 0) xs) (copy ∷ []) at 0 (length-take-le at xs within)

-- what was put in is taken out
pub put_undone : (xs put : List Flying) (at n : ℕ) → at ≤ length xs → n ≡ length put → spliced (spliced xs at 0 put) at n [] ≡ xs
put_undone xs put at n within long =
    splice_behind (take at xs) (put ++ drop (at + 0) xs) [] at n (length-take-le at xs within)
    ∙ ap (λ l. take at xs ++ l) (drop_at put (drop (at + 0) xs) n (sym long) ∙ ap (λ m. drop m xs) (let e : at + 0 ≡ at = omega arith in e))
    ∙ take-append-drop at xs

pub put_length : (xs put : List Flying) (at : ℕ) → at ≤ length xs → length (spliced xs at 0 put) ≡ length put + length xs
put_length xs put at within =
    length-append (take at xs) (put ++ drop (at + 0) xs)
    ∙ (let before : length (take at xs) ≡ at = length-take-le at xs within in
    let behind : length (put ++ drop (at + 0) xs) ≡ length put + length (drop (at + 0) xs) = length-append put (drop (at + 0) xs) in
    let rest : length (drop (at + 0) xs) ≡ length xs - (at + 0) = length-drop (at + 0) xs in
    omega (arith, before, behind, rest, within))

-- copy k, with what was put behind it
with_put : (xs put : List Flying) (k : ℕ) (c : Flying) → slice_get xs k ≡ Some c → spliced xs (k + 1) 0 put ≡ take k xs ++ (c ∷ (put ++ drop (k + 1) xs))
with_put xs put k c is =
    ap (λ l. l ++ (put ++ drop (k + 1 + 0) xs)) (take_more xs k c (slice_get_within xs k c is) ∙ ap (λ x. take k xs ++ (x ∷ [])) (get_or_from_slice_get xs k c c is))
    ∙ append_assoc (take k xs) (c ∷ []) (put ++ drop (k + 1 + 0) xs)
    ∙ ap (λ n. take k xs ++ (c ∷ (put ++ drop n xs))) (let e : k + 1 + 0 ≡ k + 1 = omega arith in e)

before_length : (xs : List Flying) (k : ℕ) (c : Flying) → slice_get xs k ≡ Some c → length (take k xs) ≡ k
before_length xs k c is = length-take-le k xs (let h : k < length xs = slice_get_within xs k c is in omega (arith, h))

-- copy k stays where it is
pub put_stays : (xs put : List Flying) (k : ℕ) (c : Flying) → slice_get xs k ≡ Some c → slice_get (spliced xs (k + 1) 0 put) k ≡ Some c
put_stays xs put k c is =
    ap (λ l. slice_get l k) (with_put xs put k c is)
    ∙ ap (slice_get (take k xs ++ (c ∷ (put ++ drop (k + 1) xs)))) (let e : k ≡ length (take k xs) + 0 = sym (let h = before_length xs k c is in omega (arith, h)) in e)
    ∙ get_skip (take k xs) (c ∷ (put ++ drop (k + 1) xs)) 0

-- copy k goes, and what was put behind it stands in its place
pub put_in_place : (xs put : List Flying) (k : ℕ) (c : Flying) → slice_get xs k ≡ Some c → spliced (spliced xs (k + 1) 0 put) k 1 [] ≡ spliced xs k 1 put
put_in_place xs put k c is =
    ap (λ l. spliced l k 1 []) (with_put xs put k c is)
    ∙ splice_behind (take k xs) (c ∷ (put ++ drop (k + 1) xs)) [] k 1 (before_length xs k c is)

-- ---- copies that are put behind copy k one by one
pub put_none : (xs all : List Flying) (k : ℕ) → HasPut xs xs k all all
put_none xs all k = record {
  put = [];
  held = sym (ap (λ n. take (k + 1) xs ++ drop n xs) (let e : k + 1 + 0 ≡ k + 1 = omega arith in e) ∙ take-append-drop (k + 1) xs);
  rest = append-nil all;
}

pub put_one : (old new new' : List Flying) (k : ℕ) (all left left' : List Flying) (copy : Flying) → k < length old → HasPut old new k all left → left ≡ left' ++ copy ∷ [] → new' ≡ spliced new (k + 1) 0 (copy ∷ []) → HasPut old new' k all left'
put_one old new new' k all left left' copy within has split more = record {
  put = copy ∷ has.put;
  held = more ∙ ap (λ l. spliced l (k + 1) 0 (copy ∷ [])) has.held ∙ put_more old has.put (k + 1) copy (omega (arith, within));
  rest = sym (append_assoc left' (copy ∷ []) has.put) ∙ ap (λ l. l ++ has.put) (sym split) ∙ has.rest;
}

-- what is copy k afterwards was it before
pub was_there : (xs ys put : List Flying) (k : ℕ) (x y : Flying) → slice_get xs k ≡ Some x → ys ≡ spliced xs (k + 1) 0 put → slice_get ys k ≡ Some y → x ≡ y
was_there xs ys put k x y is with_copies still = same_Some x y (sym (ap (λ l. slice_get l k) with_copies ∙ put_stays xs put k x is) ∙ still)

-- another copy in the place of copy k
pub there_now : (xs ys : List Flying) (k : ℕ) (c y : Flying) → slice_get xs k ≡ Some c → slice_get (take k xs ++ (y ∷ ys)) k ≡ Some y
there_now xs ys k c y is =
    ap (slice_get (take k xs ++ (y ∷ ys))) (let e : k ≡ length (take k xs) + 0 = sym (let h = before_length xs k c is in omega (arith, h)) in e)
    ∙ get_skip (take k xs) (y ∷ ys) 0

-- a copy in its own place
pub same_place : (xs : List Flying) (k : ℕ) (c : Flying) → slice_get xs k ≡ Some c → xs ≡ spliced xs k 1 (c ∷ [])
same_place xs k c is = sym (take-append-drop k xs) ∙ ap (λ l. take k xs ++ l) (drop_get xs k c is ∙ ap (λ n. c ∷ drop n xs) (let e : suc k ≡ k + 1 = omega arith in e))
