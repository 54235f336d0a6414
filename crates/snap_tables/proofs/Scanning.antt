-- Numbers at the front of a text.
use Rattle.std.proofs.Common.{◌≡◌, ◌≢◌, ℕ, ◌+◌, ◌-◌, ◌*◌, ◌<◌, ◌≤◌, ◌^◌, Bool, true, false, cond, List, [], ◌∷◌, ◌++◌, Option, Some, None, length, take, drop, get_or, refl, sym, ap, subst, ◌∙◌, arith, add-one, ⊎_elim}
use Rattle.std.specs.Prelude.{◌&&◌, nat_le, nat_lt, if◌then◌else◌, option_map, option_and_then}
use Rattle.std.specs.List.{list_all}
use Rattle.std.specs.Char.{is_ascii_digit}
use Rattle.std.specs.Str.{bytes_eq}
use Rattle.std.proofs.Math.Seq.{take-suc}
use Rattle.std.proofs.lemmas.Bool.{false≢true, cases_lt, lt-ltb, leb-true, le-leb, eqb-true, eq-eqb, ne_eqb}
use Rattle.std.proofs.lemmas.Bool.Decides.{nat_tests}
use Rattle.std.proofs.lemmas.List.{take_all, get_or-take, length-take}
use Rattle.std.proofs.lemmas.List.Folds.{list_all_at, list_all_more}
use Rattle.snap_core.specs.Figures.{number_up_to, value_after, value_of_digits, onto_first, parts_by}
use Rattle.snap_core.proofs.FigureLemmas.{number_up_to-digits}
use Rattle.snap_core.proofs.PartLemmas.{parts_by-split, parts_by-none}
use Rattle.snap_tables.specs.Reading.{below_said, is_padded, is_space, number_said, opened, taken, u64_said}
use Rattle.snap_tables.specs.Scan.{IsNumberFront}
use Rattle.snap_tables.specs.Text.{Words}
use Rattle.snap_tables.proofs.Readings.{parts_by-some}

-- a number, and the words behind it
abbrev and_words : Words → ℕ → ℕ × Words
and_words ws n = (n, ws)

value_after-push : (n : ℕ) (ds : List ℕ) (d : ℕ) → value_after n (ds ++ d ∷ []) ≡ value_after n ds * 10 + (d - 48)
value_after-push n [] d = refl
value_after-push n (e ∷ ds) d = value_after-push (n * 10 + (e - 48)) ds d

-- one digit more
pub value_of_digits-more : (text : List ℕ) (at : ℕ) → at < length text → value_of_digits (take (at + 1) text) ≡ value_of_digits (take at text) * 10 + (get_or text at 0 - 48)
value_of_digits-more text at within = ap (λ k. value_of_digits (take k text)) (add-one at) ∙ ap value_of_digits (take-suc text at 0 within) ∙ value_after-push 0 (take at text) (get_or text at 0)

pub front_more : (text : List ℕ) (at number more : ℕ) → at < length text → list_all is_ascii_digit (take at text) ≡ true → value_of_digits (take at text) ≡ number → is_ascii_digit (get_or text at 0) ≡ true
    → more ≡ number * 10 + (get_or text at 0 - 48) → (list_all is_ascii_digit (take (at + 1) text) ≡ true) × (value_of_digits (take (at + 1) text) ≡ more)
front_more text at number more within digits value digit is = (
  list_all_more is_ascii_digit text at 0 within ∙ ap (λ b. b && is_ascii_digit (get_or text at 0)) digits ∙ digit,
  value_of_digits-more text at within ∙ ap (λ n. n * 10 + (get_or text at 0 - 48)) value ∙ sym is,
)

-- at the end
pub front_whole : (text : List ℕ) (at number : ℕ) → length text ≤ at → at ≤ length text → list_all is_ascii_digit (take at text) ≡ true → value_of_digits (take at text) ≡ number → IsNumberFront text (length text) number
front_whole text at number past within digits value =
    let same : at ≡ length text = omega arith in
    record {
      within = omega arith;
      digits = subst (λ k. list_all is_ascii_digit (take k text) ≡ true) same digits;
      value = subst (λ k. value_of_digits (take k text) ≡ number) same value;
      stops = λ more. absurd (let h : length text < length text = more in omega arith);
    }

-- ---- a number in front of a blank or the end
no_blank : (text : List ℕ) (at number : ℕ) → IsNumberFront text at number → (k : ℕ) → k < at → is_space (get_or text k 0) ≡ false
no_blank text at number front k low = by (is_space (get_or text k 0)) refl
  where
    by : (b : Bool) → is_space (get_or text k 0) ≡ b → is_space (get_or text k 0) ≡ false
    by false e = e
    by true e =
        let blank : get_or text k 0 ≡ 32 = eqb-true (get_or text k 0) 32 e in
        let here : get_or (take at text) k 0 ≡ 32 = get_or-take at text k 0 low ∙ blank in
        let within : k < length (take at text) = let h = front.within in omega (arith, length-take at text) in
        absurd (false≢true (sym (list_all_at is_ascii_digit (take at text) k 0 within (ap is_ascii_digit here)) ∙ front.digits))

front_said : (text : List ℕ) (at number : ℕ) → number < 2 ^ 64 → IsNumberFront text at number → at ≢ 0 → is_padded (take at text) ≡ false → u64_said (take at text) ≡ Some number
front_said text at number small front some plain =
    let w = take at text in
    let within : 0 < length w = let h = front.within in omega (arith, length-take at text) in
    let few : value_of_digits w ≤ 2 ^ 64 - 1 = let e = front.value in omega arith in
    ap (λ b. if b then None else number_up_to (2 ^ 64 - 1) w) plain ∙ number_up_to-digits (2 ^ 64 - 1) w within front.digits few ∙ ap Some front.value

pub front_taken : (text : List ℕ) (at number : ℕ) → number < 2 ^ 64 → IsNumberFront text at number → at ≢ 0 → is_padded (take at text) ≡ false → at < length text
    → taken u64_said (parts_by is_space text) ≡ Some (number, parts_by is_space (take (length text - (at + 1)) (drop (at + 1) text)))
front_taken text at number small front some plain more =
    let rest = parts_by is_space (take (length text - (at + 1)) (drop (at + 1) text)) in
    ap (taken u64_said) (parts_by-split is_space text at more (no_blank text at number front) (eq-eqb (get_or text at 0) 32 (front.stops more)))
    ∙ ap (option_map (and_words rest)) (front_said text at number small front some plain)

pub front_last : (text : List ℕ) (at number : ℕ) → number < 2 ^ 64 → IsNumberFront text at number → at ≢ 0 → is_padded (take at text) ≡ false → length text ≤ at → taken u64_said (parts_by is_space text) ≡ Some (number, [])
front_last text at number small front some plain end =
    let all : take at text ≡ text = take_all at text end in
    ap (taken u64_said) (parts_by-none is_space text (λ k low. no_blank text at number front k (omega arith)))
    ∙ ap (option_map (and_words [])) (ap u64_said (sym all) ∙ front_said text at number small front some plain)

-- ---- a number of at most some value is one of 64 bits
filtered : (b m : Bool) (g : ℕ → Bool) (v : ℕ) → (g v ≡ true → m ≡ true) → (if b && g v then Some v else None) ≡ option_and_then (λ n. if g n then Some n else None) (if b && m then Some v else None)
filtered false m g v h = refl
filtered true true g v h = refl
filtered true false g v h = by (g v) refl
  where
    by : (k : Bool) → g v ≡ k → (if k then Some v else None) ≡ None
    by true e = absurd (false≢true (h e))
    by false e = refl

number_filtered : (most : ℕ) → most < 2 ^ 64 → (w : List ℕ) → number_said most w ≡ option_and_then (λ n. if nat_le n most then Some n else None) (u64_said w)
number_filtered most small w = by (is_padded w)
  where
    up : (w : List ℕ) → number_up_to most w ≡ option_and_then (λ n. if nat_le n most then Some n else None) (number_up_to (2 ^ 64 - 1) w)
    up [] = refl
    up (d ∷ ds) =
        let v = value_of_digits (d ∷ ds) in
        filtered (list_all is_ascii_digit (d ∷ ds)) (nat_le v (2 ^ 64 - 1)) (λ n. nat_le n most) v (λ e. le-leb v (2 ^ 64 - 1) (let h : v ≤ most = leb-true v most e in omega arith))

    by : (p : Bool) → (if p then None else number_up_to most w) ≡ option_and_then (λ n. if nat_le n most then Some n else None) (if p then None else number_up_to (2 ^ 64 - 1) w)
    by true = refl
    by false = up w

taken_filtered : (most : ℕ) → most < 2 ^ 64 → (ws : Words) → taken (number_said most) ws ≡ option_and_then (λ (x : ℕ × Words). if nat_le x.0 most then Some x else None) (taken u64_said ws)
taken_filtered most small [] = refl
taken_filtered most small (w ∷ ws) = ap (option_map (and_words ws)) (number_filtered most small w) ∙ by (u64_said w)
  where
    one : (n : ℕ) (b : Bool) → option_map (and_words ws) (if b then Some n else None) ≡ (if b then Some (and_words ws n) else None)
    one n true = refl
    one n false = refl

    by : (o : Option ℕ) → option_map (and_words ws) (option_and_then (λ n. if nat_le n most then Some n else None) o)
        ≡ option_and_then (λ (x : ℕ × Words). if nat_le x.0 most then Some x else None) (option_map (and_words ws) o)
    by None = refl
    by (Some n) = one n (nat_le n most)

pub number_none : (most : ℕ) (ws : Words) → most < 2 ^ 64 → taken u64_said ws ≡ None → taken (number_said most) ws ≡ None
number_none most ws small e = taken_filtered most small ws ∙ ap (option_and_then (λ (x : ℕ × Words). if nat_le x.0 most then Some x else None)) e

pub number_within : (most n : ℕ) (ws left : Words) → most < 2 ^ 64 → taken u64_said ws ≡ Some (n, left) → n ≤ most → taken (number_said most) ws ≡ Some (n, left)
number_within most n ws left small e within =
    taken_filtered most small ws ∙ ap (option_and_then (λ (x : ℕ × Words). if nat_le x.0 most then Some x else None)) e ∙ ap (λ b. if b then Some (and_words left n) else None) (le-leb n most within)

pub number_above : (most n : ℕ) (ws left : Words) → most < 2 ^ 64 → taken u64_said ws ≡ Some (n, left) → most < n → taken (number_said most) ws ≡ None
number_above most n ws left small e above =
    let no' : nat_le n most ≡ false = grind (arith, nat_tests) in
    taken_filtered most small ws ∙ ap (option_and_then (λ (x : ℕ × Words). if nat_le x.0 most then Some x else None)) e ∙ ap (λ b. if b then Some (and_words left n) else None) no'

-- ---- a number below a count
below_as : (count : ℕ) → 0 < count → (ws : Words) → taken (below_said count) ws ≡ taken (number_said (count - 1)) ws
below_as count some [] = refl
below_as count some (w ∷ ws) = ap (option_map (and_words ws)) (ap (λ b. if b then number_said (count - 1) w else None) (lt-ltb 0 count some))

below_no : (count : ℕ) → count ≤ 0 → (ws : Words) → taken (below_said count) ws ≡ None
below_no count none [] = refl
below_no count none (w ∷ ws) =
    let no' : nat_lt 0 count ≡ false = grind (arith, nat_tests) in
    ap (option_map (and_words ws)) (ap (λ b. if b then number_said (count - 1) w else None) no')

pub below_none : (count : ℕ) (ws : Words) → count < 2 ^ 64 → taken u64_said ws ≡ None → taken (below_said count) ws ≡ None
below_none count ws small e = ⊎_elim (λ some. below_as count some ws ∙ number_none (count - 1) ws (omega arith) e) (λ none. below_no count none ws) (cases_lt 0 count)

pub below_within : (count n : ℕ) (ws left : Words) → count < 2 ^ 64 → taken u64_said ws ≡ Some (n, left) → n < count → taken (below_said count) ws ≡ Some (n, left)
below_within count n ws left small e within = below_as count (omega arith) ws ∙ number_within (count - 1) n ws left (omega arith) e (omega arith)

pub below_above : (count n : ℕ) (ws left : Words) → count < 2 ^ 64 → taken u64_said ws ≡ Some (n, left) → count ≤ n → taken (below_said count) ws ≡ None
below_above count n ws left small e above = ⊎_elim (λ some. below_as count some ws ∙ number_above (count - 1) n ws left (omega arith) e (omega arith)) (λ none. below_no count none ws) (cases_lt 0 count)

-- ---- a keyword in front
pub opened_next : (k : ℕ) (ks bs : List ℕ) → is_space k ≡ false → opened (k ∷ ks) (parts_by is_space (k ∷ bs)) ≡ opened ks (parts_by is_space bs)
opened_next k ks bs other =
    ap (λ t. opened (k ∷ ks) (cond t ([] ∷ parts_by is_space bs) (onto_first k (parts_by is_space bs)))) other
    ∙ parts_by-some (λ ws. opened (k ∷ ks) (onto_first k ws) ≡ opened ks ws) (λ w ws. ap (λ t. if t && bytes_eq w ks then Some ws else None) (eq-eqb k k refl)) is_space bs

pub opened_other : (k b : ℕ) (ks bs : List ℕ) → k ≢ b → opened (k ∷ ks) (parts_by is_space (b ∷ bs)) ≡ None
opened_other k b ks bs other = by (is_space b)
  where
    by : (t : Bool) → opened (k ∷ ks) (cond t ([] ∷ parts_by is_space bs) (onto_first b (parts_by is_space bs))) ≡ None
    by true = refl
    by false = parts_by-some (λ ws. opened (k ∷ ks) (onto_first b ws) ≡ None) (λ w ws. ap (λ t. if t && bytes_eq w ks then Some ws else None) (ne_eqb b k (λ e. other (sym e)))) is_space bs

pub opened_blank : (k : ℕ) (ks bs : List ℕ) → is_space k ≡ true → opened (k ∷ ks) (parts_by is_space (k ∷ bs)) ≡ None
opened_blank k ks bs blank = ap (λ t. opened (k ∷ ks) (cond t ([] ∷ parts_by is_space bs) (onto_first k (parts_by is_space bs)))) blank

pub opened_all : (b : ℕ) (bs : List ℕ) → is_space b ≡ true → opened [] (parts_by is_space (b ∷ bs)) ≡ Some (parts_by is_space bs)
opened_all b bs blank = ap (λ t. opened [] (cond t ([] ∷ parts_by is_space bs) (onto_first b (parts_by is_space bs)))) blank

pub opened_longer : (b : ℕ) (bs : List ℕ) → is_space b ≡ false → opened [] (parts_by is_space (b ∷ bs)) ≡ None
opened_longer b bs other =
    ap (λ t. opened [] (cond t ([] ∷ parts_by is_space bs) (onto_first b (parts_by is_space bs)))) other
    ∙ parts_by-some (λ ws. opened [] (onto_first b ws) ≡ None) (λ w ws. refl) is_space bs
