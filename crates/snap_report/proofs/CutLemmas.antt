-- A text's first word, cut at its first `=`.
use Rattle.std.proofs.Common.{◌≡◌, ℕ, ◌+◌, ◌-◌, ◌<◌, ◌≤◌, zero, suc, Bool, true, false, cond, None, Some, List, [], ◌∷◌, ◌++◌, length, take, drop, get_or, refl, sym, ap, subst, ◌∙◌, arith, add-one, length-take}
use Rattle.std.specs.Prelude.{filter, position}
use Rattle.std.proofs.lemmas.List.{get_or-take, take_all, take_rest}
use Rattle.std.proofs.lemmas.List.Quantifiers.{position-Some}
use Rattle.std.proofs.lemmas.Bool.{or_parts}
use Rattle.snap_core.specs.Figures.{onto_first, parts_by}
use Rattle.snap_core.proofs.PartLemmas.{parts_by-first, parts_by-none, parts_by-step}
use Rattle.snap_core.proofs.Truths.{or_rest}
use Rattle.snap_report.specs.Cuts.{HasNoName, IsFirstCut, IsNameFront, IsUntilBlank, is_equals, is_mark}
use Rattle.snap_report.specs.PacketLines.{BeginsWord, is_blank, is_some_text, words_of}
use Rattle.snap_report.proofs.WordLemmas.{position-None}

-- the first blank stands at n
until-at : (text : List ℕ) (n : ℕ) → n < length text → ((k : ℕ) → k < n → is_blank (get_or text k 0) ≡ false) → is_blank (get_or text n 0) ≡ true
    → IsUntilBlank text (take n text) (take (length text - (n + 1)) (drop (n + 1) text))
until-at text n lt before here =
    record {
      more = parts_by is_blank (drop (suc n) text);
      parts = parts_by-first is_blank text n lt before here;
      words = sym (ap words_of (take_rest text (n + 1)) ∙ ap (λ k. words_of (drop k text)) (add-one n));
    }

-- there is none
until-none : (text : List ℕ) → ((k : ℕ) → k < length text → is_blank (get_or text k 0) ≡ false) → IsUntilBlank text text []
until-none text none = record { more = []; parts = parts_by-none is_blank text none; words = refl }

pub until-blank : (text : List ℕ) (n : ℕ) → position is_blank text ≡ Some n → IsUntilBlank text (take n text) (take (length text - (n + 1)) (drop (n + 1) text))
until-blank text n e = let at = position-Some is_blank text n 0 e in until-at text n at.0 at.2 at.1

pub until-end : (text : List ℕ) → position is_blank text ≡ None → IsUntilBlank text text []
until-end text e = until-none text (position-None is_blank text e)

with_front : (front : List ℕ) (parts : List (List ℕ)) → is_some_text front ≡ true → filter is_some_text (front ∷ parts) ≡ front ∷ filter is_some_text parts
with_front front parts e = ap (λ t. cond t (front ∷ filter is_some_text parts) (filter is_some_text parts)) e

-- a text's first word is not empty
begins-some : (text value : List ℕ) (more : List (List ℕ)) → BeginsWord text → parts_by is_blank text ≡ value ∷ more → is_some_text value ≡ true
begins-some [] value more h e = absurd h
begins-some (b ∷ bs) value more h e =
    elim (parts_by is_blank bs) as (λ parts. onto_first b parts ≡ value ∷ more → is_some_text value ≡ true) [
      | [] ↦ λ f. let is : b ∷ [] ≡ value = cc in ap is_some_text (sym is)
      | part ∷ parts ↦ λ f. let is : b ∷ part ≡ value = cc in ap is_some_text (sym is)
    ] (sym (ap (λ t. cond t ([] ∷ parts_by is_blank bs) (onto_first b (parts_by is_blank bs))) h) ∙ e)

some-length : (text : List ℕ) → is_some_text text ≡ true → 0 < length text
some-length [] e = absurd (cc)
some-length (b ∷ bs) e = omega arith

pub begins-length : (text value behind : List ℕ) → BeginsWord text → IsUntilBlank text value behind → 0 < length value
begins-length text value behind h until = some-length value (begins-some text value until.more h until.parts)

pub begins-word : (text value behind : List ℕ) → BeginsWord text → IsUntilBlank text value behind → words_of text ≡ value ∷ words_of behind
begins-word text value behind h until =
    ap (filter is_some_text) until.parts ∙ with_front value until.more (begins-some text value until.more h until.parts) ∙ ap (λ words. value ∷ words) until.words

module _ (p : ℕ → Bool) where
  -- the first separator is at i, whatever stands behind it
  cut-at : (text : List ℕ) (i : ℕ) → i < length text → ((k : ℕ) → k < i → p (get_or text k 0) ≡ false) → p (get_or text i 0) ≡ true
      → (value : List ℕ) → parts_by p (take (suc i) text ++ value) ≡ take i text ∷ parts_by p value
  cut-at [] i lt before here value = absurd (omega arith)
  cut-at (b ∷ bs) zero lt before here value = parts_by-step p b value true here
  cut-at (b ∷ bs) (suc i) lt before here value =
      parts_by-step p b (take (suc i) bs ++ value) false (before 0 (omega arith)) ∙ ap (onto_first b) (cut-at bs i (omega arith) (λ k l. before (suc k) (omega arith)) here value)

  -- no byte up to i separates, so they belong to the first part
  first-part : (text : List ℕ) (i : ℕ) → i < length text → ((k : ℕ) → k < i → p (get_or text k 0) ≡ false) → p (get_or text i 0) ≡ false
      → (value : List ℕ) (more : List (List ℕ)) → parts_by p (drop (suc i) text) ≡ value ∷ more → parts_by p text ≡ (take (suc i) text ++ value) ∷ more
  first-part [] i lt before here value more e = absurd (omega arith)
  first-part (b ∷ bs) zero lt before here value more e = parts_by-step p b bs false here ∙ ap (onto_first b) e
  first-part (b ∷ bs) (suc i) lt before here value more e =
      parts_by-step p b bs false (before 0 (omega arith)) ∙ ap (onto_first b) (first-part bs i (omega arith) (λ k l. before (suc k) (omega arith)) here value more e)

some_front : (text : List ℕ) (i : ℕ) (value : List ℕ) → i < length text → is_some_text (take (suc i) text ++ value) ≡ true
some_front [] i value lt = absurd (omega arith)
some_front (b ∷ bs) i value lt = refl

-- the first mark is a `=`, and behind it the value goes on to a blank
cut-first : (text : List ℕ) (i : ℕ) → i < length text → ((k : ℕ) → k < i → is_mark (get_or text k 0) ≡ false) → get_or text i 0 ≡ 61 → (value behind : List ℕ)
    → IsUntilBlank (take (length text - (i + 1)) (drop (i + 1) text)) value behind → IsFirstCut text (Some (take i text, value)) behind
cut-first text i lt none equals value behind until =
    let before = λ (k : ℕ) (l : k < i). or_parts (is_equals (get_or text k 0)) (is_blank (get_or text k 0)) (none k l) in
    let rest : take (length text - (i + 1)) (drop (i + 1) text) ≡ drop (suc i) text = take_rest text (i + 1) ∙ ap (λ k. drop k text) (add-one i) in
    let word = take (suc i) text ++ value in
    record {
      word = word;
      words = ap (filter is_some_text) (first-part is_blank text i lt (λ k l. (before k l).1) (ap is_blank equals) value until.more (sym (ap (parts_by is_blank) rest) ∙ until.parts))
          ∙ with_front word until.more (some_front text i value lt) ∙ ap (λ l. word ∷ l) until.words;
      parts = cut-at is_equals text i lt (λ k l. (before k l).0) (ap is_equals equals) value;
    }

pub name-front : (text : List ℕ) (i : ℕ) → i < length text → ((k : ℕ) → k < i → is_mark (get_or text k 0) ≡ false) → get_or text i 0 ≡ 61
    → IsNameFront text (take i text) (take (length text - (i + 1)) (drop (i + 1) text))
name-front text i lt none equals = record { cut = cut-first text i lt none equals }

pub name-first : (text : List ℕ) (i : ℕ) → position is_mark text ≡ Some i → get_or text i 0 ≡ 61 → IsNameFront text (take i text) (take (length text - (i + 1)) (drop (i + 1) text))
name-first text i e equals = let at = position-Some is_mark text i 0 e in name-front text i at.0 at.2 equals

-- a name that stands at the front, and `=` behind it
pub name-same : (text name : List ℕ) → length name < length text → take (length name) text ≡ take (length name) name
    → ((k : ℕ) → k < length name → is_mark (get_or text k 0) ≡ false) → get_or text (length name) 0 ≡ 61
    → IsNameFront text name (take (length text - (length name + 1)) (drop (length name + 1) text))
name-same text name lt same none equals =
    let whole : take (length name) text ≡ name = same ∙ take_all (length name) name (omega arith) in
    subst (λ n. IsNameFront text n (take (length text - (length name + 1)) (drop (length name + 1) text))) whole (name-front text (length name) lt none equals)

-- no mark stands in the first word, or the first is a blank
pub no_name-none : (text : List ℕ) → BeginsWord text → position is_mark text ≡ None → HasNoName text
no_name-none text h e =
    let before = λ (k : ℕ) (l : k < length text). or_parts (is_equals (get_or text k 0)) (is_blank (get_or text k 0)) (position-None is_mark text e k l) in
    record {
      behind = [];
      cut = record { word = text; words = begins-word text text [] h (until-none text (λ k l. (before k l).1)); parts = parts_by-none is_equals text (λ k l. (before k l).0) };
    }

pub no_name-blank : (text : List ℕ) (i : ℕ) → BeginsWord text → position is_mark text ≡ Some i → is_equals (get_or text i 0) ≡ false → HasNoName text
no_name-blank text i h e differs =
    let at = position-Some is_mark text i 0 e in
    let before = λ (k : ℕ) (l : k < i). or_parts (is_equals (get_or text k 0)) (is_blank (get_or text k 0)) (at.2 k l) in
    let blank = or_rest (is_equals (get_or text i 0)) (is_blank (get_or text i 0)) at.1 differs in
    let short : length (take i text) ≤ i = omega (arith, length-take i text) in
    let behind = take (length text - (i + 1)) (drop (i + 1) text) in
    record {
      behind = behind;
      cut = record {
        word = take i text;
        words = begins-word text (take i text) behind h (until-at text i at.0 (λ k l. (before k l).1) blank);
        parts = parts_by-none is_equals (take i text) (λ k l. let near : k < i = omega (arith, short, l) in ap is_equals (get_or-take i text k 0 near) ∙ (before k near).0);
      };
    }
