-- The words that a text spells are names.
use Rattle.std.proofs.Common.{◌≡◌, ℕ, zero, suc, ◌+◌, ◌-◌, ◌<◌, ◌≤◌, ◌⊎◌, Bool, true, false, not, ◌&&◌, ◌||◌, List, [], ◌∷◌, length, take, drop, slice_index, nat_le, refl, sym, ap, ◌∙◌, subst, inl, inr, arith, bytes_eq}
use Rattle.std.specs.List.{AllByRecursion, list_any}
use Rattle.std.proofs.lemmas.Slice.Eq.{bytes_eq-Decides}
use Rattle.std.proofs.lemmas.Bool.Decides.{nat_tests}
use Rattle.std.proofs.lemmas.List.{length-drop, drop-drop}
use Rattle.std.proofs.lemmas.Bool.{or_right, or_left, or_from, and_from, false_from_ne_true}
use Rattle.snap_core.specs.Names.{is_letter, is_plain, is_joint, begins_plain, goes_on, is_word, keywords, is_keyword, IsName}
use Rattle.snap_names.specs.Spells.{Token, Kind, Key}
use Rattle.snap_lex.specs.Lexemes.{IsWord, IsLexeme, a_name, a_key, a_number, an_address, a_sign, key_text, Spells, spells_nothing, spells_blank, spells_comment, spells_token, SpellsTokens, is_part}
use Rattle.snap_parse.specs.Tree.{span_of}
use Rattle.snap_names.specs.Senses.{word}

-- a token that is a word spells a name
abbrev pub IsNamed : List ℕ → Token → Type 0
IsNamed text t = t.kind ≡ Kind.Word → IsName (word text (span_of t))

-- the byte at i of n goes on with a word
abbrev GoesOn : List ℕ → ℕ → ℕ → Type 0
GoesOn bytes n i = (is_part (slice_index bytes i) ≡ true) ⊎ ((is_joint (slice_index bytes i) ≡ true) × (i + 1 < n) × (is_part (slice_index bytes (i + 1)) ≡ true))

first_plain : (bs : List ℕ) (n : ℕ) → n ≤ length bs → 1 < suc n → is_part (slice_index bs 0) ≡ true → begins_plain (take n bs) ≡ true
first_plain bs zero l k h = absurd (omega (arith, k))
first_plain [] (suc n) l k h = absurd (omega (arith, l))
first_plain (b ∷ bs) (suc n) l k h = h

first_goes_on : (b : ℕ) (bs : List ℕ) (n : ℕ) → n ≤ length bs → GoesOn (b ∷ bs) (suc n) 0 → (is_plain b || (is_joint b && begins_plain (take n bs))) ≡ true
first_goes_on b bs n l (inl h) = or_left (is_plain b) _ h
first_goes_on b bs n l (inr h) = or_right (is_plain b) _ (and_from (is_joint b) _ h.0 (first_plain bs n l h.1 h.2))

GoesOn-tail : (b : ℕ) (bs : List ℕ) (n i : ℕ) → GoesOn (b ∷ bs) (suc n) (suc i) → GoesOn bs n i
GoesOn-tail b bs n i (inl h) = inl h
GoesOn-tail b bs n i (inr h) =
    let e : suc i + 1 ≡ suc (i + 1) = omega arith in
    inr (h.0, omega (arith, h.1), subst (λ k. is_part (slice_index (b ∷ bs) k) ≡ true) e h.2)

goes_on-take : (bytes : List ℕ) (n : ℕ) → n ≤ length bytes → ((i : ℕ) → i < n → GoesOn bytes n i) → goes_on (take n bytes) ≡ true
goes_on-take bytes zero l h = refl
goes_on-take [] (suc n) l h = absurd (omega (arith, l))
goes_on-take (b ∷ bs) (suc n) l h = and_from _ _ (first_goes_on b bs n (omega (arith, l)) (h 0 (omega arith))) (goes_on-take bs n (omega (arith, l)) (λ i k. GoesOn-tail b bs n i (h (suc i) (omega (arith, k)))))

is_word-take : (bytes : List ℕ) (n : ℕ) → 0 < n → n ≤ length bytes → is_letter (slice_index bytes 0) ≡ true → goes_on (take n bytes) ≡ true → is_word (take n bytes) ≡ true
is_word-take bytes zero k l h g = absurd (omega (arith, k))
is_word-take [] (suc n) k l h g = absurd (omega (arith, l))
is_word-take (b ∷ bs) (suc n) k l h g = and_from (is_letter b) _ h (behind (is_plain b || (is_joint b && begins_plain (take n bs))) _ g)
  where
    behind : (a c : Bool) → (a && c) ≡ true → c ≡ true
    behind true c e = e
    behind false c e = cc

apart-list_any : (w : List ℕ) (ks : List (List ℕ)) → AllByRecursion (λ k. w ≡ k → ⊥) ks → list_any (bytes_eq w) ks ≡ false
apart-list_any w [] h = refl
apart-list_any w (k ∷ ks) h = or_from _ _ (false_from_ne_true (bytes_eq w k) (λ e. h.0 ((bytes_eq-Decides w k).0 e))) (apart-list_any w ks h.1)

no_keyword : (w : List ℕ) → ((key : Key) → w ≡ key_text key → ⊥) → is_keyword w ≡ false
no_keyword w h = apart-list_any w keywords
    (h Key.Field, (h Key.Array, (h Key.Const, (h Key.Let, (h Key.If, (h Key.Then, (h Key.Else, (h Key.Id, (h Key.Drop, (h Key.Atomic, (h Key.True, (h Key.False, tt))))))))))))

IsName-word : (bytes : List ℕ) (n : ℕ) → IsWord bytes n → ((key : Key) → take n bytes ≡ key_text key → ⊥) → IsName (take n bytes)
IsName-word bytes n w h = and_from _ _ (is_word-take bytes n w.some w.within w.first (goes_on-take bytes n w.within w.parts)) (ap not (no_keyword (take n bytes) h))

-- a token of n bytes, of which a word has some and all in the text
record IsSpelledName (bytes : List ℕ) (n : ℕ) : Type 0 where
  some : 0 < n
  within : n ≤ length bytes
  name : IsName (take n bytes)

lexeme-name : (bytes : List ℕ) (n : ℕ) (kind : Kind) → IsLexeme bytes n kind → kind ≡ Kind.Word → IsSpelledName bytes n
lexeme-name bytes n _ (a_name w h) e = record { some = w.some; within = w.within; name = IsName-word bytes n w h }
lexeme-name bytes n _ (a_key key w h) e = absurd (let no' : Kind.Key key ≡ Kind.Word = e in cc)
lexeme-name bytes n _ (a_number f h) e = absurd (let no' : Kind.Number ≡ Kind.Word = e in cc)
lexeme-name bytes n _ (an_address f h) e = absurd (let no' : Kind.Address ≡ Kind.Word = e in cc)
lexeme-name bytes n _ (a_sign sign h) e = absurd (let no' : Kind.Sign sign ≡ Kind.Word = e in cc)

-- the bytes of a span that lies in the text
word-take : (text : List ℕ) (at n : ℕ) → at + n ≤ length text → word text (record { from = at; to = at + n }) ≡ take n (drop at text)
word-take text at n l =
    let a : nat_le at (at + n) ≡ true = grind (arith, nat_tests) in
    let b : nat_le (at + n) (length text) ≡ true = grind (arith, nat_tests) in
    let size : at + n - at ≡ n = omega arith in
    rw (a, b, size) refl

token-named : (text bytes : List ℕ) (at n : ℕ) (kind : Kind) → drop at text ≡ bytes → IsLexeme bytes n kind → IsNamed text (record { kind = kind; from = at; to = at + n })
token-named text bytes at n kind e h is =
    let s : IsSpelledName bytes n = lexeme-name bytes n kind h is in
    let size : length (drop at text) ≡ length text - at = length-drop at text in
    let all : length bytes ≡ length text - at = sym (ap length e) ∙ size in
    let within : at + n ≤ length text = omega (arith, s.some, s.within, all) in
    subst IsName (sym (word-take text at n within ∙ ap (take n) e)) s.name

behind : (text bytes : List ℕ) (at n : ℕ) → drop at text ≡ bytes → drop (at + n) text ≡ drop n bytes
behind text bytes at n e = sym (drop-drop n at text) ∙ ap (drop n) e

spells-named : (text : List ℕ) (at : ℕ) (bytes : List ℕ) (ts : List Token) (end : ℕ) (rest : List ℕ) → Spells at bytes ts end rest → drop at text ≡ bytes → AllByRecursion (IsNamed text) ts
spells-named text at bytes _ _ _ spells_nothing e = tt
spells-named text at (b ∷ bytes) ts end rest (spells_blank h s) e = spells-named text (at + 1) bytes ts end rest s (behind text (b ∷ bytes) at 1 e)
spells-named text at bytes ts end rest (spells_comment n h s) e = spells-named text (at + n) (drop n bytes) ts end rest s (behind text bytes at n e)
spells-named text at bytes _ end rest (spells_token n kind h l s) e = (token-named text bytes at n kind e h, spells-named text (at + n) (drop n bytes) _ end rest s (behind text bytes at n e))

pub SpellsTokens-named : (text : List ℕ) (ts : List Token) → SpellsTokens text ts → AllByRecursion (IsNamed text) ts
SpellsTokens-named text ts h = spells-named text 0 text ts (length text) [] h refl
