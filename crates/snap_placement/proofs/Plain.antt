-- Names have plain bytes, so TOML writes them as they are.
use Rattle.std.proofs.Common.{◌≡◌, ◌∙◌, ℕ, Bool, true, false, cond, ◌&&◌, ◌||◌, ◌==◌, List, [], ◌∷◌, ◌++◌, length, refl, sym, ap, inl, inr, arith, lt-ltb, nat_lt}
use Rattle.std.specs.List.{list_all, list_any}
use Rattle.std.proofs.lemmas.Bool.{and_parts, cases_Bool, false≢true}
use Rattle.std.proofs.lemmas.Bool.Decides.{nat_tests}
use Rattle.toml_parser.specs.Lexical.{is_bare, is_non_eol}
use Rattle.toml_writer.specs.Text as written
use Rattle.toml_writer.proofs.Escapes.{quotes_after_other}
use Rattle.snap_core.specs.Names.{begins_plain, goes_on, is_joint, is_letter, is_name_byte, is_plain, is_switch_name, is_word}
use Rattle.snap_placement.specs.Printed.{key_text}

-- ---- bytes

plain_byte : (b : ℕ) (x : Bool) → (is_plain b || (is_joint b && x)) ≡ true → is_name_byte b ≡ true
plain_byte b true h = grind (arith, nat_tests)
plain_byte b false h = grind (arith, nat_tests)

letter_byte : (b : ℕ) → is_letter b ≡ true → is_name_byte b ≡ true
letter_byte b h = grind (arith, nat_tests)

word_bytes : (bs : List ℕ) → goes_on bs ≡ true → list_all is_name_byte bs ≡ true
word_bytes [] h = refl
word_bytes (b ∷ bs) h =
    let parts = and_parts (is_plain b || (is_joint b && begins_plain bs)) (goes_on bs) h in
    rw (plain_byte b (begins_plain bs) parts.0, word_bytes bs parts.1) refl

-- a name of the language has the bytes of a switch's name
pub name_bytes : (w : List ℕ) → is_word w ≡ true → is_switch_name w ≡ true
name_bytes [] h = absurd (false≢true h)
name_bytes (b ∷ bs) h =
    let parts = and_parts (is_letter b) (goes_on bs) h in
    let some : nat_lt 0 (length (b ∷ bs)) ≡ true = lt-ltb 0 (length (b ∷ bs)) (omega arith) in
    rw (some, letter_byte b parts.0, word_bytes bs parts.1) refl

none_of : (p : ℕ → Bool) → ((c : ℕ) → is_name_byte c ≡ true → p c ≡ false) → (s : List ℕ) → list_all is_name_byte s ≡ true → list_any p s ≡ false
none_of p never [] h = refl
none_of p never (c ∷ cs) h =
    let parts = and_parts (is_name_byte c) (list_all is_name_byte cs) h in
    rw (never c parts.0, none_of p never cs parts.1) refl

no_control : (c : ℕ) → is_name_byte c ≡ true → written.is_control c ≡ false
no_control c h = grind (arith, nat_tests)

no_quote : (c : ℕ) → is_name_byte c ≡ true → (c == 34) ≡ false
no_quote c h = grind (arith, nat_tests)

no_backslash : (c : ℕ) → is_name_byte c ≡ true → (c == 92) ≡ false
no_backslash c h = grind (arith, nat_tests)

no_line_feed : (c : ℕ) → is_name_byte c ≡ true → (c == 10) ≡ false
no_line_feed c h = grind (arith, nat_tests)

no_escape : (c : ℕ) → is_name_byte c ≡ true → written.needs_escape false 0 c ≡ false
unfolding written.needs_escape
no_escape c h = grind (arith, nat_tests)

-- ---- texts

-- nothing is escaped
escaped_plain : (s : List ℕ) → list_all is_name_byte s ≡ true → written.escaped false 0 s ≡ s
unfolding written.escaped
escaped_plain [] h = refl
escaped_plain (c ∷ cs) h =
    let parts = and_parts (is_name_byte c) (list_all is_name_byte cs) h in
    rw (no_escape c parts.0, quotes_after_other false 0 c (no_quote c parts.0)) (ap (λ (l : List ℕ). c ∷ l) (escaped_plain cs parts.1))

basic_plain : (s : List ℕ) → list_all is_name_byte s ≡ true → written.encoded written.basic s ≡ 34 ∷ (s ++ 34 ∷ [])
basic_plain s h = rw (escaped_plain s h) refl

-- a plain text as a string of TOML
pub string_plain : (s : List ℕ) → list_all is_name_byte s ≡ true → written.string_text s ≡ 34 ∷ (s ++ 34 ∷ [])
unfolding written.string_text written.encoding_of
string_plain s h =
    let control = none_of written.is_control no_control s h in
    let quote = none_of (λ c. c == 34) no_quote s h in
    let backslash = none_of (λ c. c == 92) no_backslash s h in
    let line_feed = none_of (λ c. c == 10) no_line_feed s h in
    rw (control, quote, backslash, line_feed) (basic_plain s h)

bare_byte : (c : ℕ) → is_name_byte c ≡ true → (c == 46) ≡ false → is_bare c ≡ true
bare_byte c h dot = grind (arith, nat_tests)

all_bare : (k : List ℕ) → list_all is_name_byte k ≡ true → list_any (λ b. b == 46) k ≡ false → list_all is_bare k ≡ true
all_bare [] h none = refl
all_bare (c ∷ cs) h none =
    let parts = and_parts (is_name_byte c) (list_all is_name_byte cs) h in
    elim (cases_Bool (c == 46)) [
      | inl dot ↦ absurd (false≢true (sym none ∙ rw dot refl))
      | inr other ↦ rw (bare_byte c parts.0 other) (all_bare cs parts.1 (rw other at none))
    ]

dot_not_bare : (c : ℕ) → (c == 46) ≡ true → is_bare c ≡ false
dot_not_bare c dot = grind (arith, nat_tests)

some_dot : (k : List ℕ) → list_any (λ b. b == 46) k ≡ true → list_all is_bare k ≡ false
some_dot [] h = absurd (false≢true h)
some_dot (c ∷ cs) h =
    elim (cases_Bool (c == 46)) [
      | inl dot ↦ rw (dot_not_bare c dot) refl
      | inr other ↦ elim (cases_Bool (is_bare c)) [
        | inl bare ↦ rw bare (some_dot cs (rw other at h))
        | inr not_bare ↦ rw not_bare refl
      ]
    ]

-- a plain text as a key of TOML
pub key_plain : (k : List ℕ) → is_switch_name k ≡ true → written.key_text k ≡ key_text k
unfolding written.key_text
key_plain k h =
    let parts = and_parts (nat_lt 0 (length k)) (list_all is_name_byte k) h in
    let quote = none_of (λ c. c == 34) no_quote k parts.1 in
    let backslash = none_of (λ c. c == 92) no_backslash k parts.1 in
    elim (cases_Bool (list_any (λ b. b == 46) k)) [
      | inl dot ↦ rw (dot, some_dot k dot, parts.0, quote, backslash, escaped_plain k parts.1) (either (list_all is_non_eol k) k)
      | inr none ↦ rw (none, parts.0, all_bare k parts.1 none) refl
    ]
  where
    either : (b : Bool) (x : List ℕ) → cond (b && false) (written.encoded written.literal x) (34 ∷ (x ++ 34 ∷ [])) ≡ 34 ∷ (x ++ 34 ∷ [])
    either true x = refl
    either false x = refl
