-- Bytes of words: none is a blank or an LF.
use Rattle.std.proofs.Common.{◌≡◌, ℕ, ◌^◌, ◌<◌, ◌≤◌, Bool, true, false, List, length, [], ◌∷◌, ◌++◌, refl, arith, decimal}
use Rattle.std.specs.Prelude.{◌&&◌, ◌||◌, nat_lt, not}
use Rattle.std.specs.List.{AllByRecursion, list_all}
use Rattle.std.specs.Char.{is_ascii_digit}
use Rattle.std.specs.Str.{IsUtf8}
use Rattle.std.proofs.lemmas.Bool.{and_parts, ne_eqb}
use Rattle.std.proofs.lemmas.Bool.Decides.{nat_tests}
use Rattle.std.proofs.lemmas.Fmt.{digits_decimal}
use Rattle.std.proofs.lemmas.Str.{IsUtf8-from_ascii}
use Rattle.std.proofs.lemmas.Str.Ascii.{IsAscii-from_all}
use Rattle.snap_core.specs.Names.{begins_plain, goes_on, is_joint, is_keyword, is_letter, is_name, is_name_byte, is_plain, is_switch_name, is_word}
use Rattle.snap_tables.proofs.Readings.{model}
use Rattle.std.proofs.lemmas.List.Elements.{All-from_recursion, All-weaker}
use Rattle.snap_tables.specs.Joins.{AllLack, Lacks}

-- each byte is printed, and no blank
abbrev pub IsInk : List ℕ → Type 0
IsInk w = AllByRecursion (λ b. (35 ≤ b) × (b < 128)) w

pub plain-ink : (b : ℕ) → is_plain b ≡ true → (35 ≤ b) × (b < 128)
plain-ink b e = (grind (arith, nat_tests), grind (arith, nat_tests))

pub joint-ink : (b : ℕ) → is_joint b ≡ true → (35 ≤ b) × (b < 128)
joint-ink b e = (grind (arith, nat_tests), grind (arith, nat_tests))

pub letter-ink : (b : ℕ) → is_letter b ≡ true → (35 ≤ b) × (b < 128)
letter-ink b e = (grind (arith, nat_tests), grind (arith, nat_tests))

-- the bytes of names and of numbers
pub stays-ink : (b : ℕ) (x : Bool) → (is_plain b || (is_joint b && x)) ≡ true → (35 ≤ b) × (b < 128)
stays-ink b x e = at (is_plain b) refl e
  where
    at : (t : Bool) → is_plain b ≡ t → (t || (is_joint b && x)) ≡ true → (35 ≤ b) × (b < 128)
    at true is e = plain-ink b is
    at false is e = joint-ink b (and_parts (is_joint b) x e).0

goes-ink : (w : List ℕ) → goes_on w ≡ true → IsInk w
goes-ink [] e = tt
goes-ink (b ∷ bs) e =
    let k = and_parts (is_plain b || (is_joint b && begins_plain bs)) (goes_on bs) e in
    (stays-ink b (begins_plain bs) k.0, goes-ink bs k.1)

word-ink : (w : List ℕ) → is_word w ≡ true → IsInk w
word-ink [] e = tt
word-ink (b ∷ bs) e = let k = and_parts (is_letter b) (goes_on bs) e in (letter-ink b k.0, goes-ink bs k.1)

pub name-ink : (w : List ℕ) → is_name w ≡ true → IsInk w
name-ink w e = word-ink w (and_parts (is_word w) (not (is_keyword w)) e).0

all-ink : (p : ℕ → Bool) → ((b : ℕ) → p b ≡ true → (35 ≤ b) × (b < 128)) → (w : List ℕ) → list_all p w ≡ true → IsInk w
all-ink p f [] e = tt
all-ink p f (b ∷ bs) e = let k = and_parts (p b) (list_all p bs) e in (f b k.0, all-ink p f bs k.1)

switch-byte-ink : (b : ℕ) → is_name_byte b ≡ true → (35 ≤ b) × (b < 128)
switch-byte-ink b e = (grind (arith, nat_tests), grind (arith, nat_tests))

pub switch-ink : (w : List ℕ) → is_switch_name w ≡ true → IsInk w
switch-ink w e = all-ink is_name_byte switch-byte-ink w (and_parts (nat_lt 0 (length w)) (list_all is_name_byte w) e).1

digit-ink : (b : ℕ) → is_ascii_digit b ≡ true → (35 ≤ b) × (b < 128)
digit-ink b e = (grind (arith, nat_tests), grind (arith, nat_tests))

pub decimal-ink : (n : ℕ) → n < 2 ^ 64 → IsInk (decimal n)
decimal-ink n small = all-ink is_ascii_digit digit-ink (decimal n) (digits_decimal model n small)

pub append-ink : (a b : List ℕ) → IsInk a → IsInk b → IsInk (a ++ b)
append-ink [] b ha hb = hb
append-ink (x ∷ a) b ha hb = (ha.0, append-ink a b ha.1 hb)

-- what is printed lacks blanks and LFs
pub ink-lacks : (s : ℕ) → s < 35 → (w : List ℕ) → IsInk w → Lacks s w
ink-lacks s low [] h = tt
ink-lacks s low (b ∷ bs) h = (ne_eqb b s (λ e. omega (arith, e, h.0.0)), ink-lacks s low bs h.1)

abbrev pub AreInk : List (List ℕ) → Type 0
AreInk ws = AllByRecursion IsInk ws

pub ink-all-lack : (s : ℕ) → s < 35 → (ws : List (List ℕ)) → AreInk ws → AllLack s ws
ink-all-lack s low [] h = tt
ink-all-lack s low (w ∷ ws) h = (ink-lacks s low w h.0, ink-all-lack s low ws h.1)

-- names are text
pub name-utf8 : (w : List ℕ) → is_name w ≡ true → IsUtf8 w
name-utf8 w e =
    let P = λ (b : ℕ). (35 ≤ b) × (b < 128) in
    IsUtf8-from_ascii w (IsAscii-from_all w (All-weaker P (λ b. b < 128) (λ b h. h.1) w (All-from_recursion P w (name-ink w e))))

pub other-no-name : (w : List ℕ) → ¬ (IsUtf8 w) → false ≡ is_name w
other-no-name w other = at (is_name w) refl
  where
    at : (t : Bool) → is_name w ≡ t → false ≡ t
    at false is = refl
    at true is = absurd (other (name-utf8 w is))
