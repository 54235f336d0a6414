-- Words, figures and signs, and the token list that a text spells by longest match.
use Rattle.std.specs.Prelude.{◌≡◌, ◌≢◌, ℕ, ◌+◌, ◌<◌, ◌≤◌, ◌⊎◌, List, [], ◌∷◌, length, slice_index, take, drop, codes, true, false, suc, ◌-◌, ◌*◌, ◌++◌, Bool, nat_le, ◌&&◌, nat_eq, ◌||◌}
pub use Rattle.snap_lex.specs.declared.Token.{Token}
pub use Rattle.snap_lex.specs.declared.Kind.{Kind}
use Rattle.snap_lex.specs.declared.Kind.TheVariants as kinds
pub use Rattle.snap_lex.specs.declared.Key.{Key}
use Rattle.snap_lex.specs.declared.Key.TheVariants as keys
pub use Rattle.snap_lex.specs.declared.Sign.{Sign}
use Rattle.snap_lex.specs.declared.Sign.TheVariants as signs

-- space, tab, CR, LF
abbrev pub is_blank : ℕ → Bool
is_blank b = nat_eq b 32 || nat_eq b 9 || nat_eq b 13 || nat_eq b 10

abbrev pub is_digit : ℕ → Bool
is_digit b = nat_le 48 b && nat_le b 57

-- a letter or `_`
abbrev pub is_letter : ℕ → Bool
is_letter b = (nat_le 65 b && nat_le b 90) || (nat_le 97 b && nat_le b 122) || nat_eq b 95

abbrev pub is_part : ℕ → Bool
is_part b = is_letter b || is_digit b

-- `.` or `-`
abbrev pub is_joint : ℕ → Bool
is_joint b = nat_eq b 46 || nat_eq b 45

abbrev pub is_figure_part : ℕ → Bool
is_figure_part b = is_part b || nat_eq b 46

abbrev pub digit_of : ℕ → ℕ
digit_of b = b - 48

abbrev pub is_group : List ℕ → Bool
is_group (a ∷ []) = is_digit a
is_group (a ∷ b ∷ []) = is_digit a && is_digit b
is_group (a ∷ b ∷ c ∷ []) = is_digit a && is_digit b && is_digit c && nat_le (digit_of a * 100 + digit_of b * 10 + digit_of c) 255
is_group _ = false

-- groups joined by this many dots
pub data HasDots : ℕ → List ℕ → Type 0 where
  last_group : (group : List ℕ) → is_group group ≡ true → HasDots 0 group
  next_group : {n : ℕ} {rest : List ℕ} (group : List ℕ) → is_group group ≡ true → HasDots n rest → HasDots (suc n) (group ++ 46 ∷ rest)

abbrev pub IsAddress : List ℕ → Type 0
IsAddress text = HasDots 3 text

-- The first n bytes are a word: a letter or `_`, then letters, digits, `_`, and `.` or `-` where one of these follows.
pub record IsWord (bytes : List ℕ) (n : ℕ) : Type 0 where
  pub some : 0 < n
  pub within : n ≤ length bytes
  pub first : is_letter (slice_index bytes 0) ≡ true
  pub parts : (i : ℕ) → i < n → (is_part (slice_index bytes i) ≡ true)
      ⊎ ((is_joint (slice_index bytes i) ≡ true) × (i + 1 < n) × (is_part (slice_index bytes (i + 1)) ≡ true))

-- The first n bytes are a figure: a digit, then letters, digits, `_` and `.`.
pub record IsFigure (bytes : List ℕ) (n : ℕ) : Type 0 where
  pub some : 0 < n
  pub within : n ≤ length bytes
  pub first : is_digit (slice_index bytes 0) ≡ true
  pub parts : (i : ℕ) → i < n → is_figure_part (slice_index bytes i) ≡ true

abbrev pub sign_text : Sign → List ℕ
sign_text signs.PlusPlus = codes "++"
sign_text signs.MinusMinus = codes "--"
sign_text signs.Arrow = codes "<-"
sign_text signs.OpenSquare = codes "["
sign_text signs.CloseSquare = codes "]"
sign_text signs.OpenRound = codes "("
sign_text signs.CloseRound = codes ")"
sign_text signs.OpenCurly = codes "{"
sign_text signs.CloseCurly = codes "}"
sign_text signs.Equals = codes "="
sign_text signs.Not = codes "!"
sign_text signs.And = codes "&"
sign_text signs.Or = codes "|"
sign_text signs.Plus = codes "+"
sign_text signs.Semicolon = codes ";"
sign_text signs.Slash = codes "/"
sign_text signs.PlusEquals = codes "+="
sign_text signs.MinusEquals = codes "-="

pub record IsSign (sign : Sign) (bytes : List ℕ) (n : ℕ) : Type 0 where
  pub text : take n bytes ≡ sign_text sign
  pub size : n ≡ length (sign_text sign)

-- the first n bytes are a word, a figure or a sign
pub data HasForm (bytes : List ℕ) (n : ℕ) : Type 0 where
  as_word : IsWord bytes n → HasForm bytes n
  as_figure : IsFigure bytes n → HasForm bytes n
  as_sign : (sign : Sign) → IsSign sign bytes n → HasForm bytes n

abbrev pub IsLongest : List ℕ → ℕ → Type 0
IsLongest bytes n = (m : ℕ) → HasForm bytes m → m ≤ n

abbrev pub key_text : Key → List ℕ
key_text keys.Field = codes "field"
key_text keys.Array = codes "array"
key_text keys.Const = codes "const"
key_text keys.Let = codes "let"
key_text keys.If = codes "if"
key_text keys.Then = codes "then"
key_text keys.Else = codes "else"
key_text keys.Id = codes "id"
key_text keys.Drop = codes "drop"
key_text keys.Atomic = codes "atomic"
key_text keys.True = codes "True"
key_text keys.False = codes "False"

abbrev pub AreDigits : List ℕ → ℕ → Type 0
AreDigits bytes n = (i : ℕ) → i < n → is_digit (slice_index bytes i) ≡ true

-- the first n bytes are a token of this kind
pub data IsLexeme (bytes : List ℕ) (n : ℕ) : Kind → Type 0 where
  a_name : IsWord bytes n → ((key : Key) → take n bytes ≡ key_text key → ⊥) → IsLexeme bytes n kinds.Word
  a_key : (key : Key) → IsWord bytes n → take n bytes ≡ key_text key → IsLexeme bytes n (kinds.Key key)
  a_number : IsFigure bytes n → AreDigits bytes n → IsLexeme bytes n kinds.Number
  an_address : IsFigure bytes n → IsAddress (take n bytes) → IsLexeme bytes n kinds.Address
  a_sign : (sign : Sign) → IsSign sign bytes n → IsLexeme bytes n (kinds.Sign sign)

-- a comment of n bytes: `#` and what stands before the next LF
pub record IsComment (bytes : List ℕ) (n : ℕ) : Type 0 where
  pub some : 0 < n
  pub within : n ≤ length bytes
  pub first : slice_index bytes 0 ≡ 35
  pub inside : (i : ℕ) → i < n → slice_index bytes i ≢ 10
  pub ends : n < length bytes → slice_index bytes n ≡ 10

-- The bytes, which begin at `at`, spell the tokens up to the rest, which begins at `end`.
pub data Spells : ℕ → List ℕ → List Token → ℕ → List ℕ → Type 0 where
  spells_nothing : {at : ℕ} {rest : List ℕ} → Spells at rest [] at rest
  spells_blank : {at end b : ℕ} {bytes rest : List ℕ} {ts : List Token}
      → is_blank b ≡ true → Spells (at + 1) bytes ts end rest → Spells at (b ∷ bytes) ts end rest
  spells_comment : {at end : ℕ} {bytes rest : List ℕ} {ts : List Token} (n : ℕ)
      → IsComment bytes n → Spells (at + n) (drop n bytes) ts end rest → Spells at bytes ts end rest
  spells_token : {at end : ℕ} {bytes rest : List ℕ} {ts : List Token} (n : ℕ) (kind : Kind) → IsLexeme bytes n kind → IsLongest bytes n →
      Spells (at + n) (drop n bytes) ts end rest → Spells at bytes (record { kind = kind; from = at; to = at + n } ∷ ts) end rest

-- no token begins with these bytes, nor a blank or a comment
pub record BeginsNothing (bytes : List ℕ) : Type 0 where
  pub some : 0 < length bytes
  pub no_blank : is_blank (slice_index bytes 0) ≡ false
  pub no_comment : slice_index bytes 0 ≢ 35
  pub no_form : (n : ℕ) → HasForm bytes n → ⊥

-- the longest figure of these bytes is neither a number nor an address
pub record BeginsNoNumber (bytes : List ℕ) : Type 0 where
  pub size : ℕ
  pub figure : IsFigure bytes size
  pub longest : IsLongest bytes size
  pub no_number : AreDigits bytes size → ⊥
  pub no_address : IsAddress (take size bytes) → ⊥

-- the whole text spells these tokens
abbrev pub SpellsTokens : List ℕ → List Token → Type 0
SpellsTokens text ts = Spells 0 text ts (length text) []

-- the byte at `at` begins no token, where one is due
abbrev pub IsBadByte : List ℕ → ℕ → Type 0
IsBadByte text at = (ts : List Token) × (rest : List ℕ) × Spells 0 text ts at rest × BeginsNothing rest

-- the figure at `at`, where a token is due, is neither a number nor an address
abbrev pub IsBadNumber : List ℕ → ℕ → Type 0
IsBadNumber text at = (ts : List Token) × (rest : List ℕ) × Spells 0 text ts at rest × BeginsNoNumber rest
