-- A word, a figure and a sign begin with different bytes, so the longest of one form is the longest of all.
use Rattle.std.proofs.Common.{◌≡◌, ℕ, ◌<◌, ◌≤◌, Bool, true, false, Option, Some, List, [], ◌∷◌, length, find, bytes_eq, nat_le, ap, sym, ◌∙◌, refl, length-take, get_or-take, arith, true≢false, slice_index, nat_eq}
use Rattle.std.proofs.lemmas.Bool.{leb-true}
use Rattle.std.proofs.lemmas.Bool.Decides.{nat_tests}
use Rattle.snap_lex.specs.Lexemes.{Sign, Key, IsWord, IsFigure, IsSign, HasForm, as_word, as_figure, as_sign, IsLongest, sign_text, key_text, is_blank, is_letter, is_digit}

pub letter_no_digit : (b : ℕ) → is_letter b ≡ true → is_digit b ≡ true → ⊥
letter_no_digit b x y = grind (arith, nat_tests)

-- the signs and the keywords
abbrev pub all_signs : List Sign
all_signs = Sign.PlusPlus ∷ Sign.MinusMinus ∷ Sign.Arrow ∷ Sign.OpenSquare ∷ Sign.CloseSquare ∷ Sign.OpenRound ∷ Sign.CloseRound ∷ Sign.OpenCurly ∷ Sign.CloseCurly ∷ Sign.Equals ∷ Sign.Not ∷ Sign.And ∷ Sign.Or ∷ Sign.Plus ∷ Sign.Semicolon ∷ Sign.Slash ∷ Sign.PlusEquals ∷ Sign.MinusEquals ∷ []

abbrev pub all_keys : List Key
all_keys = Key.Field ∷ Key.Array ∷ Key.Const ∷ Key.Let ∷ Key.If ∷ Key.Then ∷ Key.Else ∷ Key.Id ∷ Key.Drop ∷ Key.Atomic ∷ Key.True ∷ Key.False ∷ []

-- What holds of each in the list holds of all.
abbrev pub OfEach : {A : Type 0} → (A → Type 0) → List A → Type 0
OfEach P [] = Unit {0}
OfEach P (x ∷ xs) = P x × OfEach P xs

pub each_sign : (P : Sign → Type 0) → OfEach P all_signs → (sign : Sign) → P sign
each_sign P h Sign.PlusPlus = h.0
each_sign P h Sign.MinusMinus = h.1.0
each_sign P h Sign.Arrow = h.1.1.0
each_sign P h Sign.OpenSquare = h.1.1.1.0
each_sign P h Sign.CloseSquare = h.1.1.1.1.0
each_sign P h Sign.OpenRound = h.1.1.1.1.1.0
each_sign P h Sign.CloseRound = h.1.1.1.1.1.1.0
each_sign P h Sign.OpenCurly = h.1.1.1.1.1.1.1.0
each_sign P h Sign.CloseCurly = h.1.1.1.1.1.1.1.1.0
each_sign P h Sign.Equals = h.1.1.1.1.1.1.1.1.1.0
each_sign P h Sign.Not = h.1.1.1.1.1.1.1.1.1.1.0
each_sign P h Sign.And = h.1.1.1.1.1.1.1.1.1.1.1.0
each_sign P h Sign.Or = h.1.1.1.1.1.1.1.1.1.1.1.1.0
each_sign P h Sign.Plus = h.1.1.1.1.1.1.1.1.1.1.1.1.1.0
each_sign P h Sign.Semicolon = h.1.1.1.1.1.1.1.1.1.1.1.1.1.1.0
each_sign P h Sign.Slash = h.1.1.1.1.1.1.1.1.1.1.1.1.1.1.1.0
each_sign P h Sign.PlusEquals = h.1.1.1.1.1.1.1.1.1.1.1.1.1.1.1.1.0
each_sign P h Sign.MinusEquals = h.1.1.1.1.1.1.1.1.1.1.1.1.1.1.1.1.1.0

pub each_key : (P : Key → Type 0) → OfEach P all_keys → (key : Key) → P key
each_key P h Key.Field = h.0
each_key P h Key.Array = h.1.0
each_key P h Key.Const = h.1.1.0
each_key P h Key.Let = h.1.1.1.0
each_key P h Key.If = h.1.1.1.1.0
each_key P h Key.Then = h.1.1.1.1.1.0
each_key P h Key.Else = h.1.1.1.1.1.1.0
each_key P h Key.Id = h.1.1.1.1.1.1.1.0
each_key P h Key.Drop = h.1.1.1.1.1.1.1.1.0
each_key P h Key.Atomic = h.1.1.1.1.1.1.1.1.1.0
each_key P h Key.True = h.1.1.1.1.1.1.1.1.1.1.0
each_key P h Key.False = h.1.1.1.1.1.1.1.1.1.1.1.0

-- which keyword a text is
abbrev key_in : List ℕ → Option Key
key_in text = find (λ key. bytes_eq text (key_text key)) all_keys

key_is : (key : Key) → key_in (key_text key) ≡ Some key
key_is = each_key (λ key. key_in (key_text key) ≡ Some key) (refl, (refl, (refl, (refl, (refl, (refl, (refl, (refl, (refl, (refl, (refl, (refl, tt))))))))))))

pub key_same : (a b : Key) → key_text a ≡ key_text b → a ≡ b
key_same a b e = let same : Some a ≡ Some b = sym (key_is a) ∙ ap key_in e ∙ key_is b in cc

-- which sign a text is, whether it has a byte, and whether the first is a letter, a digit, a blank, or begins a comment
abbrev Known : Type 0
Known = Option Sign × Bool × Bool × Bool × Bool × Bool

abbrev known_of : List ℕ → Known
known_of text = (find (λ sign. bytes_eq text (sign_text sign)) all_signs, nat_le 1 (length text), is_letter (slice_index text 0), is_digit (slice_index text 0), is_blank (slice_index text 0), nat_eq (slice_index text 0) 35)

known : (sign : Sign) → known_of (sign_text sign) ≡ (Some sign, true, false, false, false, false)
known = each_sign (λ sign. known_of (sign_text sign) ≡ (Some sign, true, false, false, false, false)) (refl, (refl, (refl, (refl, (refl, (refl, (refl, (refl, (refl, (refl, (refl, (refl, (refl, (refl, (refl, (refl, (refl, (refl, tt))))))))))))))))))

pub sign_same : (a b : Sign) → sign_text a ≡ sign_text b → a ≡ b
sign_same a b e = let same : Some a ≡ Some b = ap (λ (x : Known). x.0) (sym (known a) ∙ ap known_of e ∙ known b) in cc

pub sign_some : (sign : Sign) (bytes : List ℕ) (n : ℕ) → IsSign sign bytes n → 0 < n
sign_some sign bytes n h = omega (arith, leb-true 1 (length (sign_text sign)) (ap (λ (x : Known). x.1) (known sign)), h.size)

pub sign_within : (sign : Sign) (bytes : List ℕ) (n : ℕ) → IsSign sign bytes n → n ≤ length bytes
sign_within sign bytes n h = omega (arith, length-take n bytes, ap (λ x. length x) h.text, h.size)

sign_first : (sign : Sign) (bytes : List ℕ) (n : ℕ) → IsSign sign bytes n → slice_index bytes 0 ≡ slice_index (sign_text sign) 0
sign_first sign bytes n h = sym (get_or-take n bytes 0 0 (sign_some sign bytes n h)) ∙ ap (λ x. slice_index x 0) h.text

pub sign_no_letter : (sign : Sign) (bytes : List ℕ) (n : ℕ) → IsSign sign bytes n → is_letter (slice_index bytes 0) ≡ false
sign_no_letter sign bytes n h = ap is_letter (sign_first sign bytes n h) ∙ ap (λ (x : Known). x.2) (known sign)

pub sign_no_digit : (sign : Sign) (bytes : List ℕ) (n : ℕ) → IsSign sign bytes n → is_digit (slice_index bytes 0) ≡ false
sign_no_digit sign bytes n h = ap is_digit (sign_first sign bytes n h) ∙ ap (λ (x : Known). x.3) (known sign)

pub sign_no_blank : (sign : Sign) (bytes : List ℕ) (n : ℕ) → IsSign sign bytes n → is_blank (slice_index bytes 0) ≡ false
sign_no_blank sign bytes n h = ap is_blank (sign_first sign bytes n h) ∙ ap (λ (x : Known). x.4) (known sign)

pub sign_no_comment : (sign : Sign) (bytes : List ℕ) (n : ℕ) → IsSign sign bytes n → slice_index bytes 0 ≡ 35 → ⊥
sign_no_comment sign bytes n h e = true≢false (sym (ap (λ b. nat_eq b 35) (sym (sign_first sign bytes n h) ∙ e)) ∙ ap (λ (x : Known). x.5) (known sign))

pub longest_word : (bytes : List ℕ) (n : ℕ) → IsWord bytes n → ((m : ℕ) → IsWord bytes m → m ≤ n) → IsLongest bytes n
longest_word bytes n w most m (as_word v) = most m v
longest_word bytes n w most m (as_figure f) = absurd (letter_no_digit (slice_index bytes 0) w.first f.first)
longest_word bytes n w most m (as_sign sign h) = absurd (true≢false (sym w.first ∙ sign_no_letter sign bytes m h))

pub longest_figure : (bytes : List ℕ) (n : ℕ) → IsFigure bytes n → ((m : ℕ) → IsFigure bytes m → m ≤ n) → IsLongest bytes n
longest_figure bytes n f most m (as_word v) = absurd (letter_no_digit (slice_index bytes 0) v.first f.first)
longest_figure bytes n f most m (as_figure v) = most m v
longest_figure bytes n f most m (as_sign sign h) = absurd (true≢false (sym f.first ∙ sign_no_digit sign bytes m h))

pub longest_sign : (bytes : List ℕ) (n : ℕ) → is_letter (slice_index bytes 0) ≡ false → is_digit (slice_index bytes 0) ≡ false →
    ((sign : Sign) (m : ℕ) → IsSign sign bytes m → m ≤ n) → IsLongest bytes n
longest_sign bytes n letter digit most m (as_word v) = absurd (true≢false (sym v.first ∙ letter))
longest_sign bytes n letter digit most m (as_figure f) = absurd (true≢false (sym f.first ∙ digit))
longest_sign bytes n letter digit most m (as_sign sign h) = most sign m h

pub no_form : (bytes : List ℕ) → is_letter (slice_index bytes 0) ≡ false → is_digit (slice_index bytes 0) ≡ false →
    ((sign : Sign) (m : ℕ) → IsSign sign bytes m → ⊥) → (n : ℕ) → HasForm bytes n → ⊥
no_form bytes letter digit none n (as_word v) = true≢false (sym v.first ∙ letter)
no_form bytes letter digit none n (as_figure f) = true≢false (sym f.first ∙ digit)
no_form bytes letter digit none n (as_sign sign h) = none sign n h
