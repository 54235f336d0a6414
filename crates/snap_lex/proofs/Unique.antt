-- Of two spellings of one text one goes on where the other stops.
use Rattle.std.proofs.Common.{◌≡◌, ℕ, ◌+◌, ◌<◌, ◌≤◌, List, [], ◌∷◌, ◌++◌, length, true, ap, sym, ◌∙◌, subst, take, drop, inl, inr, arith, refl, append-nil, true≢false, slice_index}
use Rattle.std.proofs.lemmas.Bool.{cases_lt}
use Rattle.std.proofs.lemmas.Bool.Decides.{nat_tests}
use Rattle.snap_lex.specs.Lexemes.{Token, Kind, Key, Sign, IsWord, IsFigure, IsSign, HasForm, as_word, as_figure, as_sign, IsLexeme, a_name, a_key, a_number, an_address, a_sign, IsLongest, IsComment, Spells, spells_nothing, spells_blank, spells_comment, spells_token, BeginsNothing, BeginsNoNumber, AreDigits, IsAddress, is_blank, is_letter, is_digit}
use Rattle.snap_lex.proofs.Addresses.{no_address_of_digits}
use Rattle.snap_lex.proofs.Forms.{key_same, sign_same, letter_no_digit, sign_no_letter, sign_no_digit, sign_no_blank, sign_no_comment, sign_some, sign_within}

-- a word, a figure and a sign are three things
word_no_figure : (bytes : List ℕ) (n : ℕ) → IsWord bytes n → IsFigure bytes n → ⊥
word_no_figure bytes n w f = letter_no_digit (slice_index bytes 0) w.first f.first

word_no_sign : (sign : Sign) (bytes : List ℕ) (n : ℕ) → IsWord bytes n → IsSign sign bytes n → ⊥
word_no_sign sign bytes n w h = true≢false (sym w.first ∙ sign_no_letter sign bytes n h)

figure_no_sign : (sign : Sign) (bytes : List ℕ) (n : ℕ) → IsFigure bytes n → IsSign sign bytes n → ⊥
figure_no_sign sign bytes n f h = true≢false (sym f.first ∙ sign_no_digit sign bytes n h)

-- one kind at most
kind_same : (bytes : List ℕ) (n : ℕ) (a b : Kind) → IsLexeme bytes n a → IsLexeme bytes n b → a ≡ b
kind_same bytes n a b (a_name w none) (a_name v other) = refl
kind_same bytes n a b (a_name w none) (a_key key2 v was) = absurd (none key2 was)
kind_same bytes n a b (a_name w none) (a_number g others) = absurd (word_no_figure bytes n w g)
kind_same bytes n a b (a_name w none) (an_address g dots) = absurd (word_no_figure bytes n w g)
kind_same bytes n a b (a_name w none) (a_sign sign2 g) = absurd (word_no_sign sign2 bytes n w g)
kind_same bytes n a b (a_key key w is) (a_name v other) = absurd (other key is)
kind_same bytes n a b (a_key key w is) (a_key key2 v was) = ap Kind.Key (key_same key key2 (sym is ∙ was))
kind_same bytes n a b (a_key key w is) (a_number g others) = absurd (word_no_figure bytes n w g)
kind_same bytes n a b (a_key key w is) (an_address g dots) = absurd (word_no_figure bytes n w g)
kind_same bytes n a b (a_key key w is) (a_sign sign2 g) = absurd (word_no_sign sign2 bytes n w g)
kind_same bytes n a b (a_number f digits) (a_name v other) = absurd (word_no_figure bytes n v f)
kind_same bytes n a b (a_number f digits) (a_key key2 v was) = absurd (word_no_figure bytes n v f)
kind_same bytes n a b (a_number f digits) (a_number g others) = refl
kind_same bytes n a b (a_number f digits) (an_address g dots) = absurd (no_address_of_digits bytes n g.within digits dots)
kind_same bytes n a b (a_number f digits) (a_sign sign2 g) = absurd (figure_no_sign sign2 bytes n f g)
kind_same bytes n a b (an_address f groups) (a_name v other) = absurd (word_no_figure bytes n v f)
kind_same bytes n a b (an_address f groups) (a_key key2 v was) = absurd (word_no_figure bytes n v f)
kind_same bytes n a b (an_address f groups) (a_number g others) = absurd (no_address_of_digits bytes n f.within others groups)
kind_same bytes n a b (an_address f groups) (an_address g dots) = refl
kind_same bytes n a b (an_address f groups) (a_sign sign2 g) = absurd (figure_no_sign sign2 bytes n f g)
kind_same bytes n a b (a_sign sign h) (a_name v other) = absurd (word_no_sign sign bytes n v h)
kind_same bytes n a b (a_sign sign h) (a_key key2 v was) = absurd (word_no_sign sign bytes n v h)
kind_same bytes n a b (a_sign sign h) (a_number g others) = absurd (figure_no_sign sign bytes n g h)
kind_same bytes n a b (a_sign sign h) (an_address g dots) = absurd (figure_no_sign sign bytes n g h)
kind_same bytes n a b (a_sign sign h) (a_sign sign2 g) = ap Kind.Sign (sign_same sign sign2 (sym h.text ∙ g.text))

-- a token has a form
pub form_of : (bytes : List ℕ) (n : ℕ) (kind : Kind) → IsLexeme bytes n kind → HasForm bytes n
form_of bytes n kind (a_name w none) = as_word w
form_of bytes n kind (a_key key w is) = as_word w
form_of bytes n kind (a_number f digits) = as_figure f
form_of bytes n kind (an_address f groups) = as_figure f
form_of bytes n kind (a_sign sign h) = as_sign sign h

letter_no_blank : (b : ℕ) → is_letter b ≡ true → is_blank b ≡ true → ⊥
letter_no_blank b x y = grind (arith, nat_tests)

digit_no_blank : (b : ℕ) → is_digit b ≡ true → is_blank b ≡ true → ⊥
digit_no_blank b x y = grind (arith, nat_tests)

letter_no_comment : (b : ℕ) → is_letter b ≡ true → b ≡ 35 → ⊥
letter_no_comment b x y = true≢false (sym x ∙ ap is_letter y)

digit_no_comment : (b : ℕ) → is_digit b ≡ true → b ≡ 35 → ⊥
digit_no_comment b x y = true≢false (sym x ∙ ap is_digit y)

no_blank_form : (bytes : List ℕ) (n : ℕ) → HasForm bytes n → is_blank (slice_index bytes 0) ≡ true → ⊥
no_blank_form bytes n (as_word w) is = letter_no_blank (slice_index bytes 0) w.first is
no_blank_form bytes n (as_figure f) is = digit_no_blank (slice_index bytes 0) f.first is
no_blank_form bytes n (as_sign sign h) is = true≢false (sym is ∙ sign_no_blank sign bytes n h)

no_comment_form : (bytes : List ℕ) (n : ℕ) → HasForm bytes n → slice_index bytes 0 ≡ 35 → ⊥
no_comment_form bytes n (as_word w) is = letter_no_comment (slice_index bytes 0) w.first is
no_comment_form bytes n (as_figure f) is = digit_no_comment (slice_index bytes 0) f.first is
no_comment_form bytes n (as_sign sign h) is = sign_no_comment sign bytes n h is

no_blank_comment : (b : ℕ) → is_blank b ≡ true → b ≡ 35 → ⊥
no_blank_comment b x y = true≢false (sym x ∙ ap is_blank y)

comment_least : (bytes : List ℕ) (n m : ℕ) → IsComment bytes n → IsComment bytes m → m ≤ n
comment_least bytes n m a b = elim (cases_lt n m) [ inl below ↦ absurd (b.inside n below (a.ends (omega (arith, b.within)))) | inr above ↦ above ]

comment_same : (bytes : List ℕ) (n m : ℕ) → IsComment bytes n → IsComment bytes m → n ≡ m
comment_same bytes n m a b = omega (arith, comment_least bytes n m a b, comment_least bytes m n b a)

-- the second spelling goes on where the first stops, or the other way round
pub data OneGoesOn (ts us : List Token) (e1 : ℕ) (r1 : List ℕ) (e2 : ℕ) (r2 : List ℕ) : Type 0 where
  goes_on : (more : List Token) → us ≡ ts ++ more → Spells e1 r1 more e2 r2 → OneGoesOn ts us e1 r1 e2 r2
  stops : (more : List Token) → ts ≡ us ++ more → Spells e2 r2 more e1 r1 → OneGoesOn ts us e1 r1 e2 r2

one_goes_on_more : (t : Token) (ts us : List Token) (e1 : ℕ) (r1 : List ℕ) (e2 : ℕ) (r2 : List ℕ) → OneGoesOn ts us e1 r1 e2 r2 → OneGoesOn (t ∷ ts) (t ∷ us) e1 r1 e2 r2
one_goes_on_more t ts us e1 r1 e2 r2 (goes_on more is h) = goes_on more (ap (λ x. t ∷ x) is) h
one_goes_on_more t ts us e1 r1 e2 r2 (stops more is h) = stops more (ap (λ x. t ∷ x) is) h

pub meet : (at : ℕ) (bytes : List ℕ) (ts us : List Token) (e1 : ℕ) (r1 : List ℕ) (e2 : ℕ) (r2 : List ℕ) →
    Spells at bytes ts e1 r1 → Spells at bytes us e2 r2 → OneGoesOn ts us e1 r1 e2 r2
meet at bytes ts us e1 r1 e2 r2 spells_nothing b = goes_on us refl b
meet at bytes ts us e1 r1 e2 r2 (spells_blank is a) spells_nothing = stops ts refl (spells_blank is a)
meet at bytes ts us e1 r1 e2 r2 (spells_blank {bytes = inner} is a) (spells_blank was b) = meet (at + 1) inner ts us e1 r1 e2 r2 a b
meet at bytes ts us e1 r1 e2 r2 (spells_blank {b = c} is a) (spells_comment m comment b) = absurd (no_blank_comment c is comment.first)
meet at bytes ts us e1 r1 e2 r2 (spells_blank is a) (spells_token m kind lexeme most b) = absurd (no_blank_form bytes m (form_of bytes m kind lexeme) is)
meet at bytes ts us e1 r1 e2 r2 (spells_comment n comment a) spells_nothing = stops ts refl (spells_comment n comment a)
meet at bytes ts us e1 r1 e2 r2 (spells_comment n comment a) (spells_blank {b = c} is b) = absurd (no_blank_comment c is comment.first)
meet at bytes ts us e1 r1 e2 r2 (spells_comment n comment a) (spells_comment m other b) =
    let same : m ≡ n = comment_same bytes m n other comment in
    meet (at + n) (drop n bytes) ts us e1 r1 e2 r2 a (subst (λ x. Spells (at + x) (drop x bytes) us e2 r2) same b)
meet at bytes ts us e1 r1 e2 r2 (spells_comment n comment a) (spells_token m kind lexeme most b) = absurd (no_comment_form bytes m (form_of bytes m kind lexeme) comment.first)
meet at bytes ts us e1 r1 e2 r2 (spells_token n kind lexeme most a) spells_nothing = stops ts refl (spells_token n kind lexeme most a)
meet at bytes ts us e1 r1 e2 r2 (spells_token n kind lexeme most a) (spells_blank is b) = absurd (no_blank_form bytes n (form_of bytes n kind lexeme) is)
meet at bytes ts us e1 r1 e2 r2 (spells_token n kind lexeme most a) (spells_comment m comment b) = absurd (no_comment_form bytes n (form_of bytes n kind lexeme) comment.first)
meet at bytes ts us e1 r1 e2 r2 (spells_token {ts = ts1} n kind lexeme most a) (spells_token {ts = us1} m kind2 lexeme2 most2 b) =
    let same : m ≡ n = omega (arith, most m (form_of bytes m kind2 lexeme2), most2 n (form_of bytes n kind lexeme)) in
    let kinds : kind ≡ kind2 = kind_same bytes n kind kind2 lexeme (subst (λ x. IsLexeme bytes x kind2) same lexeme2) in
    let t1 : Token = record { kind = kind; from = at; to = at + n } in
    let t2 : Token = record { kind = kind2; from = at; to = at + m } in
    let token : t1 ≡ t2 = cc in
    let later = meet (at + n) (drop n bytes) ts1 us1 e1 r1 e2 r2 a (subst (λ x. Spells (at + x) (drop x bytes) us1 e2 r2) same b) in
    subst (λ x. OneGoesOn (t1 ∷ ts1) (x ∷ us1) e1 r1 e2 r2) token (one_goes_on_more t1 ts1 us1 e1 r1 e2 r2 later)

empty_form : (n : ℕ) → HasForm [] n → ⊥
empty_form n (as_word w) = absurd (omega (arith, w.some, w.within))
empty_form n (as_figure f) = absurd (omega (arith, f.some, f.within))
empty_form n (as_sign sign h) = absurd (omega (arith, sign_some sign [] n h, sign_within sign [] n h))

-- where no spelling goes on: at the end, at a bad byte, at a bad number
pub data IsStop (rest : List ℕ) : Type 0 where
  at_the_end : rest ≡ [] → IsStop rest
  at_bad_byte : BeginsNothing rest → IsStop rest
  at_bad_number : BeginsNoNumber rest → IsStop rest

-- no token is a figure that is no number
bad_lexeme : (bytes : List ℕ) (n : ℕ) (kind : Kind) → IsLexeme bytes n kind → IsFigure bytes n → (AreDigits bytes n → ⊥) → (IsAddress (take n bytes) → ⊥) → ⊥
bad_lexeme bytes n kind (a_name w none) f no_number no_address = word_no_figure bytes n w f
bad_lexeme bytes n kind (a_key key w is) f no_number no_address = word_no_figure bytes n w f
bad_lexeme bytes n kind (a_number g digits) f no_number no_address = no_number digits
bad_lexeme bytes n kind (an_address g groups) f no_number no_address = no_address groups
bad_lexeme bytes n kind (a_sign sign h) f no_number no_address = figure_no_sign sign bytes n f h

no_token : (bytes : List ℕ) (n : ℕ) (kind : Kind) → IsStop bytes → IsLexeme bytes n kind → IsLongest bytes n → ⊥
no_token bytes n kind (at_the_end is) lexeme most = empty_form n (subst (λ x. HasForm x n) is (form_of bytes n kind lexeme))
no_token bytes n kind (at_bad_byte bad) lexeme most = bad.no_form n (form_of bytes n kind lexeme)
no_token bytes n kind (at_bad_number bad) lexeme most =
    let same : n ≡ bad.size = omega (arith, most bad.size (as_figure bad.figure), bad.longest n (form_of bytes n kind lexeme)) in
    bad_lexeme bytes bad.size kind (subst (λ x. IsLexeme bytes x kind) same lexeme) bad.figure bad.no_number bad.no_address

no_blank_here : (bytes : List ℕ) → IsStop bytes → 0 < length bytes → is_blank (slice_index bytes 0) ≡ true → ⊥
no_blank_here bytes (at_the_end is) some blank = absurd (omega (arith, some, ap (λ x. length x) is))
no_blank_here bytes (at_bad_byte bad) some blank = true≢false (sym blank ∙ bad.no_blank)
no_blank_here bytes (at_bad_number bad) some blank = digit_no_blank (slice_index bytes 0) bad.figure.first blank

no_comment_here : (bytes : List ℕ) (n : ℕ) → IsStop bytes → IsComment bytes n → ⊥
no_comment_here bytes n (at_the_end is) comment = absurd (omega (arith, comment.some, comment.within, ap (λ x. length x) is))
no_comment_here bytes n (at_bad_byte bad) comment = bad.no_comment comment.first
no_comment_here bytes n (at_bad_number bad) comment = digit_no_comment (slice_index bytes 0) bad.figure.first comment.first

data Ends (at : ℕ) (bytes : List ℕ) (ts : List Token) (end : ℕ) (rest : List ℕ) : Type 0 where
  ends : ts ≡ [] → at ≡ end → bytes ≡ rest → Ends at bytes ts end rest

stopped : (at : ℕ) (bytes : List ℕ) (ts : List Token) (end : ℕ) (rest : List ℕ) → IsStop bytes → Spells at bytes ts end rest → Ends at bytes ts end rest
stopped at bytes ts end rest stop spells_nothing = ends refl refl refl
stopped at bytes ts end rest stop (spells_blank {b = b} {bytes = inner} is a) = absurd (no_blank_here (b ∷ inner) stop (omega arith) is)
stopped at bytes ts end rest stop (spells_comment n comment a) = absurd (no_comment_here bytes n stop comment)
stopped at bytes ts end rest stop (spells_token n kind lexeme most a) = absurd (no_token bytes n kind stop lexeme most)

-- there is one place where the text stops, and one token list up to it
pub record SameStop (ts us : List Token) (e1 e2 : ℕ) (r1 r2 : List ℕ) : Type 0 where
  pub tokens : ts ≡ us
  pub at : e1 ≡ e2
  pub rest : r1 ≡ r2

same_stop_from : (ts us : List Token) (e1 : ℕ) (r1 : List ℕ) (e2 : ℕ) (r2 : List ℕ) → IsStop r1 → IsStop r2 → OneGoesOn ts us e1 r1 e2 r2 → SameStop ts us e1 e2 r1 r2
same_stop_from ts us e1 r1 e2 r2 s1 s2 (goes_on more is h) =
    elim (stopped e1 r1 more e2 r2 s1 h) [ ends none at rest ↦ record { tokens = sym (is ∙ (ap (λ x. ts ++ x) none ∙ append-nil ts)); at = at; rest = rest } ]
same_stop_from ts us e1 r1 e2 r2 s1 s2 (stops more is h) =
    elim (stopped e2 r2 more e1 r1 s2 h) [ ends none at rest ↦ record { tokens = is ∙ (ap (λ x. us ++ x) none ∙ append-nil us); at = sym at; rest = sym rest } ]

pub same_stop : (text : List ℕ) (ts us : List Token) (e1 : ℕ) (r1 : List ℕ) (e2 : ℕ) (r2 : List ℕ) →
    Spells 0 text ts e1 r1 → IsStop r1 → Spells 0 text us e2 r2 → IsStop r2 → SameStop ts us e1 e2 r1 r2
same_stop text ts us e1 r1 e2 r2 a s1 b s2 = same_stop_from ts us e1 r1 e2 r2 s1 s2 (meet 0 text ts us e1 r1 e2 r2 a b)
