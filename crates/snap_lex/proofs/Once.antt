-- A text is read in one way.
use Rattle.std.proofs.Common.{◌≡◌, ℕ, List, [], length, Result, Ok, Err, refl, sym, ap, subst, arith}
use Rattle.snap_lex.specs.Lexemes.{Token, SpellsTokens, IsBadByte, IsBadNumber, BeginsNothing, BeginsNoNumber, IsFigure, as_figure}
use Rattle.snap_lex.specs.Laws.{LexFault, BadByte, BadNumber, NoMemory, Finds}
use Rattle.snap_lex.proofs.Unique.{at_the_end, at_bad_byte, at_bad_number, same_stop}

no_bad_byte : (rest : List ℕ) → [] ≡ rest → BeginsNothing rest → ⊥
no_bad_byte rest is bad = absurd (omega (arith, bad.some, ap (λ x. length x) is))

no_bad_number : (rest : List ℕ) → [] ≡ rest → BeginsNoNumber rest → ⊥
no_bad_number rest is bad = absurd (omega (arith, bad.figure.some, bad.figure.within, ap (λ x. length x) is))

not_both : (a b : List ℕ) → a ≡ b → BeginsNothing a → BeginsNoNumber b → ⊥
not_both a b is bad worse = bad.no_form worse.size (as_figure (subst (λ x. IsFigure x worse.size) (sym is) worse.figure))

module _ (text : List ℕ) where
  one_spelling : (ts us : List Token) → SpellsTokens text ts → SpellsTokens text us → ts ≡ us
  one_spelling ts us a b = (same_stop text ts us (length text) [] (length text) [] a (at_the_end refl) b (at_the_end refl)).tokens

  one_bad_byte : (n m : ℕ) → IsBadByte text n → IsBadByte text m → n ≡ m
  one_bad_byte n m a b = (same_stop text a.0 b.0 n a.1 m b.1 a.2 (at_bad_byte a.3) b.2 (at_bad_byte b.3)).at

  one_bad_number : (n m : ℕ) → IsBadNumber text n → IsBadNumber text m → n ≡ m
  one_bad_number n m a b = (same_stop text a.0 b.0 n a.1 m b.1 a.2 (at_bad_number a.3) b.2 (at_bad_number b.3)).at

  spelled_well : (ts : List Token) (n : ℕ) → SpellsTokens text ts → IsBadByte text n → ⊥
  spelled_well ts n a b = no_bad_byte b.1 (same_stop text ts b.0 (length text) [] n b.1 a (at_the_end refl) b.2 (at_bad_byte b.3)).rest b.3

  numbered_well : (ts : List Token) (n : ℕ) → SpellsTokens text ts → IsBadNumber text n → ⊥
  numbered_well ts n a b = no_bad_number b.1 (same_stop text ts b.0 (length text) [] n b.1 a (at_the_end refl) b.2 (at_bad_number b.3)).rest b.3

  one_fault : (n m : ℕ) → IsBadByte text n → IsBadNumber text m → ⊥
  one_fault n m a b = not_both a.1 b.1 (same_stop text a.0 b.0 n a.1 m b.1 a.2 (at_bad_byte a.3) b.2 (at_bad_number b.3)).rest a.3 b.3

pub lexing_is_deterministic : (text : List ℕ) (a b : Result (List Token) LexFault) → Finds text a → Finds text b → a ≡ b
lexing_is_deterministic text (Ok ts) (Ok us) h k = ap (λ x. Ok x) (one_spelling text ts us h k)
lexing_is_deterministic text (Ok ts) (Err (BadByte m)) h k = absurd (spelled_well text ts m h k)
lexing_is_deterministic text (Ok ts) (Err (BadNumber m)) h k = absurd (numbered_well text ts m h k)
lexing_is_deterministic text (Ok ts) (Err NoMemory) h k = absurd k
lexing_is_deterministic text (Err (BadByte n)) (Ok us) h k = absurd (spelled_well text us n k h)
lexing_is_deterministic text (Err (BadByte n)) (Err (BadByte m)) h k = ap (λ x. Err (BadByte x)) (one_bad_byte text n m h k)
lexing_is_deterministic text (Err (BadByte n)) (Err (BadNumber m)) h k = absurd (one_fault text n m h k)
lexing_is_deterministic text (Err (BadByte n)) (Err NoMemory) h k = absurd k
lexing_is_deterministic text (Err (BadNumber n)) (Ok us) h k = absurd (numbered_well text us n k h)
lexing_is_deterministic text (Err (BadNumber n)) (Err (BadByte m)) h k = absurd (one_fault text m n k h)
lexing_is_deterministic text (Err (BadNumber n)) (Err (BadNumber m)) h k = ap (λ x. Err (BadNumber x)) (one_bad_number text n m h k)
lexing_is_deterministic text (Err (BadNumber n)) (Err NoMemory) h k = absurd k
lexing_is_deterministic text (Err NoMemory) b h k = absurd h
