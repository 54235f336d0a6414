-- In a text something is found: its tokens, or a bad byte, or a bad number.
use Rattle.std.proofs.Common.{◌≡◌, ◌≢◌, ℕ, zero, suc, ◌+◌, ◌<◌, ◌≤◌, List, [], ◌∷◌, length, Bool, true, false, Result, Ok, Err, refl, ap, subst, drop, arith, length-drop, get_or}
use Rattle.snap_lex.specs.Lexemes.{Token, IsComment, Spells, spells_nothing, spells_blank, spells_comment, spells_token, is_blank}
use Rattle.snap_lex.specs.Laws.{LexFault, BadByte, BadNumber, Finds}
use Rattle.std.proofs.Math.Decide.{ℕ_discrete}
use Rattle.snap_lex.proofs.Fronts.{Front, a_token, no_token, front}
use Rattle.snap_lex.proofs.Unique.{IsStop, at_the_end, at_bad_byte, at_bad_number}

-- the tokens from here on, up to where none begins
record Scanned (at : ℕ) (bytes : List ℕ) : Type 0 where
  tokens : List Token
  end : ℕ
  rest : List ℕ
  spells : Spells at bytes tokens end rest
  stop : IsStop rest
  all : end + length rest ≡ at + length bytes

-- a line's bytes, before its LF or the end
record Line (bytes : List ℕ) : Type 0 where
  size : ℕ
  within : size ≤ length bytes
  inside : (i : ℕ) → i < size → get_or bytes i 0 ≢ 10
  ends : size < length bytes → get_or bytes size 0 ≡ 10

line_behind : (b : ℕ) (bytes : List ℕ) → b ≢ 10 → Line bytes → Line (b ∷ bytes)
line_behind b bytes other line = record { size = suc line.size; within = omega (arith, line.within); inside = inside; ends = λ h. line.ends (omega arith) }
  where
    inside : (i : ℕ) → i < suc line.size → get_or (b ∷ bytes) i 0 ≢ 10
    inside zero h e = other e
    inside (suc i) h e = line.inside i (omega arith) e

line_at : (b : ℕ) (bytes : List ℕ) → Dec (b ≡ 10) → Line bytes → Line (b ∷ bytes)
line_at b bytes (yes is) line = record { size = 0; within = omega arith; inside = λ i h. absurd (omega arith); ends = λ h. is }
line_at b bytes (no other) line = line_behind b bytes other line

line_in : (bytes : List ℕ) → Line bytes
line_in [] = record { size = 0; within = omega arith; inside = λ i h. absurd (omega arith); ends = λ h. absurd (omega arith) }
line_in (b ∷ bytes) = line_at b bytes (ℕ_discrete b 10) (line_in bytes)

comment_in : (b : ℕ) (bytes : List ℕ) → b ≡ 35 → (n : ℕ) × IsComment (b ∷ bytes) n
unfolding line_behind
comment_in b bytes is =
    let line = line_behind b bytes (λ e. absurd (omega arith)) (line_in bytes) in
    (suc (line_in bytes).size, record { some = omega arith; within = line.within; first = is; inside = line.inside; ends = line.ends })

module _ (at : ℕ) where
  behind_blank : (b : ℕ) (bytes : List ℕ) → is_blank b ≡ true → Scanned (at + 1) bytes → Scanned at (b ∷ bytes)
  behind_blank b bytes is s = record { tokens = s.tokens; end = s.end; rest = s.rest; spells = spells_blank is s.spells; stop = s.stop; all = omega (arith, s.all) }

  behind_comment : (bytes : List ℕ) (n : ℕ) → IsComment bytes n → Scanned (at + n) (drop n bytes) → Scanned at bytes
  behind_comment bytes n is s = record {
    tokens = s.tokens;
    end = s.end;
    rest = s.rest;
    spells = spells_comment n is s.spells;
    stop = s.stop;
    all = omega (arith, s.all, is.within, length-drop n bytes);
  }

  no_more : (bytes : List ℕ) → IsStop bytes → Scanned at bytes
  no_more bytes stop = record { tokens = []; end = at; rest = bytes; spells = spells_nothing; stop = stop; all = refl }

  at_front : (bytes : List ℕ) → ((n : ℕ) → 0 < n → n ≤ length bytes → Scanned (at + n) (drop n bytes)) → Front bytes → Scanned at bytes
  at_front bytes later (a_token n kind some within lexeme longest) =
      let s = later n some within in record {
        tokens = record { kind = kind; from = at; to = at + n } ∷ s.tokens;
        end = s.end;
        rest = s.rest;
        spells = spells_token n kind lexeme longest s.spells;
        stop = s.stop;
        all = omega (arith, s.all, within, length-drop n bytes);
      }
  at_front bytes later (no_token stop) = no_more bytes stop

  at_byte : (b : ℕ) (bytes : List ℕ) → ((n : ℕ) → 0 < n → n ≤ suc (length bytes) → Scanned (at + n) (drop n (b ∷ bytes)))
      → (blank : Bool) → is_blank b ≡ blank → Dec (b ≡ 35) → Scanned at (b ∷ bytes)
  at_byte b bytes later true is hash = behind_blank b bytes is (later 1 (omega arith) (omega arith))
  at_byte b bytes later false inked (yes is) =
      let x = comment_in b bytes is in
      behind_comment (b ∷ bytes) x.0 x.1 (later x.0 x.1.some x.1.within)
  at_byte b bytes later false inked (no other) = at_front (b ∷ bytes) later (front (b ∷ bytes) (omega arith) inked other)

scanned : (fuel at : ℕ) (bytes : List ℕ) → length bytes ≤ fuel → Scanned at bytes
scanned zero at [] fits = no_more at [] (at_the_end refl)
scanned zero at (b ∷ bytes) fits = absurd (omega arith)
scanned (suc fuel) at [] fits = no_more at [] (at_the_end refl)
scanned (suc fuel) at (b ∷ bytes) fits =
    at_byte at b bytes (λ n some within. scanned fuel (at + n) (drop n (b ∷ bytes)) (omega (arith, length-drop n (b ∷ bytes)))) (is_blank b) refl (ℕ_discrete b 35)

-- what is found where the tokens stop
found_at : (text : List ℕ) (s : Scanned 0 text) → IsStop s.rest → (a : Result (List Token) LexFault) × Finds text a
found_at text s (at_the_end is) =
    let ends : s.end ≡ length text = omega (arith, s.all, ap (λ x. length x) is) in
    (Ok s.tokens, subst (λ n. Spells 0 text s.tokens n []) ends (subst (λ x. Spells 0 text s.tokens s.end x) is s.spells))
found_at text s (at_bad_byte bad) = (Err (BadByte s.end), (s.tokens, s.rest, s.spells, bad))
found_at text s (at_bad_number bad) = (Err (BadNumber s.end), (s.tokens, s.rest, s.spells, bad))

pub lexing_is_total : (text : List ℕ) → (a : Result (List Token) LexFault) × Finds text a
lexing_is_total text = let s = scanned (length text) 0 text (omega arith) in found_at text s s.stop
