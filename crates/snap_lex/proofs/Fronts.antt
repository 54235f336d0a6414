-- Of bytes one can tell what token begins with them.
use Rattle.std.proofs.Common.{◌≡◌, ◌≢◌, ℕ, zero, suc, ◌+◌, ◌-◌, ◌<◌, ◌≤◌, ◌⊎◌, List, [], ◌∷◌, length, Bool, true, false, refl, sym, subst, take, drop, inl, inr, arith, get_or, slice_index}
use Rattle.snap_lex.specs.Lexemes.{Kind, Key, Sign, IsWord, IsFigure, IsSign, HasForm, as_word, as_figure, as_sign, IsLexeme, a_name, a_key, a_number, an_address, a_sign, IsLongest, AreDigits, key_text, sign_text, is_group, HasDots, last_group, is_blank, is_digit, is_letter, is_part, is_joint, is_figure_part}
use Rattle.snap_lex.proofs.Addresses.{no_group, other_group, this_group, dots_none, dots_behind, dots_before, dots_never}
use Rattle.std.proofs.Math.Decide.{map_dec, dec_le, dec_lt, ℕ_discrete}
use Rattle.snap_lex.proofs.Decided.{both, either, is_true, same_text, all_below, Greatest, greatest, none, find, tried}
use Rattle.snap_lex.proofs.Forms.{OfEach, all_signs, all_keys, each_sign, each_key, sign_some, sign_within}
use Rattle.snap_lex.proofs.Unique.{IsStop, at_bad_byte, at_bad_number}

-- where the first dot stands, or there is none
abbrev Dot : List ℕ → Type 0
Dot text = ((dot : ℕ) × (dot < length text) × (get_or text dot 0 ≡ 46) × ((j : ℕ) → j < dot → get_or text j 0 ≢ 46)) ⊎ ((j : ℕ) → j < length text → get_or text j 0 ≢ 46)

dot_behind : (b : ℕ) (text : List ℕ) → Dec (b ≡ 46) → Dot text → Dot (b ∷ text)
dot_behind b text (yes is) more = inl (0, omega arith, is, λ j h. absurd (omega arith))
dot_behind b text (no other) (inl d) = inl (suc d.0, omega (arith, d.1), d.2, first)
  where
    first : (j : ℕ) → j < suc d.0 → get_or (b ∷ text) j 0 ≢ 46
    first zero h e = other e
    first (suc j) h e = d.3 j (omega arith) e
dot_behind b text (no other) (inr never) = inr first
  where
    first : (j : ℕ) → j < suc (length text) → get_or (b ∷ text) j 0 ≢ 46
    first zero h e = other e
    first (suc j) h e = never j (omega arith) e

dot_in : (text : List ℕ) → Dot text
dot_in [] = inr (λ j h. absurd (omega arith))
dot_in (b ∷ text) = dot_behind b text (ℕ_discrete b 46) (dot_in text)

module _ (n : ℕ) (text : List ℕ) where
  by_group : (dot : ℕ) → dot < length text → get_or text dot 0 ≡ 46 → ((j : ℕ) → j < dot → get_or text j 0 ≢ 46) → Dec (HasDots n (drop (dot + 1) text))
      → (b : Bool) → is_group (take dot text) ≡ b → Dec (HasDots (suc n) text)
  by_group dot below is first rest true e =
      let x = this_group text dot below is e in
      let less : suc n - 1 ≡ n = omega arith in
      map_dec
      (λ h. dots_before text (suc n) x.0 (drop (dot + 1) text) (omega arith) x.1 x.2 (subst (λ m. HasDots m (drop (dot + 1) text)) (sym less) h))
      (λ h. subst (λ m. HasDots m (drop (dot + 1) text)) less (dots_behind text (suc n) x.0 (drop (dot + 1) text) (omega arith) x.1 x.2 h))
      rest
  by_group dot below is first rest false e = no (λ h. dots_never text (suc n) (omega arith) (other_group text dot below is first e) h)

  by_dot : ((rest : List ℕ) → Dec (HasDots n rest)) → Dot text → Dec (HasDots (suc n) text)
  by_dot later (inl d) = by_group d.0 d.1 d.2 d.3 (later (drop (d.0 + 1) text)) (is_group (take d.0 text)) refl
  by_dot later (inr never) = no (λ h. dots_never text (suc n) (omega arith) (no_group text never) h)

has_dots : (n : ℕ) (text : List ℕ) → Dec (HasDots n text)
has_dots zero text = map_dec (λ is. last_group text is) (λ h. dots_none text h) (is_true (is_group text))
has_dots (suc n) text = by_dot n text (has_dots n) (dot_in text)

module _ (bytes : List ℕ) where
  is_word : (n : ℕ) → Dec (IsWord bytes n)
  is_word n =
      map_dec (λ h. record { some = h.0; within = h.1.0; first = h.1.1.0; parts = h.1.1.1 }) (λ w. (w.some, (w.within, (w.first, w.parts))))
      (both (dec_lt 0 n) (both (dec_le n (length bytes)) (both (is_true (is_letter (slice_index bytes 0)))
      (all_below (λ i. (is_part (slice_index bytes i) ≡ true) ⊎ ((is_joint (slice_index bytes i) ≡ true) × (i + 1 < n) × (is_part (slice_index bytes (i + 1)) ≡ true)))
      (λ i. either (is_true (is_part (slice_index bytes i)))
      (map_dec (λ h. (h.0, h.1.0, h.1.1)) (λ h. (h.0, (h.1, h.2)))
      (both (is_true (is_joint (slice_index bytes i))) (both (dec_lt (i + 1) n) (is_true (is_part (slice_index bytes (i + 1))))))))
      n))))

  is_figure : (n : ℕ) → Dec (IsFigure bytes n)
  is_figure n =
      map_dec (λ h. record { some = h.0; within = h.1.0; first = h.1.1.0; parts = h.1.1.1 }) (λ f. (f.some, (f.within, (f.first, f.parts))))
      (both (dec_lt 0 n) (both (dec_le n (length bytes)) (both (is_true (is_digit (slice_index bytes 0)))
      (all_below (λ i. is_figure_part (slice_index bytes i) ≡ true) (λ i. is_true (is_figure_part (slice_index bytes i))) n))))

  is_sign : (n : ℕ) (sign : Sign) → Dec (IsSign sign bytes n)
  is_sign n sign =
      map_dec (λ h. record { text = h.0; size = h.1 }) (λ s. (s.text, s.size)) (both (same_text (take n bytes) (sign_text sign)) (ℕ_discrete n (length (sign_text sign))))

  refused : (n : ℕ) → (IsWord bytes n → ⊥) → (IsFigure bytes n → ⊥) → OfEach (λ s. IsSign s bytes n → ⊥) all_signs → HasForm bytes n → ⊥
  refused n words figures others (as_word w) = words w
  refused n words figures others (as_figure f) = figures f
  refused n words figures others (as_sign sign h) = each_sign (λ s. IsSign s bytes n → ⊥) others sign h

  has_form : (n : ℕ) → Dec (HasForm bytes n)
  has_form n = told (is_word n) (is_figure n) (tried (λ s. IsSign s bytes n) (is_sign n) all_signs)
    where
      told : Dec (IsWord bytes n) → Dec (IsFigure bytes n) → ((s : Sign) × IsSign s bytes n) ⊎ OfEach (λ s. IsSign s bytes n → ⊥) all_signs → Dec (HasForm bytes n)
      told (yes w) f s = yes (as_word w)
      told (no words) (yes f) s = yes (as_figure f)
      told (no words) (no figures) (inl s) = yes (as_sign s.0 s.1)
      told (no words) (no figures) (inr others) = no (refused n words figures others)

  within : (n : ℕ) → HasForm bytes n → n ≤ length bytes
  within n (as_word w) = w.within
  within n (as_figure f) = f.within
  within n (as_sign sign h) = sign_within sign bytes n h

  -- the longest token, or there is none
  pub data Front : Type 0 where
    a_token : (n : ℕ) (kind : Kind) → 0 < n → n ≤ length bytes → IsLexeme bytes n kind → IsLongest bytes n → Front
    no_token : IsStop bytes → Front

  of_word : (n : ℕ) → IsWord bytes n → IsLongest bytes n → ((key : Key) × (take n bytes ≡ key_text key)) ⊎ OfEach (λ key. take n bytes ≡ key_text key → ⊥) all_keys → Front
  of_word n w most (inl x) = a_token n (Kind.Key x.0) w.some w.within (a_key x.0 w x.1) most
  of_word n w most (inr others) = a_token n Kind.Word w.some w.within (a_name w (each_key (λ key. take n bytes ≡ key_text key → ⊥) others)) most

  of_figure : (n : ℕ) → IsFigure bytes n → IsLongest bytes n → Dec (AreDigits bytes n) → Dec (HasDots 3 (take n bytes)) → Front
  of_figure n f most (yes digits) dots = a_token n Kind.Number f.some f.within (a_number f digits) most
  of_figure n f most (no others) (yes dots) = a_token n Kind.Address f.some f.within (an_address f dots) most
  of_figure n f most (no others) (no never) = no_token (at_bad_number (record { size = n; figure = f; longest = most; no_number = others; no_address = never }))

  of_form : (n : ℕ) → HasForm bytes n → IsLongest bytes n → Front
  of_form n (as_word w) most = of_word n w most (tried (λ key. take n bytes ≡ key_text key) (λ key. same_text (take n bytes) (key_text key)) all_keys)
  of_form n (as_figure f) most = of_figure n f most (all_below (λ i. is_digit (slice_index bytes i) ≡ true) (λ i. is_true (is_digit (slice_index bytes i))) n) (has_dots 3 (take n bytes))
  of_form n (as_sign sign h) most = a_token n (Kind.Sign sign) (sign_some sign bytes n h) (sign_within sign bytes n h) (a_sign sign h) most

  pub front : 0 < length bytes → is_blank (slice_index bytes 0) ≡ false → slice_index bytes 0 ≢ 35 → Front
  front some no_blank no_comment = told (find (λ n. HasForm bytes n) has_form (length bytes))
    where
      told : Greatest (λ n. HasForm bytes n) (length bytes) → Front
      told (greatest n form most) = of_form n form (λ m h. most m (within m h) h)
      told (none never) = no_token (at_bad_byte (record { some = some; no_blank = no_blank; no_comment = no_comment; no_form = λ n h. never n (within n h) h }))
