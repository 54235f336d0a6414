-- Words as texts: each has a first character.
use Rattle.std.proofs.Common.{arith, ◌≡◌, ◌∙◌, refl, sym, ap, subst, Bool, true, false, cond, List, [], ◌∷◌, ◌==◌, ℕ, Some, None, option_and_then, slice_get, IsUtf8, chars}
use lib.Utf8.{encodes}
use Rattle.std.proofs.lemmas.Str.{IsCharBoundary-after_ascii, IsUtf8-drop, encodes-chars}
use Rattle.std.proofs.lemmas.Bool.{eqb-true}
use Rattle.std.proofs.lemmas.Option.{same_Some}
use Rattle.clap.specs.Lexer.{short_of, short_of_rest}
use Rattle.snap_words.specs.Words.{Text}

abbrev pub AllText : List Text → Type 0
AllText [] = Unit {0}
AllText (w ∷ ws) = IsUtf8 w × AllText ws

short_one : (b : Bool) (f : Text) → option_and_then short_of_rest (cond b (Some []) None) ≡ Some f → ⊥
short_one true f e = cc
short_one false f e = cc

after_hyphen : (x y : ℕ) (rest : Text) → (x == 45) ≡ true → IsUtf8 (x ∷ y ∷ rest) → IsUtf8 (y ∷ rest)
after_hyphen x y rest is text =
    let hyphen : x ≡ 45 = eqb-true x 45 is in
    IsUtf8-drop (x ∷ y ∷ rest) 1 text (IsCharBoundary-after_ascii (x ∷ y ∷ rest) 0 text (omega arith) (omega arith))

short_more : (x z : ℕ) (zs f : Text) (b c : Bool) → (x == 45) ≡ b → (z == 45) ≡ c → IsUtf8 (x ∷ z ∷ zs) → option_and_then short_of_rest (cond b (Some (z ∷ zs)) None) ≡ Some f → IsUtf8 f × ((f ≡ []) → ⊥)
short_more x z zs f false c one two text e = absurd (cc)
short_more x z zs f true true one two text e = absurd (let g : None ≡ Some f = sym (rw two refl) ∙ e in cc)
short_more x z zs f true false one two text e =
    let g : Some (z ∷ zs) ≡ Some f = sym (rw two refl) ∙ e in
    (let P : Text → Type 0 = λ t. IsUtf8 t in subst P (same_Some _ _ g) (after_hyphen x z zs one text), λ none. let h : z ∷ zs ≡ [] = same_Some _ _ g ∙ none in cc)

pub short_text : (w f : Text) → IsUtf8 w → short_of w ≡ Some f → IsUtf8 f × ((f ≡ []) → ⊥)
short_text [] f text e = absurd (cc)
short_text (x ∷ []) f text e = absurd (short_one (x == 45) f e)
short_text (x ∷ z ∷ zs) f text e = short_more x z zs f (x == 45) (z == 45) refl refl text e

pub first_char : (y : ℕ) (rest cs : Text) → cs ≡ chars (y ∷ rest) → IsUtf8 (y ∷ rest) → (c : ℕ) × (slice_get (chars (y ∷ rest)) 0 ≡ Some c)
first_char y rest [] is text = absurd (let e : [] ≡ y ∷ rest = ap encodes is ∙ encodes-chars (y ∷ rest) text in cc)
first_char y rest (c ∷ cs) is text = (c, ap (λ t. slice_get t 0) (sym is))
