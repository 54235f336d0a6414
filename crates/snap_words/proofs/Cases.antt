-- What a word is, and what `clap` makes of it.
use Rattle.std.proofs.Common.{◌≡◌, ◌≢◌, ◌∙◌, refl, ap, Bool, true, false, [], ◌∷◌, ◌==◌, ℕ, Option, Some, None, option_map}
use Rattle.std.specs.Option.{option_or}
use Rattle.snap_words.specs.Words.{Flag, Text, Valued, Word, end_of_options, flag_named, flag_word, is_name, name_word, option_named, option_with, option_word, value_in, value_word, word_of}
use Rattle.std.specs.List.{before_first}
use Rattle.snap_words.proofs.ClapForm.{met_of}

pub data Cases (w : Text) : Type 0 where
  name_case : word_of w ≡ name_word → met_of w ≡ Some name_word → Cases w
  option_case : (m : Word) → m ≢ name_word → word_of w ≡ m → met_of w ≡ Some m → is_name w ≡ false → Cases w
  refused_case : word_of w ≡ name_word → met_of w ≡ None → is_name w ≡ false → Cases w

-- an option is no name
without_value : (f : Option Flag) (o : Option Valued) → option_or (option_map flag_word f) (option_map option_word o) ≢ Some name_word
without_value (Some f) o e = cc
without_value None (Some o) e = cc
without_value None None e = cc

with_a_value : (o : Option Valued) (value : Text) → option_map (λ o. value_word o value) o ≢ Some name_word
with_a_value (Some o) value e = cc
with_a_value None value e = cc

no_name : (name : Text) (value : Option Text) → option_with name value ≢ Some name_word
no_name name None = without_value (flag_named name) (option_named name)
no_name name (Some value) = with_a_value (option_named name) value

-- ---- two hyphens in front, or one
module _ (x y z : ℕ) (zs : Text) (first : (x == 45) ≡ true) (second : (y == 45) ≡ true) where
  abbrev said : Option Word
  said = option_with (before_first (λ b. b == 61) (z ∷ zs)) (value_in (z ∷ zs))

  by_said : (o : Option Word) → said ≡ o → Cases (x ∷ y ∷ z ∷ zs)
  by_said (Some m) is = option_case m (λ e. no_name (before_first (λ b. b == 61) (z ∷ zs)) (value_in (z ∷ zs)) (is ∙ ap Some e)) (rw (first, second, is) refl) (rw (first, second) is) (rw first refl)
  by_said None is = refused_case (rw (first, second, is) refl) (rw (first, second) is) (rw first refl)

two_hyphens : (x y : ℕ) (zs : Text) → (x == 45) ≡ true → (y == 45) ≡ true → Cases (x ∷ y ∷ zs)
two_hyphens x y [] first second = option_case end_of_options (λ e. cc) (rw (first, second) refl) (rw (first, second) refl) (rw first refl)
two_hyphens x y (z ∷ zs) first second = by_said x y z zs first second _ refl

by_second : (x y : ℕ) (ys : Text) (b : Bool) → (x == 45) ≡ true → (y == 45) ≡ b → Cases (x ∷ y ∷ ys)
by_second x y ys true first second = two_hyphens x y ys first second
by_second x y ys false first second = refused_case (rw (first, second) refl) (rw (first, second) refl) (rw first refl)

behind_first : (x : ℕ) (xs : Text) → (x == 45) ≡ true → Cases (x ∷ xs)
behind_first x [] first = name_case (rw first refl) (rw first refl)
behind_first x (y ∷ ys) first = by_second x y ys _ first refl

by_first : (x : ℕ) (xs : Text) (b : Bool) → (x == 45) ≡ b → Cases (x ∷ xs)
by_first x xs true first = behind_first x xs first
by_first x xs false first = name_case (rw first refl) (rw first refl)

pub cases : (w : Text) → Cases w
cases [] = name_case refl refl
cases (x ∷ xs) = by_first x xs _ refl
