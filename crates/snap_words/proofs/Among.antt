-- The names and values that words say are words, or ends of words.
use Rattle.std.proofs.Common.{◌≡◌, ◌∙◌, refl, sym, ap, Bool, true, false, cond, List, [], ◌∷◌, ◌++◌, ◌==◌, ◌+◌, ℕ, Option, Some, None, is_some, option_and_then, option_map, unwrap_or, subst, take}
use Rattle.std.specs.List.{after_first, before_first, list_any, position_or_len}
use Rattle.std.specs.Option.{option_or}
use Rattle.std.proofs.Math.Bool.{or-true}
use Rattle.std.proofs.lemmas.Bool.Decides.{Decides-eqb}
use Rattle.std.proofs.lemmas.List.{take-append-drop}
use Rattle.std.proofs.lemmas.List.Folds.{list_all-append}
use Rattle.std.proofs.lemmas.Slice.Eq.{ends_is}
use Rattle.std.proofs.lemmas.Option.{same_Some}
use Rattle.snap_words.specs.Said.{are_among, is_among, is_among_or_none, said_among}
use Rattle.snap_words.specs.Words.{Flag, Text, ArgumentsView, Valued, Word, add, behind_dashes, behind_hyphen, changes_option, checked, end_of_options, flag_named, flag_word, flagged, has_names, is_same_option, name_word, nothing, option_named, option_with, option_word, schedule_option, arguments_of, told_by, value_in, value_word, valued, with_names, word_of, workers_option}

-- ---- a value is the end of its word
-- the word ends so
abbrev Ending : Text → Text → Type 0
Ending w end = (front : Text) × (w ≡ front ++ end)

cut_value : (text v : Text) (b : Bool) → cond b (Some (after_first (λ x. x == 61) text)) None ≡ Some v → Ending text v
cut_value text v true e =
    let count : ℕ = position_or_len (λ x. x == 61) text + 1 in
    (take count text, sym (take-append-drop count text) ∙ ap (λ end. take count text ++ end) (same_Some _ _ e))
cut_value text v false e = cc

not_valued : (f : Option Flag) (p : Option Valued) (o : Valued) (v : Text) → unwrap_or (option_or (option_map flag_word f) (option_map option_word p)) name_word ≡ value_word o v → ⊥
not_valued (Some f) p o v e = cc
not_valued None (Some p) o v e = cc
not_valued None None o v e = cc

of_value : (p : Option Valued) (u : Text) (o : Valued) (v : Text) → unwrap_or (option_map (λ o. value_word o u) p) name_word ≡ value_word o v → u ≡ v
of_value (Some p) u o v e = cc
of_value None u o v e = absurd (cc)

by_value : (text : Text) (value : Option Text) (o : Valued) (v : Text) → value_in text ≡ value → unwrap_or (option_with (before_first (λ x. x == 61) text) value) name_word ≡ value_word o v → Ending text v
by_value text None o v is e = absurd (not_valued (flag_named (before_first (λ x. x == 61) text)) (option_named (before_first (λ x. x == 61) text)) o v e)
by_value text (Some u) o v is e =
    let same = of_value (option_named (before_first (λ x. x == 61) text)) u o v e in
    cut_value text v (list_any (λ x. x == 61) text) (is ∙ ap Some same)

dashed : (text : Text) (o : Valued) (v : Text) → behind_dashes text ≡ value_word o v → Ending text v
dashed [] o v e = absurd (cc)
dashed (z ∷ zs) o v e = by_value (z ∷ zs) (value_in (z ∷ zs)) o v refl e

by_second : (x y : ℕ) (ys : Text) (b : Bool) (o : Valued) (v : Text) → unwrap_or (option_map behind_dashes (cond b (Some ys) None)) name_word ≡ value_word o v → Ending (x ∷ y ∷ ys) v
by_second x y ys true o v e = let rest = dashed ys o v e in (x ∷ y ∷ rest.0, ap (λ l. x ∷ y ∷ l) rest.1)
by_second x y ys false o v e = absurd (cc)

by_first : (x : ℕ) (xs : Text) (b : Bool) (o : Valued) (v : Text) → unwrap_or (option_map behind_dashes (option_and_then behind_hyphen (cond b (Some xs) None))) name_word ≡ value_word o v → Ending (x ∷ xs) v
by_first x xs false o v e = absurd (cc)
by_first x [] true o v e = absurd (cc)
by_first x (y ∷ ys) true o v e = by_second x y ys (y == 45) o v e

value_ends : (w : Text) (o : Valued) (v : Text) → word_of w ≡ value_word o v → Ending w v
value_ends [] o v e = absurd (cc)
value_ends (x ∷ xs) o v e = by_first x xs (x == 45) o v e

-- ---- what was told
module _ (all : List Text) where
  -- each end of the word is that of one of all words
  abbrev Ends : Text → Type 0
  Ends w = (front end : Text) → w ≡ front ++ end → is_among all end ≡ true

  abbrev AllEnd : List Text → Type 0
  AllEnd [] = Unit {0}
  AllEnd (w ∷ ws) = Ends w × AllEnd ws

  among_all : (ws : List Text) → AllEnd ws → are_among all ws ≡ true
  among_all [] ends = refl
  among_all (w ∷ ws) ends = rw (ends.0 [] w refl) (among_all ws ends.1)

  abbrev Fits : ArgumentsView → Type 0
  Fits t = (are_among all t.names ≡ true) × ((o : Valued) → is_among_or_none all (t.values o) ≡ true)

  fits_more : (t : ArgumentsView) (ws : List Text) → Fits t → are_among all ws ≡ true → Fits (with_names t ws)
  fits_more t ws fits among = (list_all-append (is_among all) t.names ws ∙ rw (fits.0, among) refl, fits.1)

  one_of_two : (b : Bool) (v : Text) (o : Option Text) → is_among all v ≡ true → is_among_or_none all o ≡ true → is_among_or_none all (cond b (Some v) o) ≡ true
  one_of_two true v o one other = one
  one_of_two false v o one other = other

  fits_value : (t : ArgumentsView) (o : Valued) (v : Text) → Fits t → is_among all v ≡ true → Fits (valued t o v)
  fits_value t o v fits one = (fits.0, λ p. one_of_two (is_same_option o p) v (t.values p) one (fits.1 p))

  -- what the words behind lead to
  abbrev Leads : List Text → Type 0
  Leads ws = (waits : Option Valued) (t u : ArgumentsView) → arguments_of ws waits t ≡ Some u → Fits t → Fits u

  behind_flag : (ws : List Text) (t u : ArgumentsView) (f : Flag) (b : Bool) → Leads ws → option_and_then (arguments_of ws None) (cond b None (Some (flagged t f))) ≡ Some u → Fits t → Fits u
  behind_flag ws t u f true leads e fits = cc
  behind_flag ws t u f false leads e fits = leads None (flagged t f) u e fits

  behind_value : (ws : List Text) (t u : ArgumentsView) (o : Valued) (v : Text) (b : Bool) → Leads ws → is_among all v ≡ true → option_and_then (arguments_of ws None) (cond b None (Some (valued t o v))) ≡ Some u → Fits t → Fits u
  behind_value ws t u o v true leads one e fits = cc
  behind_value ws t u o v false leads one e fits = leads None (valued t o v) u e (fits_value t o v fits one)

  behind_word : (m : Word) (w : Text) (ws : List Text) (t u : ArgumentsView) → word_of w ≡ m → Leads ws → Ends w → AllEnd ws → add m t w ws (arguments_of ws) ≡ Some u → Fits t → Fits u
  behind_word end_of_options w ws t u is leads one ends e fits = subst Fits (same_Some _ _ e) (fits_more t ws fits (among_all ws ends))
  behind_word (flag_word f) w ws t u is leads one ends e fits = behind_flag ws t u f (t.flags f) leads e fits
  behind_word (option_word o) w ws t u is leads one ends e fits = leads (Some o) t u e fits
  behind_word (value_word o v) w ws t u is leads one ends e fits = let end = value_ends w o v is in behind_value ws t u o v (is_some (t.values o)) leads (one end.0 v end.1) e fits
  behind_word name_word w ws t u is leads one ends e fits = leads None (with_names t (w ∷ [])) u e (fits_more t (w ∷ []) fits (rw (one [] w refl) refl))

  tell_among : (ws : List Text) → AllEnd ws → Leads ws
  tell_among [] ends None t u e fits = subst Fits (same_Some _ _ e) fits
  tell_among [] ends (Some o) t u e fits = cc
  tell_among (w ∷ ws) ends None t u e fits = behind_word (word_of w) w ws t u refl (tell_among ws ends.1) ends.0 ends.1 e fits
  tell_among (w ∷ ws) ends (Some o) t u e fits = behind_value ws t u o w (is_some (t.values o)) (tell_among ws ends.1) (ends.0 [] w refl) e fits

  checked_same : (u t : ArgumentsView) (b : Bool) → cond b (Some u) None ≡ Some t → u ≡ t
  checked_same u t true e = same_Some _ _ e
  checked_same u t false e = cc

  told_among : (ws : List Text) (o : Option ArgumentsView) (t : ArgumentsView) → AllEnd ws → arguments_of ws None nothing ≡ o → option_and_then checked o ≡ Some t → Fits t
  told_among ws None t ends is e = cc
  told_among ws (Some u) t ends is e = subst Fits (checked_same u t (has_names u) e) (tell_among ws ends None nothing u is (refl, λ o. refl))

all_end-cons : (x : Text) (words ws : List Text) → AllEnd words ws → AllEnd (x ∷ words) ws
all_end-cons x words [] ends = tt
all_end-cons x words (w ∷ ws) ends = (λ front end e. rw (ends.0 front end e, or-true) refl, all_end-cons x words ws ends.1)

all_end-same : (ws : List Text) → AllEnd ws ws
all_end-same [] = tt
all_end-same (w ∷ ws) = (λ front end e. rw ((ends_is Decides-eqb w end _ refl).1 front e) refl, all_end-cons w ws ws (all_end-same ws))

-- what the words behind a first word say is among all of them
pub told_by-among : (first : Text) (ws : List Text) (t : ArgumentsView) → told_by ws ≡ Some t → said_among (first ∷ ws) t ≡ true
told_by-among first ws t e =
    let fits = told_among (first ∷ ws) ws (arguments_of ws None nothing) t (all_end-cons first ws ws (all_end-same ws)) refl e in
    rw (fits.0, fits.1 schedule_option, fits.1 changes_option, fits.1 workers_option) refl
