-- With our own test of names and values, what `clap` takes is what the words behind a command say.
use Rattle.std.proofs.Common.{◌≡◌, ◌≢◌, ◌∙◌, refl, sym, ap, Bool, true, false, cond, List, [], ◌∷◌, ◌&&◌, Option, Some, None, is_some, option_and_then}
use Rattle.std.specs.List.{list_all}
use Rattle.std.proofs.Math.Bool.{and-false}
use Rattle.std.proofs.lemmas.List.Folds.{list_all-append}
use Rattle.snap_words.specs.Words.{Flag, Text, ArgumentsView, Valued, Word, add, changes_option, checked, end_of_options, flag_word, flagged, has_names, has_values, is_name, is_name_or_none, name_word, option_word, schedule_option, arguments_of, value_word, valued, with_flag, with_names, with_value, word_of, workers_option}
use Rattle.snap_words.proofs.Cases.{Cases, cases, name_case, option_case, refused_case}
use Rattle.snap_words.proofs.ClapForm.{after, met_of, read}

-- ---- a bad name or value stays
pub checked_bad : (t : ArgumentsView) → has_names t ≡ false → checked t ≡ None
checked_bad t bad = rw bad refl

and_bad : (a b c : Bool) → (a && c) ≡ false → ((a && b) && c) ≡ false
and_bad true true c h = h
and_bad true false c h = refl
and_bad false b c h = refl

bad_more : (t : ArgumentsView) (ws : List Text) → has_names t ≡ false → has_names (with_names t ws) ≡ false
bad_more t ws bad = rw (list_all-append is_name t.names ws) (and_bad (list_all is_name t.names) (list_all is_name ws) (has_values t) bad)

-- one more value doesn't mend the others
worse-1 : (n b c x : Bool) → (n && ((true && b) && c)) ≡ false → (n && ((x && b) && c)) ≡ false
worse-1 n b c true h = h
worse-1 n b c false h = and-false n

worse-2 : (n a c x : Bool) → (n && ((a && true) && c)) ≡ false → (n && ((a && x) && c)) ≡ false
worse-2 n a c true h = h
worse-2 n a c false h = rw and-false (and-false n)

worse-3 : (n a b x : Bool) → (n && ((a && b) && true)) ≡ false → (n && ((a && b) && x)) ≡ false
worse-3 n a b true h = h
worse-3 n a b false h = rw and-false (and-false n)

-- names, and the values of options, are names
abbrev Fine : Bool → (lines tables count : Option Text) → Bool
Fine names lines tables count = names && ((is_name_or_none lines && is_name_or_none tables) && is_name_or_none count)

bad_values : (t : ArgumentsView) (o : Valued) (v : Text) → t.values o ≡ None → has_names t ≡ false → has_names (valued t o v) ≡ false
bad_values t schedule_option v none bad =
    worse-1 (list_all is_name t.names) (is_name_or_none (t.values changes_option)) (is_name_or_none (t.values workers_option)) (is_name v)
    (ap (λ x. Fine (list_all is_name t.names) x (t.values changes_option) (t.values workers_option)) (sym none) ∙ bad)
bad_values t changes_option v none bad =
    worse-2 (list_all is_name t.names) (is_name_or_none (t.values schedule_option)) (is_name_or_none (t.values workers_option)) (is_name v)
    (ap (λ x. Fine (list_all is_name t.names) (t.values schedule_option) x (t.values workers_option)) (sym none) ∙ bad)
bad_values t workers_option v none bad =
    worse-3 (list_all is_name t.names) (is_name_or_none (t.values schedule_option)) (is_name_or_none (t.values changes_option)) (is_name v)
    (ap (λ x. Fine (list_all is_name t.names) (t.values schedule_option) (t.values changes_option) x) (sym none) ∙ bad)

-- a bad value
spoilt-1 : (n b c x : Bool) → x ≡ false → (n && ((x && b) && c)) ≡ false
spoilt-1 n b c x bad = rw bad (and-false n)

spoilt-2 : (n a c x : Bool) → x ≡ false → (n && ((a && x) && c)) ≡ false
spoilt-2 n a c x bad = rw (bad, and-false) (and-false n)

spoilt-3 : (n a b x : Bool) → x ≡ false → (n && ((a && b) && x)) ≡ false
spoilt-3 n a b x bad = rw (bad, and-false) (and-false n)

bad_at : (t : ArgumentsView) (o : Valued) (v : Text) → is_name v ≡ false → has_names (valued t o v) ≡ false
bad_at t schedule_option v bad = spoilt-1 (list_all is_name t.names) (is_name_or_none (t.values changes_option)) (is_name_or_none (t.values workers_option)) (is_name v) bad
bad_at t changes_option v bad = spoilt-2 (list_all is_name t.names) (is_name_or_none (t.values schedule_option)) (is_name_or_none (t.values workers_option)) (is_name v) bad
bad_at t workers_option v bad = spoilt-3 (list_all is_name t.names) (is_name_or_none (t.values schedule_option)) (is_name_or_none (t.values changes_option)) (is_name v) bad

-- what goes on so from what is bad comes to nothing
abbrev Spoils : (ArgumentsView → Option ArgumentsView) → Type 0
Spoils k = (u : ArgumentsView) → has_names u ≡ false → option_and_then checked (k u) ≡ None

spoils_value : (t : ArgumentsView) (o : Valued) (v : Text) (was : Option Text) → t.values o ≡ was → has_names t ≡ false → (k : ArgumentsView → Option ArgumentsView) → Spoils k
    → option_and_then checked (option_and_then k (cond (is_some was) None (Some (valued t o v)))) ≡ None
spoils_value t o v (Some f) is bad k stays = refl
spoils_value t o v None is bad k stays = stays (valued t o v) (bad_values t o v is bad)

spoils_flag : (t : ArgumentsView) (f : Flag) (b : Bool) → has_names t ≡ false → (k : ArgumentsView → Option ArgumentsView) → Spoils k → option_and_then checked (option_and_then k (cond b None (Some (flagged t f)))) ≡ None
spoils_flag t f true bad k stays = refl
spoils_flag t f false bad k stays = stays (flagged t f) bad

bad_word : (m : Word) (t : ArgumentsView) (w : Text) (ws : List Text) → has_names t ≡ false → ((waits : Option Valued) → Spoils (arguments_of ws waits)) → option_and_then checked (add m t w ws (arguments_of ws)) ≡ None
bad_word end_of_options t w ws bad stays = checked_bad (with_names t ws) (bad_more t ws bad)
bad_word (flag_word f) t w ws bad stays = spoils_flag t f (t.flags f) bad (arguments_of ws None) (stays None)
bad_word (option_word o) t w ws bad stays = stays (Some o) t bad
bad_word (value_word o v) t w ws bad stays = spoils_value t o v _ refl bad (arguments_of ws None) (stays None)
bad_word name_word t w ws bad stays = stays None (with_names t (w ∷ [])) (bad_more t (w ∷ []) bad)

bad_stays : (ws : List Text) (waits : Option Valued) → Spoils (arguments_of ws waits)
bad_stays [] None t bad = checked_bad t bad
bad_stays [] (Some o) t bad = refl
bad_stays (w ∷ ws) None t bad = bad_word (word_of w) t w ws bad (bad_stays ws)
bad_stays (w ∷ ws) (Some o) t bad = spoils_value t o w _ refl bad (arguments_of ws None) (bad_stays ws None)

-- ---- word by word
-- the words behind are read alike
abbrev Alike : List Text → Type 0
Alike ws = (waits : Option Valued) (t : ArgumentsView) → option_and_then checked (arguments_of ws waits t) ≡ option_and_then checked (read ws waits t)

add_bad : (t : ArgumentsView) (w : Text) (ws : List Text) → is_name w ≡ false → option_and_then checked (arguments_of ws None (with_names t (w ∷ []))) ≡ None
add_bad t w ws bad = bad_stays ws None (with_names t (w ∷ [])) (rw (list_all-append is_name t.names (w ∷ []), bad) (rw and-false refl))

value_bad : (t : ArgumentsView) (o : Valued) (w : Text) (ws : List Text) (was : Option Text) → is_name w ≡ false → option_and_then checked (option_and_then (arguments_of ws None) (cond (is_some was) None (Some (valued t o w)))) ≡ None
value_bad t o w ws (Some f) bad = refl
value_bad t o w ws None bad = bad_stays ws None (valued t o w) (bad_at t o w bad)

maybe : (o : Option ArgumentsView) (ws : List Text) → Alike ws → option_and_then checked (option_and_then (arguments_of ws None) o) ≡ option_and_then checked (option_and_then (read ws None) o)
maybe None ws alike = refl
maybe (Some t) ws alike = alike None t

added_alike : (m : Word) (t : ArgumentsView) (w : Text) (ws : List Text) → Alike ws → option_and_then checked (add m t w ws (arguments_of ws)) ≡ option_and_then checked (add m t w ws (read ws))
added_alike end_of_options t w ws alike = refl
added_alike (flag_word f) t w ws alike = maybe (with_flag t f) ws alike
added_alike (option_word o) t w ws alike = alike (Some o) t
added_alike (value_word o v) t w ws alike = maybe (with_value t o v) ws alike
added_alike name_word t w ws alike = alike None (with_names t (w ∷ []))

word_alike : (w : Text) (ws : List Text) (t : ArgumentsView) → Alike ws → Cases w → option_and_then checked (add (word_of w) t w ws (arguments_of ws)) ≡ option_and_then checked (after None (met_of w) t w ws (read ws))
word_alike w ws t alike (name_case is met) = rw (is, met) (alike None (with_names t (w ∷ [])))
word_alike w ws t alike (option_case m some is met bad) = rw (is, met) (added_alike m t w ws alike)
word_alike w ws t alike (refused_case is met bad) = rw (is, met) (add_bad t w ws bad)

not_taken : (o : Valued) (m : Word) (t : ArgumentsView) (w : Text) (ws : List Text) (k : Option Valued → ArgumentsView → Option ArgumentsView) → m ≢ name_word → after (Some o) (Some m) t w ws k ≡ None
not_taken o name_word t w ws k some = absurd (some refl)
not_taken o _ t w ws k some = refl

wait_alike : (o : Valued) (w : Text) (ws : List Text) (t : ArgumentsView) → Alike ws → Cases w
    → option_and_then checked (option_and_then (arguments_of ws None) (with_value t o w)) ≡ option_and_then checked (after (Some o) (met_of w) t w ws (read ws))
wait_alike o w ws t alike (name_case is met) = rw met (maybe (with_value t o w) ws alike)
wait_alike o w ws t alike (option_case m some is met bad) = rw met (value_bad t o w ws (t.values o) bad ∙ sym (ap (option_and_then checked) (not_taken o m t w ws (read ws) some)))
wait_alike o w ws t alike (refused_case is met bad) = rw met (value_bad t o w ws (t.values o) bad)

pub arguments_of-read : (ws : List Text) (waits : Option Valued) (t : ArgumentsView) → option_and_then checked (arguments_of ws waits t) ≡ option_and_then checked (read ws waits t)
arguments_of-read (w ∷ ws) None t = word_alike w ws t (arguments_of-read ws) (cases w)
arguments_of-read (w ∷ ws) (Some o) t = wait_alike o w ws t (arguments_of-read ws) (cases w)
arguments_of-read [] None t = refl
arguments_of-read [] (Some o) t = refl
