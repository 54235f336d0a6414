-- The text of a placement is answered with this placement.
use Rattle.std.proofs.Common.{◌≡◌, ◌∙◌, ℕ, zero, suc, ◌+◌, ◌<◌, Bool, true, false, not, ◌==◌, List, [], ◌∷◌, ◌++◌, length, codes, decimal, map, get_or, nat_lt, is_none, IsTrue, Some, None, Ok, refl, sym, ap, ap₂, subst, inl, inr, arith, All, flat_map, bytes_eq, IsAscii}
use Rattle.std.specs.List.{AllByRecursion, IsDistinct, list_all, list_any, position_from}
use Rattle.std.specs.Map.{keys_of, values_of}
use Rattle.std.specs.Str.{is_utf8}
use Rattle.std.proofs.lemmas.Bool.{and_parts, cases_Bool}
use Rattle.std.proofs.lemmas.Bool.Decides.{nat_tests}
use Rattle.std.proofs.lemmas.Cmp.{nat_list_eq_equiv}
use Rattle.std.proofs.lemmas.List.{length-map}
use Rattle.std.proofs.lemmas.List.Elements.{All-contains_itself, All-weaker, recursion_from_All}
use Rattle.std.proofs.lemmas.List.Folds.{list_all-append, list_any_at}
use Rattle.std.proofs.lemmas.List.Sums.{position_or_len_is}
use Rattle.std.proofs.lemmas.Map.Keys.{apart_from_distinct}
use Rattle.std.proofs.lemmas.Map.Made.{keys_of-zip}
use Rattle.std.proofs.lemmas.Map.Views.{list_any-from_Contains}
use Rattle.std.proofs.lemmas.Option.{unwrap_or-slice_get}
use Rattle.std.proofs.lemmas.Slice.Eq.{bytes_eq-Decides}
use Rattle.std.proofs.lemmas.Slice.Zip.{seconds-zip}
use Rattle.std.proofs.lemmas.Str.{IsUtf8-from_ascii, is_utf8-from_IsUtf8}
use Rattle.snap_core.proofs.Elements.{All-back}
use Rattle.toml.specs.Tables.{close}
use Rattle.snap_core.specs.Names.{IsName, is_keyword, is_name, is_name_byte, is_switch_name, is_word}
use Rattle.snap_core.specs.Fields.{names_of}
use Rattle.snap_dep.specs.Dependencies.{Tied}
use Rattle.snap_topology.specs.Spells.{document, is_switch, number_of}
use Rattle.snap_placement.specs.Answer.{ShapeThen, is_at_switch, missing, no_switch, no_variable, owners, place_of}
use Rattle.snap_placement.specs.Laws.{PrintedIsRead}
use Rattle.snap_placement.specs.Printed.{cost_line, key_text, place_line, placement_text, places, switch_at}
use Rattle.snap_placement.specs.Shape.{entries_in, entries_of, has_names}
use Rattle.snap_placement.specs.Together.{IsTogether}
use Rattle.snap_placement.proofs.Filled.{each_found, nodes_of, run_pairs, sorted, sorted_keys, sorted_values}
use Rattle.snap_placement.proofs.Lines.{Entry, IsPlain, decimal_shown, document_of_lines, is_shown}
use Rattle.snap_placement.proofs.Names.{distinct_back}
use Rattle.snap_placement.proofs.Plain.{name_bytes}

-- ---- the bytes are ASCII

abbrev is_small : ℕ → Bool
is_small c = nat_lt c 128

weaker : (p q : ℕ → Bool) → ((c : ℕ) → p c ≡ true → q c ≡ true) → (s : List ℕ) → list_all p s ≡ true → list_all q s ≡ true
weaker p q to [] h = refl
weaker p q to (c ∷ cs) h = let parts = and_parts (p c) (list_all p cs) h in rw (to c parts.0, weaker p q to cs parts.1) refl

name_small : (c : ℕ) → is_name_byte c ≡ true → is_small c ≡ true
name_small c h = grind (arith, nat_tests)

shown_small : (c : ℕ) → is_shown c ≡ true → is_small c ≡ true
shown_small c h = grind (arith, nat_tests)

small_append : (s t : List ℕ) → list_all is_small s ≡ true → list_all is_small t ≡ true → list_all is_small (s ++ t) ≡ true
small_append s t h k = rw (list_all-append is_small s t, h, k) refl

small_key : (k : List ℕ) → list_all is_small k ≡ true → list_all is_small (key_text k) ≡ true
small_key k h = elim (cases_Bool (list_any (λ b. b == 46) k)) [ inl dot ↦ rw dot (small_append k (34 ∷ []) h refl) | inr none ↦ rw none h ]

small_name : (name : List ℕ) → is_switch_name name ≡ true → list_all is_small name ≡ true
small_name name h = weaker is_name_byte is_small name_small name (and_parts (nat_lt 0 (length name)) (list_all is_name_byte name) h).1

small_line : (e : Entry) → IsPlain e → list_all is_small (place_line e) ≡ true
small_line e h =
    small_append (key_text e.0) (32 ∷ 61 ∷ 32 ∷ 34 ∷ (e.1 ++ 34 ∷ 10 ∷ [])) (small_key e.0 (small_name e.0 h.0)) (small_append e.1 (34 ∷ 10 ∷ []) (small_name e.1 h.1) refl)

small_lines : (es : List Entry) → AllByRecursion IsPlain es → list_all is_small (flat_map place_line es) ≡ true
small_lines [] h = refl
small_lines (e ∷ es) h = small_append (place_line e) (flat_map place_line es) (small_line e h.0) (small_lines es h.1)

small_cost : (cost : ℕ) → list_all is_small (cost_line cost) ≡ true
small_cost cost = small_append (codes "# cost " ++ decimal cost) (10 ∷ []) (weaker is_shown is_small shown_small (decimal cost) (decimal_shown cost)) refl

small_below : (c : ℕ) → is_small c ≡ true → c < 128
small_below c h = grind (arith, nat_tests)

ascii_from : (s : List ℕ) → list_all is_small s ≡ true → IsAscii s
ascii_from [] h i = omega arith
ascii_from (c ∷ cs) h zero = small_below c (and_parts (is_small c) (list_all is_small cs) h).0
ascii_from (c ∷ cs) h (suc i) = ascii_from cs (and_parts (is_small c) (list_all is_small cs) h).1 i

is_text : (cost : ℕ) (es : List Entry) → AllByRecursion IsPlain es → is_utf8 (cost_line cost ++ flat_map place_line es) ≡ true
is_text cost es plain =
    let text = cost_line cost ++ flat_map place_line es in
    is_utf8-from_IsUtf8 text (IsUtf8-from_ascii text (ascii_from text (small_append (cost_line cost) (flat_map place_line es) (small_cost cost) (small_lines es plain))))

-- ---- the entries of the document

names_there : (es : List Entry) → AllByRecursion (λ k. is_name k ≡ true) (keys_of es) → has_names (close (nodes_of es)) ≡ true
names_there [] h = refl
names_there (e ∷ es) h = rw (h.0, names_there es h.1) refl

entries_there : (es : List Entry) → AllByRecursion (λ v. is_switch_name v ≡ true) (values_of es) → entries_in (close (nodes_of es)) ≡ Some es
entries_there [] h = refl
entries_there (e ∷ es) h = rw (h.0, entries_there es h.1) refl

plain_entries : (es : List Entry) → AllByRecursion (λ k. is_name k ≡ true) (keys_of es) → AllByRecursion (λ v. is_switch_name v ≡ true) (values_of es) → AllByRecursion IsPlain es
plain_entries [] names spots = tt
plain_entries (e ∷ es) names spots =
    let word = (and_parts (is_word e.0) (not (is_keyword e.0)) names.0).0 in
    ((name_bytes e.0 word, spots.0), plain_entries es names.1 spots.1)

-- the entries that the text spells, by their keys
pub entries_of_text : (cost : ℕ) (es : List Entry) → AllByRecursion (λ k. is_name k ≡ true) (keys_of es) → AllByRecursion (λ v. is_switch_name v ≡ true) (values_of es) → IsDistinct bytes_eq (keys_of es)
    → entries_of (document (cost_line cost ++ flat_map place_line es)) ≡ Ok (sorted es)
entries_of_text cost es names spots apart =
    let plain = plain_entries es names spots in
    let found = sorted es in
    let read = document_of_lines cost es (nodes_of found) plain (run_pairs es apart) in
    let all_names = names_there found (recursion_from_All (λ k. is_name k ≡ true) (keys_of found) (sorted_keys (λ k. is_name k ≡ true) es names)) in
    let all_spots = entries_there found (recursion_from_All (λ v. is_switch_name v ≡ true) (values_of found) (sorted_values (λ v. is_switch_name v ≡ true) es spots)) in
    rw (is_text cost es plain, read, all_names, all_spots) refl

-- ---- the answer

none_unknown : (arrays : List (List ℕ)) (es : List Entry) → AllByRecursion (λ k. list_any (bytes_eq k) arrays ≡ true) (keys_of es) → no_variable arrays es ≡ None
none_unknown arrays [] h = refl
none_unknown arrays (e ∷ es) h = rw h.0 (none_unknown arrays es h.1)

none_missing : (found es : List Entry) (i : ℕ) → AllByRecursion (λ (e : Entry). place_of found e.0 ≡ Some e.1) es → position_from (λ name. is_none (place_of found name)) i (keys_of es) ≡ None
none_missing found [] i h = refl
none_missing found (e ∷ es) i h = rw h.0 (none_missing found es (i + 1) h.1)

all_switches : (switches : List (List ℕ)) (found es : List Entry) (i : ℕ) → AllByRecursion (λ (e : Entry). place_of found e.0 ≡ Some e.1) es → AllByRecursion (λ v. is_switch switches v ≡ true) (values_of es)
    → position_from (λ name. not (is_at_switch switches (place_of found name))) i (keys_of es) ≡ None
all_switches switches found [] i h at = refl
all_switches switches found (e ∷ es) i h at = rw (h.0, at.0) (all_switches switches found es (i + 1) h.1 at.1)

their_owners : (switches : List (List ℕ)) (found es : List Entry) → AllByRecursion (λ (e : Entry). place_of found e.0 ≡ Some e.1) es → owners (keys_of es) switches found ≡ map (number_of switches) (values_of es)
their_owners switches found [] h = refl
their_owners switches found (e ∷ es) h = rw h.0 (ap (λ (l : List ℕ). number_of switches e.1 ∷ l) (their_owners switches found es h.1))

known_itself : (names : List (List ℕ)) → AllByRecursion (λ k. list_any (bytes_eq k) names ≡ true) names
known_itself names = recursion_from_All _ names (All-weaker _ _ (λ k there. list_any-from_Contains nat_list_eq_equiv k names there) names (All-contains_itself names))

-- ---- switches by number

is_at : (switches : List (List ℕ)) (n : ℕ) → switch_at switches n ≡ get_or switches n []
is_at switches n = unwrap_or-slice_get switches n []

same_bytes : (x y : List ℕ) → x ≡ y → bytes_eq x y ≡ true
same_bytes x y = (bytes_eq-Decides x y).1

-- the number of the switch with a number is that number
number_at : (switches : List (List ℕ)) (n : ℕ) → IsDistinct bytes_eq switches → n < length switches → number_of switches (switch_at switches n) ≡ n
number_at switches n apart below =
    position_or_len_is (bytes_eq (switch_at switches n)) switches n [] (omega arith)
    (λ k less. subst (λ (x : List ℕ). bytes_eq x (get_or switches k []) ≡ false) (sym (is_at switches n)) (nat_list_eq_equiv.symm (get_or switches n []) (get_or switches k []) ∙ apart_from_distinct bytes_eq switches k n [] apart less below))
    (λ there. same_bytes (switch_at switches n) (get_or switches n []) (is_at switches n))

switch_there : (switches : List (List ℕ)) (n : ℕ) → n < length switches → is_switch switches (switch_at switches n) ≡ true
switch_there switches n below = list_any_at (bytes_eq (switch_at switches n)) switches n [] below (same_bytes (switch_at switches n) (get_or switches n []) (is_at switches n))

numbers_at : (switches : List (List ℕ)) (owned : List ℕ) → IsDistinct bytes_eq switches → AllByRecursion (λ n. n < length switches) owned → map (number_of switches) (map (switch_at switches) owned) ≡ owned
numbers_at switches [] apart below = refl
numbers_at switches (n ∷ ns) apart below = ap₂ (λ (m : ℕ) (ms : List ℕ). m ∷ ms) (number_at switches n apart below.0) (numbers_at switches ns apart below.1)

switches_there : (switches : List (List ℕ)) (owned : List ℕ) → AllByRecursion (λ n. n < length switches) owned → AllByRecursion (λ v. is_switch switches v ≡ true) (map (switch_at switches) owned)
switches_there switches [] below = tt
switches_there switches (n ∷ ns) below = (switch_there switches n below.0, switches_there switches ns below.1)

names_at : (switches : List (List ℕ)) (owned : List ℕ) → All (λ name. is_switch_name name ≡ true) switches → AllByRecursion (λ n. n < length switches) owned
    → AllByRecursion (λ v. is_switch_name v ≡ true) (map (switch_at switches) owned)
names_at switches [] named below = tt
names_at switches (n ∷ ns) named below = (subst (λ (x : List ℕ). is_switch_name x ≡ true) (sym (is_at switches n)) (named n [] below.0), names_at switches ns named below.1)

-- ---- the law

-- what the text of these places is answered with
answered : (tied : ℕ → ℕ → Type 0) (arrays switches : List (List ℕ)) (owned : List ℕ) (cost : ℕ) → All IsName arrays → IsDistinct bytes_eq arrays → All (λ name. IsTrue (is_switch_name name)) switches → IsDistinct bytes_eq switches
    → length owned ≡ length arrays → All (λ n. n < length switches) owned → IsTogether tied owned → ShapeThen tied arrays switches (entries_of (document (placement_text arrays switches owned cost))) (Ok owned)
answered tied arrays switches owned cost named apart spots different count below together =
    let es = places arrays switches owned in
    let long : length (map (switch_at switches) owned) ≡ length arrays = length-map owned (switch_at switches) ∙ count in
    let keys : keys_of es ≡ arrays = keys_of-zip arrays (map (switch_at switches) owned) long in
    let values : values_of es ≡ map (switch_at switches) owned = seconds-zip arrays (map (switch_at switches) owned) long in
    let low = recursion_from_All (λ n. n < length switches) owned below in
    let names : AllByRecursion (λ k. is_name k ≡ true) (keys_of es) = subst (AllByRecursion (λ k. is_name k ≡ true)) (sym keys) (recursion_from_All (λ k. is_name k ≡ true) arrays named) in
    let known : AllByRecursion (λ k. list_any (bytes_eq k) arrays ≡ true) (keys_of es) = subst (AllByRecursion (λ k. list_any (bytes_eq k) arrays ≡ true)) (sym keys) (known_itself arrays) in
    let switch_names : AllByRecursion (λ v. is_switch_name v ≡ true) (values_of es) = subst (AllByRecursion (λ v. is_switch_name v ≡ true)) (sym values) (names_at switches owned spots low) in
    let there : AllByRecursion (λ v. is_switch switches v ≡ true) (values_of es) = subst (AllByRecursion (λ v. is_switch switches v ≡ true)) (sym values) (switches_there switches owned low) in
    let differ : IsDistinct bytes_eq (keys_of es) = subst (IsDistinct bytes_eq) (sym keys) apart in
    let founds = each_found es differ in
    let all_known = recursion_from_All _ (keys_of (sorted es)) (sorted_keys (λ k. list_any (bytes_eq k) arrays ≡ true) es known) in
    let missing_none : missing arrays (sorted es) ≡ None = subst (λ (vs : List (List ℕ)). missing vs (sorted es) ≡ None) keys (none_missing (sorted es) es 0 founds) in
    let switch_none : no_switch arrays switches (sorted es) ≡ None = subst (λ (vs : List (List ℕ)). no_switch vs switches (sorted es) ≡ None) keys (all_switches switches (sorted es) es 0 founds there) in
    let theirs : owned ≡ owners arrays switches (sorted es) =
    sym (subst (λ (vs : List (List ℕ)). owners vs switches (sorted es) ≡ map (number_of switches) (values_of es)) keys (their_owners switches (sorted es) es founds) ∙ (ap (map (number_of switches)) values ∙ numbers_at switches owned different low)) in
    rw (entries_of_text cost es names switch_names differ, none_unknown arrays (sorted es) all_known, missing_none, switch_none) (theirs, subst (IsTogether tied) theirs together)

pub printed_is_read : PrintedIsRead
printed_is_read p t owned cost form well gives =
    answered (Tied p.body) p.arrays t.switches owned cost (All-back IsName (names_of p.fields) p.arrays form.names) (distinct_back (names_of p.fields) p.arrays form.different) well.names well.different gives.count gives.below gives.together
