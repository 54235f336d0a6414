-- The pairs of a document with different keys, put in one after another.
use Rattle.std.proofs.Common.{◌≡◌, ◌∙◌, ℕ, Bool, true, false, cond, List, [], ◌∷◌, map, fold, Option, Some, None, option_map, refl, sym, ap, inl, inr, ◌⊎◌, All, is_eq, nat_cmp, bytes_eq, Ordering, Less, Equal, Greater}
use Rattle.std.specs.List.{AllByRecursion, IsDistinct}
use Rattle.std.specs.Map.{keys_of, lookup, values_of}
use Rattle.std.specs.BTreeMap.{insert_entry}
use Rattle.std.specs.Cmp.Lexicographic.{slice_cmp}
use Rattle.std.proofs.lemmas.Bool.{cases_Bool, false≢true}
use Rattle.std.proofs.lemmas.Cmp.{nat_list_eq_equiv}
use Rattle.std.proofs.lemmas.List.Elements.{All-nil}
use Rattle.std.proofs.lemmas.Map.Text.{is_eq-slice_cmp}
use Rattle.std.proofs.lemmas.Map.Views.{All-keys-insert_entry, All-values-insert_entry}
use Rattle.std.proofs.lemmas.Slice.Eq.{bytes_eq-Decides}
use Rattle.toml.specs.Data.{string}
use Rattle.toml.specs.Tables.{Nodes, no_nodes, node, value, get_node, insert, along_dots, along_header, at_key, define}
use Rattle.toml.proofs.ReadLines.{run}
use Rattle.snap_placement.proofs.Lines.{Entry, pair_of}

-- the nodes of entries
abbrev pub nodes_of : List Entry → Nodes
nodes_of [] = no_nodes
nodes_of (e ∷ es) = node e.0 (value (string e.1)) (nodes_of es)

-- one more entry, at its place in the byte order of keys
abbrev pub put_entry : List Entry → Entry → List Entry
put_entry es e = insert_entry (slice_cmp nat_cmp) es e.0 e.1

-- entries, each put at its place
abbrev pub sorted : List Entry → List Entry
sorted es = fold put_entry [] es

cases_ordering : (o : Ordering) → (o ≡ Less) ⊎ ((o ≡ Equal) ⊎ (o ≡ Greater))
cases_ordering Less = inl refl
cases_ordering Equal = inr (inl refl)
cases_ordering Greater = inr (inr refl)

-- ---- what is found at a key

eq_by_order : (k l : List ℕ) (o : Ordering) → slice_cmp nat_cmp k l ≡ o → bytes_eq k l ≡ is_eq o
eq_by_order k l o h = sym (is_eq-slice_cmp k l) ∙ ap is_eq h

lookup_put : (q k p : List ℕ) (es : List Entry) → lookup (bytes_eq q) (put_entry es (k, p)) ≡ cond (bytes_eq q k) (Some p) (lookup (bytes_eq q) es)
lookup_put q k p [] = refl
lookup_put q k p (e ∷ es) =
    elim (cases_ordering (slice_cmp nat_cmp k e.0)) [
      | inl less ↦ rw less refl
      | inr other ↦ elim other [
        | inl tie ↦
            let same : k ≡ e.0 = (bytes_eq-Decides k e.0).0 (eq_by_order k e.0 Equal tie) in
            rw tie (rw same (twice (bytes_eq q e.0) p e.1 (lookup (bytes_eq q) es)))
        | inr more ↦
            rw (more, lookup_put q k p es) (swapped (bytes_eq q e.0) (bytes_eq q k) p e.1 (lookup (bytes_eq q) es) (λ a b.
            false≢true (sym (eq_by_order k e.0 Greater more) ∙ (bytes_eq-Decides k e.0).1 (sym ((bytes_eq-Decides q k).0 b) ∙ (bytes_eq-Decides q e.0).0 a))))
      ]
    ]
  where
    twice : (b : Bool) (x y : List ℕ) (o : Option (List ℕ)) → cond b (Some x) o ≡ cond b (Some x) (cond b (Some y) o)
    twice true x y o = refl
    twice false x y o = refl

    swapped : (a b : Bool) (x y : List ℕ) (o : Option (List ℕ)) → (a ≡ true → b ≡ true → ⊥) → cond a (Some y) (cond b (Some x) o) ≡ cond b (Some x) (cond a (Some y) o)
    swapped true true x y o h = absurd (h refl refl)
    swapped false true x y o h = refl
    swapped true false x y o h = refl
    swapped false false x y o h = refl

get_node-lookup : (k : List ℕ) (es : List Entry) → get_node k (nodes_of es) ≡ option_map (λ p. value (string p)) (lookup (bytes_eq k) es)
get_node-lookup k [] = refl
get_node-lookup k (e ∷ es) =
    elim (cases_Bool (bytes_eq k e.0)) [
      | inl same ↦ rw (is_eq-slice_cmp k e.0, same) refl
      | inr other ↦ rw (is_eq-slice_cmp k e.0, other) (get_node-lookup k es)
    ]

insert-put : (k p : List ℕ) (es : List Entry) → insert k (value (string p)) (nodes_of es) ≡ nodes_of (put_entry es (k, p))
insert-put k p [] = refl
insert-put k p (e ∷ es) =
    elim (cases_ordering (slice_cmp nat_cmp k e.0)) [
      | inl less ↦ rw less refl
      | inr other ↦ elim other [
        | inl tie ↦ rw tie refl
        | inr more ↦ rw more (ap (node e.0 (value (string e.1))) (insert-put k p es))
      ]
    ]

-- ---- one pair after another

define_pair : (e : Entry) (es : List Entry) → lookup (bytes_eq e.0) es ≡ None → define (nodes_of es, []) (pair_of e) ≡ Some (nodes_of (put_entry es e), [])
unfolding define along_header along_dots at_key
define_pair e es none =
    let absent : get_node e.0 (nodes_of es) ≡ None = get_node-lookup e.0 es ∙ ap (option_map (λ p. value (string p))) none in
    rw (absent, insert-put e.0 e.1 es) refl

-- none of these keys has an entry
abbrev AreNew : List Entry → List (List ℕ) → Type 0
AreNew found ks = AllByRecursion (λ k. lookup (bytes_eq k) found ≡ None) ks

still_new : (found : List Entry) (e : Entry) (ks : List (List ℕ)) → AreNew found ks → AllByRecursion (λ k. bytes_eq e.0 k ≡ false) ks → AreNew (put_entry found e) ks
still_new found e [] new apart = tt
still_new found e (k ∷ ks) new apart =
    let other = nat_list_eq_equiv.symm k e.0 ∙ apart.0 in
    (lookup_put k e.0 e.1 found ∙ rw other new.0, still_new found e ks new.1 apart.1)

run_from : (found es : List Entry) → IsDistinct bytes_eq (keys_of es) → AreNew found (keys_of es) → run (nodes_of found, []) (map pair_of es) ≡ Some (nodes_of (fold put_entry found es), [])
unfolding IsDistinct
run_from found [] apart new = refl
run_from found (e ∷ es) apart new =
    rw (define_pair e found new.0) (run_from (put_entry found e) es apart.1 (still_new found e (keys_of es) new.1 apart.0))

all_new : (ks : List (List ℕ)) → AreNew [] ks
all_new [] = tt
all_new (k ∷ ks) = (refl, all_new ks)

-- the pairs of a document with different keys
pub run_pairs : (es : List Entry) → IsDistinct bytes_eq (keys_of es) → run (no_nodes, []) (map pair_of es) ≡ Some (nodes_of (sorted es), [])
run_pairs es apart = run_from [] es apart (all_new (keys_of es))

-- ---- each entry is found

kept : (q p : List ℕ) (found es : List Entry) → lookup (bytes_eq q) found ≡ Some p → AllByRecursion (λ k. bytes_eq q k ≡ false) (keys_of es) → lookup (bytes_eq q) (fold put_entry found es) ≡ Some p
kept q p found [] is apart = is
kept q p found (e ∷ es) is apart = kept q p (put_entry found e) es (lookup_put q e.0 e.1 found ∙ rw apart.0 is) apart.1

found_from : (found es : List Entry) → IsDistinct bytes_eq (keys_of es) → AllByRecursion (λ (e : Entry). lookup (bytes_eq e.0) (fold put_entry found es) ≡ Some e.1) es
unfolding IsDistinct
found_from found [] apart = tt
found_from found (e ∷ es) apart =
    let same : bytes_eq e.0 e.0 ≡ true = (bytes_eq-Decides e.0 e.0).1 refl in
    (kept e.0 e.1 (put_entry found e) es (lookup_put e.0 e.0 e.1 found ∙ rw same refl) apart.0, found_from (put_entry found e) es apart.1)

pub each_found : (es : List Entry) → IsDistinct bytes_eq (keys_of es) → AllByRecursion (λ (e : Entry). lookup (bytes_eq e.0) (sorted es) ≡ Some e.1) es
each_found es apart = found_from [] es apart

-- ---- nothing else is

keys_from : (P : List ℕ → Type 0) (found es : List Entry) → All P (keys_of found) → AllByRecursion P (keys_of es) → All P (keys_of (fold put_entry found es))
keys_from P found [] all more = all
keys_from P found (e ∷ es) all more = keys_from P (put_entry found e) es (All-keys-insert_entry (slice_cmp nat_cmp) e.0 e.1 P found all more.0) more.1

pub sorted_keys : (P : List ℕ → Type 0) (es : List Entry) → AllByRecursion P (keys_of es) → All P (keys_of (sorted es))
sorted_keys P es all = keys_from P [] es (All-nil P) all

values_from : (P : List ℕ → Type 0) (found es : List Entry) → All P (values_of found) → AllByRecursion P (values_of es) → All P (values_of (fold put_entry found es))
values_from P found [] all more = all
values_from P found (e ∷ es) all more = values_from P (put_entry found e) es (All-values-insert_entry (slice_cmp nat_cmp) e.0 e.1 P found all more.0) more.1

pub sorted_values : (P : List ℕ → Type 0) (es : List Entry) → AllByRecursion P (values_of es) → All P (values_of (sorted es))
sorted_values P es all = values_from P [] es (All-nil P) all
