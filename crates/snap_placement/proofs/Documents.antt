-- Turns of loops over a demand's document.
use Rattle.std.proofs.Common.{◌≡◌, ◌≢◌, ◌∙◌, ℕ, ◌+◌, ◌<◌, get_or, drop, Bool, true, false, cond, List, [], ◌∷◌, ◌++◌, append-nil, append_assoc, length, map, find, string_bytes, option_map, Option, Some, None, refl, sym, ap, subst, inl, inr, String, Global}
use Rattle.std.specs.List.{All}
use Rattle.std.specs.List.Sorted.{IsStrictlySortedBy}
use Rattle.std.specs.Map.{keys_of}
use Rattle.std.specs.Ordering.{nat_cmp}
use Rattle.std.specs.Cmp.Lexicographic.{slice_cmp}
use Rattle.std.specs.declared.cmp.Ordering.TheVariants.{Less, Equal, Greater}
use Rattle.std.proofs.lemmas.Bool.{cases_Bool, false≢true}
use Rattle.std.proofs.lemmas.Cmp.{nat_list_cmp_total, tied_itself}
use Rattle.std.proofs.lemmas.List.{drop_more, map-append}
use Rattle.std.proofs.lemmas.List.Elements.{All-cons, All-from_recursion, All-nil, All-weaker}
use Rattle.std.proofs.lemmas.Option.{same_Some}
use Rattle.toml.specs.declared.value.Value.{Value}
use Rattle.toml.specs.Data.{Data, Items, array, as_array}
use Rattle.toml.specs.View.{items_view, members_view, view}
use Rattle.snap_core.specs.Names.{is_name}
use Rattle.snap_topology.specs.Shape.{with_first}
use Rattle.snap_topology.proofs.TableLemmas.{names-rise}
use Rattle.snap_placement.specs.declared.demand.Flow.{Flow}
use Rattle.snap_placement.specs.declared.demand_listing.AllowedAt.{AllowedAt}
use Rattle.snap_placement.specs.DemandListing.{entry_text, entry_texts}
use Rattle.snap_placement.specs.DemandShape.{entries_listed, entry_of, flow_in, flows_listed, places_in}

-- one more element, before those that are left
step : {A : Type 0} (before : List A) (o : Option A) (x : A) (rest : Option (List A)) → Some x ≡ o → option_map (λ r. (before ++ x ∷ []) ++ r) rest ≡ option_map (λ r. before ++ r) (with_first o rest)
step before (Some y) x None is = refl
step before (Some y) x (Some xs) is =
    let same : x ≡ y = cc in ap (λ l. Some l) (append_assoc before (x ∷ []) xs ∙ ap (λ q. before ++ ((q ∷ []) ++ xs)) same)
step before None x rest is = cc

-- ---- flows

-- an array of other than three values
short_flow : (vs : List Value) → (length vs ≡ 3 → ⊥) → None ≡ flow_in (array (items_view vs))
short_flow [] not = refl
short_flow (a ∷ []) not = refl
short_flow (a ∷ (b ∷ [])) not = refl
short_flow (a ∷ (b ∷ (e ∷ []))) not = absurd (not refl)
short_flow (a ∷ (b ∷ (e ∷ (f ∷ vs)))) not = refl

pub no_flow : (d : Data) (vs : List Value) → Some (items_view vs) ≡ as_array d → (length vs ≡ 3 → ⊥) → None ≡ flow_in d
no_flow (array i) vs is not = short_flow vs not ∙ ap (λ (x : Items). flow_in (array x)) (same_Some _ _ is)
no_flow _ vs is not = cc

-- one more flow, before those that are left
pub flows-turn : (items : List Value) (i : ℕ) (item : Value) (flow : Flow) (old new : List Flow) (whole : Option (List Flow)) → i < length items → item ≡ get_or items i item → Some flow ≡ flow_in (view item) → new ≡ old ++ flow ∷ []
    → whole ≡ option_map (λ rest. old ++ rest) (flows_listed (items_view (drop i items))) → whole ≡ option_map (λ rest. new ++ rest) (flows_listed (items_view (drop (i + 1) items)))
flows-turn items i item flow old new whole lt is one put all =
    let left : drop i items ≡ item ∷ drop (i + 1) items = drop_more items i item lt ∙ ap (λ (v : Value). v ∷ drop (i + 1) items) (sym is) in
    let rest = flows_listed (items_view (drop (i + 1) items)) in
    all ∙ ap (λ (vs : List Value). option_map (λ r. old ++ r) (flows_listed (items_view vs))) left
    ∙ sym (step old (flow_in (view item)) flow rest one) ∙ ap (λ (fs : List Flow). option_map (λ r. fs ++ r) rest) (sym put)

-- ---- entries

abbrev Text : Type 0
Text = List ℕ × List (List ℕ)

-- one more entry, before those that are left
pub entries-turn : (old new : List AllowedAt) (left rest : List (String Global × Value)) (key : String Global) (value : Value) (entry : AllowedAt) → left ≡ (key, value) ∷ rest
    → Some (entry_text entry) ≡ entry_of (string_bytes key) (places_in (view value)) → new ≡ old ++ entry ∷ []
    → option_map (λ r. entry_texts new ++ r) (entries_listed (members_view rest)) ≡ option_map (λ r. entry_texts old ++ r) (entries_listed (members_view left))
entries-turn old new left rest key value entry more is put =
    let before = entry_texts old in
    let texts : entry_texts new ≡ before ++ entry_text entry ∷ [] = ap entry_texts put ∙ map-append entry_text old (entry ∷ []) in
    ap (λ (ts : List Text). option_map (λ r. ts ++ r) (entries_listed (members_view rest))) texts
    ∙ step before (entry_of (string_bytes key) (places_in (view value))) (entry_text entry) (entries_listed (members_view rest)) is
    ∙ ap (λ (es : List (String Global × Value)). option_map (λ r. before ++ r) (entries_listed (members_view es))) (sym more)

pub at-end : (so_far : List Text) (left : List (String Global × Value)) (o : Option (List Text)) → left ≡ [] → option_map (λ r. so_far ++ r) (entries_listed (members_view left)) ≡ o → o ≡ Some so_far
at-end so_far left o none kept =
    sym (subst (λ (l : List (String Global × Value)). option_map (λ r. so_far ++ r) (entries_listed (members_view l)) ≡ o) none kept) ∙ ap (λ (x : List Text). Some x) (append-nil so_far)

-- the key of an entry
key-test : (b : Bool) (key : List ℕ) (names : List (List ℕ)) (e : Text) → cond b (Some (key, names)) None ≡ Some e → e.0 ≡ key
key-test true key names e is = sym (ap (λ (t : Text). t.0) (same_Some _ _ is))
key-test false key names e is = cc

entry-key : (key : List ℕ) (o : Option (List (List ℕ))) (e : Text) → entry_of key o ≡ Some e → e.0 ≡ key
entry-key key (Some names) e is = key-test (is_name key) key names e is
entry-key key None e is = cc

keys-step : (key : List ℕ) (o : Option Text) (os : Option (List Text)) (xs : List Text) (ks : List (List ℕ)) → with_first o os ≡ Some xs → ((e : Text) → o ≡ Some e → e.0 ≡ key) → ((ys : List Text) → os ≡ Some ys → keys_of ys ≡ ks) → keys_of xs ≡ key ∷ ks
keys-step key (Some e) (Some ys) xs ks is first rest = ap keys_of (sym (same_Some _ _ is)) ∙ ap (λ (k : List ℕ). k ∷ keys_of ys) (first e refl) ∙ ap (λ (l : List (List ℕ)). key ∷ l) (rest ys refl)
keys-step key (Some e) None xs ks is first rest = cc
keys-step key None os xs ks is first rest = cc

entries-keys : (es : List (String Global × Value)) (xs : List Text) → entries_listed (members_view es) ≡ Some xs → keys_of xs ≡ map (λ (k : String Global). string_bytes k) (keys_of es)
entries-keys [] xs is = ap keys_of (sym (same_Some _ _ is))
entries-keys (e ∷ es) xs is =
    keys-step (string_bytes e.0) (entry_of (string_bytes e.0) (places_in (view e.1))) (entries_listed (members_view es)) xs (map (λ (k : String Global). string_bytes k) (keys_of es)) is
    (λ x found. entry-key (string_bytes e.0) (places_in (view e.1)) x found) (λ ys found. entries-keys es ys found)

-- the entries of a table rise in byte order
pub in-order : (es : List (String Global × Value)) (xs : List Text) → IsStrictlySortedBy (λ (a b : String Global). slice_cmp nat_cmp (string_bytes a) (string_bytes b)) (keys_of es) → entries_listed (members_view es) ≡ Some xs
    → IsStrictlySortedBy (slice_cmp nat_cmp) (keys_of xs)
in-order es xs sorted is = subst (λ (ks : List (List ℕ)). IsStrictlySortedBy (slice_cmp nat_cmp) ks) (sym (entries-keys es xs is)) (names-rise (keys_of es) sorted)

-- ---- the least of the names that pass a test

-- y isn't before k, where it passes
abbrev IsNotBefore : (List ℕ → Bool) → List ℕ → List ℕ → Type 0
IsNotBefore p k y = p y ≡ true → slice_cmp nat_cmp k y ≢ Greater

pub least : (p : List ℕ → Bool) (ks : List (List ℕ)) (k : List ℕ) → IsStrictlySortedBy (slice_cmp nat_cmp) ks → find p ks ≡ Some k → All (λ (y : List ℕ). p y ≡ true → slice_cmp nat_cmp k y ≢ Greater) ks
unfolding IsStrictlySortedBy
least p [] k order found = All-nil (IsNotBefore p k)
least p (x ∷ xs) k order found =
    elim (cases_Bool (p x)) [
      | inl yes' ↦ subst (λ (z : List ℕ). All (IsNotBefore p z) (x ∷ xs)) (same_Some _ _ (rw yes' at found)) (All-cons (IsNotBefore p x) x xs (λ _ e. let other : Equal ≡ Greater = sym (tied_itself nat_list_cmp_total x) ∙ e in cc)
          (All-weaker (λ y. slice_cmp nat_cmp x y ≡ Less) (IsNotBefore p x) (λ y h _ e. let other : Less ≡ Greater = sym h ∙ e in cc) xs (All-from_recursion (λ y. slice_cmp nat_cmp x y ≡ Less) xs order.0)))
      | inr no' ↦ All-cons (IsNotBefore p k) x xs (λ yes'. absurd (false≢true (sym no' ∙ yes'))) (least p xs k order.1 (rw no' at found))
    ]
