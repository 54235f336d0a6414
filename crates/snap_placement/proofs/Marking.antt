-- Names looked up and marked, and the switches at which groups may stand.
use Rattle.std.proofs.Common.{◌≡◌, ◌≢◌, ◌∙◌, ◌↔◌, inl, inr, ℕ, ◌+◌, ◌<◌, Bool, true, false, not, cond, ◌||◌, ◌==◌, List, [], ◌∷◌, ◌++◌, append_assoc, length, find, take, drop, set, get_or, position, string_bytes, is_some, option_map, Option, Some, None, IfSome, refl, sym, ap, subst, arith, String, Global, Vec, slice_index_or}
use Rattle.std.specs.List.{AllByRecursion, Contains, IsDistinct, list_any, position_or_len}
use Rattle.std.specs.List.Sorted.{IsStrictlySortedBy}
use Rattle.std.specs.Cmp.{nat_cmp_is}
use Rattle.std.specs.Ordering.{nat_cmp}
use Rattle.std.specs.Option.{option_or}
use Rattle.std.specs.Str.{bytes_eq}
use Rattle.std.specs.declared.cmp.Ordering.TheVariants.{Less}
use Rattle.std.proofs.lemmas.Bool.{cases_eq, eq-eqb, ne_eqb, or_from}
use Rattle.std.proofs.lemmas.Cmp.{nat_list_eq_equiv}
use Rattle.std.proofs.lemmas.List.{drop_more, get_or-map, get_or-set_other, get_or-set_same, get_or_append_left, get_or_push, length-map, length_push, map-append}
use Rattle.std.proofs.lemmas.List.Elements.{All-contains, All-contains_itself, All-from_recursion, All-push, All-weaker, Contains-append_left, Contains-append_right, Contains-push, Contains-push_cases, recursion_from_All}
use Rattle.std.proofs.lemmas.List.Folds.{find-append, list_any_more}
use Rattle.std.proofs.Math.Bool.{or-false, or-true}
use Rattle.snap_topology.specs.Answer.{AreKnown, is_unknown}
use Rattle.snap_topology.specs.Listing.{string_texts}
use Rattle.snap_topology.specs.Spells.{is_switch, number_of}
use Rattle.snap_placement.specs.declared.demand.DemandFault.{DemandFault}
use Rattle.snap_placement.specs.declared.demand.DemandFault.TheVariants.{NoSwitch}
use Rattle.snap_placement.specs.DemandAnswer.{IsNumber, Lists, named, names_for, no_switch}
use Rattle.snap_placement.specs.DemandListing.{key_texts}
use Rattle.snap_topology.proofs.Joined.{Contains-nil}
use Rattle.snap_topology.proofs.NumberLemmas.{Some-cond}

-- ---- switches by name

abbrev is_text : List ℕ → Vec ℕ Global → Bool
is_text name k = bytes_eq name k.items

is_switch-keys : (name : List ℕ) (keys : List (Vec ℕ Global)) → is_switch (key_texts keys) name ≡ list_any (is_text name) keys
is_switch-keys name [] = refl
is_switch-keys name (k ∷ keys) = ap (λ (b : Bool). bytes_eq name k.items || b) (is_switch-keys name keys)

number_of-keys : (name : List ℕ) (keys : List (Vec ℕ Global)) → number_of (key_texts keys) name ≡ position_or_len (is_text name) keys
number_of-keys name [] = refl
number_of-keys name (k ∷ keys) = ap (λ (n : ℕ). cond (not (bytes_eq name k.items)) (1 + n) 0) (number_of-keys name keys)

-- what a look-up in a set of names says
pub number-of : (name : List ℕ) (keys : List (Vec ℕ Global)) (r : Option ℕ) → r ≡ position (is_text name) keys → is_some r ≡ list_any (is_text name) keys → IfSome r (λ i. i < length keys)
    → IsNumber (key_texts keys) name r
number-of name keys (Some i) is found within =
    let size = length-map keys (λ (k : Vec ℕ Global). k.items) in
    ((omega arith), is_switch-keys name keys ∙ sym found, Some-cond _ _ i is ∙ sym (number_of-keys name keys))
number-of name keys None is found within = is_switch-keys name keys ∙ sym found

-- ---- a set of names that differ

new-name : (seen : List (List ℕ)) (name : List ℕ) (rest : List (List ℕ)) → IsDistinct bytes_eq (seen ++ name ∷ rest) → list_any (bytes_eq name) seen ≡ false
unfolding IsDistinct
new-name [] name rest apart = refl
new-name (x ∷ seen) name rest apart =
    let differs = λ (y : List ℕ). bytes_eq x y ≡ false in
    let different = All-contains differs (seen ++ name ∷ rest) name (All-from_recursion differs (seen ++ name ∷ rest) apart.0) (Contains-append_right seen (name ∷ rest) name (0, omega arith, refl)) in
    or_from (bytes_eq name x) (list_any (bytes_eq name) seen) (nat_list_eq_equiv.symm name x ∙ different) (new-name seen name rest apart.1)

put-key : (b : Bool) (keys new : List (Vec ℕ Global)) (owned : Vec ℕ Global) → b ≡ false → new ≡ cond b keys (keys ++ owned ∷ []) → key_texts new ≡ key_texts keys ++ owned.items ∷ []
put-key b keys new owned absent is =
    ap key_texts (is ∙ ap (λ (x : Bool). cond x keys (keys ++ owned ∷ [])) absent) ∙ map-append (λ (k : Vec ℕ Global). k.items) keys (owned ∷ [])

-- one more name
pub names-more : (names : List (List ℕ)) (keys new : List (Vec ℕ Global)) (i : ℕ) (x : List ℕ) (owned : Vec ℕ Global) → IsDistinct bytes_eq names → key_texts keys ++ drop i names ≡ names → i < length names → x ≡ get_or names i x → owned.items ≡ x
    → new ≡ cond (list_any (λ (k : Vec ℕ Global). bytes_eq owned.items k.items) keys) keys (keys ++ owned ∷ []) → key_texts new ++ drop (i + 1) names ≡ names
names-more names keys new i x owned apart all lt is own put =
    let left : drop i names ≡ x ∷ drop (i + 1) names = drop_more names i x lt ∙ ap (λ (y : List ℕ). y ∷ drop (i + 1) names) (sym is) in
    let split : key_texts keys ++ x ∷ drop (i + 1) names ≡ names = ap (λ (l : List (List ℕ)). key_texts keys ++ l) (sym left) ∙ all in
    let fresh = new-name (key_texts keys) x (drop (i + 1) names) (subst (λ (l : List (List ℕ)). IsDistinct bytes_eq l) (sym split) apart) in
    let absent : list_any (λ (k : Vec ℕ Global). bytes_eq owned.items k.items) keys ≡ false = ap (λ (t : List ℕ). list_any (is_text t) keys) own ∙ sym (is_switch-keys x keys) ∙ fresh in
    let added = put-key _ keys new owned absent put ∙ ap (λ (t : List ℕ). key_texts keys ++ t ∷ []) own in
    ap (λ (l : List (List ℕ)). l ++ drop (i + 1) names) added ∙ append_assoc (key_texts keys) (x ∷ []) (drop (i + 1) names) ∙ split

-- ---- marks

pub string_texts-at : (names : List (String Global)) (i : ℕ) (x : String Global) → i < length names → x ≡ get_or names i x → get_or (string_texts names) i [] ≡ string_bytes x
string_texts-at names i x lt is = get_or-map (λ (s : String Global). string_bytes s) names i x [] lt ∙ ap (λ (s : String Global). string_bytes s) (sym is)

-- one more name marked
pub marks-more : (switches names : List (List ℕ)) (marks : List Bool) (i n count : ℕ) (text : List ℕ) → i < length names → get_or names i [] ≡ text → n < length marks → n ≡ number_of switches text
    → ((at : ℕ) → at < count → get_or marks at false ≡ list_any (λ name. number_of switches name == at) (take i names))
    → (at : ℕ) → at < count → get_or (set marks n true) at false ≡ list_any (λ name. number_of switches name == at) (take (i + 1) names)
marks-more switches names marks i n count text lt is inside number before at less =
    let p = λ (name : List ℕ). number_of switches name == at in
    let more = list_any_more p names i [] lt in
    let here : p (get_or names i []) ≡ (n == at) = ap p is ∙ ap (λ (k : ℕ). k == at) (sym number) in
    elim (cases_eq at n) [
      | inl same ↦ ap (λ (k : ℕ). get_or (set marks n true) k false) same ∙ get_or-set_same marks n true false inside
          ∙ sym (more ∙ ap (λ (b : Bool). list_any p (take i names) || b) (here ∙ eq-eqb n at (sym same)) ∙ or-true (list_any p (take i names)))
      | inr other ↦ get_or-set_other marks n at true false other ∙ before at less
          ∙ sym (more ∙ ap (λ (b : Bool). list_any p (take i names) || b) (here ∙ ne_eqb n at (λ e. other (sym e))) ∙ or-false (list_any p (take i names)))
    ]

known-step : (b : Bool) (x : List ℕ) (o : Option (List ℕ)) → b ≡ true → cond (not b) (Some x) o ≡ o
known-step true x o is = refl
known-step false x o is = cc

-- one more name known
pub known-more : (switches : List (List ℕ)) (names : List (String Global)) (i : ℕ) (x : String Global) (text : List ℕ) → i < length names → x ≡ get_or names i x → text ≡ string_bytes x → is_switch switches text ≡ true
    → find (is_unknown switches) (string_texts (drop (i + 1) names)) ≡ find (is_unknown switches) (string_texts (drop i names))
known-more switches names i x text lt is same known =
    let left : string_texts (drop i names) ≡ text ∷ string_texts (drop (i + 1) names) =
    ap string_texts (drop_more names i x lt ∙ ap (λ (s : String Global). s ∷ drop (i + 1) names) (sym is)) ∙ ap (λ (t : List ℕ). t ∷ string_texts (drop (i + 1) names)) (sym same) in
    sym (ap (find (is_unknown switches)) left ∙ known-step (is_switch switches text) text (find (is_unknown switches) (string_texts (drop (i + 1) names))) known)

-- ---- names by variable

abbrev pub Entries : Type 0
Entries = List (List ℕ × List (List ℕ))

first-some : (o p : Option (List ℕ)) (e : DemandFault) → option_map (λ name. NoSwitch name) o ≡ Some e → option_map (λ name. NoSwitch name) (option_or o p) ≡ Some e
first-some (Some x) p e is = is
first-some None p e is = cc

arrays-left : (arrays : List (List ℕ)) (i : ℕ) (x name : List ℕ) → i < length arrays → x ≡ get_or arrays i x → name ≡ x → drop i arrays ≡ name ∷ drop (i + 1) arrays
arrays-left arrays i x name lt is same = drop_more arrays i x lt ∙ ap (λ (y : List ℕ). y ∷ drop (i + 1) arrays) (sym is ∙ sym same)

no_switch-parts : (switches arrays : List (List ℕ)) (entries : Entries) (name : List ℕ) (rest : List (List ℕ)) → arrays ≡ name ∷ rest
    → no_switch switches arrays entries ≡ option_map (λ n. NoSwitch n) (option_or (find (is_unknown switches) (names_for entries name)) (find (is_unknown switches) (named rest entries)))
no_switch-parts switches arrays entries name rest more =
    ap (λ (vs : List (List ℕ)). no_switch switches vs entries) more ∙ ap (λ (o : Option (List ℕ)). option_map (λ n. NoSwitch n) o) (find-append (is_unknown switches) (names_for entries name) (named rest entries))

-- one more variable, whose switches are known
pub variable-known : (switches arrays : List (List ℕ)) (entries : Entries) (i : ℕ) (x name : List ℕ) → i < length arrays → x ≡ get_or arrays i x → name ≡ x → AreKnown switches (names_for entries name)
    → no_switch switches (drop (i + 1) arrays) entries ≡ no_switch switches (drop i arrays) entries
variable-known switches arrays entries i x name lt is same known =
    sym (no_switch-parts switches (drop i arrays) entries name (drop (i + 1) arrays) (arrays-left arrays i x name lt is same)
    ∙ ap (λ (o : Option (List ℕ)). option_map (λ n. NoSwitch n) (option_or o (find (is_unknown switches) (named (drop (i + 1) arrays) entries)))) known)

-- a variable with a switch that isn't known
pub variable-unknown : (switches arrays : List (List ℕ)) (entries : Entries) (i : ℕ) (x name : List ℕ) (e : DemandFault) → i < length arrays → x ≡ get_or arrays i x → name ≡ x
    → no_switch switches (drop i arrays) entries ≡ no_switch switches arrays entries → option_map (λ n. NoSwitch n) (find (is_unknown switches) (names_for entries name)) ≡ Some e → no_switch switches arrays entries ≡ Some e
variable-unknown switches arrays entries i x name e lt is same before fault =
    sym before ∙ no_switch-parts switches (drop i arrays) entries name (drop (i + 1) arrays) (arrays-left arrays i x name lt is same)
    ∙ first-some (find (is_unknown switches) (names_for entries name)) (find (is_unknown switches) (named (drop (i + 1) arrays) entries)) e fault

-- ---- lists of numbers

rise-push : (xs : List ℕ) (n : ℕ) → IsStrictlySortedBy nat_cmp xs → AllByRecursion (λ (x : ℕ). x < n) xs → IsStrictlySortedBy nat_cmp (xs ++ n ∷ [])
unfolding IsStrictlySortedBy
rise-push [] n rise low = (tt, tt)
rise-push (x ∷ xs) n rise low = let below = λ (y : ℕ). nat_cmp x y ≡ Less in (recursion_from_All below (xs ++ n ∷ []) (All-push below xs n (All-from_recursion below xs rise.0) (sym (nat_cmp_is x n Less low.0))), rise-push xs n rise.1 low.1)

rise-none : IsStrictlySortedBy nat_cmp []
unfolding IsStrictlySortedBy
rise-none = tt

pub Lists-none : (P : ℕ → Type 0) (xs : List ℕ) → xs ≡ [] → Lists P 0 xs
Lists-none P xs is = subst (λ (l : List ℕ). Lists P 0 l) (sym is) (record { rise = rise-none; each = λ at. ((λ h. absurd (Contains-nil at h)), (λ h. absurd (let low = h.0 in omega arith))) })

pub Lists-more : (P : ℕ → Type 0) (n x : ℕ) (xs ys : List ℕ) → ys ≡ xs ++ x ∷ [] → x ≡ n → P n → Lists P n xs → Lists P (n + 1) ys
Lists-more P n x xs ys is same here before =
    let is' : ys ≡ xs ++ n ∷ [] = is ∙ ap (λ (k : ℕ). xs ++ k ∷ []) same in
    let low = recursion_from_All (λ (k : ℕ). k < n) xs (All-weaker (Contains xs) (λ (k : ℕ). k < n) (λ k h. ((before.each k).0 h).0) xs (All-contains_itself xs)) in
    subst (λ (l : List ℕ). Lists P (n + 1) l) (sym is') (record {
      rise = rise-push xs n before.rise low;
      each = λ at. (
        λ h. elim (Contains-push_cases xs n at h) [
          | inl there ↦ let was = (before.each at).0 there in ((let lt = was.0 in omega arith), was.1)
          | inr now ↦ (omega arith, subst P now here)
        ],
        λ h. elim (cases_eq at n) [
          | inl equal ↦ subst (λ (k : ℕ). Contains (xs ++ n ∷ []) k) (sym equal) (Contains-push xs n)
          | inr other ↦ Contains-append_left xs (n ∷ []) at ((before.each at).1 ((let lt = h.0 in omega arith), h.1))
        ],
      );
    })

pub Lists-skip : (P : ℕ → Type 0) (n : ℕ) (xs ys : List ℕ) → ys ≡ xs → ¬ (P n) → Lists P n xs → Lists P (n + 1) ys
Lists-skip P n xs ys is never before = subst (λ (l : List ℕ). Lists P (n + 1) l) (sym is) (record {
  rise = before.rise;
  each = λ at. (
    λ h. let was = (before.each at).0 h in ((let lt = was.0 in omega arith), was.1),
    λ h. elim (cases_eq at n) [ inl equal ↦ absurd (never (subst P equal h.1)) | inr other ↦ (before.each at).1 ((let lt = h.0 in omega arith), h.1) ],
  );
})

-- the first number of a list that isn't empty
pub Lists-some : (P : ℕ → Type 0) (n : ℕ) (xs : List ℕ) → Lists P n xs → xs ≢ [] → (at : ℕ) × (at < n) × P at
Lists-some P n [] lists some = absurd (some refl)
Lists-some P n (x ∷ xs) lists some = let h = (lists.each x).0 (0, omega arith, refl) in (x, h.0, h.1)

pub Lists-empty : (P : ℕ → Type 0) (n : ℕ) (xs : List ℕ) → Lists P n xs → xs ≡ [] → (at : ℕ) → at < n → ¬ (P at)
Lists-empty P n xs lists none at lt h = Contains-nil at (subst (λ (l : List ℕ). Contains l at) none ((lists.each at).1 (lt, h)))

-- the same by another property
pub Lists-by : (P Q : ℕ → Type 0) (n : ℕ) (xs : List ℕ) → ((at : ℕ) → at < n → P at ↔ Q at) → Lists P n xs → Lists Q n xs
Lists-by P Q n xs same lists = record {
  rise = lists.rise;
  each = λ at. ((λ h. let was = (lists.each at).0 h in (was.0, (same at was.0).0 was.1)), (λ h. (lists.each at).1 (h.0, (same at h.0).1 h.1)));
}

-- one more list of a list of lists, each with what holds at its index
pub each-more : {X : Type 0} (d : X) (P : ℕ → X → Type 0) (xs ys : List X) (n : ℕ) (x y : X) → length xs ≡ n → ys ≡ xs ++ x ∷ [] → x ≡ y → P n y → ((v : ℕ) → v < n → P v (slice_index_or xs v d)) → (v : ℕ) → v < n + 1 → P v (slice_index_or ys v d)
each-more {X} d P xs ys n x y count is same here before v lt =
    subst (λ (l : List X). P v (get_or l v d)) (sym is) (elim (cases_eq v n) [
      | inl equal ↦ subst (λ (k : ℕ). P k (get_or (xs ++ x ∷ []) k d)) (sym equal) (subst (λ (w : X). P n w) (sym (get_or_push xs x d n count ∙ same)) here)
      | inr other ↦ subst (λ (w : X). P v w) (sym (get_or_append_left xs (x ∷ []) d v (omega arith))) (before v (omega arith))
    ])

pub count-more : {X : Type 0} (xs ys : List X) (n : ℕ) (x : X) → length xs ≡ n → ys ≡ xs ++ x ∷ [] → length ys ≡ n + 1
count-more {X} xs ys n x count is = let size = length_push xs x in ap (λ (l : List X). length l) is ∙ omega arith
