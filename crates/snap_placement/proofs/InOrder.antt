-- The entries of a table rise, so the first unknown name is the least.
use Rattle.std.proofs.Common.{◌≡◌, ◌∙◌, ◌≢◌, ℕ, Bool, true, List, [], ◌∷◌, map, find, string_bytes, ◌++◌, append-nil, option_map, Option, Some, None, Result, Ok, Err, All, inl, inr, refl, sym, ap, subst, String, Global, IsSomeAnd, nat_cmp, Ordering, Less, Equal, Greater}
use Rattle.std.specs.List.{AllByRecursion}
use Rattle.std.specs.Map.{keys_of}
use Rattle.std.specs.List.Sorted.{IsStrictlySortedBy}
use Rattle.std.specs.Cmp.Lexicographic.{slice_cmp}
use Rattle.std.proofs.lemmas.Cmp.{nat_list_cmp_total, tied_itself}
use Rattle.std.proofs.lemmas.Bool.{cases_Bool, false≢true}
use Rattle.std.proofs.lemmas.List.Elements.{All-cons, All-nil}
use Rattle.std.proofs.lemmas.Option.{same_Some}
use Rattle.toml.specs.declared.value.Value.{Value}
use Rattle.toml.specs.View.{members_view, view}
use Rattle.snap_topology.specs.Shape.{name_in, with_first}
use Rattle.snap_placement.specs.Shape.{PlaceFault, NotToml, Shape, NoVariable, NoMemory, entries_in, entries_of, entry_of}
use Rattle.snap_placement.specs.Answer.{is_unknown, no_variable, missing, no_switch, owners, SwitchThen, MissingThen, VariableThen, IsAnswerFor}
use Rattle.snap_placement.specs.Order.{InByteOrder, IsLeast, TellsLeast, TellsLeastOf}
use Rattle.snap_topology.specs.Spells.{document}
use Rattle.snap_topology.proofs.TableLemmas.{names-rise}

abbrev Entry : Type 0
Entry = List ℕ × List ℕ

keys-step : (key : List ℕ) (o : Option (List ℕ)) (os : Option (List Entry)) (xs : List Entry) (ks : List (List ℕ)) → with_first (entry_of key o) os ≡ Some xs → ((ys : List Entry) → os ≡ Some ys → keys_of ys ≡ ks) → keys_of xs ≡ key ∷ ks
keys-step key (Some p) (Some ys) xs ks is rest = ap keys_of (sym (same_Some _ _ is)) ∙ ap (λ (l : List (List ℕ)). key ∷ l) (rest ys refl)
keys-step key (Some p) None xs ks is rest = cc
keys-step key None os xs ks is rest = cc

abbrev names_of : List (String Global × Value) → List (List ℕ)
names_of es = map (λ (k : String Global). string_bytes k) (keys_of es)

entries-keys : (es : List (String Global × Value)) (xs : List Entry) → entries_in (members_view es) ≡ Some xs → keys_of xs ≡ names_of es
entries-keys [] xs is = ap keys_of (sym (same_Some _ _ is))
entries-keys (e ∷ es) xs is = keys-step (string_bytes e.0) (name_in (view e.1)) (entries_in (members_view es)) xs (names_of es) is (λ ys found. entries-keys es ys found)

-- the entries of a table rise in byte order
pub in-order : (es : List (String Global × Value)) (xs : List (List ℕ × List ℕ)) → IsStrictlySortedBy (λ (a b : String Global). slice_cmp nat_cmp (string_bytes a) (string_bytes b)) (keys_of es) → entries_in (members_view es) ≡ Some xs → InByteOrder xs
in-order es xs sorted is = subst (λ (ks : List (List ℕ)). IsStrictlySortedBy (slice_cmp nat_cmp) ks) (sym (entries-keys es xs is)) (names-rise (keys_of es) sorted)

-- the entry isn't before k, where its name is unknown
abbrev IsNotBefore : List (List ℕ) → List ℕ → Entry → Type 0
IsNotBefore arrays k entry = is_unknown arrays entry ≡ true → slice_cmp nat_cmp k entry.0 ≢ Greater

not-greater : (o p : Ordering) → p ≢ Greater → o ≡ p → o ≢ Greater
not-greater o p not is = λ e. not (sym is ∙ e)

all-after : (arrays : List (List ℕ)) (k : List ℕ) (es : List Entry) → AllByRecursion (λ (y : List ℕ). slice_cmp nat_cmp k y ≡ Less) (keys_of es) → All (IsNotBefore arrays k) es
all-after arrays k [] h = All-nil (IsNotBefore arrays k)
all-after arrays k (e ∷ es) h = All-cons (IsNotBefore arrays k) e es (λ _. not-greater _ Less (λ g. cc) h.0) (all-after arrays k es h.1)

least : (arrays : List (List ℕ)) (es : List Entry) (e : Entry) → InByteOrder es → find (is_unknown arrays) es ≡ Some e → IsLeast arrays es e.0
unfolding IsStrictlySortedBy
least arrays [] e order found = All-nil (IsNotBefore arrays e.0)
least arrays (x ∷ xs) e order found =
    elim (cases_Bool (is_unknown arrays x)) [
      | inl yes' ↦ subst (λ (y : Entry). IsLeast arrays (x ∷ xs) y.0) (same_Some _ _ (rw yes' at found))
          (All-cons (IsNotBefore arrays x.0) x xs (λ _. not-greater _ Equal (λ g. cc) (tied_itself nat_list_cmp_total x.0)) (all-after arrays x.0 xs order.0))
      | inr no' ↦ All-cons (IsNotBefore arrays e.0) x xs (λ yes'. absurd (false≢true (sym no' ∙ yes'))) (least arrays xs e order.1 (rw no' at found))
    ]

named : (arrays : List (List ℕ)) (entries : List Entry) (name : List ℕ) (o : Option Entry) → no_variable arrays entries ≡ o → InByteOrder entries → IsSomeAnd o (λ entry. NoVariable name ≡ NoVariable entry.0) → IsLeast arrays entries name
named arrays entries name (Some e) found order is = let same : name ≡ e.0 = cc is in subst (λ (n : List ℕ). IsLeast arrays entries n) (sym same) (least arrays entries e order found)
named arrays entries name None found order is = absurd is

-- ---- at each exit
pub least-not-toml : (arrays : List (List ℕ)) (text : List ℕ) (e : PlaceFault) (X : Type 0) → (e ≢ NoMemory → (e ≡ NotToml) × X) → TellsLeast arrays text e
least-not-toml arrays text (NoVariable name) X is = let same : NoVariable name ≡ NotToml = (is (λ e. cc)).0 in cc
least-not-toml arrays text _ X is = λ entries found. tt

pub least-out-of-shape : (arrays : List (List ℕ)) (text : List ℕ) (e : PlaceFault) → (e ≢ NoMemory → entries_of (document text) ≡ Err e) → TellsLeast arrays text e
least-out-of-shape arrays text (NoVariable name) is = λ entries found. (let not-ok = is (λ e. cc) in cc)
least-out-of-shape arrays text _ is = λ entries found. tt

not-later : (T : ℕ → ℕ → Type 0) (owned : List ℕ) (o : Option ℕ) (name : List ℕ) → SwitchThen T owned o (Err (NoVariable name)) → ⊥
not-later T owned (Some var) name is = cc
not-later T owned None name is = is

not-missing : (T : ℕ → ℕ → Type 0) (arrays switches : List (List ℕ)) (entries : List Entry) (o : Option ℕ) (name : List ℕ) → MissingThen T arrays switches entries o (Err (NoVariable name)) → ⊥
not-missing T arrays switches entries (Some var) name is = cc
not-missing T arrays switches entries None name is = not-later T (owners arrays switches entries) (no_switch arrays switches entries) name is

of-variable : (T : ℕ → ℕ → Type 0) (arrays switches : List (List ℕ)) (entries : List Entry) (o : Option Entry) (name : List ℕ) → VariableThen T arrays switches entries o (Err (NoVariable name)) → IsSomeAnd o (λ entry. NoVariable name ≡ NoVariable entry.0)
of-variable T arrays switches entries (Some entry) name is = cc is
of-variable T arrays switches entries None name is = absurd (not-missing T arrays switches entries (missing arrays entries) name is)

told : (T : ℕ → ℕ → Type 0) (arrays switches : List (List ℕ)) (entries : List Entry) (e : PlaceFault) → InByteOrder entries → (e ≢ NoMemory → IsAnswerFor T arrays switches entries (Err e)) → TellsLeastOf arrays entries e
told T arrays switches entries (NoVariable name) order is = named arrays entries name (no_variable arrays entries) refl order (of-variable T arrays switches entries (no_variable arrays entries) name (is (λ e. cc)))
told T arrays switches entries _ order is = tt

abbrev entries-ok : List Entry → Result (List Entry) PlaceFault
entries-ok x = Ok x

ok-same : {x y : List Entry} → entries-ok x ≡ entries-ok y → x ≡ y
ok-same e = cc

pub least-of-answer : (T : ℕ → ℕ → Type 0) (arrays names switches : List (List ℕ)) (entries listed : List Entry) (text : List ℕ) (e : PlaceFault) → names ≡ arrays → listed ≡ entries → entries_of (document text) ≡ Ok entries → InByteOrder entries
    → (e ≢ NoMemory → IsAnswerFor T names switches listed (Err e)) → TellsLeast arrays text e
least-of-answer T arrays names switches entries listed text e same texts shape order is = λ es found.
    let equal : entries ≡ es = ok-same (sym shape ∙ found) in
    subst (λ (x : List Entry). TellsLeastOf arrays x e) equal (told T arrays switches entries e order (λ memory.
    subst (λ (x : List (List ℕ)). IsAnswerFor T x switches entries (Err e)) same (subst (λ (x : List Entry). IsAnswerFor T names switches x (Err e)) texts (is memory))))

pub at-end : (so_far : List (List ℕ × List ℕ)) (left : List (String Global × Value)) (o : Option (List (List ℕ × List ℕ))) → left ≡ [] → option_map (λ r. so_far ++ r) (entries_in (members_view left)) ≡ o → o ≡ Some so_far
at-end so_far left o none kept =
    sym (subst (λ (l : List (String Global × Value)). option_map (λ r. so_far ++ r) (entries_in (members_view l)) ≡ o) none kept) ∙ ap (λ (x : List Entry). Some x) (append-nil so_far)
