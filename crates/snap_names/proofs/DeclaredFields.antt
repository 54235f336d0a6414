-- The fields that are declared are those of a program, but for their number.
use Rattle.std.proofs.Common.{◌≡◌, ℕ, ◌+◌, ◌≤◌, Bool, true, false, List, [], ◌∷◌, ◌++◌, map, length, codes, Option, None, Some, is_some, Result, Ok, Err, IfOk, cond, refl, sym, ap, ◌∙◌, subst, arith, append_assoc, length-append, bytes_eq, nat_le, ◌&&◌, if◌then◌else◌}
use Rattle.std.specs.List.{AllByRecursion, IsDistinct, list_any}
use Rattle.std.specs.Map.{lookup}
use Rattle.std.proofs.lemmas.Slice.Eq.{bytes_eq-Decides}
use Rattle.snap_names.specs.Declarations.{Field, Declared, ports, field_names, with_field, field_senses, prefix_length, short, with_array, with_constant, with_let, declare, env_of, is_field_known}
use Rattle.snap_core.specs.Fields.{count, width, declared_at, declared_from, names_of, plain_field, PrefixFits, IsFields}
use Rattle.snap_names.specs.Senses.{Sense, Plain, Split, Array, after, word, literal, is_address, number_at, NameFault, Twice, Prefix}
use Rattle.snap_names.specs.Spells.{is_known}
use Rattle.snap_names.specs.Reading.{read_policy}
use Rattle.snap_parse.specs.Tree.{DeclTree, field_tree, array_tree, const_tree, let_tree}
use Rattle.std.proofs.lemmas.Bool.{false_from_ne_true, false≢true, or_parts}
use Rattle.std.proofs.lemmas.Bool.Decides.{nat_tests}
use Rattle.snap_core.specs.Names.{IsName}
use Rattle.snap_names.proofs.Placed.{DeclWritten}
use Rattle.snap_names.proofs.NameParts.{IsName-field}
use Rattle.snap_core.proofs.FieldLemmas.{bytes_eq-apart}
use Rattle.std.proofs.lemmas.List.Elements.{All-from_recursion, All-weaker, recursion_from_All}
use Rattle.snap_core.proofs.Entries.{both}
use Rattle.snap_names.proofs.BoundedSteps.{IfOk-after_any, IfOk-unless, IfOk-unless_is}

abbrev names_from : ℕ → List Field → List (List ℕ)
names_from c fs = map (λ e. e.0) (declared_from c fs)

names_one : (c : ℕ) (name : List ℕ) (prefix : Option ℕ) → names_from c (record { name = name; prefix = prefix } ∷ []) ≡ field_names name (is_some prefix)
names_one c name None = refl
names_one c name (Some n) = refl

names_step : (c : ℕ) (name : List ℕ) (prefix : Option ℕ) (xs ys : List (List ℕ × _)) (more : List (List ℕ)) → map (λ e. e.0) xs ≡ map (λ e. e.0) ys ++ more
    → map (λ e. e.0) (declared_at c name prefix ++ xs) ≡ map (λ e. e.0) (declared_at c name prefix ++ ys) ++ more
names_step c name None xs ys more h = ap (λ w. name ∷ w) h
names_step c name (Some n) xs ys more h = ap (λ w. name ∷ (name ++ codes ".net") ∷ (name ++ codes ".host") ∷ w) h

names_from-append : (c : ℕ) (fs : List Field) (name : List ℕ) (prefix : Option ℕ) → names_from c (fs ++ record { name = name; prefix = prefix } ∷ []) ≡ names_from c fs ++ field_names name (is_some prefix)
names_from-append c [] name prefix = names_one c name prefix
names_from-append c (f ∷ fs) name prefix = names_step c f.name f.prefix _ _ _ (names_from-append (c + width f.prefix) fs name prefix)

known_step : (b : Bool) (x : Sense) (o p : Option Sense) → (is_some o ≡ true → is_some p ≡ true) → is_some (cond b (Some x) o) ≡ true → is_some (cond b (Some x) p) ≡ true
known_step true x o p rest h = refl
known_step false x o p rest h = rest h

is_known-more : (names more : List (List ℕ × Sense)) (n : List ℕ) → is_known names n ≡ true → is_known (names ++ more) n ≡ true
is_known-more [] more n h = cc
is_known-more (x ∷ names) more n h = known_step (bytes_eq n x.0) x.1 (lookup (bytes_eq n) names) (lookup (bytes_eq n) (names ++ more)) (is_known-more names more n) h

different : (names : List (List ℕ × Sense)) (x y : List ℕ) → is_known names x ≡ true → is_known names y ≡ false → bytes_eq x y ≡ false
different names x y h k = false_from_ne_true (bytes_eq x y) (λ e. false≢true (sym k ∙ ap (is_known names) (sym ((bytes_eq-Decides x y).0 e)) ∙ h))

different_all : (names : List (List ℕ × Sense)) (x : List ℕ) (ys : List (List ℕ)) → is_known names x ≡ true → list_any (is_known names) ys ≡ false → AllByRecursion (λ y. bytes_eq x y ≡ false) ys
different_all names x [] h k = tt
different_all names x (y ∷ ys) h k = (different names x y h (or_parts _ _ k).0, different_all names x ys h (or_parts (is_known names y) _ k).1)

pub IsDistinct-append : (names : List (List ℕ × Sense)) (xs ys : List (List ℕ)) → AllByRecursion (λ x. is_known names x ≡ true) xs → list_any (is_known names) ys ≡ false
    → IsDistinct bytes_eq xs → IsDistinct bytes_eq ys → IsDistinct bytes_eq (xs ++ ys)
unfolding IsDistinct
IsDistinct-append names [] ys h k d e = e
IsDistinct-append names (x ∷ xs) ys h k d e =
    (both (λ y. bytes_eq x y ≡ false) xs ys d.0 (different_all names x ys h.0 k), IsDistinct-append names xs ys h.1 k d.1 e)

different_back : (names : List (List ℕ × Sense)) (x : List ℕ) (ys : List (List ℕ)) → is_known names x ≡ false → AllByRecursion (λ y. is_known names y ≡ true) ys → AllByRecursion (λ y. bytes_eq x y ≡ false) ys
different_back names x [] h k = tt
different_back names x (y ∷ ys) h k =
    (false_from_ne_true (bytes_eq x y) (λ e. false≢true (sym h ∙ ap (is_known names) ((bytes_eq-Decides x y).0 e) ∙ k.0)), different_back names x ys h k.1)

weaker : {X : Type 0} (P Q : X → Type 0) → ((x : X) → P x → Q x) → (xs : List X) → AllByRecursion P xs → AllByRecursion Q xs
weaker P Q f xs h = recursion_from_All Q xs (All-weaker P Q f xs (All-from_recursion P xs h))

AllByRecursion-between : {X : Type 0} (P : X → Type 0) (xs ys zs : List X) → AllByRecursion P (xs ++ zs) → AllByRecursion P ys → AllByRecursion P ((xs ++ ys) ++ zs)
AllByRecursion-between P [] ys zs h k = both P ys zs k h
AllByRecursion-between P (x ∷ xs) ys zs h k = (h.0, AllByRecursion-between P xs ys zs h.1 k)

-- new names before names that are known
IsDistinct-before : (names : List (List ℕ × Sense)) (ys zs : List (List ℕ)) → list_any (is_known names) ys ≡ false → AllByRecursion (λ z. is_known names z ≡ true) zs → IsDistinct bytes_eq ys → IsDistinct bytes_eq zs → IsDistinct bytes_eq (ys ++ zs)
unfolding IsDistinct
IsDistinct-before names [] zs h k d e = e
IsDistinct-before names (y ∷ ys) zs h k d e =
    (both (λ z. bytes_eq y z ≡ false) ys zs d.0 (different_back names y zs (or_parts _ _ h).0 k), IsDistinct-before names ys zs (or_parts (is_known names y) _ h).1 k d.1 e)

-- new names among names that are known
IsDistinct-between : (names : List (List ℕ × Sense)) (xs ys zs : List (List ℕ)) → AllByRecursion (λ x. is_known names x ≡ true) (xs ++ zs) → list_any (is_known names) ys ≡ false
    → IsDistinct bytes_eq (xs ++ zs) → IsDistinct bytes_eq ys → IsDistinct bytes_eq ((xs ++ ys) ++ zs)
unfolding IsDistinct
IsDistinct-between names [] ys zs h k d e = IsDistinct-before names ys zs k h e d
IsDistinct-between names (x ∷ xs) ys zs h k d e = (AllByRecursion-between (λ y. bytes_eq x y ≡ false) xs ys zs d.0 (different_all names x ys h.0 k), IsDistinct-between names xs ys zs h.1 k d.1 e)

AllByRecursion-front : {X : Type 0} (P : X → Type 0) (xs ys : List X) → AllByRecursion P (xs ++ ys) → AllByRecursion P xs
AllByRecursion-front P [] ys h = tt
AllByRecursion-front P (x ∷ xs) ys h = (h.0, AllByRecursion-front P xs ys h.1)

IsDistinct-front : (xs ys : List (List ℕ)) → IsDistinct bytes_eq (xs ++ ys) → IsDistinct bytes_eq xs
unfolding IsDistinct
IsDistinct-front [] ys h = tt
IsDistinct-front (x ∷ xs) ys h = (AllByRecursion-front (λ y. bytes_eq x y ≡ false) xs ys h.0, IsDistinct-front xs ys h.1)

IsDistinct-one : (name : List ℕ) → IsDistinct bytes_eq (name ∷ [])
unfolding IsDistinct
IsDistinct-one name = (tt, tt)

names_apart : (name : List ℕ) (b : Bool) → IsDistinct bytes_eq (field_names name b)
unfolding IsDistinct
names_apart name false = (tt, tt)
names_apart name true =
    let n : length (name ++ codes ".net") ≡ length name + 4 = length-append name (codes ".net") in
    let h : length (name ++ codes ".host") ≡ length name + 5 = length-append name (codes ".host") in
    let a : bytes_eq name (name ++ codes ".net") ≡ false = bytes_eq-apart name (name ++ codes ".net") (omega (arith, n)) in
    let b : bytes_eq name (name ++ codes ".host") ≡ false = bytes_eq-apart name (name ++ codes ".host") (omega (arith, h)) in
    let e : bytes_eq (name ++ codes ".net") (name ++ codes ".host") ≡ false = bytes_eq-apart (name ++ codes ".net") (name ++ codes ".host") (omega (arith, n, h)) in
    ((a, (b, tt)), ((e, tt), (tt, tt)))

behind_step : (b : Bool) (x : Sense) (o : Option Sense) → is_some o ≡ true → is_some (cond b (Some x) o) ≡ true
behind_step true x o h = refl
behind_step false x o h = h

known_behind : (names more : List (List ℕ × Sense)) (n : List ℕ) → is_known more n ≡ true → is_known (names ++ more) n ≡ true
known_behind [] more n h = h
known_behind (x ∷ names) more n h = behind_step (bytes_eq n x.0) x.1 _ (known_behind names more n h)

known_first : (n : List ℕ) (s : Sense) (more : List (List ℕ × Sense)) → is_known ((n, s) ∷ more) n ≡ true
known_first n s more = rw ((bytes_eq-Decides n n).1 refl) refl

known_new : (c : ℕ) (name : List ℕ) (prefix : Option ℕ) → AllByRecursion (λ n. is_known (field_senses c name prefix) n ≡ true) (field_names name (is_some prefix))
known_new c name None = (known_first name (Plain (short c)) [], tt)
known_new c name (Some p) =
    let whole : List ℕ × Sense = (name, Split (short c) (short (c + 1)) p) in
    let net : List ℕ × Sense = (name ++ codes ".net", Plain (short c)) in
    let host : List ℕ × Sense = (name ++ codes ".host", Plain (short (c + 1))) in (
      known_first name whole.1 (net ∷ host ∷ []),
      (
        known_behind (whole ∷ []) (net ∷ host ∷ []) (name ++ codes ".net") (known_first (name ++ codes ".net") net.1 (host ∷ [])),
        (known_behind (whole ∷ net ∷ []) (host ∷ []) (name ++ codes ".host") (known_first (name ++ codes ".host") host.1 []), tt),
      ),
    )

-- The fields that are declared are a program's, all names of fields and arrays differ, and each is a name, where W says that the text spells names.
pub record FieldsStand (W : Type 0) (d : Declared) : Type 0 where
  pub rest : List Field
  pub first : d.fields ≡ plain_field (codes "inport") ∷ plain_field (codes "outport") ∷ rest
  pub distinct : IsDistinct bytes_eq (names_of d.fields ++ d.arrays)
  pub known : AllByRecursion (λ n. is_known d.names n ≡ true) (names_of d.fields ++ d.arrays)
  pub named : W → AllByRecursion IsName (names_of d.fields ++ d.arrays)
  pub prefixes : AllByRecursion (λ f. PrefixFits f.prefix) d.fields

with_field-stands : (W : Type 0) (d : Declared) (name : List ℕ) (prefix : Option ℕ) → FieldsStand W d → is_field_known d.names name (is_some prefix) ≡ false → (W → IsName name) → PrefixFits prefix → FieldsStand W (with_field d name prefix)
with_field-stands W d name prefix h k w fits =
    let more = field_senses (count d.fields) name prefix in
    let old : List (List ℕ) = names_of d.fields in
    let new : List (List ℕ) = field_names name (is_some prefix) in
    let e : names_of (d.fields ++ record { name = name; prefix = prefix } ∷ []) ++ d.arrays ≡ (old ++ new) ++ d.arrays = ap (λ ns. ns ++ d.arrays) (names_from-append 0 d.fields name prefix) in
    record {
      rest = h.rest ++ record { name = name; prefix = prefix } ∷ [];
      first = ap (λ (fs : List Field). fs ++ record { name = name; prefix = prefix } ∷ []) h.first;
      distinct = subst (IsDistinct bytes_eq) (sym e) (IsDistinct-between d.names old new d.arrays h.known k h.distinct (names_apart name (is_some prefix)));
      known = subst (AllByRecursion (λ n. is_known (d.names ++ more) n ≡ true)) (sym e) (AllByRecursion-between (λ n. is_known (d.names ++ more) n ≡ true) old new d.arrays
          (weaker (λ n. is_known d.names n ≡ true) (λ n. is_known (d.names ++ more) n ≡ true) (is_known-more d.names more) _ h.known)
          (weaker (λ n. is_known more n ≡ true) (λ n. is_known (d.names ++ more) n ≡ true) (known_behind d.names more) _ (known_new (count d.fields) name prefix)));
      named = λ q. subst (AllByRecursion IsName) (sym e) (AllByRecursion-between IsName old new d.arrays (h.named q) (IsName-field name (is_some prefix) (w q)));
      prefixes = both (λ f. PrefixFits f.prefix) d.fields _ h.prefixes (fits, tt);
    }

with_array-stands : (W : Type 0) (d : Declared) (name : List ℕ) → FieldsStand W d → is_known d.names name ≡ false → (W → IsName name) → FieldsStand W (with_array d name)
with_array-stands W d name h k w =
    let more : List (List ℕ × Sense) = (name, Array (length d.arrays)) ∷ [] in
    let e : names_of d.fields ++ (d.arrays ++ name ∷ []) ≡ (names_of d.fields ++ d.arrays) ++ name ∷ [] = sym (append_assoc (names_of d.fields) d.arrays (name ∷ [])) in
    record {
      rest = h.rest;
      first = h.first;
      distinct = subst (IsDistinct bytes_eq) (sym e) (IsDistinct-append d.names _ (name ∷ []) h.known (rw k refl) h.distinct (IsDistinct-one name));
      known = subst (AllByRecursion (λ n. is_known (d.names ++ more) n ≡ true)) (sym e) (both (λ n. is_known (d.names ++ more) n ≡ true) _ (name ∷ [])
          (weaker (λ n. is_known d.names n ≡ true) (λ n. is_known (d.names ++ more) n ≡ true) (is_known-more d.names more) _ h.known)
          (known_behind d.names more name (known_first name (Array (length d.arrays)) []), tt));
      named = λ q. subst (AllByRecursion IsName) (sym e) (both IsName _ (name ∷ []) (h.named q) (w q, tt));
      prefixes = h.prefixes;
    }

within_31 : (n : ℕ) → (nat_le 1 n && nat_le n 31) ≡ true → PrefixFits (Some n)
within_31 n h = grind (arith, nat_tests)

named-stands : (W : Type 0) (d e : Declared) (more : List (List ℕ × Sense)) → e.fields ≡ d.fields → e.arrays ≡ d.arrays → e.names ≡ d.names ++ more → FieldsStand W d → FieldsStand W e
named-stands W d e more fs as_is ns h = record {
  rest = h.rest;
  first = fs ∙ h.first;
  distinct = rw (fs, as_is) h.distinct;
  known = rw (fs, as_is, ns) (weaker (λ n. is_known d.names n ≡ true) (λ n. is_known (d.names ++ more) n ≡ true) (is_known-more d.names more) _ h.known);
  named = rw (fs, as_is) h.named;
  prefixes = rw fs h.prefixes;
}

IfOk-split : (W : Type 0) (d : Declared) (name : List ℕ) (b : Bool) (n : ℕ) (f : NameFault) → FieldsStand W d → is_field_known d.names name true ≡ false → (W → IsName name) → (b ≡ true → PrefixFits (Some n))
    → IfOk (after (if b then Ok (Some n) else Err f) (λ w. Ok (with_field d name w))) (FieldsStand W)
IfOk-split W d name true n f h k w fits = with_field-stands W d name (Some n) h k w (fits refl)
IfOk-split W d name false n f h k w fits = tt

IfOk-split_after : (W : Type 0) (d : Declared) (name : List ℕ) (r : Result ℕ NameFault) (f : NameFault) → FieldsStand W d → is_field_known d.names name true ≡ false → (W → IsName name)
    → IfOk (after (after r (λ n. if nat_le 1 n && nat_le n 31 then Ok (Some n) else Err f)) (λ w. Ok (with_field d name w))) (FieldsStand W)
IfOk-split_after W d name (Err e) f h k w = tt
IfOk-split_after W d name (Ok n) f h k w = IfOk-split W d name (nat_le 1 n && nat_le n 31) n f h k w (within_31 n)

pub declare-stands : (W : Type 0) (text : List ℕ) (d : Declared) → FieldsStand W d → (t : DeclTree) → (W → DeclWritten text t) → IfOk (declare text d t) (FieldsStand W)
declare-stands W text d h (field_tree at t p) w =
    IfOk-unless_is (FieldsStand W) (is_field_known d.names (word text t) (is_some p)) (Twice t.from) _ (λ k. field_step p k)
  where
    field_step : (q : _) → is_field_known d.names (word text t) (is_some q) ≡ false → IfOk (after (prefix_length text q) (λ n. Ok (with_field d (word text t) n))) (FieldsStand W)
    field_step None k = with_field-stands W d (word text t) None h k w tt
    field_step (Some s) k = IfOk-split_after W d (word text t) (number_at text s) (Prefix s.from) h k w
declare-stands W text d h (array_tree at t) w = IfOk-unless_is (FieldsStand W) (is_known d.names (word text t)) (Twice t.from) _ (λ k. with_array-stands W d (word text t) h k w)
declare-stands W text d h (const_tree at t l) w =
    IfOk-unless (FieldsStand W) (is_known d.names (word text t)) (Twice t.from) _
    (IfOk-after_any (FieldsStand W) (literal text l) _ (λ n. named-stands W d (with_constant d (word text t) n (is_address l)) _ refl refl refl h))
declare-stands W text d h (let_tree at t p) w =
    IfOk-unless (FieldsStand W) (is_known d.names (word text t)) (Twice t.from) _
    (IfOk-after_any (FieldsStand W) (read_policy (env_of text d) p d.arities) _ (λ x. named-stands W d (with_let d (word text t) x) _ refl refl refl h))

ports-differ : IsDistinct bytes_eq (names_of ports.fields)
unfolding IsDistinct
ports-differ = ((refl, tt), (tt, tt))

pub ports-stand : (W : Type 0) → FieldsStand W ports
ports-stand W = record { rest = []; first = refl; distinct = ports-differ; known = (refl, (refl, tt)); named = λ q. (refl, (refl, tt)); prefixes = (tt, (tt, tt)) }

pub IsFields-stand : (W : Type 0) (d : Declared) → FieldsStand W d → count d.fields ≤ 64 → IsFields d.fields
IsFields-stand W d h few = record {
  ports = rw h.first refl;
  different = IsDistinct-front (names_of d.fields) d.arrays h.distinct;
  prefixes = All-from_recursion (λ f. PrefixFits f.prefix) d.fields h.prefixes;
  few = few;
}
