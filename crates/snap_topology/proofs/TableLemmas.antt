-- Facts about the view of a table.
use Rattle.std.proofs.Common.{◌∙◌, refl, ℕ, List, [], ◌∷◌, length, map, fold, string_bytes, Option, Some, None, is_some, option_map, ◌≡◌, sym, ap, arith, String, nat_cmp, Ordering, Less, Greater, Bor, Global}
use Rattle.std.specs.List.{AllByRecursion}
use Rattle.std.specs.List.Sorted.{IsStrictlySortedBy}
use Rattle.std.specs.Ordering.{match_ordering}
use Rattle.std.specs.Cmp.Lexicographic.{slice_cmp}
use Rattle.std.specs.Map.{lookup}
use Rattle.std.specs.BTreeMap.{is_at, insert_entry}
use Rattle.toml.specs.declared.value.Value.{Value}
use Rattle.toml.specs.Data.{Data, Items, no_items, item, string, array, as_array, get_member}
use Rattle.toml.specs.View.{items_view, members_view, view}
use Rattle.toml.proofs.Views.{view-lookup}
use Rattle.snap_topology.specs.Shape.{link_in, name_in, names_in, port_of, ports_listed, switches_in, with_first}
use Rattle.snap_topology.specs.Spells.{member_count, put_port, port_number}
use Rattle.snap_topology.specs.Listing.{port_text}

pub member_count-view : (es : List (String Global × Value)) → member_count (members_view es) ≡ length es
member_count-view [] = refl
member_count-view (e ∷ es) = let h = member_count-view es in omega (arith, h)

kept : {A B : Type 0} (f : A → B) (o : Option A) → is_some (option_map f o) ≡ is_some o
kept f None = refl
kept f (Some x) = refl

pub is_some-member : (name : List ℕ) (es : List (String Global × Value)) → is_some (lookup (is_at (λ k. slice_cmp nat_cmp name (string_bytes k))) es) ≡ is_some (get_member name (members_view es))
is_some-member name es = sym (kept view (lookup (is_at (λ k. slice_cmp nat_cmp name (string_bytes k))) es)) ∙ ap is_some (view-lookup name es)

-- an array of at least one value
pub array_switches : (d : Data) (i : Items) (n : ℕ) → Some i ≡ as_array d → (i ≡ no_items → ⊥) → names_in i ≡ switches_in (Some d)
array_switches (array (item e rest)) i n is some = ap names_in (same is)
  where
    same : {A : Type 0} {x y : A} → Some x ≡ Some y → x ≡ y
    same e = cc
array_switches (array no_items) i n is some = absurd (some (cc))
array_switches _ i n is some = cc

-- an array of other than two values
short_link : (vs : List Value) → (length vs ≡ 2 → ⊥) → None ≡ link_in (array (items_view vs))
short_link (a ∷ (b ∷ [])) not = absurd (not refl)
short_link _ not = refl

pub no_link : (d : Data) (vs : List Value) → Some (items_view vs) ≡ as_array d → (length vs ≡ 2 → ⊥) → None ≡ link_in d
no_link (array i) vs is not = short_link vs not ∙ ap (λ (x : Items). link_in (array x)) (same is)
  where
    same : {A : Type 0} {x y : A} → Some x ≡ Some y → x ≡ y
    same e = cc
no_link (string s) vs is not = cc
no_link _ vs is not = cc

-- ---- ports
placed : (o : Ordering) (e : ℕ × Bor (List ℕ)) (es : List (ℕ × Bor (List ℕ))) (k : ℕ) (v : Bor (List ℕ)) → map port_text (insert_entry nat_cmp es k v) ≡ insert_entry nat_cmp (map port_text es) k (v.now)
    → map port_text (match_ordering o ((k, v) ∷ e ∷ es) ((e.0, v) ∷ es) (e ∷ insert_entry nat_cmp es k v))
    ≡ match_ordering o ((k, v.now) ∷ port_text e ∷ map port_text es) ((e.0, v.now) ∷ map port_text es) (port_text e ∷ insert_entry nat_cmp (map port_text es) k (v.now))
placed Greater e es k v rest = ap (λ t. port_text e ∷ t) rest
placed _ e es k v rest = refl

pub port_texts-insert_entry : (es : List (ℕ × Bor (List ℕ))) (k : ℕ) (v : Bor (List ℕ)) → map port_text (insert_entry nat_cmp es k v) ≡ put_port (map port_text es) (k, v.now)
port_texts-insert_entry [] k v = refl
port_texts-insert_entry (e ∷ es) k v = placed (nat_cmp k e.0) e es k v (port_texts-insert_entry es k v)

-- one more port, before those that are left
pub ports-step : (so_far : List (ℕ × List ℕ)) (port : Option (ℕ × List ℕ)) (p : ℕ × List ℕ) (rest : Option (List (ℕ × List ℕ))) → port ≡ Some p → option_map (fold put_port so_far) (with_first port rest) ≡ option_map (fold put_port (put_port so_far p)) rest
ports-step so_far port p rest is = rw is (found rest)
  where
    found : (r : Option (List (ℕ × List ℕ))) → option_map (fold put_port so_far) (with_first (Some p) r) ≡ option_map (fold put_port (put_port so_far p)) r
    found None = refl
    found (Some ports) = refl

-- one turn of a loop that puts the ports of a table in order
pub ports-turn : (old new : List (ℕ × Bor (List ℕ))) (left rest : List (String Global × Value)) (key : String Global) (value : Value) (port : ℕ) (name : Bor (List ℕ))
    → left ≡ (key, value) ∷ rest → Some (port, name.now) ≡ port_of (port_number (string_bytes key)) (name_in (view value)) → new ≡ insert_entry nat_cmp old port name
    → option_map (fold put_port (map port_text new)) (ports_listed (members_view rest)) ≡ option_map (fold put_port (map port_text old)) (ports_listed (members_view left))
ports-turn old new left rest key value port name more is put =
    ap (λ es. option_map (fold put_port (map port_text es)) (ports_listed (members_view rest))) put
    ∙ ap (λ ps. option_map (fold put_port ps) (ports_listed (members_view rest))) (port_texts-insert_entry old port name)
    ∙ sym (ports-step (map port_text old) (port_of (port_number (string_bytes key)) (name_in (view value))) (port, name.now) (ports_listed (members_view rest)) (sym is))
    ∙ ap (λ es. option_map (fold put_port (map port_text old)) (ports_listed (members_view es))) (sym more)

-- ---- keys in order
all-names : (k : List ℕ) (ks : List (String Global)) → AllByRecursion (λ (y : String Global). slice_cmp nat_cmp k (string_bytes y) ≡ Less) ks → AllByRecursion (λ (y : List ℕ). slice_cmp nat_cmp k y ≡ Less) (map (λ (x : String Global). string_bytes x) ks)
all-names k [] h = tt
all-names k (x ∷ ks) h = (h.0, all-names k ks h.1)

-- keys that rise as strings rise as texts
pub names-rise : (ks : List (String Global)) → IsStrictlySortedBy (λ (a b : String Global). slice_cmp nat_cmp (string_bytes a) (string_bytes b)) ks → IsStrictlySortedBy (slice_cmp nat_cmp) (map (λ (x : String Global). string_bytes x) ks)
unfolding IsStrictlySortedBy
names-rise [] h = tt
names-rise (k ∷ ks) h = (all-names (string_bytes k) ks h.0, names-rise ks h.1)
