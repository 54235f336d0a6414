-- The names of a split field's components are names.
use Rattle.std.proofs.Common.{◌≡◌, ℕ, Bool, true, false, not, ◌&&◌, ◌||◌, ◌==◌, List, [], ◌∷◌, ◌++◌, codes, refl, sym, ap, ◌∙◌, bytes_eq}
use Rattle.std.specs.List.{AllByRecursion, list_any}
use Rattle.std.proofs.lemmas.Slice.Eq.{bytes_eq-Decides}
use Rattle.std.proofs.lemmas.Bool.{or_right, or_from, and_from, and_parts, false_from_ne_true, false≢true}
use Rattle.snap_core.specs.Names.{is_letter, is_plain, is_joint, begins_plain, goes_on, is_word, keywords, is_keyword, IsName}
use Rattle.snap_names.specs.Declarations.{field_names}

abbrev has_dot : List ℕ → Bool
has_dot w = list_any (λ b. b == 46) w

abbrev NoDots : List (List ℕ) → Type 0
NoDots ws = AllByRecursion (λ w. has_dot w ≡ false) ws

or_first : (a b c : Bool) → (a || b) ≡ true → (b ≡ true → c ≡ true) → (a || c) ≡ true
or_first true b c h k = refl
or_first false b c h k = k h

has_dot-behind : (w more : List ℕ) → has_dot more ≡ true → has_dot (w ++ more) ≡ true
has_dot-behind [] more h = h
has_dot-behind (b ∷ w) more h = or_right (b == 46) _ (has_dot-behind w more h)

-- A word with a dot is none of the words that have no dot.
dotted : (w : List ℕ) → has_dot w ≡ true → (ks : List (List ℕ)) → NoDots ks → list_any (bytes_eq w) ks ≡ false
dotted w h [] k = refl
dotted w h (x ∷ ks) k = or_from _ _ (false_from_ne_true (bytes_eq w x) (λ e. false≢true (sym k.0 ∙ ap has_dot (sym ((bytes_eq-Decides w x).0 e)) ∙ h))) (dotted w h ks k.1)

no_keyword : (w : List ℕ) → has_dot w ≡ true → is_keyword w ≡ false
no_keyword w h = dotted w h keywords (refl, (refl, (refl, (refl, (refl, (refl, (refl, (refl, (refl, (refl, (refl, (refl, tt))))))))))))

begins-more : (bs more : List ℕ) → begins_plain bs ≡ true → begins_plain (bs ++ more) ≡ true
begins-more [] more h = cc
begins-more (b ∷ bs) more h = h

goes_on-more : (bs more : List ℕ) → goes_on bs ≡ true → goes_on more ≡ true → goes_on (bs ++ more) ≡ true
goes_on-more [] more h k = k
goes_on-more (b ∷ bs) more h k = and_from _ _
    (or_first (is_plain b) (is_joint b && begins_plain bs) _ (and_parts _ _ h).0 (λ j. and_from (is_joint b) _ (and_parts _ _ j).0 (begins-more bs more (and_parts (is_joint b) _ j).1)))
    (goes_on-more bs more (and_parts (is_plain b || (is_joint b && begins_plain bs)) _ h).1 k)

is_word-more : (w more : List ℕ) → is_word w ≡ true → goes_on more ≡ true → is_word (w ++ more) ≡ true
is_word-more [] more h k = cc
is_word-more (b ∷ bs) more h k = and_from (is_letter b) _ (and_parts _ _ h).0 (goes_on-more bs more (and_parts (is_letter b) _ h).1 k)

IsName-more : (name more : List ℕ) → IsName name → goes_on more ≡ true → has_dot more ≡ true → IsName (name ++ more)
IsName-more name more h k dot = and_from _ _ (is_word-more name more (and_parts (is_word name) _ h).0 k) (ap not (no_keyword (name ++ more) (has_dot-behind name more dot)))

pub IsName-field : (name : List ℕ) (b : Bool) → IsName name → AllByRecursion IsName (field_names name b)
IsName-field name false h = (h, tt)
IsName-field name true h = (h, (IsName-more name (codes ".net") h refl refl, (IsName-more name (codes ".host") h refl refl, tt)))
