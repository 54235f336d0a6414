-- A free root can be given a number so that no rule breaks.
use Rattle.std.proofs.Common.{◌≡◌, ℕ, ◌+◌, ◌*◌, ◌^◌, ◌<◌, ◌≤◌, ⊎_elim, true, false, not, Bool, List, [], ◌∷◌, ◌++◌, length, map, refl, sym, ap, ◌∙◌, arith, length-append, get_or}
use Rattle.std.specs.Prelude.{All}
use Rattle.std.specs.List.{filter, flat_map}
use Rattle.std.proofs.lemmas.Bool.{cases_lt}
use Rattle.std.proofs.lemmas.List.{length-map}
use Rattle.std.proofs.lemmas.List.Elements.{All-append, All-filter, All-map, All-tail, All-weaker}
use Rattle.std.proofs.lemmas.List.Filters.{length-filter_both}
use Rattle.std.proofs.Math.Nat.{mul-le-mul}
use Rattle.snap_core.proofs.Elements.{All-back, All-front, All-unmap}
use Rattle.snap_core.specs.declared.policy.Atom.{Atom}
use Rattle.snap_core.specs.declared.policy.Atom.TheVariants.{Num as Number, Comp}
use Rattle.snap_core.specs.declared.policy.Term.{Term}
use Rattle.snap_core.specs.declared.policy.Term.TheVariants.{Num, Plus}
use Rattle.snap_context.specs.declared.fact.Fact.{Fact}
use Rattle.snap_context.specs.Classes.{class_of, normal, atom_class, IsTerm, IsAtom, IsTest, IsClass, left_of, right_of, index_of, Says, FactRule, PairRule, Rules}
use Rattle.snap_context.specs.Closing.{replace, put}
use Rattle.snap_context.proofs.Algebra.{class_of-put, normal-put, atom_class-put}
use Rattle.snap_context.proofs.Roots.{class_term, normal_term, atom_term, classes-put, left-term, right-term, index-atoms, index-short}
use Rattle.snap_context.proofs.Each.{All-unflat, All-flat, All-unfilter, length-flat_map_le}
use Rattle.snap_context.proofs.Apart.{Apart, apart_sym, apart_number}

-- every class beside an index atom's class
abbrev pub atom_pairs : List Term → Atom → List (Term × Term)
atom_pairs cl a = map (λ x. (x, atom_class cl a)) cl

abbrev pub test_pairs : List Term → Fact → List (Term × Term)
test_pairs cl f = flat_map (atom_pairs cl) (index_of f.test)

abbrev pub index_pairs : List Term → List Fact → List (Term × Term)
index_pairs cl facts = flat_map (test_pairs cl) facts

-- the two sides of a value or equal fact
abbrev pub sides : List Term → Fact → Term × Term
sides cl f = (normal cl (left_of f.test), normal cl (right_of f.test))

abbrev pub side_pairs : List Term → List Fact → List (Term × Term)
side_pairs cl facts = map (sides cl) facts

abbrev pub is_yes : Fact → Bool
is_yes f = f.yes

abbrev pub is_no : Fact → Bool
is_no f = not f.yes

-- the term of a positive fact beside that of each negative one
abbrev pub lefts : List Term → Fact → Fact → Term × Term
lefts cl f g = (normal cl (left_of f.test), normal cl (left_of g.test))

abbrev pub with_negatives : List Term → List Fact → Fact → List (Term × Term)
with_negatives cl facts f = map (lefts cl f) (filter is_no facts)

abbrev pub value_pairs : List Term → List Fact → List (Term × Term)
value_pairs cl facts = flat_map (with_negatives cl facts) (filter is_yes facts)

abbrev pub all_pairs : List Term → List Fact → List (Term × Term)
all_pairs cl facts = index_pairs cl facts ++ (side_pairs cl facts ++ value_pairs cl facts)

-- what the number keeps apart, fact by fact
abbrev IndexApart : List Term → ℕ → ℕ → Fact → Type 0
IndexApart cl r n f = All (λ a. All (λ x. Apart r n x (atom_class cl a)) cl) (index_of f.test)

abbrev SidesApart : List Term → ℕ → ℕ → Fact → Type 0
SidesApart cl r n f = Apart r n (normal cl (left_of f.test)) (normal cl (right_of f.test))

abbrev ValuesApart : List Term → ℕ → ℕ → Fact → Fact → Type 0
ValuesApart cl r n f g = f.yes ≡ true → not g.yes ≡ true → Apart r n (normal cl (left_of f.test)) (normal cl (left_of g.test))

says-replace : (y : Bool) (r n : ℕ) (a b : Term) → (not y ≡ true → Apart r n a b) → Says y a b → Says y (replace r (Num n) a) (replace r (Num n) b)
says-replace true r n a b h s = ap (replace r (Num n)) s
says-replace false r n a b h s = λ e. s (h refl e)

says-tied : (cl : List Term) (r n : ℕ) (y : Bool) (a b : Term) → IsTerm (length cl) a → IsTerm (length cl) b → (not y ≡ true → Apart r n (normal cl a) (normal cl b)) → Says y (normal cl a) (normal cl b) → Says y (normal (put cl r (Num n)) a) (normal (put cl r (Num n)) b)
says-tied cl r n y a b ha hb h s =
    rw (normal-put cl r (Num n) a ha, normal-put cl r (Num n) b hb) (says-replace y r n (normal cl a) (normal cl b) h s)

-- two index atoms that the number made equal were equal
atoms_back : (cl : List Term) (r n : ℕ) (a b : Atom) → IsAtom (length cl) a → IsAtom (length cl) b → All (λ x. Apart r n x (atom_class cl a)) cl → All (λ x. Apart r n x (atom_class cl b)) cl → atom_class (put cl r (Num n)) a ≡ atom_class (put cl r (Num n)) b → atom_class cl a ≡ atom_class cl b
atoms_back cl r n (Number x) (Number y) ha hb pa pb e = e
atoms_back cl r n (Number x) (Comp d) ha hb pa pb e =
    apart_sym r n (class_of cl d) (Num x) (pa d (Plus d 0) hb)
    (e ∙ class_of-put cl r d (Num n) hb)
atoms_back cl r n (Comp c) b ha hb pa pb e =
    pb c (Plus c 0) ha
    (sym (class_of-put cl r c (Num n) ha) ∙ (e ∙ atom_class-put cl r (Num n) b hb))

index_back : (cl : List Term) (r n : ℕ) (ix jx : List Atom) → All (IsAtom (length cl)) ix → All (IsAtom (length cl)) jx → All (λ a. All (λ x. Apart r n x (atom_class cl a)) cl) ix → All (λ a. All (λ x. Apart r n x (atom_class cl a)) cl) jx → map (atom_class (put cl r (Num n))) ix ≡ map (atom_class (put cl r (Num n))) jx → map (atom_class cl) ix ≡ map (atom_class cl) jx
index_back cl r n [] [] hi hj pi pj e = refl
index_back cl r n [] (b ∷ jx) hi hj pi pj e = absurd (cc)
index_back cl r n (a ∷ ix) [] hi hj pi pj e = absurd (cc)
index_back cl r n (a ∷ ix) (b ∷ jx) hi hj pi pj e =
    let he : atom_class (put cl r (Num n)) a ≡ atom_class (put cl r (Num n)) b = cc in
    let te : map (atom_class (put cl r (Num n))) ix ≡ map (atom_class (put cl r (Num n))) jx = cc in
    let h : atom_class cl a ≡ atom_class cl b = atoms_back cl r n a b (hi 0 a (omega arith)) (hj 0 b (omega arith)) (pi 0 a (omega arith)) (pj 0 b (omega arith)) he in
    let t : map (atom_class cl) ix ≡ map (atom_class cl) jx
    = index_back cl r n ix jx (All-tail (IsAtom (length cl)) a ix hi) (All-tail (IsAtom (length cl)) b jx hj)
    (All-tail (λ a. All (λ x. Apart r n x (atom_class cl a)) cl) a ix pi) (All-tail (λ a. All (λ x. Apart r n x (atom_class cl a)) cl) b jx pj) te in
    cc

fact-tied : (cl : List Term) (r n : ℕ) (f : Fact) → IsTest (length cl) f.test → SidesApart cl r n f → FactRule cl f → FactRule (put cl r (Num n)) f
fact-tied cl r n f t h s p = says-tied cl r n f.yes (left_of f.test) (right_of f.test) (left-term (length cl) f.test t) (right-term (length cl) f.test t) (λ _. h) (s p)

pair-tied : (cl : List Term) (r n : ℕ) (f g : Fact) → IsTest (length cl) f.test → IsTest (length cl) g.test → IndexApart cl r n f → IndexApart cl r n g → ValuesApart cl r n f g → PairRule cl f g → PairRule (put cl r (Num n)) f g
pair-tied cl r n f g tf tg xf xg v s y same =
    says-tied cl r n g.yes (left_of f.test) (left_of g.test) (left-term (length cl) f.test tf) (left-term (length cl) g.test tg) (v y)
    (s y (record {
      first = same.first;
      second = same.second;
      var = same.var;
      index = index_back cl r n (index_of f.test) (index_of g.test)
          (index-atoms (length cl) f.test tf) (index-atoms (length cl) g.test tg) xf xg same.index;
    }))

-- all that is known of one fact
abbrev Known : List Term → ℕ → ℕ → Fact → Type 0
Known cl r n f = IsTest (length cl) f.test × IndexApart cl r n f × SidesApart cl r n f

-- a fact whose test is over so many components
abbrev Tested : List Term → Fact → Type 0
Tested cl f = IsTest (length cl) f.test

-- a pair of terms
abbrev Pair : List Term → Term × Term → Type 0
Pair cl q = IsTerm (length cl) q.0 × IsTerm (length cl) q.1

lefts_are_terms : (cl : List Term) (f g : Fact) → All (IsClass cl) cl → Tested cl f → Tested cl g → Pair cl (lefts cl f g)
lefts_are_terms cl f g a h i = (normal_term cl (left_of f.test) a (left-term (length cl) f.test h), normal_term cl (left_of g.test) a (left-term (length cl) g.test i))

sides_are_terms : (cl : List Term) (f : Fact) → All (IsClass cl) cl → Tested cl f → Pair cl (sides cl f)
sides_are_terms cl f a h = (normal_term cl (left_of f.test) a (left-term (length cl) f.test h), normal_term cl (right_of f.test) a (right-term (length cl) f.test h))

atom_pairs_are_terms : (cl : List Term) (a : Atom) → All (IsClass cl) cl → IsAtom (length cl) a → All (Pair cl) (atom_pairs cl a)
atom_pairs_are_terms cl a h i =
    All-map (Pair cl) (λ x. (x, atom_class cl a)) cl
    (All-weaker (IsClass cl) (λ x. Pair cl (x, atom_class cl a)) (λ x u. (class_term cl x u, atom_term cl a h i)) cl h)

test_pairs_are_terms : (cl : List Term) (f : Fact) → All (IsClass cl) cl → Tested cl f → All (Pair cl) (test_pairs cl f)
test_pairs_are_terms cl f h i =
    All-flat (Pair cl) (atom_pairs cl) (index_of f.test)
    (All-weaker (IsAtom (length cl)) (λ a. All (Pair cl) (atom_pairs cl a)) (λ a j. atom_pairs_are_terms cl a h j) (index_of f.test) (index-atoms (length cl) f.test i))

negatives_are_terms : (cl : List Term) (facts : List Fact) (f : Fact) → All (IsClass cl) cl → All (Tested cl) facts → Tested cl f → All (Pair cl) (with_negatives cl facts f)
negatives_are_terms cl facts f h t i =
    All-map (Pair cl) (lefts cl f) (filter is_no facts)
    (All-weaker (Tested cl) (λ g. Pair cl (lefts cl f g)) (λ g j. lefts_are_terms cl f g h i j) (filter is_no facts) (All-filter is_no (Tested cl) facts t))

pub pairs_are_terms : (cl : List Term) (facts : List Fact) → All (IsClass cl) cl → All (Tested cl) facts → All (Pair cl) (all_pairs cl facts)
pairs_are_terms cl facts h t =
    All-append (Pair cl) (index_pairs cl facts) (side_pairs cl facts ++ value_pairs cl facts)
    (All-flat (Pair cl) (test_pairs cl) facts
    (All-weaker (Tested cl) (λ f. All (Pair cl) (test_pairs cl f)) (λ f i. test_pairs_are_terms cl f h i) facts t))
    (All-append (Pair cl) (side_pairs cl facts) (value_pairs cl facts)
    (All-map (Pair cl) (sides cl) facts
    (All-weaker (Tested cl) (λ f. Pair cl (sides cl f)) (λ f i. sides_are_terms cl f h i) facts t))
    (All-flat (Pair cl) (with_negatives cl facts) (filter is_yes facts)
    (All-weaker (Tested cl) (λ f. All (Pair cl) (with_negatives cl facts f)) (λ f i. negatives_are_terms cl facts f h t i)
    (filter is_yes facts) (All-filter is_yes (Tested cl) facts t))))

-- there are fewer than 2 ^ 64 pairs
few_products : (p n : ℕ) → p + n ≤ 2 ^ 32 → p * n ≤ 2 ^ 63
few_products p n h =
    ⊎_elim
    (λ (l : p < 2 ^ 31). let q : p * n ≤ 2 ^ 31 * 2 ^ 32 = mul-le-mul {n₁ = p} {m₁ = n} {n₂ = 2 ^ 31} {m₂ = 2 ^ 32} (omega (arith, l)) (omega arith) in omega (arith, q))
    (λ (g : 2 ^ 31 ≤ p). let q : p * n ≤ 2 ^ 32 * 2 ^ 31 = mul-le-mul {n₁ = p} {m₁ = n} {n₂ = 2 ^ 32} {m₂ = 2 ^ 31} (omega arith) (omega (arith, g)) in omega (arith, q))
    (cases_lt p (2 ^ 31))

few_test_pairs : (cl : List Term) (f : Fact) → length cl ≤ 64 → Tested cl f → length (test_pairs cl f) ≤ 512
few_test_pairs cl f c h =
    let u : length (test_pairs cl f) ≤ length (index_of f.test) * 64
    = length-flat_map_le (atom_pairs cl) 64 (index_of f.test)
    (All-weaker (IsAtom (length cl)) (λ b. length (atom_pairs cl b) ≤ 64) (λ b _. rw length-map c) (index_of f.test) (index-atoms (length cl) f.test h)) in
    let s : length (index_of f.test) ≤ 8 = index-short (length cl) f.test h in
    omega (arith, u, s)

few_all : (i s v n w all : ℕ) → i ≤ n * 512 → s ≡ n → v ≤ w → w ≤ 2 ^ 63 → n ≤ 2 ^ 32 → all ≡ i + (s + v) → all < 2 ^ 64
few_all i s v n w all hi hs hv hw hn e = omega arith

pub few_pairs : (cl : List Term) (facts : List Fact) → length cl ≤ 64 → length facts ≤ 2 ^ 32 → All (Tested cl) facts → length (all_pairs cl facts) < 2 ^ 64
few_pairs cl facts c f t =
    let i : length (index_pairs cl facts) ≤ length facts * 512
    = length-flat_map_le (test_pairs cl) 512 facts
    (All-weaker (Tested cl) (λ f. length (test_pairs cl f) ≤ 512) (λ f h. few_test_pairs cl f c h) facts t) in
    let s : length (side_pairs cl facts) ≡ length facts = length-map facts (sides cl) in
    let sp : length (filter is_yes facts) + length (filter is_no facts) ≡ length facts
    = length-filter_both is_yes is_no (λ x. refl) facts in
    let v : length (value_pairs cl facts) ≤ length (filter is_yes facts) * length (filter is_no facts)
    = length-flat_map_le (with_negatives cl facts) (length (filter is_no facts)) (filter is_yes facts)
    (All-weaker (Tested cl) (λ f. length (with_negatives cl facts f) ≤ length (filter is_no facts))
    (λ f h. rw length-map (omega arith)) (filter is_yes facts) (All-filter is_yes (Tested cl) facts t)) in
    let b : length (filter is_yes facts) + length (filter is_no facts) ≤ 2 ^ 32 = rw sp f in
    let w : length (filter is_yes facts) * length (filter is_no facts) ≤ 2 ^ 63
    = few_products (length (filter is_yes facts)) (length (filter is_no facts)) b in
    few_all (length (index_pairs cl facts)) (length (side_pairs cl facts)) (length (value_pairs cl facts)) (length facts) (length (filter is_yes facts) * length (filter is_no facts)) (length (all_pairs cl facts)) i s v w f
    (length-append (index_pairs cl facts) (side_pairs cl facts ++ value_pairs cl facts) ∙ ap (λ z. length (index_pairs cl facts) + z) (length-append (side_pairs cl facts) (value_pairs cl facts)))

-- the pairs kept apart, put back to the facts
knows : (cl : List Term) (r n : ℕ) (facts : List Fact) → All (Tested cl) facts → All (λ q. Apart r n q.0 q.1) (all_pairs cl facts) → All (Known cl r n) facts
knows cl r n facts t h =
    let P : Term × Term → Type 0 = λ q. Apart r n q.0 q.1 in
    let i : All (λ f. All P (test_pairs cl f)) facts
    = All-unflat P (test_pairs cl) facts (All-front P (index_pairs cl facts) (side_pairs cl facts ++ value_pairs cl facts) h) in
    let s : All (λ f. P (sides cl f)) facts
    = All-unmap P (sides cl) facts (All-front P (side_pairs cl facts) (value_pairs cl facts) (All-back P (index_pairs cl facts) (side_pairs cl facts ++ value_pairs cl facts) h)) in
    λ j d l. (
      t j d l,
      All-weaker (λ a. All P (atom_pairs cl a)) (λ a. All (λ x. Apart r n x (atom_class cl a)) cl)
          (λ a u. All-unmap P (λ x. (x, atom_class cl a)) cl u) (index_of (get_or facts j d).test) (All-unflat P (atom_pairs cl) (index_of (get_or facts j d).test) (i j d l)),
      s j d l,
    )

values_apart : (cl : List Term) (r n : ℕ) (facts : List Fact) → All (λ q. Apart r n q.0 q.1) (all_pairs cl facts) → All (λ f. All (ValuesApart cl r n f) facts) facts
values_apart cl r n facts h =
    let P : Term × Term → Type 0 = λ q. Apart r n q.0 q.1 in
    let v : All P (value_pairs cl facts)
    = All-back P (side_pairs cl facts) (value_pairs cl facts) (All-back P (index_pairs cl facts) (side_pairs cl facts ++ value_pairs cl facts) h) in
    All-weaker (λ f. is_yes f ≡ true → All P (with_negatives cl facts f)) (λ f. All (ValuesApart cl r n f) facts)
    (λ f w i d l y. All-unfilter (λ g. P (lefts cl f g)) is_no facts (All-unmap P (lefts cl f) (filter is_no facts) (w y)) i d l)
    facts
    (All-unfilter (λ f. All P (with_negatives cl facts f)) is_yes facts (All-unflat P (with_negatives cl facts) (filter is_yes facts) v))

-- a number for a free root, by which no rule breaks
pub tied : (facts : List Fact) (cl : List Term) (r : ℕ) → Rules facts cl → length cl ≤ 64 → length facts ≤ 2 ^ 32 → (n : ℕ) × (n < 2 ^ 64) × Rules facts (put cl r (Num n))
tied facts cl r rules c f =
    let found : (n : ℕ) × (n < 2 ^ 64) × All (λ q. Apart r n q.0 q.1) (all_pairs cl facts)
    = apart_number (length cl) r (all_pairs cl facts) (few_pairs cl facts c f rules.tests) (pairs_are_terms cl facts rules.classes rules.tests) in
    let k : All (Known cl r found.0) facts = knows cl r found.0 facts rules.tests found.2 in
    let apart = values_apart cl r found.0 facts found.2 in (
      found.0,
      found.1,
      record {
        tests = (rw length-map rules.tests);
        classes = classes-put cl r (Num found.0) rules.classes found.1 tt;
        alone = λ i d l. fact-tied cl r found.0 (get_or facts i d) (rules.tests i d l) (k i d l).2 (rules.alone i d l);
        paired = λ i d l j e m. pair-tied cl r found.0 (get_or facts i d) (get_or facts j e) (rules.tests i d l) (rules.tests j e m) (k i d l).1 (k j e m).1 (apart i d l j e m) (rules.paired i d l j e m);
      },
    )
