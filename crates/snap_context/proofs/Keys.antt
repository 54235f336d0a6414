-- Keys tell classes and facts apart.
use Rattle.std.proofs.Common.{◌≡◌, ℕ, zero, suc, ◌+◌, ◌<◌, Bool, true, false, cond, List, [], ◌∷◌, ◌++◌, length, get_or, refl, sym, ap, subst, ◌∙◌, arith, append_assoc}
use Rattle.snap_core.specs.declared.policy.Term.{Term}
use Rattle.snap_core.specs.declared.policy.Term.TheVariants.{Num, Plus}
use Rattle.snap_core.specs.Arrays.{has}
use Rattle.snap_core.specs.Terms.{term_code}
use Rattle.snap_context.specs.Known.{Normal, Differ, Held, spot_key, normal_key, normals_key, classes_key}

pub same_term : (a b : Term) (r s : List ℕ) → term_code a ++ r ≡ term_code b ++ s → (a ≡ b) × (r ≡ s)
same_term (Num n) (Num o) r s e = ((let h : n ≡ o = grind arith in ap Num h), grind arith)
same_term (Num n) (Plus c p) r s e = absurd (grind arith)
same_term (Plus c p) (Num o) r s e = absurd (grind arith)
same_term (Plus c p) (Plus d q) r s e = ((let h : c ≡ d = grind arith in let i : p ≡ q = grind arith in (λ j. Plus (h j) (i j))), grind arith)

same_spot : (xs ys : List Term) (r s : List ℕ) → spot_key xs ++ r ≡ spot_key ys ++ s → (xs ≡ ys) × (r ≡ s)
same_spot [] [] r s e = (refl, grind arith)
same_spot [] (Num n ∷ ys) r s e = absurd (grind arith)
same_spot [] (Plus c p ∷ ys) r s e = absurd (grind arith)
same_spot (Num n ∷ xs) [] r s e = absurd (grind arith)
same_spot (Plus c p ∷ xs) [] r s e = absurd (grind arith)
same_spot (Num n ∷ xs) (Num o ∷ ys) r s e = let i = same_spot xs ys r s (grind arith) in ((let h : n ≡ o = grind arith in (λ j. Num (h j) ∷ i.0 j)), i.1)
same_spot (Num n ∷ xs) (Plus c p ∷ ys) r s e = absurd (grind arith)
same_spot (Plus c p ∷ xs) (Num o ∷ ys) r s e = absurd (grind arith)
same_spot (Plus c p ∷ xs) (Plus d q ∷ ys) r s e = let i = same_spot xs ys r s (grind arith) in ((let h : c ≡ d = grind arith in let g : p ≡ q = grind arith in (λ j. Plus (h j) (g j) ∷ i.0 j)), i.1)

same_flag : (x y : Bool) → ◌≡◌ {A = ℕ} (cond x 1 0) (cond y 1 0) → x ≡ y
same_flag true true e = refl
same_flag true false e = absurd (omega (arith, e))
same_flag false true e = absurd (omega (arith, e))
same_flag false false e = refl

same_normal : (a b : Normal) (r s : List ℕ) → normal_key a ++ r ≡ normal_key b ++ s → (a ≡ b) × (r ≡ s)
same_normal (Differ a b) (Differ c d) r s e =
    let inner : (term_code a ++ term_code b) ++ r ≡ (term_code c ++ term_code d) ++ s = grind arith in
    let i = same_term a c (term_code b ++ r) (term_code d ++ s) (sym (append_assoc (term_code a) (term_code b) r) ∙ (inner ∙ append_assoc (term_code c) (term_code d) s)) in
    let j = same_term b d r s i.1 in
    ((λ l. Differ (i.0 l) (j.0 l)), j.1)
same_normal (Differ a b) (Held v ix t y) r s e = absurd (grind arith)
same_normal (Held v ix t y) (Differ a b) r s e = absurd (grind arith)
same_normal (Held v ix t y) (Held w iy u z) r s e =
    let inner : (spot_key ix ++ (term_code t ++ cond y 1 0 ∷ [])) ++ r ≡ (spot_key iy ++ (term_code u ++ cond z 1 0 ∷ [])) ++ s = grind arith in
    let var : v ≡ w = grind arith in
    let i = same_spot ix iy ((term_code t ++ cond y 1 0 ∷ []) ++ r) ((term_code u ++ cond z 1 0 ∷ []) ++ s) (sym (append_assoc (spot_key ix) (term_code t ++ cond y 1 0 ∷ []) r) ∙ (inner ∙ append_assoc (spot_key iy) (term_code u ++ cond z 1 0 ∷ []) s)) in
    let j = same_term t u (cond y 1 0 ∷ r) (cond z 1 0 ∷ s) (sym (append_assoc (term_code t) (cond y 1 0 ∷ []) r) ∙ (i.1 ∙ append_assoc (term_code u) (cond z 1 0 ∷ []) s)) in
    let k = j.1 in
    let flags : ◌≡◌ {A = ℕ} (cond y 1 0) (cond z 1 0) = grind arith in
    let flag = same_flag y z flags in
    let rest : r ≡ s = grind arith in
    ((λ l. Held (var l) (i.0 l) (j.0 l) (flag l)), rest)

-- one list of numbers is of one fact
pub same_word : (a b : Normal) → normal_key a ≡ normal_key b → a ≡ b
same_word a b e = (same_normal a b [] [] (ap (λ (xs : List ℕ). xs ++ []) e)).0

pub same_normals : (xs ys : List Normal) → normals_key xs ≡ normals_key ys → xs ≡ ys
same_normals [] [] e = refl
same_normals [] (Differ a b ∷ ys) e = absurd (grind arith)
same_normals [] (Held v ix t y ∷ ys) e = absurd (grind arith)
same_normals (Differ a b ∷ xs) [] e = absurd (grind arith)
same_normals (Held v ix t y ∷ xs) [] e = absurd (grind arith)
same_normals (x ∷ xs) (y ∷ ys) e = let i = same_normal x y (normals_key xs) (normals_key ys) e in let j = same_normals xs ys i.1 in (λ l. i.0 l ∷ j l)

-- lists of classes of one length with one key have the same classes at the components of the set
pub same_classes : (comps i : ℕ) (xs ys : List Term) (r s : List ℕ) → length xs ≡ length ys → classes_key comps i xs ++ r ≡ classes_key comps i ys ++ s
    → ((j : ℕ) (d : Term) → j < length xs → has comps (i + j) ≡ true → get_or xs j d ≡ get_or ys j d) × (r ≡ s)
same_classes comps i [] [] r s l e = ((λ j d h t. refl), e)
same_classes comps i [] (y ∷ ys) r s l e = absurd (omega (arith, l))
same_classes comps i (x ∷ xs) [] r s l e = absurd (omega (arith, l))
same_classes comps i (x ∷ xs) (y ∷ ys) r s l e = by (λ f. same_classes comps (i + 1) xs ys r s (omega (arith, l)) f) (has comps i) refl
    (sym (append_assoc (cond (has comps i) (term_code x) []) (classes_key comps (i + 1) xs) r) ∙ (e ∙ append_assoc (cond (has comps i) (term_code y) []) (classes_key comps (i + 1) ys) s))
  where
    Same : Type 0
    Same = ((j : ℕ) (d : Term) → j < length xs → has comps ((i + 1) + j) ≡ true → get_or xs j d ≡ get_or ys j d) × (r ≡ s)

    Rest : Type 0
    Rest = classes_key comps (i + 1) xs ++ r ≡ classes_key comps (i + 1) ys ++ s

    Goal : Type 0
    Goal = ((j : ℕ) (d : Term) → j < length (x ∷ xs) → has comps (i + j) ≡ true → get_or (x ∷ xs) j d ≡ get_or (y ∷ ys) j d) × (r ≡ s)

    next : (j : ℕ) → i + suc j ≡ (i + 1) + j
    next j = omega arith

    later : ((j : ℕ) (d : Term) → j < length xs → has comps ((i + 1) + j) ≡ true → get_or xs j d ≡ get_or ys j d) → (j : ℕ) (d : Term) → suc j < length (x ∷ xs) → has comps (i + suc j) ≡ true → get_or xs j d ≡ get_or ys j d
    later k j d h t = k j d (omega (arith, h)) (subst (λ (n : ℕ). has comps n ≡ true) (next j) t)

    both : x ≡ y → Same → Goal
    both q k = (at, k.1)
      where
        at : (j : ℕ) (d : Term) → j < length (x ∷ xs) → has comps (i + j) ≡ true → get_or (x ∷ xs) j d ≡ get_or (y ∷ ys) j d
        at zero d h t = q
        at (suc j) d h t = later k.0 j d h t

    skip : has comps i ≡ false → Same → Goal
    skip q k = (at, k.1)
      where
        at : (j : ℕ) (d : Term) → j < length (x ∷ xs) → has comps (i + j) ≡ true → get_or (x ∷ xs) j d ≡ get_or (y ∷ ys) j d
        at zero d h t = absurd (let z : has comps i ≡ true = subst (λ (n : ℕ). has comps n ≡ true) (omega arith) t in cc)
        at (suc j) d h t = later k.0 j d h t

    by : (Rest → Same) → (b : Bool) → has comps i ≡ b → cond b (term_code x) [] ++ (classes_key comps (i + 1) xs ++ r) ≡ cond b (term_code y) [] ++ (classes_key comps (i + 1) ys ++ s) → Goal
    by again true q f = (let k = same_term x y (classes_key comps (i + 1) xs ++ r) (classes_key comps (i + 1) ys ++ s) f in both k.0 (again k.1))
    by again false q f = skip q (again f)
