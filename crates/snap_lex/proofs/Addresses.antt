-- Groups and dots.
use Rattle.std.proofs.Common.{◌≡◌, ◌≢◌, ℕ, zero, suc, ◌+◌, ◌-◌, ◌<◌, ◌≤◌, List, [], ◌∷◌, ◌++◌, length, true, false, ap, sym, ◌∙◌, subst, take, drop, arith, refl, get_or, true≢false, length-append, length-take, Bool, ◌&&◌, Option, None, MatchOption, IsTrue, ◌↔◌}
use Rattle.std.proofs.Math.Seq.{get_or-append_seam}
use Rattle.std.proofs.lemmas.Bool.{and_parts, false≢true}
use Rattle.std.proofs.lemmas.List.{get_or-take}
use Rattle.snap_lex.specs.Lexemes.{AreDigits, is_group, HasDots, last_group, next_group, IsAddress, is_digit}

digit_no_dot : (b : ℕ) → is_digit b ≡ true → b ≢ 46
digit_no_dot b x y = true≢false (sym x ∙ ap is_digit y)

abbrev pub NoDot : List ℕ → Type 0
NoDot [] = Unit {0}
NoDot (b ∷ bs) = (b ≢ 46) × NoDot bs

pub group_no_dot : (g : List ℕ) → is_group g ≡ true → NoDot g
group_no_dot [] h = tt
group_no_dot (a ∷ []) h = (digit_no_dot a h, tt)
group_no_dot (a ∷ b ∷ []) h = (digit_no_dot a (and_parts _ _ h).0, (digit_no_dot b (and_parts (is_digit a) _ h).1, tt))
group_no_dot (a ∷ b ∷ c ∷ []) h =
    let two = (and_parts (is_digit a && is_digit b && is_digit c) _ h).0 in
    (digit_no_dot a (and_parts _ _ (and_parts (is_digit a && is_digit b) _ two).0).0, (digit_no_dot b (and_parts (is_digit a) _ (and_parts (is_digit a && is_digit b) _ two).0).1, (digit_no_dot c (and_parts (is_digit a && is_digit b) _ two).1, tt)))
group_no_dot (a ∷ b ∷ c ∷ d ∷ e) h = absurd (cc)

record SameSplit (g h r s : List ℕ) : Type 0 where
  groups : g ≡ h
  rests : r ≡ s

one_split : (g h r s : List ℕ) → NoDot g → NoDot h → g ++ 46 ∷ r ≡ h ++ 46 ∷ s → SameSplit g h r s
one_split [] [] r s x y e = record { groups = refl; rests = cc }
one_split [] (b ∷ h) r s x y e = let is : 46 ≡ b = cc in absurd (y.0 (sym is))
one_split (a ∷ g) [] r s x y e = let is : a ≡ 46 = cc in absurd (x.0 is)
one_split (a ∷ g) (b ∷ h) r s x y e =
    let first : a ≡ b = cc in
    let tails : g ++ 46 ∷ r ≡ h ++ 46 ∷ s = cc in
    let more = one_split g h r s x.1 y.1 tails in
    record { groups = cc (first, more.groups); rests = more.rests }

no_dot_below : (xs : List ℕ) (n : ℕ) → ((j : ℕ) → j < n → get_or xs j 0 ≢ 46) → NoDot (take n xs)
no_dot_below xs zero h = tt
no_dot_below [] (suc n) h = tt
no_dot_below (x ∷ xs) (suc n) h = (h zero (omega arith), no_dot_below xs n (λ j below. h (suc j) (omega arith)))

-- the text before its first dot, the dot and the rest
at_dot : (bytes : List ℕ) (dot : ℕ) → dot < length bytes → get_or bytes dot 0 ≡ 46 → bytes ≡ take dot bytes ++ 46 ∷ drop (dot + 1) bytes
at_dot [] dot below is = absurd (omega arith)
at_dot (b ∷ bytes) zero below is = cc
at_dot (b ∷ bytes) (suc dot) below is =
    let more : bytes ≡ take dot bytes ++ 46 ∷ drop (dot + 1) bytes = at_dot bytes dot (omega arith) is in
    let next : suc (dot + 1) ≡ suc dot + 1 = omega arith in
    ap (λ x. b ∷ x) more ∙ ap (λ n. b ∷ (take dot bytes ++ 46 ∷ drop n (b ∷ bytes))) next

pub no_group : (bytes : List ℕ) → ((j : ℕ) → j < length bytes → get_or bytes j 0 ≢ 46) → (group rest : List ℕ) → is_group group ≡ true → bytes ≡ group ++ 46 ∷ rest → ⊥
no_group bytes none group rest is e =
    none (length group) (omega (arith, ap (λ x. length x) e, length-append group (46 ∷ rest))) (ap (λ x. get_or x (length group) 0) e ∙ get_or-append_seam group 46 rest 0)

pub other_group : (bytes : List ℕ) (dot : ℕ) → dot < length bytes → get_or bytes dot 0 ≡ 46 → ((j : ℕ) → j < dot → get_or bytes j 0 ≢ 46) →
    is_group (take dot bytes) ≡ false → (group rest : List ℕ) → is_group group ≡ true → bytes ≡ group ++ 46 ∷ rest → ⊥
other_group bytes dot below is first none group rest right e =
    let same = one_split group (take dot bytes) rest _ (group_no_dot group right) (no_dot_below bytes dot first) (sym e ∙ at_dot bytes dot below is) in
    false≢true (sym none ∙ (ap is_group (sym same.groups) ∙ right))

pub this_group : (bytes : List ℕ) (dot : ℕ) → dot < length bytes → get_or bytes dot 0 ≡ 46 → is_group (take dot bytes) ≡ true →
    (group : List ℕ) × (is_group group ≡ true) × (bytes ≡ group ++ 46 ∷ drop (dot + 1) bytes)
this_group bytes dot below is right = (take dot bytes, right, at_dot bytes dot below is)

pub dots_none : (text : List ℕ) → HasDots 0 text → is_group text ≡ true
dots_none text (last_group group is) = is

dots_some : (n : ℕ) (text : List ℕ) → HasDots (suc n) text → (group : List ℕ) × (rest : List ℕ) × (is_group group ≡ true) × (text ≡ group ++ 46 ∷ rest) × HasDots n rest
dots_some n text (next_group {rest = rest} group is more) = (group, rest, is, refl, more)

suc_of : (n : ℕ) → 0 < n → suc (n - 1) ≡ n
suc_of n some = omega arith

pub dots_behind : (text : List ℕ) (n : ℕ) (group rest : List ℕ) → 0 < n → is_group group ≡ true → text ≡ group ++ 46 ∷ rest → HasDots n text → HasDots (n - 1) rest
dots_behind text n group rest some is e h =
    let x = dots_some (n - 1) text (subst (λ m. HasDots m text) (sym (suc_of n some)) h) in
    let same = one_split x.0 group x.1 rest (group_no_dot x.0 x.2) (group_no_dot group is) (sym x.3 ∙ e) in
    subst (HasDots (n - 1)) same.rests x.4

pub dots_before : (text : List ℕ) (n : ℕ) (group rest : List ℕ) → 0 < n → is_group group ≡ true → text ≡ group ++ 46 ∷ rest → HasDots (n - 1) rest → HasDots n text
dots_before text n group rest some is e h =
    subst (λ m. HasDots m text) (suc_of n some) (subst (HasDots (suc (n - 1))) (sym e) (next_group group is h))

pub dots_never : (text : List ℕ) (n : ℕ) → 0 < n → ((group rest : List ℕ) → is_group group ≡ true → text ≡ group ++ 46 ∷ rest → ⊥) → HasDots n text → ⊥
dots_never text n some none h =
    let x = dots_some (n - 1) text (subst (λ m. HasDots m text) (sym (suc_of n some)) h) in
    none x.0 x.1 x.2 x.3

pub no_address_of_digits : (bytes : List ℕ) (n : ℕ) → n ≤ length bytes → AreDigits bytes n → IsAddress (take n bytes) → ⊥
no_address_of_digits bytes n within digits address =
    let x = dots_some 2 (take n bytes) address in
    let k = length x.0 in
    let below : k < n = omega (arith, ap (λ y. length y) x.3, length-append x.0 (46 ∷ x.1), length-take n bytes) in
    digit_no_dot (get_or bytes k 0) (digits k below) (sym (get_or-take n bytes k 0 below) ∙ (ap (λ y. get_or y k 0) x.3 ∙ get_or-append_seam x.0 46 x.1 0))

pub gives_none : {X : Type 0} (r : Option X) (P : Type 0) (Q : X → Type 0) → r ≡ None → P → MatchOption r P Q
gives_none r P Q is p = subst (λ x. MatchOption x P Q) (sym is) p

pub last_dots : (text : List ℕ) (n : ℕ) (b : Bool) → n ≡ 0 → b ≡ is_group text → IsTrue b ↔ HasDots n text
last_dots text n b is same = (
  (λ h. subst (λ m. HasDots m text) (sym is) (last_group text (sym same ∙ h))),
  (λ h. same ∙ dots_none text (subst (λ m. HasDots m text) is h)),
)
